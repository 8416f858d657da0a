use Rattle.std.proofs.Common.{arith}
use Rattle.std.proofs.lemmas.Grind.{common_steps}
use Rattle.std.proofs.Common.{refl}
use Rattle.compaction.specs.Outputs.{IsOwnFile}
use Rattle.compaction.proofs.Calls.{done, memory_told, writes_nothing}
use Rattle.compaction.proofs.Writing.{uses_same, uses_then}
use Rattle.compaction.proofs.writer.OutputWriter.put.Goals as goal

pub returns-in_err-remember-clause-writes : goal.returns-in_err-remember-clause-writes
returns-in_err-remember-clause-writes g c =
    writes_nothing g.D.Disk (IsOwnFile c.args.self.now c.args.next_file.now) c.args.disk.now
    (memory_told c.from_residual.result c.from_residual.ensures.1)

pub returns-then-drops-clause-writes : goal.returns-then-drops-clause-writes
returns-then-drops-clause-writes g c =
    writes_nothing g.D.Disk (IsOwnFile c.args.self.now c.args.next_file.now) c.args.disk.now done

pub returns-in_err-remember-clause-numbers : goal.returns-in_err-remember-clause-numbers
returns-in_err-remember-clause-numbers g c = uses_same c.args.self.now c.remember.new.self
    c.args.next_file.now c.remember.ensures.outputs.1 c.remember.ensures.outputs.0

pub returns-then-drops-clause-numbers : goal.returns-then-drops-clause-numbers
returns-then-drops-clause-numbers g c = uses_same c.args.self.now c.remember.new.self
    c.args.next_file.now c.remember.ensures.outputs.1 c.remember.ensures.outputs.0

pub returns-in_err-remember-2-clause-numbers : goal.returns-in_err-remember-2-clause-numbers
returns-in_err-remember-2-clause-numbers g c = uses_then c.args.self.now c.write.new.self
    c.remember-2.new.self c.args.next_file.now c.write.new.next_file c.write.new.next_file
    c.write.ensures.numbers (uses_same c.write.new.self c.remember-2.new.self
    c.write.new.next_file c.remember-2.ensures.outputs.1 c.remember-2.ensures.outputs.0 {most = 0})
    refl

pub returns-clause-numbers : goal.returns-clause-numbers
returns-clause-numbers g c = uses_then c.args.self.now c.write.new.self c.remember-2.new.self
    c.args.next_file.now c.write.new.next_file c.write.new.next_file c.write.ensures.numbers
    (uses_same c.write.new.self c.remember-2.new.self c.write.new.next_file
    c.remember-2.ensures.outputs.1 c.remember-2.ensures.outputs.0 {most = 0}) refl

pub returns-in_err-remember-clause-rules : goal.returns-in_err-remember-clause-rules
returns-in_err-remember-clause-rules g c = grind (arith, common_steps)

pub returns-in_err-remember-clause-unused : goal.returns-in_err-remember-clause-unused
returns-in_err-remember-clause-unused g c = grind (arith, common_steps)

pub returns-in_err-remember-clause-put : goal.returns-in_err-remember-clause-put
returns-in_err-remember-clause-put g c = grind (arith, common_steps)

pub returns-then-drops-clause-rules : goal.returns-then-drops-clause-rules
returns-then-drops-clause-rules g c = grind (arith, common_steps)

pub returns-then-drops-clause-unused : goal.returns-then-drops-clause-unused
returns-then-drops-clause-unused g c = grind (arith, common_steps)

pub returns-then-drops-clause-put : goal.returns-then-drops-clause-put
returns-then-drops-clause-put g c = grind (arith, common_steps)

pub returns-in_err-write-clause-writes : goal.returns-in_err-write-clause-writes
returns-in_err-write-clause-writes g c = grind (arith, common_steps)

pub returns-in_err-write-clause-rules : goal.returns-in_err-write-clause-rules
returns-in_err-write-clause-rules g c = grind (arith, common_steps)

pub returns-in_err-write-clause-numbers : goal.returns-in_err-write-clause-numbers
returns-in_err-write-clause-numbers g c = grind (arith, common_steps)

pub returns-in_err-write-clause-unused : goal.returns-in_err-write-clause-unused
returns-in_err-write-clause-unused g c = grind (arith, common_steps)

pub returns-in_err-write-clause-put : goal.returns-in_err-write-clause-put
returns-in_err-write-clause-put g c = grind (arith, common_steps)

pub returns-in_err-remember-2-clause-writes : goal.returns-in_err-remember-2-clause-writes
returns-in_err-remember-2-clause-writes g c = grind (arith, common_steps)

pub returns-in_err-remember-2-clause-rules : goal.returns-in_err-remember-2-clause-rules
returns-in_err-remember-2-clause-rules g c = grind (arith, common_steps)

pub returns-in_err-remember-2-clause-unused : goal.returns-in_err-remember-2-clause-unused
returns-in_err-remember-2-clause-unused g c = grind (arith, common_steps)

pub returns-in_err-remember-2-clause-put : goal.returns-in_err-remember-2-clause-put
returns-in_err-remember-2-clause-put g c = grind (arith, common_steps)

pub returns-clause-writes : goal.returns-clause-writes
returns-clause-writes g c = grind (arith, common_steps)

pub returns-clause-rules : goal.returns-clause-rules
returns-clause-rules g c = grind (arith, common_steps)

pub returns-clause-unused : goal.returns-clause-unused
returns-clause-unused g c = grind (arith, common_steps)
