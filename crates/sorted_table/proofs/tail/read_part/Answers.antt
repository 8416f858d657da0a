use Rattle.std.proofs.Common.{arith}
use Rattle.std.proofs.lemmas.Grind.{common_steps}
-- A read leaves nothing new.
use Rattle.std.proofs.Common.{length, rules}
use Rattle.disk.specs.StillLemmas.{still, still_same}
use Rattle.table_files.specs.LentFiles.{one_call}
use Rattle.sorted_table.proofs.tail.read_part.Goals as goal

pub returns-in_err-part-clause-device : goal.returns-in_err-part-clause-device
returns-in_err-part-clause-device g c = record {
  kept = search rules;
  still = λ honest. still _ _;
}

pub returns-in_err-read-clause-device : goal.returns-in_err-read-clause-device
returns-in_err-read-clause-device g c = record {
  kept = search rules;
  still = λ honest.
      still_same (still (g.D.Disk.state c.args.disk.now) (g.D.Disk.past c.args.disk.now))
      (c.read.ensures.passes honest).moment (c.read.ensures.kept.disk.files honest);
}

pub returns-clause-device : goal.returns-clause-device
returns-clause-device g c = record {
  kept = search rules;
  still = λ honest.
      still_same (still (g.D.Disk.state c.args.disk.now) (g.D.Disk.past c.args.disk.now))
      (c.read.ensures.passes honest).moment (c.read.ensures.kept.disk.files honest);
}

-- and is one call
pub returns-in_err-read-clause-calls : goal.returns-in_err-read-clause-calls
returns-in_err-read-clause-calls g c = λ honest.
    one_call c.read.result (length (g.D.Disk.past c.args.disk.now))
    (length (g.D.Disk.past c.read.new.self)) (c.read.ensures.passes honest).counts

pub returns-clause-calls : goal.returns-clause-calls
returns-clause-calls g c = λ honest.
    one_call c.read.result (length (g.D.Disk.past c.args.disk.now))
    (length (g.D.Disk.past c.read.new.self)) (c.read.ensures.passes honest).counts

pub returns-in_err-part-clause-calls : goal.returns-in_err-part-clause-calls
returns-in_err-part-clause-calls g c = grind (arith, common_steps)

pub returns-in_err-part-clause-read : goal.returns-in_err-part-clause-read
returns-in_err-part-clause-read g c = grind (arith, common_steps)

pub returns-in_err-part-clause-len : goal.returns-in_err-part-clause-len
returns-in_err-part-clause-len g c = grind (arith, common_steps)

pub returns-in_err-read-clause-read : goal.returns-in_err-read-clause-read
returns-in_err-read-clause-read g c = grind (arith, common_steps)

pub returns-in_err-read-clause-len : goal.returns-in_err-read-clause-len
returns-in_err-read-clause-len g c = grind (arith, common_steps)

pub returns-clause-read : goal.returns-clause-read
returns-clause-read g c = grind (arith, common_steps)

pub returns-clause-len : goal.returns-clause-len
returns-clause-len g c = grind (arith, common_steps)
