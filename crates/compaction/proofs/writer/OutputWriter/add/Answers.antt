use Rattle.std.proofs.Common.{arith}
use Rattle.std.proofs.lemmas.Grind.{common_steps}
use Rattle.std.proofs.Common.{ℕ, [], ◌∷◌, ◌++◌, subst, sym}
use Rattle.table_builder.specs.{Builds}
use Rattle.table_format.specs.{lent_entry}
use Rattle.compaction.specs.Outputs.{IsOpenFile}
use Rattle.compaction.proofs.Calls.{done, refused, table_answered, table_failed, writes_as}
use Rattle.compaction.proofs.Calls.{writes_builder, writes_done, writes_nothing}
use Rattle.compaction.proofs.Writing.{closed_kept, open_builds, open_numbered, writes_own}
use Rattle.compaction.proofs.writer.OutputWriter.add.Goals as goal

pub returns-in_default-clause-writes : goal.returns-in_default-clause-writes
returns-in_default-clause-writes g c = λ next_file.
    writes_nothing g.D.Disk (IsOpenFile c.args.self.now) c.args.disk.now (refused (λ e. cc))

pub returns-in_err-add-clause-writes : goal.returns-in_err-add-clause-writes
returns-in_err-add-clause-writes g c = λ next_file.
    writes_as g.D.Disk (IsOpenFile c.args.self.now)
    (table_failed c.add.result c.in_err-add.field-0.0 c.from_residual.result c.in_err-add.was
    c.from_residual.ensures.1)
    (λ cause. cause)
    (writes_own g.D.Disk c.args.self.now c.in-Some.output next_file (sym c.in-Some.ensures.value)
    (writes_builder g.D.Disk _ c.in-Some.output.file c.in-Some.output.own c.add.ensures.kept
    c.add.ensures.any_moment))

pub returns-clause-writes : goal.returns-clause-writes
returns-clause-writes g c = λ next_file.
    writes_done g.D.Disk (IsOpenFile c.args.self.now)
    (table_answered c.add.result c.in_ok-add.was) done
    (writes_own g.D.Disk c.args.self.now c.in-Some.output next_file (sym c.in-Some.ensures.value)
    (writes_builder g.D.Disk _ c.in-Some.output.file c.in-Some.output.own c.add.ensures.kept
    c.add.ensures.any_moment))

pub returns-clause-added : goal.returns-clause-added
returns-clause-added g c = λ next_file it honest w some follows.
    let writer = c.args.self.now in
    let output = c.in-Some.output in
    let old = g.D.Disk.state c.args.disk.now in
    let new = g.D.Disk.state c.add.new.disk in
    let entry = lent_entry c.args.entry in
    let is = sym c.in-Some.ensures.value in
    let builds = subst (λ (f : ℕ). Builds (old f) output.builder it.opened) (sym output.own)
    (open_builds old writer.current output it.opened is w.current) in
    let more = subst (λ (f : ℕ). Builds (new f) c.add.new.self (it.opened ++ entry ∷ []))
    output.own (c.in_ok-add.ensures.added it.opened honest builds) in
    let calls = writes_builder g.D.Disk _ output.file output.own c.add.ensures.kept
    c.add.ensures.any_moment in
    record {
      before = w.before;
      closed = closed_kept old new writer next_file output it is w (calls.kept.files honest);
      current = more;
      numbered = record {
        closed = w.numbered.closed;
        once = w.numbered.once;
        current = open_numbered writer next_file output is w.numbered;
      };
    }

pub returns-in_default-clause-rules : goal.returns-in_default-clause-rules
returns-in_default-clause-rules g c = grind (arith, common_steps)

pub returns-in_default-clause-open : goal.returns-in_default-clause-open
returns-in_default-clause-open g c = grind (arith, common_steps)

pub returns-in_default-clause-outputs : goal.returns-in_default-clause-outputs
returns-in_default-clause-outputs g c = grind (arith, common_steps)

pub returns-in_default-clause-added : goal.returns-in_default-clause-added
returns-in_default-clause-added g c = grind (arith, common_steps)

pub returns-in_err-add-clause-rules : goal.returns-in_err-add-clause-rules
returns-in_err-add-clause-rules g c = grind (arith, common_steps)

pub returns-in_err-add-clause-open : goal.returns-in_err-add-clause-open
returns-in_err-add-clause-open g c = grind (arith, common_steps)

pub returns-in_err-add-clause-outputs : goal.returns-in_err-add-clause-outputs
returns-in_err-add-clause-outputs g c = grind (arith, common_steps)

pub returns-in_err-add-clause-added : goal.returns-in_err-add-clause-added
returns-in_err-add-clause-added g c = grind (arith, common_steps)

pub returns-clause-rules : goal.returns-clause-rules
returns-clause-rules g c = grind (arith, common_steps)

pub returns-clause-open : goal.returns-clause-open
returns-clause-open g c = grind (arith, common_steps)

pub returns-clause-outputs : goal.returns-clause-outputs
returns-clause-outputs g c = grind (arith, common_steps)
