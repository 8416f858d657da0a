use Rattle.std.proofs.lemmas.Grind.{common_steps}
use Rattle.std.proofs.Common.{◌≡◌, ◌≢◌, ◌<◌, ◌++◌, ◌∷◌, [], List, All, refl, sym, subst, ◌∙◌}
use Rattle.std.proofs.Common.{Option, None, Some, IfSome, ap, inl, inr, ℕ}
use Rattle.std.specs.List.{AllZip}
use Rattle.std.specs.Prelude.{is_ok}
use Rattle.std.specs.Option.{option_map}
use Rattle.std.proofs.lemmas.Bool.{cond-true}
use Rattle.std.proofs.lemmas.List.Elements.{All-push}
use Rattle.version_edits.specs.declared.TableLine.{TableLine}
use Rattle.compaction.specs.declared.open_output.OpenOutput.{OpenOutput}
use Rattle.compaction.specs.Outputs.{IsOpenFile, HoldsOpen, IsOutput}
use Rattle.compaction.proofs.Calls.{answered, done, memory_told, passed_on, writes_as, writes_done}
use Rattle.compaction.proofs.Calls.{writes_nothing}
use Rattle.std.proofs.Common.{arith}
use Rattle.std.proofs.Common.{map, true}
use Rattle.version_edits.specs.Versions.{are_once}
use Rattle.compaction.proofs.Writing.{none_added, once_pushed, push_outputs, push_proper}
use Rattle.compaction.proofs.Writing.{closed_kept, ok_told, open_builds, open_numbered}
use Rattle.compaction.proofs.Writing.{writes_own, zip_push}
use Rattle.compaction.proofs.writer.OutputWriter.close.Goals as goal

-- each complete table has a line that is within its limits
pub invariant_of-self-2-clause-proper : goal.invariant_of-self-2-clause-proper
invariant_of-self-2-clause-proper g c =
    push_proper c.args.self.now.closed.items c.push.new.self.items c.in_ok-line.line
    (is_ok c.push.result) c.push.ensures.items c.args.self.now.proper c.in_ok-line.ensures.proper

pub returns-clause-outputs : goal.returns-clause-outputs
returns-clause-outputs g c = λ file own. elim own [
  | inl is ↦
      let wrong : None ≡ Some file =
      sym (ap (option_map (λ (it : OpenOutput). it.file)) c.in-Some.ensures.after) ∙ is in
      cc
  | inr there ↦ push_outputs c.args.self.now c.push.new.self.items c.in_ok-line.line
      c.in-Some.output file (◌∙◌ {A = List TableLine} c.push.ensures.items
      (cond-true {A = List TableLine} (is_ok c.push.result) _ _
      (ok_told c.push.result c.in_ok-push.was))) (sym c.in-Some.ensures.value)
      c.in_ok-line.ensures.file there
]

pub returns-in_default-clause-writes : goal.returns-in_default-clause-writes
returns-in_default-clause-writes g c = λ next_file.
    writes_nothing g.D.Disk (IsOpenFile c.args.self.now) c.args.disk.now done

pub returns-in_err-line-clause-writes : goal.returns-in_err-line-clause-writes
returns-in_err-line-clause-writes g c = λ next_file.
    writes_as g.D.Disk (IsOpenFile c.args.self.now)
    (passed_on c.finish_output.result c.in_err-line.field-0.0 c.from_residual.result
    c.in_err-line.was c.from_residual.ensures.1)
    (λ cause. cause)
    (writes_own g.D.Disk c.args.self.now c.in-Some.output next_file (sym c.in-Some.ensures.value)
    c.finish_output.ensures.writes)

pub returns-in_err-push-clause-writes : goal.returns-in_err-push-clause-writes
returns-in_err-push-clause-writes g c = λ next_file.
    writes_done g.D.Disk (IsOpenFile c.args.self.now)
    (answered c.finish_output.result c.in_ok-line.was)
    (memory_told c.from_residual-in_err-push.result c.from_residual-in_err-push.ensures.1)
    (writes_own g.D.Disk c.args.self.now c.in-Some.output next_file (sym c.in-Some.ensures.value)
    c.finish_output.ensures.writes)

pub returns-clause-writes : goal.returns-clause-writes
returns-clause-writes g c = λ next_file.
    writes_done g.D.Disk (IsOpenFile c.args.self.now)
    (answered c.finish_output.result c.in_ok-line.was) done
    (writes_own g.D.Disk c.args.self.now c.in-Some.output next_file (sym c.in-Some.ensures.value)
    c.finish_output.ensures.writes)

pub returns-clause-closed : goal.returns-clause-closed
returns-clause-closed g c = λ next_file it honest w some.
    let writer = c.args.self.now in
    let output = c.in-Some.output in
    let old = g.D.Disk.state c.args.disk.now in
    let new = g.D.Disk.state c.finish_output.new.disk in
    let line = c.in_ok-line.line in
    let is = sym c.in-Some.ensures.value in
    let builds = open_builds old writer.current output it.opened is w.current in
    let made = c.in_ok-line.ensures.finished it.opened honest builds some in
    let kept = closed_kept old new writer next_file output it is w
    (c.finish_output.ensures.writes.kept.files honest) in
    let lines : c.push.new.self.items ≡ writer.closed.items ++ line ∷ [] =
    ◌∙◌ {A = List TableLine} c.push.ensures.items
    (cond-true {A = List TableLine} (is_ok c.push.result) _ _
    (ok_told c.push.result c.in_ok-push.was)) in
    let given = open_numbered writer next_file output is w.numbered in
    let file = c.in_ok-line.ensures.file in
    record {
      before = w.before;
      closed = subst (λ (l : List TableLine). AllZip (IsOutput new writer.level) l
          (it.closed ++ it.opened ∷ [])) (sym lines)
          (zip_push (IsOutput new writer.level) writer.closed.items it.closed line it.opened kept
          made);
      current = subst (λ (o : Option OpenOutput). HoldsOpen new o []) (sym c.in-Some.ensures.after)
          refl;
      numbered = record {
        closed = subst (λ (l : List TableLine). All (λ one. one.file < next_file) l) (sym lines)
            (All-push (λ (one : TableLine). one.file < next_file) writer.closed.items line
            w.numbered.closed (subst (λ (n : ℕ). n < next_file) (sym file) given.0));
        once = subst (λ (l : List TableLine). are_once (map (λ one. one.file) l) ≡ true)
            (sym lines) (once_pushed writer.closed.items line output.file w.numbered.once given.1
            file);
        current = subst (λ (o : Option OpenOutput). IfSome (option_map (λ one. one.file) o)
            (λ file. (file < next_file) × All (λ line. line.file ≢ file) c.push.new.self.items))
            (sym c.in-Some.ensures.after) tt;
      };
    }

-- ---- nothing was written to the open table

pub returns-then-len-eq0-clause-writes : goal.returns-then-len-eq0-clause-writes
returns-then-len-eq0-clause-writes g c = λ next_file.
    writes_nothing g.D.Disk (IsOpenFile c.args.self.now) c.args.disk.now done

pub returns-then-len-eq0-clause-closed : goal.returns-then-len-eq0-clause-closed
returns-then-len-eq0-clause-closed g c = λ next_file it honest w some.
    let old = g.D.Disk.state c.args.disk.now in
    let output = c.in-Some.output in
    let builds = open_builds old c.args.self.now.current output it.opened
    (sym c.in-Some.ensures.value) w.current in
    let count = c.len.ensures.added (old output.file) it.opened builds in
    let none = c.if-len-eq0.true in
    absurd (omega (arith, count, none, some))

pub returns-then-len-eq0-clause-empty : goal.returns-then-len-eq0-clause-empty
returns-then-len-eq0-clause-empty g c = λ slots next_file it w none. (
  refl,
  record {
    before = w.before;
    closed = w.closed;
    current = subst (λ (o : Option OpenOutput). HoldsOpen slots o it.opened)
        (sym c.in-Some.ensures.after) none;
    numbered = record {
      closed = w.numbered.closed;
      once = w.numbered.once;
      current = subst (λ (o : Option OpenOutput). IfSome (option_map (λ one. one.file) o)
          (λ file. (file < next_file) × All (λ line. line.file ≢ file)
          c.args.self.now.closed.items)) (sym c.in-Some.ensures.after) tt;
    };
  },
)

pub returns-in_default-clause-empty : goal.returns-in_default-clause-empty
returns-in_default-clause-empty g c = λ slots next_file it w none. (
  refl,
  record {
    before = w.before;
    closed = w.closed;
    current = subst (λ (o : Option OpenOutput). HoldsOpen slots o it.opened)
        (sym c.in_default.ensures.after) none;
    numbered = record {
      closed = w.numbered.closed;
      once = w.numbered.once;
      current = subst (λ (o : Option OpenOutput). IfSome (option_map (λ one. one.file) o)
          (λ file. (file < next_file) × All (λ line. line.file ≢ file)
          c.args.self.now.closed.items)) (sym c.in_default.ensures.after) tt;
    };
  },
)

pub returns-in_err-line-clause-empty : goal.returns-in_err-line-clause-empty
returns-in_err-line-clause-empty g c = λ slots next_file it w none.
    absurd (c.if-len-eq0.false (none_added c.args.self.now c.in-Some.output slots next_file it
    c.len.result (sym c.in-Some.ensures.value) w c.len.ensures.added none))

pub returns-in_err-push-clause-empty : goal.returns-in_err-push-clause-empty
returns-in_err-push-clause-empty g c = λ slots next_file it w none.
    absurd (c.if-len-eq0.false (none_added c.args.self.now c.in-Some.output slots next_file it
    c.len.result (sym c.in-Some.ensures.value) w c.len.ensures.added none))

pub returns-clause-empty : goal.returns-clause-empty
returns-clause-empty g c = λ slots next_file it w none.
    absurd (c.if-len-eq0.false (none_added c.args.self.now c.in-Some.output slots next_file it
    c.len.result (sym c.in-Some.ensures.value) w c.len.ensures.added none))

pub returns-in_default-clause-rules : goal.returns-in_default-clause-rules
returns-in_default-clause-rules g c = grind (arith, common_steps)

pub returns-in_default-clause-none : goal.returns-in_default-clause-none
returns-in_default-clause-none g c = grind (arith, common_steps)

pub returns-in_default-clause-outputs : goal.returns-in_default-clause-outputs
returns-in_default-clause-outputs g c = grind (arith, common_steps)

pub returns-in_default-clause-closed : goal.returns-in_default-clause-closed
returns-in_default-clause-closed g c = grind (arith, common_steps)

pub returns-then-len-eq0-clause-rules : goal.returns-then-len-eq0-clause-rules
returns-then-len-eq0-clause-rules g c = grind (arith, common_steps)

pub returns-then-len-eq0-clause-none : goal.returns-then-len-eq0-clause-none
returns-then-len-eq0-clause-none g c = grind (arith, common_steps)

pub returns-then-len-eq0-clause-outputs : goal.returns-then-len-eq0-clause-outputs
returns-then-len-eq0-clause-outputs g c = grind (arith, common_steps)

pub returns-in_err-line-clause-rules : goal.returns-in_err-line-clause-rules
returns-in_err-line-clause-rules g c = grind (arith, common_steps)

pub returns-in_err-line-clause-none : goal.returns-in_err-line-clause-none
returns-in_err-line-clause-none g c = grind (arith, common_steps)

pub returns-in_err-line-clause-outputs : goal.returns-in_err-line-clause-outputs
returns-in_err-line-clause-outputs g c = grind (arith, common_steps)

pub returns-in_err-line-clause-closed : goal.returns-in_err-line-clause-closed
returns-in_err-line-clause-closed g c = grind (arith, common_steps)

pub returns-in_err-push-clause-rules : goal.returns-in_err-push-clause-rules
returns-in_err-push-clause-rules g c = grind (arith, common_steps)

pub returns-in_err-push-clause-none : goal.returns-in_err-push-clause-none
returns-in_err-push-clause-none g c = grind (arith, common_steps)

pub returns-in_err-push-clause-outputs : goal.returns-in_err-push-clause-outputs
returns-in_err-push-clause-outputs g c = grind (arith, common_steps)

pub returns-in_err-push-clause-closed : goal.returns-in_err-push-clause-closed
returns-in_err-push-clause-closed g c = grind (arith, common_steps)

pub returns-clause-rules : goal.returns-clause-rules
returns-clause-rules g c = grind (arith, common_steps)

pub returns-clause-none : goal.returns-clause-none
returns-clause-none g c = grind (arith, common_steps)
