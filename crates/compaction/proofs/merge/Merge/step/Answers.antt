use Rattle.std.proofs.Common.{refl, sym, subst, ◌∙◌}
use Rattle.std.proofs.lemmas.Bool.{both_ways}
use Rattle.compaction.specs.Outputs.{IsOwnFile}
use Rattle.compaction.specs.Survivors.{AreDeeperLines}
use Rattle.compaction.proofs.Advances.{refusal_few, step_meets}
use Rattle.compaction.proofs.Calls.{done, ok_fails, passed_on, refused, writes_as}
use Rattle.compaction.proofs.Calls.{writes_nothing}
use Rattle.compaction.proofs.Numbers.{begun_more, steps_beside}
use Rattle.compaction.proofs.Writing.{refuses, uses_few, uses_none}
use Rattle.compaction.proofs.merge.Merge.step.Goals as goal

pub returns-then-self : goal.returns-then-self
returns-then-self g c = record {
  writes = writes_nothing _ (IsOwnFile c.args.self.now.writer c.args.next_file.now)
      c.args.files.now (refused (λ e. cc));
  numbers = uses_none c.args.self.now.writer c.args.self.now.writer c.args.next_file.now
      (λ file is. is) (λ file output. output);
  first = refl;
  gone = refl;
  target = refl;
  beside = λ version is le beside. beside;
  status = (c.if-self.true, λ failed. refl);
  steps = λ meant plan floor m. absurd (m.works c.if-self.true);
  unused = λ meant plan floor m. absurd (m.works c.if-self.true);
}

pub returns-in_err-write_some : goal.returns-in_err-write_some
returns-in_err-write_some g c = record {
  writes = writes_as _ (IsOwnFile c.args.self.now.writer c.args.next_file.now)
      (passed_on c.write_some.result c.in_err-write_some.field-0.0 c.from_residual.result
      c.in_err-write_some.was c.from_residual.ensures.1)
      (λ lost meant plan floor m. lost meant plan.inputs m.walk) c.write_some.ensures.2.writes;
  numbers = uses_few _ _ _ _ c.write_some.ensures.1 c.write_some.ensures.2.numbers;
  first = refl;
  gone = refl;
  target = c.write_some.ensures.2.rules.target;
  beside = λ version is le. steps_beside version _ _ _ _ is le
      c.write_some.ensures.2.numbers;
  status = refuses c.from_residual.result _ _ c.from_residual.ensures.1
      (refl, λ failed. absurd (both_ways _ c.if-self.false failed));
  steps = λ meant plan floor m. refuses c.from_residual.result _ _ c.from_residual.ensures.1
      (refusal_few _ _ _ _ _ _ _ _ c.in_err-write_some.ensures.1 _
      (c.in_err-write_some.ensures.2.walks meant plan.inputs m.walk));
  unused = λ meant plan floor m.
      c.write_some.ensures.2.unused meant plan.inputs m.walk;
}

pub returns : goal.returns
returns g c =
    record {
      writes = writes_as _ (IsOwnFile c.args.self.now.writer c.args.next_file.now) (
        ok_fails c.write_some.result c.in_ok-write_some.field-0 c.in_ok-write_some.was,
        λ f. absurd (done f),
      )
          (λ lost meant plan floor m. lost meant plan.inputs m.walk)
          c.write_some.ensures.2.writes;
      numbers = uses_few _ _ _ _ c.write_some.ensures.1 c.write_some.ensures.2.numbers;
      first = refl;
      gone = refl;
      target = c.write_some.ensures.2.rules.target;
      beside = λ version is le. steps_beside version _ _ _ _ is le
          c.write_some.ensures.2.numbers;
      status = (both_ways _ c.if-self.false, λ f. cc, c.valid.ensures);
      steps = λ meant plan floor m.
          let went = c.in_ok-write_some.ensures.2.walks meant plan.inputs m.walk in
          let rules = c.write_some.ensures.2.rules in (
            record {
              works = λ f. cc;
              walk = went.0;
              deeper = subst (λ v. AreDeeperLines plan v.items) (sym rules.deeper) m.deeper;
              level = rules.level ∙ m.level;
              same_floor = rules.floor ∙ m.same_floor;
              gone = m.gone;
              numbers = begun_more _ _ _ _ _ plan.inputs
                  c.write_some.ensures.2.numbers.rises c.write_some.ensures.2.numbers.outputs
                  went.0.writes.numbered m.numbers;
            },
            step_meets _ _ meant plan.inputs _ _ _ _ m.walk.met went.0 _ _
                c.in_ok-write_some.ensures.1
                went.1 c.in_ok-write_some.ensures.3,
            went.2,
          );
      unused = λ meant plan floor m.
          c.write_some.ensures.2.unused meant plan.inputs m.walk;
    }
