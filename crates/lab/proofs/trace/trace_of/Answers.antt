use Rattle.std.proofs.Common.{length, refl, subst, sym}
use Rattle.std.specs.Prelude.{OnErr}
use Rattle.carriers.specs.{HasCarried}
use Rattle.lab.specs.Arrivals.{RepliesFollow}
use Rattle.lab.specs.OutcomeLines.{own_lines, replies_by, sent_by}
use Rattle.lab.specs.Posting.{HasPostedPart}
use Rattle.lab.specs.declared.input.StepOutcome.{StepOutcome}
use Rattle.lab.specs.declared.input.StepOutcome.TheVariants as done
use Rattle.lab.specs.declared.report.Line.TheVariants as line
use Rattle.lab.proofs.OutcomeLines.{alone_follows}
use Rattle.lab.proofs.Transmissions.{carried_none}
use Rattle.lab.proofs.trace.trace_of.Goals.{in-Tended, in-Started, in-Stopped}
use Rattle.lab.proofs.trace.trace_of.Goals as goal

pub returns-clause-lines : goal.returns-clause-lines
returns-clause-lines g c =
    let carrier = c.args.carrier.now in
    let x = c.args.id in
    let before = length c.args.frames.now.items in
    let asks = HasCarried g.C.Carrier carrier carrier in
    let Follows : StepOutcome → Type 0 = λ did. RepliesFollow asks x (replies_by did)
    (own_lines x c.args.told before did) c.one.result in
    let none = carried_none g.C.Carrier carrier in
    elim c.match-outcome.branch as (λ _. Follows c.args.outcome) [
      | in-Tended w ↦ subst Follows (sym w.in-Tended.is)
          (alone_follows asks x c.args.told before (done.Tended w.in-Tended.did)
          (line.Tended w.in-Tended.did) c.match-outcome.line c.one.result none refl refl w.line-is
          c.one.ensures)
      | in-Started w ↦ subst Follows (sym w.in-Started.is)
          (alone_follows asks x c.args.told before
          (done.Started w.in-Started.epoch w.in-Started.count w.in-Started.committed)
          (line.Started x w.in-Started.epoch w.in-Started.count w.in-Started.committed)
          c.match-outcome.line c.one.result none refl refl w.line-is c.one.ensures)
      | in-Stopped w ↦ subst Follows (sym w.in-Stopped.is)
          (alone_follows asks x c.args.told before (done.Stopped w.in-Stopped.cause)
          (line.Stopped x w.in-Stopped.cause) c.match-outcome.line c.one.result none refl refl
          w.line-is c.one.ensures)
    ]

pub returns-in-Answered-clause-refused : goal.returns-in-Answered-clause-refused
returns-in-Answered-clause-refused g c = subst (λ (did : StepOutcome). OnErr c.trace_output.result
    (HasPostedPart c.args.frames.now.items c.args.id (sent_by did)
    c.trace_output.new.frames.items)) (sym c.in-Answered.is) c.trace_output.ensures.refused
