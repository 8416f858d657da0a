use Rattle.std.proofs.Common.{None, inl, refl}
use Rattle.program.specs.declared.failure.Failure.TheVariants.{Memory, Unreadable}
use Rattle.program.proofs.Wholes.{answered, answered_any, not_usage, reported}
use Rattle.program.proofs.service.serve_lab.Goals as goal

pub returns-in-Ok-Input-clause-input : goal.returns-in-Ok-Input-clause-input
returns-in-Ok-Input-clause-input g c = λ _.
    answered c.serve_script.result c.unwrap_or.result (g.R.Read.remaining c.args.input.now)
    (g.O.Write.contents c.args.out.now) (g.O.Write.contents c.serve_script.new.out)
    (g.E.Write.contents c.args.err.now) (g.E.Write.contents c.serve_script.new.err)
    c.unwrap_or.ensures c.serve_script.ensures.ended c.serve_script.ensures.refused

pub returns-in-Ok-Input-clause-ends : goal.returns-in-Ok-Input-clause-ends
returns-in-Ok-Input-clause-ends g c = inl
    (answered_any c.serve_script.result c.unwrap_or.result (g.R.Read.remaining c.args.input.now)
    (g.O.Write.contents c.args.out.now) (g.O.Write.contents c.serve_script.new.out)
    (g.E.Write.contents c.args.err.now) (g.E.Write.contents c.serve_script.new.err)
    c.unwrap_or.ensures c.serve_script.ensures.ended c.serve_script.ensures.refused)

-- a run does not end with the usage
pub returns-in-Ok-Input-clause-usage : goal.returns-in-Ok-Input-clause-usage
returns-in-Ok-Input-clause-usage g c = λ two.
    absurd (not_usage None (g.O.Write.contents c.args.out.now)
    (g.O.Write.contents c.serve_script.new.out) (g.E.Write.contents c.args.err.now)
    (g.E.Write.contents c.serve_script.new.err) c.unwrap_or.result
    (answered_any c.serve_script.result c.unwrap_or.result (g.R.Read.remaining c.args.input.now)
    (g.O.Write.contents c.args.out.now) (g.O.Write.contents c.serve_script.new.out)
    (g.E.Write.contents c.args.err.now) (g.E.Write.contents c.serve_script.new.err)
    c.unwrap_or.ensures c.serve_script.ensures.ended c.serve_script.ensures.refused) two)

pub returns-in-Err-Memory-clause-ends : goal.returns-in-Err-Memory-clause-ends
returns-in-Err-Memory-clause-ends g c = inl
    (reported Memory (g.O.Write.contents c.args.out.now) (g.E.Write.contents c.args.err.now)
    (g.E.Write.contents c.report-in-Err-Memory.new.err) c.report-in-Err-Memory.result tt
    c.report-in-Err-Memory.ensures.status c.report-in-Err-Memory.ensures.text)

pub returns-in-Ok-Input-clause-path : goal.returns-in-Ok-Input-clause-path
returns-in-Ok-Input-clause-path g c = λ path is other.
    absurd (rw c.in-Ok-Input.field-0-is at c.in-Ok-Input.ensures.path path is other)

pub returns-in-Ok-clause-path : goal.returns-in-Ok-clause-path
returns-in-Ok-clause-path g c = λ path is other. (
  refl,
  answered_any c.serve_script-in-Ok.result c.unwrap_or-in-Ok.result _
      (g.O.Write.contents c.args.out.now) (g.O.Write.contents c.serve_script-in-Ok.new.out)
      (g.E.Write.contents c.args.err.now) (g.E.Write.contents c.serve_script-in-Ok.new.err)
      c.unwrap_or-in-Ok.ensures c.serve_script-in-Ok.ensures.ended
      c.serve_script-in-Ok.ensures.refused,
)

pub returns-in-Ok-clause-ends : goal.returns-in-Ok-clause-ends
returns-in-Ok-clause-ends g c = inl
    (answered_any c.serve_script-in-Ok.result c.unwrap_or-in-Ok.result _
    (g.O.Write.contents c.args.out.now) (g.O.Write.contents c.serve_script-in-Ok.new.out)
    (g.E.Write.contents c.args.err.now) (g.E.Write.contents c.serve_script-in-Ok.new.err)
    c.unwrap_or-in-Ok.ensures c.serve_script-in-Ok.ensures.ended
    c.serve_script-in-Ok.ensures.refused)

pub returns-in-Err-clause-path : goal.returns-in-Err-clause-path
returns-in-Err-clause-path g c = λ path is other. (
  refl,
  reported Unreadable (g.O.Write.contents c.args.out.now) (g.E.Write.contents c.args.err.now)
      (g.E.Write.contents c.report.new.err) c.report.result tt c.report.ensures.status
      c.report.ensures.text,
)

pub returns-in-Err-clause-ends : goal.returns-in-Err-clause-ends
returns-in-Err-clause-ends g c = inl
    (reported Unreadable (g.O.Write.contents c.args.out.now) (g.E.Write.contents c.args.err.now)
    (g.E.Write.contents c.report.new.err) c.report.result tt c.report.ensures.status
    c.report.ensures.text)
