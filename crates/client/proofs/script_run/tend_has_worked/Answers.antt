use Rattle.std.proofs.Common.{◌≡◌, ◌∙◌, None, Some, ap, arith, refl, sym}
use Rattle.std.specs.Option.{option_copied}
use Rattle.std.proofs.lemmas.Grind.{common_steps}
use Rattle.lab.specs.{lines_so_far}
use Rattle.client.specs.ScriptRuns.{has_worked}
use Rattle.client.proofs.Settling.{last_got, same_step}
use Rattle.client.proofs.script_run.tend_has_worked.Goals as goal

pub returns-in-Some : goal.returns-in-Some
returns-in-Some g c = λ before last is.
    let got = c.last.ensures.value ∙ last_got (lines_so_far c.args.world.now) c.report.result.now
    before last _ c.report.ensures.kept is refl in
    c.is_work.ensures ∙ ap has_worked (c.as_slice.ensures
    ∙ same_step c.in-Some.lines.now last (sym (ap option_copied c.in-Some.is) ∙ got))

pub returns-in-None : goal.returns-in-None
returns-in-None g c = λ before last is.
    let got = c.last.ensures.value ∙ last_got (lines_so_far c.args.world.now) c.report.result.now
    before last _ c.report.ensures.kept is refl in
    let none : None ≡ Some last = sym (ap option_copied c.in-None.is) ∙ got in
    grind (arith, common_steps)
