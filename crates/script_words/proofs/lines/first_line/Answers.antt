use Rattle.std.proofs.Common.{◌∙◌, ap}
use Rattle.script_words.specs.Lines.{script_lines}
use Rattle.script_words.proofs.FirstLine.{is_first, one_line}
use Rattle.script_words.proofs.lines.first_line.Goals as goal

pub returns-in-None : goal.returns-in-None
returns-in-None c = one_line c.args.text.now c.requires c.in-None.ensures

pub returns-in-Some : goal.returns-in-Some
returns-in-Some c =
    let cut = c.in-Some.ensures in ap script_lines cut.1 ∙ is_first _ _ cut.0
