use Rattle.script_words.proofs.FirstLine.{cut_at}
use Rattle.script_words.proofs.lines.ended_line.Goals as goal

pub returns : goal.returns
returns c =
    let at = c.in_ok-end.ensures in
    cut_at c.args.text.now c.in_ok-end.end at.some.0 at.some.1 at.first
