use Rattle.std.proofs.Common.{◌∙◌, sym}
use Rattle.script_words.proofs.Fronts.{front_before, front_is_all}
use Rattle.script_words.proofs.plain.split_plain.Goals as goal

pub returns-in-None : goal.returns-in-None
returns-in-None c =
    front_is_all c.args.bytes.now (sym c.place_of_other.ensures ∙ c.in-None.is)

pub returns-in-Some : goal.returns-in-Some
returns-in-Some c =
    rw (c.split_at.ensures.front, c.split_at.ensures.back)
    (front_before c.args.bytes.now c.in-Some.place (sym c.place_of_other.ensures ∙ c.in-Some.is))
