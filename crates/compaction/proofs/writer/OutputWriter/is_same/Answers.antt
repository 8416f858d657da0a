use Rattle.std.proofs.Common.{◌∙◌, sym}
use Rattle.std.specs.Str.{bytes_eq}
use Rattle.std.proofs.lemmas.Bool.Decides.{same_from_decides}
use Rattle.std.proofs.lemmas.Slice.Eq.{bytes_eq-Decides}
use Rattle.byte_fields.specs.{lent_key}
use Rattle.compaction.proofs.writer.OutputWriter.is_same.Goals as goal

pub returns : goal.returns
returns c =
    let own = c.args.self.now.key in
    let key = lent_key c.args.key in
    same_from_decides c.is_same.result (bytes_eq own key) (
      (λ is. sym c.lent.ensures ∙ c.is_same.ensures.0 is),
      (λ same. c.is_same.ensures.1 (c.lent.ensures ∙ same)),
    ) (bytes_eq-Decides own key)
