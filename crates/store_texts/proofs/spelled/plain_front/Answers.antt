use Rattle.store_texts.proofs.Fronts.{plain_text, is_read}
use Rattle.store_texts.proofs.spelled.plain_front.Goals as goal

pub unwrap-requires : goal.unwrap-requires
unwrap-requires c =
    is_read c.from_utf8.result _ _ _ c.from_utf8.ensures.cases
    (plain_text _ _ _ c.split_plain.ensures)
