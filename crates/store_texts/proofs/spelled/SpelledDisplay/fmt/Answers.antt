use Rattle.std.proofs.Common.{◌≡◌, ◌++◌, false, get_or, rules}
use Rattle.std.proofs.Output.{has_written_of_eq, has_written_append}
use Rattle.script_words.specs.Words.{is_plain, byte_text}
use Rattle.store_texts.proofs.Escape.{escape_text}
use Rattle.store_texts.proofs.Fronts.{wrote_front, wrote_byte, first_other}
use Rattle.store_texts.proofs.spelled.SpelledDisplay.fmt.Goals as goal

pub loop-rest-preserved-then-is_empty-2 : goal.loop-rest-preserved-then-is_empty-2
loop-rest-preserved-then-is_empty-2 g c = λ plain.
    let before = c.loop-rest.invariant plain in
    let rest = c.loop-rest.rest.now in
    let some = c.in-len1-up.len_at_least in
    let other : is_plain (get_or rest 0 0) ≡ false =
    first_other rest _ _ c.plain_front.ensures (search rules) some in
    let w = rw (c.laid_out.ensures, c.in_radix.ensures) at c.in_ok-write.ensures.writes in (
      before.0 ++ byte_text (get_or rest 0 0),
      has_written_append _ _ _ _ _ _ before.1 (has_written_of_eq _ _ _ _ _
          (escape_text (get_or rest 0 0) (search rules) other) (w before.1.plain (search rules))),
      wrote_byte before.0 rest _ some before.2,
    )

pub loop-rest-preserved : goal.loop-rest-preserved
loop-rest-preserved g c = λ plain.
    let before = c.loop-rest.invariant plain in (
      before.0 ++ c.plain_front.result.0.now,
      has_written_append _ _ _ _ _ _ before.1 (c.in_ok-write_str.ensures.writes before.1.plain
          (search rules)),
      wrote_front before.0 c.loop-rest.rest.now _ _ _ c.plain_front.ensures before.2,
    )
