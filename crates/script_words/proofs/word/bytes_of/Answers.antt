use Rattle.std.proofs.Common.{◌≡◌, ◌∙◌, [], append-nil, refl, rules}
use Rattle.std.specs.List.{flat_map}
use Rattle.script_words.specs.Words.{byte_text}
use Rattle.script_words.proofs.Texts.{not_bytes}
use Rattle.script_words.proofs.Spelled.{plain_spelled, byte_spelled, spelled_on, some_spelled}
use Rattle.script_words.specs.WordsLemmas.{bytes_done}
use Rattle.script_words.proofs.word.bytes_of.Goals as goal

pub loop-rest-init : goal.loop-rest-init
loop-rest-init c = rw c.in_ok-bytes.ensures.items (plain_spelled _ _ _ c.split_plain.ensures)

-- a byte by its digits, and bytes that stand for themselves
pub loop-rest-preserved : goal.loop-rest-preserved
loop-rest-preserved c =
    let so = c.loop-rest.invariant in
    let one = c.in-Some.ensures in
    let byte = byte_spelled _ _ c.in-Some.byte one.0 one.1 one.2 in
    let on = spelled_on _ _ _ _ _ so byte in
    rw (c.in_ok-extend_from_slice.ensures.items, c.in_ok-push.ensures.items)
    (spelled_on _ _ _ _ _ on (plain_spelled _ _ _ c.split_plain-in-loop-rest.ensures))

pub returns-in_default : goal.returns-in_default
returns-in_default c =
    not_bytes c.args.word.now (search rules) (c.loop-rest.invariant.decides ∙ c.in_default.ensures)

pub returns : goal.returns
returns c =
    let so = c.loop-rest.invariant in
    let ended : c.loop-rest.rest.now ≡ [] = search rules in
    let whole : c.args.word.now ≡ flat_map byte_text c.loop-rest.bytes.items =
    so.spelled ∙ rw (ended, append-nil (flat_map byte_text c.loop-rest.bytes.items)) refl in
    let done = bytes_done c.args.word.now c.loop-rest.bytes.items
    (some_spelled c.args.word.now c.loop-rest.bytes.items (search rules) whole) whole
    (so.decides ∙ rw ended refl) in
    (done.0, so.each, done.1)
