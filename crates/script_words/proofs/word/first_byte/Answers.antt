use Rattle.std.proofs.Common.{rules, arith}
use Rattle.std.proofs.lemmas.Grind.{common_steps}
use Rattle.script_words.proofs.Texts.{escape_at, escape_refused, tail3}
use Rattle.script_words.proofs.word.first_byte.Goals as goal

pub returns-else-is_itself : goal.returns-else-is_itself
returns-else-is_itself c =
    let t = c.args.text.now in
    let byte = c.in_ok-byte-in-37.ensures in
    let it = escape_at t c.in_ok-byte-in-37.byte c.in-37.len_at_least (search rules) byte.1 byte.0
    byte.2 (search rules) in
    rw (tail3 t) (it.0, it.1, byte.1)

pub returns-then-is_itself : goal.returns-then-is_itself
returns-then-is_itself c =
    let byte = c.in_ok-byte-in-37.ensures in
    escape_refused c.args.text.now c.in_ok-byte-in-37.byte c.in-37.len_at_least (search rules)
    byte.1 byte.0 byte.2 (search rules)

pub returns-in-len1-up : goal.returns-in-len1-up
returns-in-len1-up c = grind (arith, common_steps)
