use Rattle.std.proofs.Common.{rules, ◌<◌, length, arith}
use Rattle.script_words.proofs.Numbers.{no_text, refused, taken, lead_of}
use Rattle.script_words.proofs.word.number.Goals as goal

pub returns-in_default : goal.returns-in_default
returns-in_default c = no_text _ c.in_default.ensures.cases.0

pub returns-in-Ok-parse : goal.returns-in-Ok-parse
returns-in-Ok-parse c =
    let w = c.args.word.now in
    let some : 0 < length w = search rules in
    let got = taken w c.parse.result c.in-Ok-parse.number c.if-word-eq43.false
    (lead_of w some c.if-word-gt1.either)
    (rw c.in-Ok.ensures.cases.0 at c.parse.ensures.value.0) c.in-Ok-parse.is (omega arith) in
    (got.0, omega arith, got.1, got.2)

pub returns-in_default-parse-2 : goal.returns-in_default-parse-2
returns-in_default-parse-2 c =
    refused c.args.word.now c.in_default-parse.field-0 c.if-word-eq43.false (rw
    (c.in_default-parse.is, c.in-Ok.ensures.cases.0) at c.parse.ensures.value.0)
