use Rattle.std.proofs.Common.{◌≡◌, ◌≢◌, ◌<◌, rules, arith, length, get_or}
use Rattle.dir_disk.proofs.NamesLemmas.{begins, never_refused, taken}
use Rattle.dir_disk.proofs.names.number_of.Goals as goal

-- a number in decimal is not empty, and has no sign ..
pub returns-then-is_empty-clause-none : goal.returns-then-is_empty-clause-none
returns-then-is_empty-clause-none c = λ none file small is.
    let b = begins c.as_bytes-bytes.result.now file small (rw c.as_bytes-bytes.ensures.value is) in
    let some = b.0 in let digit = b.1 in elim c.then-is_empty.branch [
      | goal.then-is_empty-via-then-is_empty w ↦
          absurd (grind (arith, some, c.is_empty.ensures, w.if-is_empty.true))
      | goal.then-is_empty-via-else-is_empty+then-bytes-eq43 w ↦
          absurd (omega (arith, digit, w.if-bytes-eq43.true))
    ]

-- .. and it begins with 0 only where that is all
pub returns-then-bytes-gt1-clause-none : goal.returns-then-bytes-gt1-clause-none
returns-then-bytes-gt1-clause-none c = λ none file small is.
    let b = begins c.as_bytes-bytes.result.now file small (rw c.as_bytes-bytes.ensures.value is) in
    absurd (omega (arith, b.2 c.if-bytes-eq48.true, c.if-bytes-gt1.true))

-- what `parse` takes is the number in decimal
pub returns-in-Ok-clause-number : goal.returns-in-Ok-clause-number
returns-in-Ok-clause-number c =
    let w = c.args.name.now in
    let same = c.as_bytes-bytes.ensures.value in
    let sign : get_or w 0 0 ≢ 43 = rw same at c.if-bytes-eq43.false in
    let v = c.as_bytes-bytes.result.now in
    let whole : 0 < length v = search rules in
    let lead : get_or v 0 0 ≡ 48 → length v ≡ 1 = elim c.else-bytes-eq48.branch [
      | goal.else-bytes-eq48-via-then-bytes-eq48+else-bytes-gt1 one ↦
          λ z. omega (arith, one.if-bytes-gt1.false, whole)
      | goal.else-bytes-eq48-via-else-bytes-eq48 one ↦ λ z. absurd (one.if-bytes-eq48.false z)
    ] in
    let plain : get_or w 0 0 ≡ 48 → length w ≡ 1 = rw same at lead in
    let parsed = c.parse.ensures.value.0 in
    taken w c.parse.result c.in-Ok.number sign plain parsed c.in-Ok.is (omega arith)

-- `parse` refuses no number in decimal
pub returns-in-Err-clause-none : goal.returns-in-Err-clause-none
returns-in-Err-clause-none c = λ none file small is.
    let parsed = c.parse.ensures.value.0 in
    never_refused c.args.name.now c.parse.result c.in-Err.field-0 file small is parsed c.in-Err.is
