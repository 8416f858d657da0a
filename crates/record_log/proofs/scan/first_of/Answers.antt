use Rattle.std.proofs.Common.{take, ap, ◌∙◌, arith}
use Rattle.record_log.proofs.First.{is_nothing, at_one, split_is, fits_within}
use Rattle.record_log.proofs.First.{nothing, no_length, no_record, whole}
use Rattle.record_log.proofs.scan.first_of.Goals as goal

-- there is no gate
pub returns-then-is_empty-clause-malformed : goal.returns-then-is_empty-clause-malformed
returns-then-is_empty-clause-malformed c = λ _ records s.
    let bytes = c.args.bytes.now in
    let none = is_nothing bytes c.is_empty.result c.is_empty.ensures c.if-is_empty.true in
    nothing bytes records none s

-- the file ends in the length
pub returns-then-rest-lt4-clause-malformed : goal.returns-then-rest-lt4-clause-malformed
returns-then-rest-lt4-clause-malformed c = λ _ records s.
    let rest = c.split_at.result.1.now in
    let open_gate = at_one c.args.bytes.now rest c.is_empty.result c.is_empty.ensures
    c.if-is_empty.false c.if-bytes-ne1.false c.split_at.ensures.back in
    no_length c.args.bytes.now rest records open_gate c.if-rest-lt4.true s

-- it ends in the record
pub returns-then-tail-len-clause-malformed : goal.returns-then-tail-len-clause-malformed
returns-then-tail-len-clause-malformed c = λ _ records s.
    let rest = c.split_at.result.1.now in
    let head = c.split_at-2.result.0.now in
    let tail = c.split_at-2.result.1.now in
    let open_gate = at_one c.args.bytes.now rest c.is_empty.result c.is_empty.ensures
    c.if-is_empty.false c.if-bytes-ne1.false c.split_at.ensures.back in
    let parts = split_is rest head tail 4 c.split_at-2.ensures.front c.split_at-2.ensures.back in
    no_record c.args.bytes.now rest head tail records open_gate parts c.split_at-2.ensures.front_len
    (omega (arith, c.if-tail-len.true, c.from_be_bytes-len.ensures)) s

-- the gate is open, and length and record are there
pub returns-clause-first : goal.returns-clause-first
returns-clause-first c =
    let bytes = c.args.bytes.now in
    let rest = c.split_at.result.1.now in
    let head = c.split_at-2.result.0.now in
    let tail = c.split_at-2.result.1.now in
    let one = c.split_at-3.result.0.now in
    let after = c.split_at-3.result.1.now in
    let open_gate = at_one bytes rest c.is_empty.result c.is_empty.ensures c.if-is_empty.false
    c.if-bytes-ne1.false c.split_at.ensures.back in
    let parts = split_is rest head tail 4 c.split_at-2.ensures.front c.split_at-2.ensures.back in
    let inner = split_is tail one after c.from_be_bytes-len.result c.split_at-3.ensures.front
    c.split_at-3.ensures.back in
    let head_is = c.split_at-2.ensures.front ∙ ap (λ r. take 4 r) c.split_at.ensures.back in
    let fits = fits_within bytes 4 1 head (λ i. omega (arith, c.type_inv.bytes i)) head_is in
    whole bytes rest head tail one after open_gate parts inner c.split_at-2.ensures.front_len fits
    (omega (arith, c.split_at-3.ensures.front_len, c.from_be_bytes-len.ensures))
