use Rattle.std.proofs.Common.{◌≡◌, ◌+◌, ◌<◌, ◌^◌, ◌++◌, ℕ, List, length, map, ap, sym, subst, ◌∙◌}
use Rattle.std.proofs.Common.{arith}
use Rattle.std.specs.List.{flat_map}
use Rattle.bloom.specs.{IsFilter, hashes_of}
use Rattle.table_format.specs.{be32, block_lines, different_keys, filter_part, index_part}
use Rattle.table_format.specs.{line_bytes, sealed}
use Rattle.byte_fields.specs.declared.format.Format.TheVariants.{Two}
use Rattle.table_builder.specs.Tails.{tail_of}
use Rattle.table_builder.proofs.ClosingLemmas.{blocks_some, is_table, length-tail_of, tail_fits}
use Rattle.table_builder.proofs.DivisionsLemmas.{length-lines}
use Rattle.table_builder.proofs.builder.Builder.tail.Goals as goal

-- filter, index and footer of the entries
pub returns-clause-tail : goal.returns-clause-tail
returns-clause-tail c = λ blocks entries can.
    let it = c.args.self.now in
    let filter = c.deref-2.result.now in
    let lines = block_lines Two 0 blocks in
    let text = flat_map (line_bytes Two) lines in
    let hashes : c.deref.result.now ≡ map hashes_of (different_keys entries) =
    c.deref.ensures.value ∙ can.keys.hashes in
    let exact : IsFilter (different_keys entries) filter =
    subst (IsFilter (different_keys entries)) (sym c.deref-2.ensures.value)
    (c.in_ok-filter.ensures (different_keys entries) hashes) in
    let fits = tail_fits it blocks entries filter can exact in
    let many = can.some in
    let some : 0 < length lines = omega (
      arith,
      length-lines 0 blocks,
      blocks_some blocks (omega (arith, many, ap length can.division)),
    ) in
    let index : c.deref-3.result.now ≡ index_part Two lines =
    c.deref-3.ensures.value ∙ c.in_ok-seal.ensures text (can.closed.index.bytes some)
    ∙ ap (λ (n : ℕ). sealed (be32 n ++ text)) can.closed.index.count in
    let size = can.size in
    let tail = c.in_ok-tail_part_of.field-0.items in
    let short : length c.deref-3.result.now < 2 ^ 32 =
    omega (arith, ap length index, fits.index_len) in
    let room : it.written + length (filter_part filter) < 2 ^ 64 =
    omega (arith, can.closed.written, size, fits.filter_len) in
    let is : tail ≡ tail_of filter (index_part Two lines) it.written it.keys.count =
    c.in_ok-tail_part_of.ensures fits.filter_len short room
    ∙ ap (λ (i : List ℕ). tail_of filter i it.written it.keys.count) index in (
      is_table it blocks entries filter tail can exact is,
      omega (
        arith,
        ap length is,
        length-tail_of filter (index_part Two lines) it.written it.keys.count,
        fits.filter_len,
        fits.index_len,
      ),
    )
