use Rattle.std.proofs.Common.{◌≡◌, ◌+◌, ◌<◌, ◌++◌, ◌∷◌, [], ℕ, length, ap, sym, subst, ◌∙◌, arith}
use Rattle.std.proofs.Common.{length-append}
use Rattle.std.specs.List.{flat_map}
use Rattle.table_format.specs.declared.IndexLine.{IndexLine}
use Rattle.table_format.specs.{be32, block_bytes, block_entries, block_lines, data_bytes}
use Rattle.table_format.specs.{entry_bytes, line_bytes, sealed}
use Rattle.byte_fields.specs.declared.format.Format.TheVariants.{Two}
use Rattle.table_builder.specs.OpenParts.{HoldsItems}
use Rattle.table_builder.proofs.ClosingLemmas.{line_is, on_ok_map}
use Rattle.table_builder.proofs.DivisionsLemmas.{length-lines, lines_push}
use Rattle.table_builder.proofs.builder.Builder.seal.Goals as goal

-- the buffer has the block, and the index its line
pub returns-clause-sealed : goal.returns-clause-sealed
returns-clause-sealed c = λ blocks one can.
    let text = flat_map (entry_bytes Two) (block_entries one) in
    let some : 0 < length (block_entries one) =
    omega (arith, length-append one.front (one.last ∷ [])) in
    let bytes : c.seal.new.self.bytes.items ≡ block_bytes Two one =
    c.in_ok-seal.ensures text (can.entries.bytes some)
    ∙ ap (λ (n : ℕ). sealed (be32 n ++ text)) can.entries.count in
    let line = c.in_ok-line.line in
    let reported = c.in_ok-line.ensures in
    let len : c.len.result ≡ length (block_bytes Two one) =
    omega (arith, c.len.ensures, c.seal.new.self.bytes.ok.0, ap length bytes) in
    let small = can.small in
    let place : line.place ≡ 0 + length (data_bytes Two blocks) =
    omega (arith, reported.0, can.closed.written) in
    let is = line_is line (0 + length (data_bytes Two blocks)) one place
    (reported.1 (omega (arith, len, small)) ∙ len) (reported.2 ∙ can.key)
    (reported.3 ∙ can.number) in
    let few = can.few in
    on_ok_map c.add_line.result
    (λ has. record {
      bytes = bytes;
      index = subst (HoldsItems (line_bytes Two) c.add_line.new.self)
          (ap (λ (l : IndexLine). block_lines Two 0 blocks ++ l ∷ []) is
          ∙ sym (lines_push 0 blocks one))
          has;
    })
    (c.add_line.ensures (block_lines Two 0 blocks) can.closed.index
    (omega (arith, length-lines 0 blocks, few)))
