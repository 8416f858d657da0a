-- The blocks of a table, by their numbers.
use Rattle.std.proofs.Common.{◌≡◌, ℕ, zero, suc, ◌+◌, ◌≤◌, ◌<◌, List, [], ◌∷◌, ◌++◌, length, take}
use Rattle.std.proofs.Common.{drop}
use Rattle.std.proofs.Common.{Some, refl, sym, ap, subst, ◌∙◌, arith, length-append}
use Rattle.std.specs.List.{slice_get}
use Rattle.std.proofs.lemmas.List.Concat.{flat_map-cons}
use Rattle.byte_fields.specs.FieldsLemmas.{some_is}
use Rattle.kv_types.specs.{Entry}
use Rattle.table_format.specs.{Block, IsBlock, TableRepresentsIn, block_bytes, block_entries}
use Rattle.table_format.specs.{block_line, block_lines, data_bytes}
use Rattle.byte_fields.specs.declared.format.Format.{Format}
use Rattle.table_format.specs.declared.IndexLine.{IndexLine}
use Rattle.sorted_table.proofs.LineBlocks.{block_in}

-- an element, and those around it
pub around : {A : Type 0} (xs : List A) (n : ℕ) (x : A) → slice_get xs n ≡ Some x
    → xs ≡ take n xs ++ x ∷ drop (suc n) xs
around [] n x at = absurd cc
around (y ∷ xs) zero x at = ap (λ z. z ∷ xs) (some_is y x at)
around (y ∷ xs) (suc n) x at = ap (λ l. y ∷ l) (around xs n x at)

pub length-block_lines : (format : Format) (place : ℕ) (blocks : List Block)
    → length (block_lines format place blocks) ≡ length blocks
length-block_lines format place [] = refl
length-block_lines format place (b ∷ blocks) =
    ap suc (length-block_lines format (place + length (block_bytes format b)) blocks)

-- the line of a block
pub line_of : (format : Format) (place : ℕ) (blocks : List Block) (n : ℕ) (block : Block)
    → slice_get blocks n ≡ Some block
    → slice_get (block_lines format place blocks) n
    ≡ Some (block_line format (place + length (data_bytes format (take n blocks))) block)
line_of format place [] n block at = absurd cc
line_of format place (b ∷ blocks) zero block at =
    ap (λ x. Some (block_line format place x)) (some_is b block at)
    ∙ ap (λ p. Some (block_line format p block)) (omega arith)
line_of format place (b ∷ blocks) (suc n) block at =
    let size : length (data_bytes format (b ∷ take n blocks))
    ≡ length (block_bytes format b) + length (data_bytes format (take n blocks)) =
    ap length (flat_map-cons (block_bytes format) b (take n blocks))
    ∙ length-append (block_bytes format b) (data_bytes format (take n blocks)) in
    line_of format (place + length (block_bytes format b)) blocks n block at
    ∙ ap (λ p. Some (block_line format p block)) (omega (arith, size))

-- block number n of a table is where its line says
pub record BlockNumber (format : Format) (bytes : List ℕ) (blocks : List Block) (line : IndexLine)
    (n : ℕ)
    : Type 0 where
  pub block : Block
  pub present : slice_get blocks n ≡ Some block
  pub is_block : IsBlock format (take line.len (drop line.place bytes)) (block_entries block)
  pub within : line.place + line.len ≤ length bytes

pub some_of : {A : Type 0} (xs : List A) (n : ℕ) → n < length xs
    → (x : A) × (slice_get xs n ≡ Some x)
some_of [] n lt = absurd (omega (arith, lt))
some_of (x ∷ xs) zero lt = (x, refl)
some_of (x ∷ xs) (suc n) lt = some_of xs n (omega (arith, lt))

pub block_number : (format : Format) (bytes : List ℕ) (entries : List Entry)
    (s : TableRepresentsIn format bytes entries)
    (n : ℕ) (line : IndexLine) → n < length s.blocks
    → slice_get (block_lines format 0 s.blocks) n ≡ Some line
    → BlockNumber format bytes s.blocks line n
block_number format bytes entries s n line within at =
    let b = some_of s.blocks n within in
    let is : block_line format (length (data_bytes format (take n s.blocks))) b.0 ≡ line =
    some_is (block_line format (length (data_bytes format (take n s.blocks))) b.0) line
    (sym (ap (λ p. Some (block_line format p b.0)) (omega arith))
    ∙ sym (line_of format 0 s.blocks n b.0 b.1)
    ∙ at)
    in
    let here = block_in format bytes entries s (take n s.blocks) b.0 (drop (suc n) s.blocks)
    (around s.blocks n b.0 b.1) in
    record {
      block = b.0;
      present = b.1;
      is_block = subst (λ (l : IndexLine). IsBlock format (take l.len (drop l.place bytes))
          (block_entries b.0)) is here.is_block;
      within = subst (λ (l : IndexLine). l.place + l.len ≤ length bytes) is here.within;
    }
