-- The block of a line, as a read of the file answers.
use Rattle.std.proofs.Common.{◌≡◌, ℕ, ◌≤◌, ◌<◌, List, length, Option, Some, None, Result, Ok, Err}
use Rattle.std.proofs.Common.{MatchResult, sym, ap, subst, ◌∙◌, arith, IfOk}
use Rattle.std.specs.Option.{IfSome, IsSomeAnd, ok_or}
use Rattle.std.specs.List.{slice_get}
use Rattle.std.specs.Rc.{rc_slice_items}
use Rattle.disk.specs.{IsEnvironmental, State}
use Rattle.table_format.specs.{IsBlock, block_entries}
use Rattle.byte_fields.specs.declared.format.Format.{Format}
use Rattle.table_format.specs.declared.IndexLine.{IndexLine}
use Rattle.table_format.specs.declared.FileError.{FileError}
use Rattle.table_format.specs.declared.FileError.TheVariants as reading
use Rattle.table_files.specs.declared.block.CheckedBlock.{CheckedBlock}
use Rattle.table_files.specs.{BlockAnswer, known_block_answered}
use Rattle.sorted_table.specs.declared.block_place.BlockPlace.{BlockPlace}
use Rattle.sorted_table.specs.BlockPlaces.{PlaceReads}
use Rattle.sorted_table.specs.LineSizes.{IsBounded, block_size}
use Rattle.sorted_table.specs.TableCursors.{HasLines, IsPlaceIn}
use Rattle.sorted_table.proofs.BlockNumbers.{BlockNumber, block_number, length-block_lines}

-- the block of a line of a table
pub block_of_line : (format : Format) (disk : State) (file : ℕ) (lines : List IndexLine) (n : ℕ)
    (line : IndexLine)
    (t : HasLines format (disk file) lines) → n < length lines → slice_get lines n ≡ Some line
    → BlockNumber format t.bytes t.represents.blocks line n
block_of_line format disk file lines n line t within at =
    block_number format t.bytes t.entries t.represents n line
    (omega (arith, within, ap length t.indexed, length-block_lines format 0 t.represents.blocks))
    (ap (λ l. slice_get l n) (sym t.indexed) ∙ at)

pub block_answer : (format : Format) (disk : State) (file : ℕ) (lines : List IndexLine) (n : ℕ)
    (line : IndexLine)
    (t : HasLines format (disk file) lines)
    (b : BlockNumber format t.bytes t.represents.blocks line n)
    (result : Result CheckedBlock FileError)
    → BlockAnswer disk file line.place line.len format result
    → MatchResult result
    (λ block. IsBlock block.format (rc_slice_items block.bytes) (block_entries b.block))
    (IsEnvironmental reading.Disk reading.Memory)
block_answer format disk file lines n line t b (Ok block) answer =
    let is = known_block_answered disk file line.place line.len format (Ok block) t.bytes
    (block_entries b.block) answer t.present b.within b.is_block in
    subst (λ f. IsBlock f (rc_slice_items block.bytes) (block_entries b.block)) (sym answer.2)
    (subst (λ part. IsBlock format part (block_entries b.block)) (sym is) b.is_block)
block_answer format disk file lines n line t b (Err e) answer =
    known_block_answered disk file line.place line.len format (Err e) t.bytes
    (block_entries b.block) answer t.present b.within b.is_block

-- the place in the block
pub place_in : (format : Format) (disk : State) (file : ℕ) (lines : List IndexLine) (n : ℕ)
    (line : IndexLine)
    (t : HasLines format (disk file) lines)
    (b : BlockNumber format t.bytes t.represents.blocks line n)
    (it : Option BlockPlace) → IfSome it (λ place. (place.line ≡ n) × (place.at ≡ 0))
    → IsSomeAnd it (λ place. PlaceReads place (block_entries b.block))
    → IfOk (ok_or it reading.Damaged) (IsPlaceIn t.represents.blocks)
place_in format disk file lines n line t b (Some place) is reads =
    record {
      block = b.block;
      present = ap (slice_get t.represents.blocks) is.0 ∙ b.present;
      reads = reads;
    }
place_in format disk file lines n line t b None is reads = tt

-- ---- refusals

-- the entries of a block of a table are not damaged
pub places_are_right : {A : Type 0} (P : A → Type 0) (it : Option A)
    → ok_or it reading.Damaged ≡ Err reading.Damaged → IsSomeAnd it P → ⊥
places_are_right P (Some x) is some = absurd cc
places_are_right P None is some = some

pub ok_part : {A E : Type 0} (P : A → Type 0) (Q : E → Type 0) (result : Result A E)
    → MatchResult result P Q → IfOk result P
ok_part P Q (Ok x) m = m
ok_part P Q (Err e) m = tt

-- ---- what holds of any block

pub first_place : (lines : List IndexLine) (n : ℕ) (line : IndexLine) (size : ℕ)
    → slice_get lines n ≡ Some line → size ≡ line.len → (it : Option BlockPlace)
    → IfSome it (λ place. (place.line ≡ n) × (place.at ≡ 0))
    → IfSome it (λ place. length (rc_slice_items place.block.starts) ≤ size)
    → IfOk (ok_or it reading.Damaged)
    (λ place. (place.line ≡ n) × (place.at ≡ 0) × IsBounded lines place)
first_place lines n line size at len (Some place) first few =
    let same : block_size (slice_get lines place.line) ≡ line.len =
    ap (λ k. block_size (slice_get lines k)) first.0 ∙ ap block_size at in
    (first.0, first.1, omega (arith, same, len, few))
first_place lines n line size at len None first few = tt
