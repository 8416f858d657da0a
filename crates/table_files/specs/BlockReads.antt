-- Blocks of files, and what a read of one answers.
use Rattle.std.specs.Prelude.{◌≡◌, ℕ, ◌+◌, ◌≤◌, List, length, take, drop, Option, Some}
use Rattle.std.specs.Prelude.{Result, Ok, Err, MatchResult}
use Rattle.std.proofs.Common.{inl, inr, refl, sym, ap, subst, ◌∙◌, arith}
use Rattle.std.proofs.lemmas.List.{length-take, length-drop}
use Rattle.std.specs.Option.{option_map}
use Rattle.std.specs.Rc.{rc_slice_items}
use Rattle.disk.specs.{IsEnvironmental, State, seen}
use Rattle.kv_types.specs.{Entry}
use Rattle.table_format.specs.{IsBlock, IsCheckedBlock}
use Rattle.byte_fields.specs.declared.format.Format.{Format}
use Rattle.table_format.specs.declared.FileError.{FileError}
use Rattle.table_format.specs.declared.FileError.TheVariants as reading
use Rattle.table_files.specs.declared.block.CheckedBlock.{CheckedBlock}
use Rattle.table_files.specs.declared.cache.BlockCache.{BlockCache}
use Rattle.table_files.specs.Caches.{CacheHolds}

-- the part is what the file has from this place on
abbrev pub IsPartAt : Option (List ℕ) → ℕ → List ℕ → Type 0
IsPartAt file place part =
    option_map (λ bytes. take (length part) (drop place bytes)) file ≡ Some part

-- the file has the part at the place, and the part is a block of some entries in the format
abbrev pub IsBlockAt : State → ℕ → ℕ → Format → List ℕ → Type 0
IsBlockAt disk file place format part =
    IsPartAt (seen (disk file)) place part × ∥ IsCheckedBlock format part ∥₁

-- each block of the cache is one that its file has
abbrev pub AreBlocksAt : State → BlockCache → Type 0
AreBlocksAt disk cache =
    (file place : ℕ) (format : Format) (part : List ℕ) → CacheHolds cache file place format part
    → IsBlockAt disk file place format part

-- The answers of a read of a block of this length in the format: the block that the file has there,
-- or `Damaged` where it has none.
abbrev pub BlockAnswer : State → ℕ → ℕ → ℕ → Format → Result CheckedBlock FileError → Type 0
BlockAnswer disk file place len format (Ok block) =
    (length (rc_slice_items block.bytes) ≡ len)
    × IsBlockAt disk file place format (rc_slice_items block.bytes)
    × (block.format ≡ format)
BlockAnswer disk file place len format (Err reading.Damaged) =
    (part : List ℕ) → length part ≡ len → IsBlockAt disk file place format part → ⊥
BlockAnswer disk file place len format (Err reading.Disk) = Unit {0}
BlockAnswer disk file place len format (Err reading.Memory) = Unit {0}

-- ---- files whose bytes are known

-- The file has these bytes, and so many of them from the place on are a block in the format: the
-- answer is that block, but for the device and want of memory.
abbrev pub KnownBlocksAreAnswered : Type 0
KnownBlocksAreAnswered = (disk : State) (file place len : ℕ) (format : Format)
    (result : Result CheckedBlock FileError) (bytes : List ℕ) (entries : List Entry) →
    BlockAnswer disk file place len format result → seen (disk file) ≡ Some bytes →
    place + len ≤ length bytes → IsBlock format (take len (drop place bytes)) entries →
    MatchResult result (λ block. rc_slice_items block.bytes ≡ take len (drop place bytes))
    (IsEnvironmental reading.Disk reading.Memory)

-- the part of this length that the file has there
part_of : (file : Option (List ℕ)) (bytes part : List ℕ) (place len : ℕ) → file ≡ Some bytes →
    length part ≡ len → IsPartAt file place part → part ≡ take len (drop place bytes)
part_of file bytes part place len is size at =
    let here : IsPartAt (Some bytes) place part =
    subst (λ (f : Option (List ℕ)). IsPartAt f place part) is at in
    let same : take (length part) (drop place bytes) ≡ part = cc in
    sym same ∙ ap (λ (n : ℕ). take n (drop place bytes)) size

-- it is there
is_part : (file : Option (List ℕ)) (bytes : List ℕ) (place len : ℕ) → file ≡ Some bytes →
    length (take len (drop place bytes)) ≡ len → IsPartAt file place (take len (drop place bytes))
is_part file bytes place len is size =
    subst (λ (f : Option (List ℕ)). IsPartAt f place (take len (drop place bytes))) (sym is)
    (ap Some (ap (λ (n : ℕ). take n (drop place bytes)) size))

-- a block that is known to read is answered, or the device or memory refuses it
pub known_block_answered : KnownBlocksAreAnswered
known_block_answered disk file place len format (Ok block) bytes entries answer is within known =
    part_of (seen (disk file)) bytes (rc_slice_items block.bytes) place len is answer.0 answer.1.0
known_block_answered disk file place len format (Err reading.Damaged) bytes entries answer is within
    known
    =
    let size : length (take len (drop place bytes)) ≡ len =
    omega (arith, within, length-take len (drop place bytes), length-drop place bytes) in
    absurd (answer (take len (drop place bytes)) size
    (is_part (seen (disk file)) bytes place len is size, ∣ (entries, known) ∣₁))
known_block_answered disk file place len format (Err reading.Disk) bytes entries answer is within
    known =
    inl refl
known_block_answered disk file place len format (Err reading.Memory) bytes entries answer is within
    known =
    inr refl
