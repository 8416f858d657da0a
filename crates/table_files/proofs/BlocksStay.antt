-- Blocks of a cache stay blocks of their files.
use Rattle.std.proofs.Common.{◌≡◌, ◌⊎◌, inl, inr, ℕ, List, sym, subst}
use Rattle.std.proofs.lemmas.Bool.{cases_eq}
use Rattle.disk.specs.{State, Slot, IsSame, IsSameBut, seen}
use Rattle.byte_fields.specs.declared.format.Format.{Format}
use Rattle.table_files.specs.declared.cache.BlockCache.{BlockCache}
use Rattle.table_files.specs.Caches.{CacheHolds, AddsNoBlock}
use Rattle.table_files.specs.BlockReads.{IsPartAt, IsBlockAt, AreBlocksAt}

-- in a file that is as it was
pub same_block : (old new : State) (file place : ℕ) (format : Format) (part : List ℕ)
    → new file ≡ old file
    → IsBlockAt old file place format part → IsBlockAt new file place format part
same_block old new file place format part same at = (
  subst (λ (slot : Slot). IsPartAt (seen slot) place part) (sym same) at.0,
  at.1,
)

-- on a disk that is as it was, in a cache with no block more
pub blocks_stay : (old new : State) (before after : BlockCache) → AreBlocksAt old before
    → IsSame old new → AddsNoBlock before after → AreBlocksAt new after
blocks_stay old new before after right same adds file place format part holds =
    same_block old new file place format part (same file)
    (right file place format part (adds file place format part holds))

-- in a cache without blocks of the file that was changed
pub blocks_beside : (old new : State) (before after : BlockCache) (file : ℕ)
    → AreBlocksAt old before → IsSameBut file old new → AddsNoBlock before after
    → ((place : ℕ) (format : Format) (part : List ℕ) → CacheHolds after file place format part → ⊥)
    → AreBlocksAt new after
blocks_beside old new before after file right same adds gone f place format part holds =
    elim (cases_eq f file) [
      | inl here ↦ absurd (gone place format part
          (subst (λ (n : ℕ). CacheHolds after n place format part) here holds))
      | inr apart ↦ same_block old new f place format part (same f apart)
          (right f place format part (adds f place format part holds))
    ]

-- with one block more that its file has
pub blocks_and_one : (disk : State) (before after : BlockCache) (file place : ℕ) (kind : Format)
    (part : List ℕ)
    → AreBlocksAt disk before → IsBlockAt disk file place kind part
    → ((f p : ℕ) (format : Format) (bytes : List ℕ) → CacheHolds after f p format bytes
    → CacheHolds before f p format bytes ⊎ ((f ≡ file) × (p ≡ place) × (format ≡ kind)
    × (bytes ≡ part)))
    → AreBlocksAt disk after
blocks_and_one disk before after file place kind part right at one f p format bytes holds =
    elim (one f p format bytes holds) [
      | inl old ↦ right f p format bytes old
      | inr new ↦ subst (λ (n : ℕ). IsBlockAt disk n p format bytes) (sym new.0)
          (subst (λ (n : ℕ). IsBlockAt disk file n format bytes) (sym new.1)
          (subst (λ (k : Format). IsBlockAt disk file place k bytes) (sym new.2)
          (subst (λ (b : List ℕ). IsBlockAt disk file place kind b) (sym new.3) at)))
    ]
