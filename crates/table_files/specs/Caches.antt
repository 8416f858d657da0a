-- The blocks that a cache has.
use Rattle.std.specs.Prelude.{ℕ, List}
use Rattle.byte_fields.specs.declared.format.Format.{Format}
use Rattle.table_files.specs.declared.cache.BlockCache.{BlockCache}
use Rattle.table_files.specs.Kept.{IsKeptBlock}

-- the cache has a block of this format with these bytes for the place of the file
abbrev pub CacheHolds : BlockCache → ℕ → ℕ → Format → List ℕ → Type 0
CacheHolds cache file place format bytes =
    IsKeptBlock cache.numbers cache.blocks.entries file place format bytes

-- the second cache has no block that the first one lacks
abbrev pub AddsNoBlock : BlockCache → BlockCache → Type 0
AddsNoBlock old new =
    (file place : ℕ) (format : Format) (bytes : List ℕ) → CacheHolds new file place format bytes
    → CacheHolds old file place format bytes
