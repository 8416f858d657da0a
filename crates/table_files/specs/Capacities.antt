-- The bound of a cache, as a number.
use Rattle.std.specs.Prelude.{◌≡◌}
use Rattle.table_files.specs.declared.cached_disk.TheConstants.{MAX_BLOCKS}

-- how many blocks a cache may be made for, at most
abbrev pub CapacityBoundIs : Type 0
CapacityBoundIs = MAX_BLOCKS ≡ 65536
