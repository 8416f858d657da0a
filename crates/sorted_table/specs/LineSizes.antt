-- How many bytes the blocks of an index's lines have.
use Rattle.std.specs.Prelude.{ℕ, ◌+◌, ◌-◌, ◌≤◌, List, length, take, drop, slice_get, Option, Some}
use Rattle.std.specs.Prelude.{None}
use Rattle.std.specs.List.{sum_by}
use Rattle.std.specs.Rc.{rc_slice_items}
use Rattle.merge_iter.specs.declared.Direction.{Direction}
use Rattle.merge_iter.specs.declared.Direction.TheVariants.{Forward, Backward}
use Rattle.table_format.specs.declared.IndexLine.{IndexLine}
use Rattle.sorted_table.specs.declared.block_place.BlockPlace.{BlockPlace}

-- the bytes of a line's block, if there is a line
abbrev pub block_size : Option IndexLine → ℕ
block_size None = 0
block_size (Some line) = line.len

-- the bytes of all blocks
abbrev pub blocks_size : List IndexLine → ℕ
blocks_size lines = sum_by (λ line. line.len) lines

-- the block has no more entries than its line says bytes
abbrev pub IsBounded : List IndexLine → BlockPlace → Type 0
IsBounded lines place =
    length (rc_slice_items place.block.starts) ≤ block_size (slice_get lines place.line)

-- How many steps are left from a place on, at most: the entries that are left of the block, and
-- the bytes of the blocks ahead.
abbrev pub place_left : List IndexLine → BlockPlace → Direction → ℕ
place_left lines place Forward =
    (length (rc_slice_items place.block.starts) - place.at)
    + blocks_size (drop (place.line + 1) lines)
place_left lines place Backward = (place.at + 1) + blocks_size (take place.line lines)

-- none are left where the cursor stands on none
abbrev pub steps_left : List IndexLine → Option BlockPlace → Direction → ℕ
steps_left lines None way = 0
steps_left lines (Some place) way = place_left lines place way
