-- Places in blocks.
use Rattle.std.specs.Prelude.{◌≡◌, ℕ, ◌+◌, List, length, Option, slice_get}
use Rattle.std.specs.Rc.{rc_slice_items}
use Rattle.kv_types.specs.{Entry}
use Rattle.byte_fields.specs.{◌>>=◌}
use Rattle.merge_iter.specs.declared.Direction.{Direction}
use Rattle.merge_iter.specs.declared.Direction.TheVariants.{Forward, Backward}
use Rattle.sorted_table.specs.declared.block_place.BlockPlace.{BlockPlace}
use Rattle.table_files.specs.{ReadsEntries, entry_read}

-- the entry at the place
abbrev pub place_entry : BlockPlace → Option Entry
place_entry place =
    slice_get (rc_slice_items place.block.starts) place.at >>= λ start.
    entry_read place.block.format (rc_slice_items place.block.bytes) start

-- these are the entries of the place's block
abbrev pub PlaceReads : BlockPlace → List Entry → Type 0
PlaceReads place entries =
    ReadsEntries place.block.format (rc_slice_items place.block.bytes)
    (rc_slice_items place.block.starts) entries

-- the second place is one of the same block, the one at this number
pub record IsMovedTo (at : ℕ) (old new : BlockPlace) : Type 0 where
  pub line : new.line ≡ old.line
  pub block : new.block ≡ old.block
  pub at_number : new.at ≡ at

-- the end of its block at which a walk in this direction begins
abbrev pub IsAtEnd : Direction → BlockPlace → Type 0
IsAtEnd Forward place = place.at ≡ 0
IsAtEnd Backward place = place.at + 1 ≡ length (rc_slice_items place.block.starts)
