-- How a builder divides entries into blocks.
use Rattle.std.specs.Prelude.{ℕ, List, [], ◌∷◌, ◌++◌, length, nat_le, if◌then◌else◌}
use Rattle.kv_types.specs.{Entry}
use Rattle.table_format.specs.declared.sizes.TheConstants.{BLOCK_SIZE}
use Rattle.table_format.specs.{Block, block_content, data_bytes}
use Rattle.byte_fields.specs.declared.format.Format.TheVariants.{Two}

-- blocks that are closed, and the entries of the one that is not
pub record Division : Type 0 where
  pub closed : List Block
  pub opened : List Entry

-- one entry more; it closes its block if that has reached its size
abbrev pub with_entry : Division → Entry → Division
with_entry it entry =
    if nat_le BLOCK_SIZE (length (block_content Two (it.opened ++ entry ∷ [])))
    then record {
      closed = it.closed ++ record { front = it.opened; last = entry } ∷ [];
      opened = [];
    }
    else record { closed = it.closed; opened = it.opened ++ entry ∷ [] }

-- a division with these entries added, in order
abbrev pub with_entries : Division → List Entry → Division
with_entries it [] = it
with_entries it (entry ∷ entries) = with_entries (with_entry it entry) entries

-- the blocks of entries that are added one after another
abbrev pub division : List Entry → Division
division entries = with_entries (record { closed = []; opened = [] }) entries

-- the block of an entry and others behind it
abbrev pub block_from : Entry → List Entry → Block
block_from entry [] = record { front = []; last = entry }
block_from entry (next ∷ others) = record {
  front = entry ∷ (block_from next others).front;
  last = (block_from next others).last;
}

-- the block of these entries, if there are any
abbrev pub last_block : List Entry → List Block
last_block [] = []
last_block (entry ∷ others) = block_from entry others ∷ []

-- the blocks if no entry is added any more
abbrev pub finished_blocks : Division → List Block
finished_blocks it = it.closed ++ last_block it.opened

-- the bytes of the blocks of these entries, if the table is finished behind them
abbrev pub data_size : List Entry → ℕ
data_size entries = length (data_bytes Two (finished_blocks (division entries)))
