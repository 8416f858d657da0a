-- The steps of a builder: an entry is checked, a block is closed, the table is ended.
use Rattle.std.specs.Prelude.{◌≡◌, ◌<◌, ◌≤◌, ◌*◌, ◌+◌, ◌^◌, List, [], ◌∷◌, ◌++◌, length, All}
use Rattle.std.specs.Prelude.{Result, Ok, Err}
use Rattle.kv_types.specs.{Entry}
use Rattle.table_format.specs.declared.TableError.{TableError}
use Rattle.table_format.specs.declared.TableError.TheVariants as table
use Rattle.table_format.specs.declared.sizes.TheConstants.{MAX_DATA}
use Rattle.table_format.specs.{AreRising, Block, IsTableEntry}
use Rattle.table_format.specs.{block_bytes, block_entries, data_bytes}
use Rattle.table_format.specs.{block_lines, entries_of_blocks, entry_bytes, line_bytes}
use Rattle.byte_fields.specs.declared.format.Format.TheVariants.{Two}
use Rattle.table_builder.specs.declared.builder.Builder.{Builder}
use Rattle.table_builder.specs.Builders.{HasBuilderFailed, HoldsBlocks}
use Rattle.table_builder.specs.Divisions.{division, finished_blocks}
use Rattle.table_builder.specs.Keys.{KnowsKeys}
use Rattle.table_builder.specs.OpenParts.{HoldsItems}

-- ---- the check of an entry

-- the answers of the check by the builder alone
abbrev pub CheckStatus : {T : Type 0} → Result T TableError → Builder → Type 0
CheckStatus (Ok _) it = HasBuilderFailed it → ⊥
CheckStatus (Err table.Disk) it = ⊥
CheckStatus (Err table.Memory) it = ⊥
CheckStatus (Err table.Damaged) it = ⊥
CheckStatus (Err table.Order) it = HasBuilderFailed it → ⊥
CheckStatus (Err table.TooLarge) it = HasBuilderFailed it → ⊥
CheckStatus (Err table.Failed) it = HasBuilderFailed it

-- ---- closing a block

-- the open block and its last key are those of one more block, which fits its line
pub record CanClose (it : Builder) (blocks : List Block) (one : Block) : Type 0 where
  pub closed : HoldsBlocks it blocks
  pub entries : HoldsItems (entry_bytes Two) it.block (block_entries one)
  pub key : it.keys.last ≡ one.last.key
  pub number : it.keys.number ≡ one.last.number
  pub small : length (block_bytes Two one) < 2 ^ 32
  pub few : length blocks + 1 < 2 ^ 32
  pub room : length (data_bytes Two blocks) < 2 ^ 62

-- the buffer has the bytes of the block, and the index its line
pub record HasSealed (it : Builder) (blocks : List Block) (one : Block) : Type 0 where
  pub bytes : it.block.bytes.items ≡ block_bytes Two one
  pub index : HoldsItems (line_bytes Two) it.index (block_lines Two 0 (blocks ++ one ∷ []))

-- the block is closed, and none is open
pub record HasClosed (it : Builder) (blocks : List Block) (one : Block) : Type 0 where
  pub closed : HoldsBlocks it (blocks ++ one ∷ [])
  pub empty : HoldsItems (entry_bytes Two) it.block []

-- what closing a block leaves as it was
pub record KeepsKeys (old new : Builder) : Type 0 where
  pub file : new.file ≡ old.file
  pub keys : new.keys ≡ old.keys
  pub has_failed : new.has_failed ≡ old.has_failed

-- ---- the end

-- The entries stand in the blocks of their division, which are closed, and the table can be ended
-- behind them.
pub record CanEnd (it : Builder) (blocks : List Block) (entries : List Entry) : Type 0 where
  pub closed : HoldsBlocks it blocks
  pub keys : KnowsKeys it.keys entries
  pub are : blocks ≡ finished_blocks (division entries)
  pub division : entries ≡ entries_of_blocks blocks
  pub some : 1 ≤ length entries
  pub each : All IsTableEntry entries
  pub rising : AreRising entries
  pub size : length (data_bytes Two blocks) ≤ MAX_DATA
  pub small : All (λ block. length (block_bytes Two block) < 2 ^ 32) blocks
  pub long : 4104 * length blocks ≤ length (data_bytes Two blocks) + 4104
