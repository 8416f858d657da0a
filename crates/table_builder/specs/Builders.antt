-- A builder, the entries that were added to it, and its file.
use Rattle.std.specs.Prelude.{◌≡◌, ℕ, ◌<◌, ◌≤◌, List, [], ◌∷◌, ◌++◌, length, All}
use Rattle.std.specs.Prelude.{IfSome, IsTrue, Result, Ok, Err}
use Rattle.disk.specs.{Kept, Slot}
use Rattle.kv_types.specs.{Entry}
use Rattle.table_format.specs.declared.sizes.TheConstants.{BLOCK_SIZE, MAX_DATA}
use Rattle.table_format.specs.declared.TableError.{TableError}
use Rattle.table_format.specs.declared.TableError.TheVariants as table
use Rattle.table_format.specs.{AreRising, Block, CanFollow, IsTableEntry, TableRepresentsIn}
use Rattle.table_format.specs.{block_content, block_lines, data_bytes, entry_bytes, last_entry}
use Rattle.table_format.specs.{line_bytes}
use Rattle.byte_fields.specs.declared.format.Format.TheVariants.{Two}
use Rattle.table_builder.specs.declared.builder.Builder.{Builder}
use Rattle.table_builder.specs.declared.builder.Finished.{Finished}
use Rattle.table_builder.specs.Divisions.{Division, data_size, division, finished_blocks}
use Rattle.table_builder.specs.Fresh.{IsFresh}
use Rattle.table_builder.specs.Keys.{KnowsKeys, first_entry}
use Rattle.table_builder.specs.OpenParts.{HoldsItems}

-- the file of a builder
abbrev pub builder_file : Builder → ℕ
builder_file it = it.file

-- a call has failed, and every later one is refused
abbrev pub HasBuilderFailed : Builder → Type 0
HasBuilderFailed it = IsTrue it.has_failed

-- the number of entries that were added
abbrev pub entry_count : Builder → ℕ
entry_count it = it.keys.count

-- ---- under way

-- these blocks are closed: their bytes are counted, and the index has their lines
pub record HoldsBlocks (it : Builder) (blocks : List Block) : Type 0 where
  pub written : it.written ≡ length (data_bytes Two blocks)
  pub index : HoldsItems (line_bytes Two) it.index (block_lines Two 0 blocks)

-- these blocks are closed, and the others' entries are in the buffer
pub record HoldsDivision (it : Builder) (parts : Division) : Type 0 where
  pub closed : HoldsBlocks it parts.closed
  pub block : HoldsItems (entry_bytes Two) it.block parts.opened

-- the builder has these entries
pub record HoldsEntries (it : Builder) (entries : List Entry) : Type 0 where
  pub each : All IsTableEntry entries
  pub rising : AreRising entries
  pub size : data_size entries ≤ MAX_DATA
  pub keys : KnowsKeys it.keys entries
  pub parts : HoldsDivision it (division entries)
  pub works : HasBuilderFailed it → ⊥

-- These entries were added to the builder, and its file has the blocks that are closed.
pub record Builds (slot : Slot) (it : Builder) (entries : List Entry) : Type 0 where
  pub holds : HoldsEntries it entries
  pub file : IsFresh slot (data_bytes Two (division entries).closed)

-- no entries are those of the builder: a call of it has failed
abbrev pub BuildsNothing : Builder → Type 0
BuildsNothing it = (slot : Slot) (entries : List Entry) → Builds slot it entries → ⊥

-- ---- the answers of `add`

-- the entry stands behind these, and the blocks have room for it
pub record CanAdd (entries : List Entry) (entry : Entry) : Type 0 where
  pub follows : CanFollow entries entry
  pub fits : data_size (entries ++ entry ∷ []) ≤ MAX_DATA

-- why an entry is not added to these: device and memory are wanting only for one that can be
abbrev pub AddRefusal : TableError → List Entry → Entry → Type 0
AddRefusal table.Disk entries entry = CanAdd entries entry
AddRefusal table.Damaged entries entry = ⊥
AddRefusal table.Order entries entry = CanFollow entries entry → ⊥
AddRefusal table.Memory entries entry = CanAdd entries entry
AddRefusal table.TooLarge entries entry =
    CanFollow entries entry × (MAX_DATA < data_size (entries ++ entry ∷ []))
AddRefusal table.Failed entries entry = ⊥

-- the same on any disk: one that is damaged may be why, too
abbrev pub HeldRefusal : TableError → List Entry → Entry → Type 0
HeldRefusal table.Damaged entries entry = CanAdd entries entry
HeldRefusal e entries entry = AddRefusal e entries entry

-- these entries fill no block
abbrev pub IsPartOfBlock : List Entry → Type 0
IsPartOfBlock entries = length (block_content Two entries) < BLOCK_SIZE

-- the block that is open behind these entries is open behind this one too
abbrev pub LeavesBlockOpen : List Entry → Entry → Type 0
LeavesBlockOpen entries entry = IsPartOfBlock ((division entries).opened ++ entry ∷ [])

-- no call of a device is why
abbrev pub NeedsNoDevice : {T : Type 0} → Result T TableError → Type 0
NeedsNoDevice (Ok _) = Unit {0}
NeedsNoDevice (Err table.Disk) = ⊥
NeedsNoDevice (Err table.Damaged) = ⊥
NeedsNoDevice (Err table.Order) = Unit {0}
NeedsNoDevice (Err table.Memory) = Unit {0}
NeedsNoDevice (Err table.TooLarge) = Unit {0}
NeedsNoDevice (Err table.Failed) = Unit {0}

-- the answers of `add`, and the builder after it
abbrev pub AddOutcome : {T : Type 0} → List Entry → Entry → Result T TableError → Slot → Builder →
    Type 0
AddOutcome entries entry (Ok _) slot new = Builds slot new (entries ++ entry ∷ [])
AddOutcome entries entry (Err e) slot new = AddRefusal e entries entry

-- The answers of `add` on any disk, where the builder has these entries in memory: after Ok it has
-- this one behind them. It is refused as on an honest disk, or for damage.
abbrev pub HeldOutcome : {T : Type 0} → List Entry → Entry → Result T TableError → Builder → Type 0
HeldOutcome entries entry (Ok _) new = HoldsEntries new (entries ++ entry ∷ [])
HeldOutcome entries entry (Err e) new = HeldRefusal e entries entry

-- The answers of `add` by the builder alone, which stays with its file. Where the entry is refused,
-- and after a failure, builder and disk are the same.
abbrev pub AddStatus : {T : Type 0} → Result T TableError → Builder → Builder → Type 0 → Type 0
AddStatus (Ok _) old new untouched = (HasBuilderFailed old → ⊥) × (HasBuilderFailed new → ⊥)
    × (builder_file new ≡ builder_file old)
AddStatus (Err table.Disk) old new untouched = (HasBuilderFailed old → ⊥) × HasBuilderFailed new
    × (builder_file new ≡ builder_file old)
AddStatus (Err table.Damaged) old new untouched = (HasBuilderFailed old → ⊥) × HasBuilderFailed new
    × (builder_file new ≡ builder_file old)
AddStatus (Err table.Memory) old new untouched = (HasBuilderFailed old → ⊥) × HasBuilderFailed new
    × (builder_file new ≡ builder_file old)
AddStatus (Err table.Order) old new untouched =
    (HasBuilderFailed old → ⊥) × (new ≡ old) × untouched
AddStatus (Err table.TooLarge) old new untouched =
    (HasBuilderFailed old → ⊥) × (new ≡ old) × untouched
AddStatus (Err table.Failed) old new untouched = HasBuilderFailed old × (new ≡ old) × untouched

-- ---- the answers of `finish`

-- The file reads as bytes that represent the entries in format 2, and a crash leaves it so.
pub record HoldsTable (slot : Slot) (entries : List Entry) : Type 0 where
  pub bytes : List ℕ
  pub durable : slot ≡ Kept bytes bytes []
  pub represents : TableRepresentsIn Two bytes entries

-- The table of these entries is in the file, in the blocks of their division, with this length and
-- these ends.
pub record IsFinishedTable (slot : Slot) (entries : List Entry) (it : Finished) : Type 0 where
  pub holds : HoldsTable slot entries
  pub blocks : holds.represents.blocks ≡ finished_blocks (division entries)
  pub len : it.length ≡ length holds.bytes
  pub least : IfSome (first_entry entries) (λ entry. it.least ≡ entry.key)
  pub greatest : IfSome (last_entry entries) (λ entry. it.greatest ≡ entry.key)

-- the answers of `finish` by the builder alone
abbrev pub FinishStatus : {T : Type 0} → Result T TableError → Builder → Type 0
FinishStatus (Ok _) it = HasBuilderFailed it → ⊥
FinishStatus (Err table.Disk) it = HasBuilderFailed it → ⊥
FinishStatus (Err table.Memory) it = HasBuilderFailed it → ⊥
FinishStatus (Err table.Damaged) it = HasBuilderFailed it → ⊥
FinishStatus (Err table.Order) it = ⊥
FinishStatus (Err table.TooLarge) it = ⊥
FinishStatus (Err table.Failed) it = HasBuilderFailed it
