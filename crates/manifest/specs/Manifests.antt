-- An open manifest, and the version that its slots represent.
use Rattle.std.specs.Prelude.{◌≡◌, ◌≢◌, ℕ, ◌+◌, ◌≤◌, List, [], ◌∷◌, length, map, All}
use Rattle.std.specs.Prelude.{IsSomeAnd, IsTrue}
use Rattle.configurations.specs.{IsId}
use Rattle.disk.specs.{Contents, EndsOutOfRange, State, seen}
use Rattle.record_log.specs.declared.log.TheConstants.{MAX_RECORD}
use Rattle.record_log.specs.{HasNoRoom, IsDurableAs, file_of, first_length, gate_of}
use Rattle.manifest.specs.declared.manifest.Manifest.{Manifest}
use Rattle.manifest.specs.declared.error.ManifestError.{ManifestError}
use Rattle.manifest.specs.declared.error.ManifestError.TheVariants as manifest
use Rattle.version_edits.specs.{NodeVersion, Change, empty, AreFit, IsFit, after_all}
use Rattle.version_edits.specs.{IsChange, change_text}
use Rattle.version_edits.specs.{first_version}
use Rattle.manifest.specs.Slots.{IsNotCreated, IsOldStore, IsSlotFile, ManifestRepresents}
use Rattle.manifest.specs.Slots.{SlotsRead, other_slot}
use Rattle.manifest.specs.Holds.{IsLongLog, SlotsHold, first_slot}
use Rattle.manifest.specs.Replace.{closing_calls}

-- an earlier call failed, so the manifest has to be opened again
abbrev pub ManifestHasFailed : Manifest → Type 0
ManifestHasFailed manifest = IsTrue manifest.has_failed

-- the version that the manifest knows, of its node
abbrev pub version_of : Manifest → NodeVersion
version_of manifest = manifest.version

-- the record of an edit would end past the greatest place of a file
abbrev pub ManifestHasNoRoom : Manifest → Change → Type 0
ManifestHasNoRoom manifest change = HasNoRoom manifest.slots.log (change_text change)

-- the file of the slot that counts, and that of the other
abbrev pub counting_file : Manifest → ℕ
counting_file manifest = file_of manifest.slots.log

-- the file of the other slot
abbrev pub spare_file : Manifest → ℕ
spare_file manifest = other_slot manifest.slots.slot

-- the calls of the disk that a rewrite needs: six, and one more where the spare slot's gate is open
abbrev pub rewrite_calls : Manifest → ℕ
rewrite_calls manifest = closing_calls manifest.slots.other_is_open + 5

-- the slot that counts has this generation
abbrev pub generation_of : Manifest → ℕ
generation_of manifest = manifest.slots.generation

-- the same slot counts, in its generation, and the other one is spare
abbrev pub HasSameSlots : (old new : Manifest) → Type 0
HasSameSlots old new = (counting_file new ≡ counting_file old)
    × (spare_file new ≡ spare_file old) × (generation_of new ≡ generation_of old)

-- the length of the slot that counts, up to its closed gate, and that of its first record
abbrev pub slot_length : Manifest → ℕ
slot_length manifest = gate_of manifest.slots.log + 1

-- the length of the first record of the slot that counts
abbrev pub first_edit_length : Manifest → ℕ
first_edit_length manifest = first_length manifest.slots.log

-- the slot that counts is so long that a rewrite is due
abbrev pub HasLongSlot : Manifest → Type 0
HasLongSlot manifest = IsLongLog manifest.slots.log

-- one more record of the greatest length would end past the greatest place of a file
abbrev pub HasFullSlot : Manifest → Type 0
HasFullSlot manifest = EndsOutOfRange (gate_of manifest.slots.log) (MAX_RECORD + 6)

-- the manifest works, the slots hold edits that give the version, and it knows that version
pub record ManifestHolds (disk : State) (manifest : Manifest) (named : NodeVersion) : Type 0 where
  pub works : ManifestHasFailed manifest → ⊥
  pub knows : manifest.version ≡ named
  pub id : IsId named.id
  pub changes : List Change
  pub some : changes ≢ []
  pub each : All IsChange changes
  pub fit : AreFit empty changes
  pub is : named.version ≡ after_all empty changes
  pub records : SlotsHold disk manifest.slots named.id (map change_text changes)

-- the slots of a rewritten manifest hold one edit, which gives the version
pub record IsRewritten (disk : State) (manifest : Manifest) (named : NodeVersion) : Type 0 where
  pub holds : ManifestHolds disk manifest named
  pub one : length holds.changes ≡ 1

-- the manifest holds the version that the files represented, and the slots read as before
pub record IsOpenedManifest (left : Contents) (new : State) (manifest : Manifest) : Type 0 where
  pub had : ManifestRepresents (version_of manifest) left
  pub holds : ManifestHolds new manifest (version_of manifest)
  pub read : SlotsRead new left

-- a new manifest durably has the first version of a node: in file 1 an open slot of generation 1
-- with one edit, and in file 2 a closed gate
pub record HasFirstSlots (disk : State) (id : ℕ) (ids : List ℕ) : Type 0 where
  pub first : IsDurableAs disk 1 (first_slot id ids)
  pub second : IsDurableAs disk 2 (0 ∷ [])

-- a created manifest holds the first version of a node, in its first slots
pub record IsNewManifest (disk : State) (id : ℕ) (ids : List ℕ) (manifest : Manifest) : Type 0 where
  pub holds : ManifestHolds disk manifest (first_version id ids)
  pub slots : HasFirstSlots disk id ids

-- why files are not opened: the machine refused, no store was created, the slot that counts is of
-- format 1, or they represent no version
abbrev pub ManifestRefusal : ManifestError → Contents → Type 0
ManifestRefusal manifest.Disk left = Unit {0}
ManifestRefusal manifest.Damaged left =
    (IsNotCreated left → ⊥) × ((named : NodeVersion) → ManifestRepresents named left → ⊥)
    × (IsOldStore left → ⊥)
ManifestRefusal manifest.NotCreated left = IsNotCreated left
ManifestRefusal manifest.Memory left = Unit {0}
ManifestRefusal manifest.Failed left = ⊥
ManifestRefusal manifest.OldFormat left = IsOldStore left

-- the files that a manifest changes are the two slots
abbrev pub ManifestHasSlots : Type 0
ManifestHasSlots = (disk : State) (manifest : Manifest) (named : NodeVersion) →
    ManifestHolds disk manifest named →
    IsSlotFile (counting_file manifest) × IsSlotFile (spare_file manifest)

-- the slot that counts is a file that reaches to the closed gate
abbrev pub SlotsReachGates : Type 0
SlotsReachGates = (disk : State) (manifest : Manifest) (named : NodeVersion) →
    ManifestHolds disk manifest named → IsSomeAnd (seen (disk (counting_file manifest)))
    (λ bytes. slot_length manifest ≤ length bytes)

-- where an edit that the version may take has no room, the slot is full
abbrev pub NoRoomIsFull : Type 0
NoRoomIsFull = (manifest : Manifest) (change : Change) →
    IsFit (version_of manifest).version change → IsChange change →
    ManifestHasNoRoom manifest change → HasFullSlot manifest
