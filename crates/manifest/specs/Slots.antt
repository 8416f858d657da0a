-- The two slots of a store, and the version that they represent.
use Rattle.std.specs.Prelude.{◌≡◌, ◌≢◌, ◌⊎◌, ℕ, ◌-◌, ◌<◌, ◌≤◌, List, [], ◌∷◌, ◌++◌, take, drop, map}
use Rattle.std.specs.Prelude.{Option, IsSomeAnd, All}
use Rattle.std.specs.Int.{w16, w64, to_be_bytes}
use Rattle.kv_types.specs.declared.bounds.TheConstants.{MAX_NUMBER}
use Rattle.configurations.specs.{IsId}
use Rattle.disk.specs.{State, Contents, IsFileOutcome, seen}
use Rattle.record_log.specs.{IsClosed, Represents}
use Rattle.version_edits.specs.{NodeVersion, Change, empty, AreFit, after_all}
use Rattle.version_edits.specs.{IsChangeIn, change_text_in}
use Rattle.byte_fields.specs.declared.format.Format.{Format}
use Rattle.byte_fields.specs.declared.format.Format.TheVariants as formats

-- ---- slots of records

-- where a slot's log begins
abbrev pub head_length : ℕ
head_length = 13

-- an open gate, the generation, 0 in the place of format 1's id, and the node's id
abbrev pub slot_head : ℕ → ℕ → List ℕ
slot_head generation id =
    1 ∷ to_be_bytes w64 generation ++ to_be_bytes w16 0 ++ to_be_bytes w16 id

-- where the log of a slot of format 1 begins
abbrev pub old_head_length : ℕ
old_head_length = 11

-- an open gate, the generation, and the node's id, in format 1
abbrev pub old_slot_head : ℕ → ℕ → List ℕ
old_slot_head generation id = 1 ∷ to_be_bytes w64 generation ++ to_be_bytes w16 id

-- the bytes begin with a head of format 1, whose id is not 0
abbrev pub HasOldHead : ℕ → ℕ → List ℕ → Type 0
HasOldHead generation id bytes =
    IsId id × (take old_head_length bytes ≡ old_slot_head generation id)

-- the bytes begin with a head of this format
abbrev pub HasHeadIn : Format → ℕ → ℕ → List ℕ → Type 0
HasHeadIn formats.One generation id bytes = HasOldHead generation id bytes
HasHeadIn formats.Two generation id bytes = take head_length bytes ≡ slot_head generation id

-- where the log of a slot of this format begins
abbrev pub log_start : Format → ℕ
log_start formats.One = old_head_length
log_start formats.Two = head_length

-- an open slot of this format and generation, with these records
pub record IsSlotIn (format : Format) (generation id : ℕ) (records : List (List ℕ))
    (bytes : List ℕ) : Type 0 where
  pub head : HasHeadIn format generation id bytes
  pub log : Represents (drop (log_start format) bytes) records

-- one of format 2, as it is written
abbrev pub IsSlot : ℕ → ℕ → List (List ℕ) → List ℕ → Type 0
IsSlot generation id records bytes = IsSlotIn formats.Two generation id records bytes

-- an open slot of this generation, of either format
abbrev pub IsOpenSlot : ℕ → List ℕ → Type 0
IsOpenSlot generation bytes = (id : ℕ)
    × ((take head_length bytes ≡ slot_head generation id) ⊎ HasOldHead generation id bytes)

-- The slot is closed, or open with a lesser generation, in either format. What is behind its
-- generation means nothing.
abbrev pub IsSuperseded : ℕ → List ℕ → Type 0
IsSuperseded generation bytes =
    IsClosed bytes ⊎ ((lesser : ℕ) × (lesser < generation) × IsOpenSlot lesser bytes)

-- one of the two slots, and the other of them
abbrev pub IsSlotFile : ℕ → Type 0
IsSlotFile slot = (slot ≡ 1) ⊎ (slot ≡ 2)

-- the other of the two slots
abbrev pub other_slot : ℕ → ℕ
other_slot slot = 3 - slot

-- one slot counts, of this format and with these records, and the other yields
pub record SlotsRepresentIn (format : Format) (id : ℕ) (records : List (List ℕ))
    (left : Contents) : Type 0 where
  pub slot : ℕ
  pub one : IsSlotFile slot
  pub generation : ℕ
  pub limit : generation ≤ MAX_NUMBER
  pub counting : IsSomeAnd (left slot) (IsSlotIn format generation id records)
  pub other : IsSomeAnd (left (other_slot slot)) (IsSuperseded generation)

-- one slot of format 2 counts, with these records
abbrev pub SlotsRepresent : ℕ → List (List ℕ) → Contents → Type 0
SlotsRepresent id records left = SlotsRepresentIn formats.Two id records left

-- The slot that counts is of format 1, and the other is superseded. What is behind its head means
-- nothing.
pub record IsOldStore (left : Contents) : Type 0 where
  pub slot : ℕ
  pub one : IsSlotFile slot
  pub generation : ℕ
  pub limit : generation ≤ MAX_NUMBER
  pub id : ℕ
  pub counting : IsSomeAnd (left slot) (HasOldHead generation id)
  pub other : IsSomeAnd (left (other_slot slot)) (IsSuperseded generation)

-- both slots read as these contents
abbrev pub SlotsRead : State → Contents → Type 0
SlotsRead disk left = (slot : ℕ) → IsSlotFile slot → seen (disk slot) ≡ left slot

-- What a crash leaves of the slots has P, and of each other file it is what a crash might have left
-- of a state.
pub record SlotsAreLeft (disk : State) (P : Contents → Type 0) (left : Contents) : Type 0 where
  pub here : P left
  pub others : (other : ℕ) → (IsSlotFile other → ⊥) → IsFileOutcome (disk other) (left other)

-- ---- the version

-- The slots represent this version of a node in a format. The version is that after their edits,
-- each of which the version before it may take.
pub record ManifestRepresentsIn (format : Format) (named : NodeVersion) (left : Contents)
    : Type 0 where
  pub id : IsId named.id
  pub changes : List Change
  pub some : changes ≢ []
  pub each : All (IsChangeIn format) changes
  pub fit : AreFit empty changes
  pub is : named.version ≡ after_all empty changes
  pub records : SlotsRepresentIn format named.id (map (change_text_in format) changes) left

-- they represent it in format 2, the one that is opened
abbrev pub ManifestRepresents : NodeVersion → Contents → Type 0
ManifestRepresents named left = ManifestRepresentsIn formats.Two named left

-- they represent it in format 1 or in format 2
abbrev pub ManifestRepresentsInEither : NodeVersion → Contents → Type 0
ManifestRepresentsInEither named left =
    (format : Format) × ManifestRepresentsIn format named left

-- no slot is open
abbrev pub IsClosedOrAbsent : Option (List ℕ) → Type 0
IsClosedOrAbsent file = IsSomeAnd file (λ bytes. (rest : List ℕ) × (bytes ≡ 1 ∷ rest)) → ⊥

-- no slot is open: nothing was created here
pub record IsNotCreated (left : Contents) : Type 0 where
  pub first : IsClosedOrAbsent (left 1)
  pub second : IsClosedOrAbsent (left 2)
