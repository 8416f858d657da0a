-- Entries and blocks of them, and their one spelling in each format.
use Rattle.std.specs.Prelude.{◌≡◌, ℕ, ◌≤◌, ◌<◌, ◌^◌, List, [], ◌∷◌, ◌++◌, length, take}
use Rattle.std.specs.Prelude.{Option, Some, None, IfSome, All, AllPairs}
use Rattle.std.specs.List.{flat_map}
use Rattle.std.specs.Int.{w32, w64, to_be_bytes}
use Rattle.sha2.specs.Sha256.{sha256}
use Rattle.kv_types.specs.{Entry}
use Rattle.byte_fields.specs.{IsKeyOf, key_bytes_in, text_bytes}
use Rattle.merge_iter.specs.declared.Direction.TheVariants.{Forward}
use Rattle.merge_iter.specs.{EntryPrecedes}
use Rattle.byte_fields.specs.declared.format.Format.{Format}
pub use Rattle.merge_iter.specs.{IsTableEntry}

-- ---- parts of a file

-- the first 8 bytes of SHA-256
unfoldable pub digest : List ℕ → List ℕ
digest content = take 8 (sha256 content)

-- a part of a file is a content and its digest
abbrev pub sealed : List ℕ → List ℕ
sealed content = content ++ digest content

-- a number in four bytes, the most significant first
abbrev pub be32 : ℕ → List ℕ
be32 n = to_be_bytes w32 n

-- a number in eight bytes, the most significant first
abbrev pub be64 : ℕ → List ℕ
be64 n = to_be_bytes w64 n

-- ---- entries

-- a put is the byte 1 and the value, a deletion the byte 2
abbrev pub change_bytes : Option (List ℕ) → List ℕ
change_bytes (Some value) = 1 ∷ text_bytes value
change_bytes None = 2 ∷ []

-- key, number, and what was done
abbrev pub entry_bytes : Format → Entry → List ℕ
entry_bytes format entry =
    key_bytes_in format entry.key ++ (be64 entry.number ++ change_bytes entry.value)

-- an entry that a table of the format may have
pub record IsEntryOf (format : Format) (entry : Entry) : Type 0 where
  pub limits : IsTableEntry entry
  pub key : IsKeyOf format entry.key

-- entries, one behind the other
abbrev pub entries_bytes : Format → List Entry → List ℕ
entries_bytes format entries = flat_map (entry_bytes format) entries

-- each entry comes before those behind it: keys rise, and the numbers of one key fall
abbrev pub AreRising : List Entry → Type 0
AreRising entries = AllPairs (EntryPrecedes Forward) entries

-- the last of these entries, if there is one
abbrev pub last_entry : List Entry → Option Entry
last_entry [] = None
last_entry (entry ∷ []) = Some entry
last_entry (entry ∷ next ∷ entries) = last_entry (next ∷ entries)

-- the entry may stand behind these: it comes after the last of them
abbrev pub CanFollow : List Entry → Entry → Type 0
CanFollow entries entry = IfSome (last_entry entries) (λ last. EntryPrecedes Forward last entry)

-- ---- blocks

-- the number of entries, and the entries
abbrev pub block_content : Format → List Entry → List ℕ
block_content format entries = be32 (length entries) ++ entries_bytes format entries

-- a block with its digest
abbrev pub block_part : Format → List Entry → List ℕ
block_part format entries = sealed (block_content format entries)

-- the bytes are a block of these entries
pub record IsBlock (format : Format) (part : List ℕ) (entries : List Entry) : Type 0 where
  pub spelled : part ≡ block_part format entries
  pub some : 1 ≤ length entries
  pub few : length entries < 2 ^ 32
  pub each : All (IsEntryOf format) entries
  pub rising : AreRising entries

-- the bytes are a block of some entries
abbrev pub IsCheckedBlock : Format → List ℕ → Type 0
IsCheckedBlock format part = (entries : List Entry) × IsBlock format part entries

-- the bytes are a block of some entries, and the text is the spelling of its entries alone
abbrev pub IsBlockText : Format → List ℕ → List ℕ → Type 0
IsBlockText format part text = (entries : List Entry) × IsBlock format part entries
    × (text ≡ entries_bytes format entries)
