-- Bytes written by hand.
use Rattle.std.specs.Prelude.{◌≡◌, List, [], ◌∷◌, ◌++◌, ℕ}
use Rattle.byte_fields.specs.{row_key}
use Rattle.byte_fields.specs.declared.format.Format.TheVariants as formats
use Rattle.version_edits.specs.Edits.{table_line_bytes, table_name_bytes}
use Rattle.version_edits.specs.declared.line.TableLine.{TableLine}
use Rattle.manifest.specs.Holds.{first_slot}
use Rattle.manifest.specs.Slots.{HasOldHead, IsSlot}

-- the edit of a new node in the configuration of node 1 alone: the next file is 4, and log 3 begins
-- with batch 1
abbrev pub first_edit : List ℕ
first_edit =
    0 ∷ 0 ∷ 0 ∷ 0 ∷ 0 ∷ 0 ∷ 0 ∷ 4 ∷ 0 ∷ 0 ∷ 0 ∷ 0 ∷ 0 ∷ 0 ∷ 0 ∷ 0 ∷ 0 ∷ 0 ∷ 0 ∷ 0 ∷ 0 ∷ 0 ∷ 0 ∷ 0
    ∷ 0 ∷ 0 ∷ 0 ∷ 0 ∷ 1 ∷ 0 ∷ 1 ∷ 0 ∷ 0 ∷ 0 ∷ 1 ∷ 0 ∷ 0 ∷ 0 ∷ 0 ∷ 0 ∷ 0 ∷ 0 ∷ 3 ∷ 0 ∷ 0 ∷ 0 ∷ 0 ∷ 0
    ∷ 0 ∷ 0 ∷ 1 ∷ 0 ∷ 0 ∷ 0 ∷ 0 ∷ []

-- the slot of node 1 after `create`: 74 bytes
abbrev pub FirstSlotIs : Type 0
FirstSlotIs =
    first_slot 1 (1 ∷ [])
    ≡ 1 ∷ 0 ∷ 0 ∷ 0 ∷ 0 ∷ 0 ∷ 0 ∷ 0 ∷ 1 ∷ 0 ∷ 0 ∷ 0 ∷ 1
    ∷ 1 ∷ 0 ∷ 0 ∷ 0 ∷ 55 ∷ (first_edit ++ 0 ∷ [])

-- the same slot in format 1: 72 bytes
abbrev pub old_slot : List ℕ
old_slot =
    1 ∷ 0 ∷ 0 ∷ 0 ∷ 0 ∷ 0 ∷ 0 ∷ 0 ∷ 1 ∷ 0 ∷ 1
    ∷ 1 ∷ 0 ∷ 0 ∷ 0 ∷ 55 ∷ (first_edit ++ 0 ∷ [])

-- it has a head of format 1, and is no slot of format 2
abbrev pub OldSlotIs : Type 0
OldSlotIs = HasOldHead 1 1 old_slot × ((generation id : ℕ) (records : List (List ℕ)) →
    IsSlot generation id records old_slot → ⊥)

-- the line of a table of level 2 in file 5, of 136 bytes, from key `a` to key `b`
abbrev pub table_line : TableLine
table_line = record {
  level = 2;
  file = 5;
  length = 136;
  least = row_key (97 ∷ []);
  greatest = row_key (98 ∷ []);
}

-- the line in format 2 and in format 1, and the same table given up
abbrev pub TableIs : Type 0
TableIs = (table_line_bytes formats.Two table_line
    ≡ 2 ∷ 0 ∷ 0 ∷ 0 ∷ 0 ∷ 0 ∷ 0 ∷ 0 ∷ 5 ∷ 0 ∷ 0 ∷ 0 ∷ 0 ∷ 0 ∷ 0 ∷ 0 ∷ 136
    ∷ 0 ∷ 0 ∷ 1 ∷ 97 ∷ 0 ∷ 0 ∷ 1 ∷ 98 ∷ [])
    × (table_line_bytes formats.One table_line
    ≡ 2 ∷ 0 ∷ 0 ∷ 0 ∷ 0 ∷ 0 ∷ 0 ∷ 0 ∷ 5 ∷ 0 ∷ 0 ∷ 0 ∷ 0 ∷ 0 ∷ 0 ∷ 0 ∷ 136
    ∷ 0 ∷ 1 ∷ 97 ∷ 0 ∷ 1 ∷ 98 ∷ [])
    × (table_name_bytes (record { level = 2; file = 5 })
    ≡ 2 ∷ 0 ∷ 0 ∷ 0 ∷ 0 ∷ 0 ∷ 0 ∷ 0 ∷ 5 ∷ [])
