-- Small batches, maps and pages, worked out.
use Rattle.std.specs.Prelude.{◌≡◌, ℕ, List, [], ◌∷◌, ◌++◌, take, true, false, Option, Some, None}
use Rattle.std.specs.Prelude.{codes}
use Rattle.byte_fields.specs.Order.{IsBelow}
use Rattle.byte_fields.specs.{StoredKey, mark_key, row_key}
use Rattle.kv_types.specs.declared.edit.Edit.TheVariants.{Put, Delete}
use Rattle.kv_types.specs.Spans.{Row}
use Rattle.kv_types.specs.Marks.{marked, unmarked}
use Rattle.kv_types.specs.Content.{BatchContent}
use Rattle.kv_types.specs.Spelling.{batch_bytes}
use Rattle.kv_types.specs.Maps.{map_of}
use Rattle.std.specs.Int.{w64, to_be_bytes}
use Rattle.kv_types.specs.Entries.{Entry, IsShown, ViewShows, all_entries}
use Rattle.kv_types.specs.Spans.{Span}
use Rattle.kv_types.specs.Pages.{page_of}

-- one batch: a=1 -a a=2
abbrev pub thrice : List BatchContent
thrice =
    unmarked
    (Put (codes "a") (codes "1") ∷ Delete (codes "a") ∷ Put (codes "a") (codes "2") ∷ [])
    ∷ []

-- two batches: a=1 b=1 c=1 d=1, then c=2
abbrev pub letters : List BatchContent
letters =
    unmarked
    (Put (codes "a") (codes "1") ∷ Put (codes "b") (codes "1") ∷ Put (codes "c") (codes "1") ∷ Put
    (codes "d") (codes "1") ∷ [])
    ∷ unmarked (Put (codes "c") (codes "2") ∷ [])
    ∷ []

-- at most two rows, walked backward
abbrev pub two_back : List ℕ → List ℕ → Span
two_back from to = record { from = from; to = Some to; backward = true; limit = 2 }

-- at most ten rows from the first key on
abbrev pub ten : Span
ten = record { from = []; to = None; backward = false; limit = 10 }

-- a row of this key and value
abbrev pub row : List ℕ → List ℕ → Row
row key value = record { key = key; value = value }

-- the entry of a stored key at a number, with this value or as a deletion
abbrev pub entry_at : StoredKey → ℕ → Option (List ℕ) → Entry
entry_at key number value = record { key = key; number = number; value = value }

-- the entry of the key of a row
abbrev pub row_entry_at : List ℕ → ℕ → Option (List ℕ) → Entry
row_entry_at key number value = entry_at (row_key key) number value

-- two batches: a=1 a=2, then -a
abbrev pub changes : List BatchContent
changes =
    unmarked (Put (codes "a") (codes "1") ∷ Put (codes "a") (codes "2") ∷ [])
    ∷ unmarked (Delete (codes "a") ∷ [])
    ∷ []

-- of two edits of a key in one batch, the last is its entry, and the only one
pub record EntryExamples : Type 0 where
  pub last : all_entries changes (row_entry_at (codes "a") 1 (Some (codes "2")))
  pub not_the_first : all_entries changes (row_entry_at (codes "a") 1 (Some (codes "1"))) → ⊥
  pub deletion : all_entries changes (row_entry_at (codes "a") 2 None)
  pub other_key : (number : ℕ) (value : Option (List ℕ)) →
      all_entries changes (row_entry_at (codes "b") number value) → ⊥
  pub before : ViewShows 0 (all_entries changes) (row_key (codes "a")) None
  pub first : ViewShows 1 (all_entries changes) (row_key (codes "a")) (Some (codes "2"))
  pub second : ViewShows 2 (all_entries changes) (row_key (codes "a")) None
  pub mark : all_entries (marked 7 1 (Put (codes "a") (codes "1") ∷ []) ∷ [])
      (entry_at (mark_key 7) 1 (Some (to_be_bytes w64 1)))
  pub shown : IsShown 1 (all_entries changes) (row_entry_at (codes "a") 1 (Some (codes "2")))
  pub deleted : IsShown 2 (all_entries changes) (row_entry_at (codes "a") 2 None) → ⊥
  pub hidden : IsShown 2 (all_entries changes) (row_entry_at (codes "a") 1 (Some (codes "2"))) → ⊥

-- bytes of batches, order of keys, and a map, worked out
pub record BatchExamples : Type 0 where
  pub spelled : batch_bytes (unmarked (Put (codes "a") (codes "1") ∷ []))
      ≡ 0 ∷ 1 ∷ 1 ∷ 0 ∷ 1 ∷ 97 ∷ 0 ∷ 1 ∷ 49 ∷ []
  pub deletion : batch_bytes (unmarked (Delete (codes "a") ∷ []))
      ≡ 0 ∷ 1 ∷ 2 ∷ 0 ∷ 1 ∷ 97 ∷ []
  pub marked_put : batch_bytes (marked 7 1 (Put (codes "a") (codes "1") ∷ []))
      ≡ 0 ∷ 0 ∷ 0 ∷ 0 ∷ 0 ∷ 0 ∷ 0 ∷ 0 ∷ 0 ∷ 7 ∷ 0 ∷ 0 ∷ 0 ∷ 0 ∷ 0 ∷ 0 ∷ 0 ∷ 1
      ∷ 0 ∷ 1 ∷ 1 ∷ 0 ∷ 1 ∷ 97 ∷ 0 ∷ 1 ∷ 49 ∷ []
  pub beginning : IsBelow (codes "a") (codes "ab")
  pub difference : IsBelow (codes "ab") (codes "b")
  pub last : map_of thrice (codes "a") ≡ Some (codes "2")
  pub other_key : map_of thrice (codes "b") ≡ None
  pub no_more : page_of (take 1 letters) (two_back (codes "b") (codes "d"))
      ≡ record {
        rows = row (codes "c") (codes "1") ∷ row (codes "b") (codes "1") ∷ [];
        more = false;
      }
  pub more : page_of (take 1 letters) (two_back (codes "a") (codes "d"))
      ≡ record {
        rows = row (codes "c") (codes "1") ∷ row (codes "b") (codes "1") ∷ [];
        more = true;
      }
  pub later : page_of letters (two_back (codes "c") (codes "d"))
      ≡ record { rows = row (codes "c") (codes "2") ∷ []; more = false }
  pub deleted : page_of (thrice ++ (unmarked (Delete (codes "a") ∷ []) ∷ [])) ten
      ≡ record { rows = []; more = false }
  pub forward : page_of thrice ten
      ≡ record { rows = row (codes "a") (codes "2") ∷ []; more = false }
  pub empty : page_of [] ten ≡ record { rows = []; more = false }
