-- A walk over the inputs of a merge, and what is written of the entries that it has met.
use Rattle.std.proofs.Common.{◌≡◌, ℕ, List, [], ◌∷◌, Option, Some, None, IfSome, refl, sym, ◌∙◌}
use Rattle.std.proofs.Common.{subst}
use Rattle.std.specs.List.{fold}
use Rattle.kv_types.specs.{Entry}
use Rattle.kv_types.specs.OrderLemmas.{Among, rises_from_AllPairs}
use Rattle.version_edits.specs.declared.TableLine.{TableLine}
use Rattle.merge_iter.specs.declared.Direction.TheVariants.{Forward}
use Rattle.merge_iter.specs.{EntryPrecedes, IsAlike, IsApart, IsOn}
use Rattle.table_format.specs.RisingLemmas.{last_among}
use Rattle.table_format.specs.{AreRising, CanFollow, last_entry}
use Rattle.disk.specs.declared.Disk.{Ghosts}
use Rattle.merge_iter.specs.declared.Cursor.{Ghosts as CursorGhosts}
use Rattle.store_model.specs.{LevelTable, tables_entries}
use Rattle.compaction.specs.declared.writer.OutputWriter.{OutputWriter}
use Rattle.compaction.specs.Survivors.{IsSortedUnion}
use Rattle.compaction.specs.Walks.{IsWalking}
use Rattle.compaction.specs.WalksLemmas.{walk_ends}
use Rattle.compaction.specs.WrittenTables.{Written, nothing_written, with_next, written_of}
use Rattle.compaction.proofs.Cutting.{behind_all, by_case, in_turn, opened_upto}

-- ---- the walk

-- entries of a set with the same entries are apart too
pub apart_like : (own has : Entry → Type 0) → IsAlike own has → IsApart own → IsApart has
apart_like own has alike apart a b p q e = apart a b ((alike a).1 p) ((alike b).1 q) e

-- the walk is at its end: the entries that were met are those of the inputs, in order
pub walk_done : {U F : Type 0} (u : CursorGhosts U F) (d : Ghosts F) (meant : u.Meant)
    (inputs : List LevelTable) (files : F) (next_file : ℕ) (union : U) (writer : OutputWriter)
    (w : IsWalking u d meant files next_file union writer inputs) → (IsOn (u.position union) → ⊥)
    → IsSortedUnion inputs w.met
walk_done u d meant inputs files next_file union writer w off = record {
  rising = w.rising;
  alike = walk_ends (tables_entries inputs) w.met (u.position union) off w.walked;
}

-- ---- what is written of it

abbrev last_or : Option Entry → List Entry → Option Entry
last_or before [] = before
last_or before (x ∷ xs) = last_or (Some x) xs

last_or_is : (x : Entry) (xs : List Entry) → last_or (Some x) xs ≡ last_entry (x ∷ xs)
last_or_is x [] = refl
last_or_is x (y ∷ ys) = last_or_is y ys

module _ (floor : ℕ) (deeper : List TableLine) (target : ℕ) where
  before_from : (entries : List Entry) (it : Written)
      → (fold (with_next floor deeper target) it entries).before ≡ last_or it.before entries
  before_from [] it = refl
  before_from (e ∷ es) it =
      by_case floor deeper target
      (λ w. (fold (with_next floor deeper target) w es).before ≡ last_or (Some e) es) it e
      (λ gone. before_from es _) (λ stays cut. before_from es _) (λ stays more. before_from es _)

  before_is : (entries : List Entry) → (written_of floor deeper target entries).before
      ≡ last_entry entries
  before_is [] = refl
  before_is (x ∷ xs) = before_from (x ∷ xs) nothing_written ∙ last_or_is x xs

  follows_last : (opened : List Entry) (entry : Entry) (o : Option Entry) → last_entry opened ≡ o
      → ((z : Entry) → Among z opened → EntryPrecedes Forward z entry)
      → IfSome o (λ last. EntryPrecedes Forward last entry)
  follows_last opened entry None is early = tt
  follows_last opened entry (Some last) is early = early last (last_among opened last is)

  -- what can follow the entries that were met can follow those of the open table
  pub follows_open : (entries : List Entry) (entry : Entry) → AreRising entries
      → CanFollow entries entry → CanFollow (written_of floor deeper target entries).opened entry
  follows_open entries entry rising follows =
      let it = written_of floor deeper target entries in
      let turn = in_turn floor deeper target entries
      (rises_from_AllPairs (EntryPrecedes Forward) entries rising) in
      let before : IfSome it.before (λ b. EntryPrecedes Forward b entry) =
      subst (λ (o : Option Entry). IfSome o (λ b. EntryPrecedes Forward b entry))
      (sym (before_is entries)) follows in
      follows_last it.opened entry (last_entry it.opened) refl
      (λ z a. behind_all it.before z entry before (opened_upto it turn z a))
