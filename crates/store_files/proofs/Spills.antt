-- The files of a store while entries in memory are written as a table into a free file.
use Rattle.std.proofs.Common.{◌≡◌, ◌≢◌, ◌≤◌, ◌∙◌, ℕ, List, [], Contains, arith, inl, inr, refl}
use Rattle.std.proofs.Common.{subst, sym, ap}
use Rattle.std.specs.Prelude.{IsNone}
use Rattle.kv_types.specs.{BatchContent}
use Rattle.disk.specs.{Contents, DurableFileIsLeft, IsDurable, IsLeftAt, IsSame, IsCrashOutcome}
use Rattle.disk.specs.{IsSameBut, LeavesSince, Slot, State, contents, seen, Absent, Fresh, Kept}
use Rattle.disk.specs.MomentsLemmas.{join, weaker}
use Rattle.std.proofs.lemmas.Bool.{cases_eq}
use Rattle.table_builder.specs.{IsFresh}
use Rattle.manifest.specs.declared.TableLine.{TableLine}
use Rattle.manifest.specs.{HeldVersionIsLeft, HeldVersionStays, StoreVersion}
use Rattle.store_tables.specs.declared.levels.OpenTable.{OpenTable}
use Rattle.store_files.specs.declared.store_files.StoreFiles.{StoreFiles}
use Rattle.store_tables.specs.LevelTables.{IsServed}
use Rattle.store_files.specs.OpenFiles.{FilesHold, known_facts, known_version, known_store}
use Rattle.store_tables.specs.TableWriting.{IsWrittenTable}
use Rattle.store_files.specs.Openings.{kept_files}
use Rattle.store_files.specs.StoreFiles.{FilesRepresent}
use Rattle.store_files.specs.Tending.{HasSpilled}
use Rattle.store_files.proofs.KeptNames.{kept_is_given}
use Rattle.store_files.proofs.KeptFiles.{read_is_left, HoldsLater, stay_later}
use Rattle.store_files.proofs.StillFiles.{still_keeps}
use Rattle.store_files.proofs.NamedFiles.{table_same}

-- a file without bytes of which nothing was synced
unused_is_fresh : (slot : Slot) → IsNone (seen slot) → IsFresh slot []
unused_is_fresh (Absent back) none = refl
unused_is_fresh (Fresh bytes back) none = absurd cc
unused_is_fresh (Kept bytes kept touches) none = absurd cc

-- the table that was written and then opened
pub has_spilled : (old mid new : State) (files : StoreFiles) (file : ℕ) (line : TableLine)
    (it : OpenTable) → file ≡ files.free_file →
    IsSameBut file old mid → IsSame mid new →
    (w : IsWrittenTable mid files.memtable file line) → IsServed new it w.table →
    HasSpilled old new files (record { line = line; table = it })
has_spilled old mid new files file line it at spares same w served = record {
  spares = λ other apart. same other ∙ spares other (λ is. apart (is ∙ at));
  written = record {
    table = w.table;
    is = table_same (contents mid) (contents new) line w.table (ap seen (same line.file)) w.is;
    at = w.at ∙ at;
    level = w.level;
    proper = w.proper;
    durable = subst (λ (f : ℕ). IsDurable (new f)) at (subst IsDurable (sym (same file)) w.durable);
    range = w.range;
    entries = w.entries;
  };
  served = served;
}

module _ (disk : State) (files : StoreFiles) (list : List BatchContent)
    (h : FilesHold disk files list) (next : ℕ)
    (is : next ≡ files.free_file) where
  abbrev version : StoreVersion
  version = (known_version files).version

  pub next_is_fresh : IsFresh (disk next) []
  next_is_fresh = unused_is_fresh (disk next) (h.unused next (omega (arith, is)))

  -- the next file is none of those that are kept
  kept_no_next : (file : ℕ) → Contains (kept_files version) file → file ≢ next
  kept_no_next file has same =
      let below = kept_is_given version h.known.usable.version file has in
      let first = h.known.usable.free in
      omega (arith, same, is, first, below)

  -- where the next file is gone again, the open files hold what they held, and a merge can end as
  -- before
  pub held_again_later : HeldVersionStays → (new : State) → IsSameBut next disk new →
      IsNone (seen (new next)) → HoldsLater (known_store files h.known.tables) new files list
  held_again_later held_stays new spares none =
      stay_later disk files list h.known held_stays new
      (λ file has. spares file (kept_no_next file has)) unused
    where
      unused : (file : ℕ) → files.free_file ≤ file → IsNone (seen (new file))
      unused file above = elim (cases_eq file next) as (λ _. IsNone (seen (new file))) [
        | inl here ↦ subst (λ (f : ℕ). IsNone (seen (new f))) (sym here) none
        | inr apart ↦ subst (λ (slot : Slot). IsNone (seen slot)) (sym (spares file apart))
            (h.unused file above)
      ]

  -- so they hold it
  pub held_again : HeldVersionStays → (new : State) → IsSameBut next disk new →
      IsNone (seen (new next)) → FilesHold new files list
  held_again held_stays new spares none = (held_again_later held_stays new spares none).0

  module _ (held_is_left : HeldVersionIsLeft) (durable_is_left : DurableFileIsLeft) where
    -- at each moment of calls on the next file, a crash leaves files of the same store
    pub next_is_written : (past since : List State) (new : State) →
        LeavesSince disk past new since (IsLeftAt disk next (λ left. Unit {0})) →
        LeavesSince disk past new since (FilesRepresent (known_facts files) list)
    next_is_written past since new run =
        weaker (IsLeftAt disk next (λ left. Unit {0})) (FilesRepresent (known_facts files) list)
        disk past new since (λ left at.
        read_is_left disk files list h.known held_is_left durable_is_left left
        (λ file has. at.others file (kept_no_next file has))) run

    -- and of calls behind them that leave nothing new
    pub next_is_opened : (past so_far since : List State) (mid new : State) →
        LeavesSince disk past mid so_far (IsLeftAt disk next (λ left. Unit {0})) →
        LeavesSince mid so_far new since (IsCrashOutcome mid) →
        LeavesSince disk past new since (FilesRepresent (known_facts files) list)
    next_is_opened past so_far since mid new run still =
        let P : Contents → Type 0 = FilesRepresent (known_facts files) list in
        let written = next_is_written past so_far mid run in
        join P disk mid new past so_far since written
        (still_keeps P mid so_far new since written.now still)
