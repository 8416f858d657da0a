-- A rewrite of the manifest, and a table written into a free file, on a disk with damaged blocks of
-- tables.
use Rattle.std.proofs.Common.{◌≡◌, ◌≢◌, ◌≤◌, ℕ, List, [], arith, subst, sym}
use Rattle.std.specs.Prelude.{All, Contains, IsNone}
use Rattle.std.proofs.lemmas.List.Elements.{All-contains}
use Rattle.kv_types.specs.{BatchContent}
use Rattle.disk.specs.{Contents, DurableFileIsLeft, IsCrashOutcome, IsLeftAt, IsSameBut}
use Rattle.disk.specs.{LeavesSince, Slot, State, seen}
use Rattle.disk.specs.MomentsLemmas.{join, none_yet, weaker}
use Rattle.disk.specs.StepsLemmas.{read_is_outcome}
use Rattle.table_builder.specs.{IsFresh}
use Rattle.manifest.specs.declared.Manifest.{Manifest}
use Rattle.manifest.specs.declared.TableLine.{TableLine}
use Rattle.manifest.specs.{HeldVersionIsLeft, HeldVersionStays, IsSlotFile, IsVersion}
use Rattle.manifest.specs.{ManifestHolds, ManifestRepresents, NodeVersion, SlotsAreLeft}
use Rattle.manifest.specs.{StoreVersion}
use Rattle.store_files.specs.declared.store_files.StoreFiles.{StoreFiles}
use Rattle.store_files.specs.Adopting.{with_config}
use Rattle.store_files.specs.OpenFiles.{FilesAreRead, IsAsMeant, WereMeantToHold, known_facts}
use Rattle.store_files.specs.OpenFiles.{known_store, known_version, trimmed_count}
use Rattle.store_model.specs.{IsUnderWay, MergePlan, StoreState}
use Rattle.store_files.specs.StoreFiles.{WereMeant}
use Rattle.store_files.proofs.NamedHolds.{NamedHold, log_no_slot, table_no_slot}
use Rattle.store_files.proofs.KeptFiles.{with_manifest}
use Rattle.store_files.proofs.StillFiles.{still_keeps}
use Rattle.store_files.proofs.Meant.{as_meant_stays}
use Rattle.store_files.proofs.MeantFiles.{TablesAsMeant, follow_but, manifest_is_meant}
use Rattle.store_files.proofs.MeantFiles.{named_were_left, tables_of_meant, unnamed_beside}
use Rattle.store_files.proofs.MeantFiles.{unnamed_is_left}
use Rattle.store_files.proofs.MeantMoments.{meant_now}
use Rattle.store_files.proofs.MeantOpenings.{mended, mended_at, mended_beside, slot_beside}
use Rattle.store_files.proofs.Spills.{held_again_later, next_is_fresh}
use Rattle.store_files.proofs.Tends.{recorded_later}

-- what open files know is what the files that their version names have
pub named_of : (disk : State) (files : StoreFiles) (list : List BatchContent)
    → (r : FilesAreRead disk files list) → NamedHold disk (known_version files).version files.logs
    (trimmed_count files) r.tables list
named_of disk files list r = record {
  lines = r.usable.lines;
  held = r.logs;
  read = r.read;
  durable = r.durable;
  store = r.store;
  each = r.each;
  few = let few = r.usable.numbers.few in let count = r.count in omega (arith, few, count);
}

-- the open files were meant to hold the list, and a merge can end in their store that could end in
-- this one
abbrev pub MeantLater : StoreState → State → StoreFiles → List BatchContent → Type 0
MeantLater store new files list = (was : WereMeantToHold new files list) × ((plan : MergePlan) →
    IsUnderWay store plan → IsUnderWay (known_store files was.hold.known.tables) plan)

module _ (disk : State) (files : StoreFiles) (list : List BatchContent)
    (w : WereMeantToHold disk files list) where
  abbrev version : StoreVersion
  version = (known_version files).version

  abbrev known : NodeVersion
  known = known_version files

  abbrev trimmed : ℕ
  trimmed = trimmed_count files

  abbrev Meant : Contents → Type 0
  Meant = WereMeant (known_facts files) list

  abbrev as_meant : TablesAsMeant disk w.meant version.tables
  as_meant = tables_of_meant disk w.meant version files.tables w.disk_is

  named : NamedHold w.meant version files.logs trimmed w.hold.known.tables list
  named = named_of w.meant files list w.hold.known

  -- the manifest holds its version
  pub manifest_holds : HeldVersionStays → ManifestHolds disk files.manifest known
  manifest_holds stays = manifest_is_meant disk w.meant version w.hold.known.usable.version
      files.logs trimmed w.hold.known.tables list named as_meant files.manifest known.id
      w.hold.known.manifest stays

  -- before the first call
  pub not_called : DurableFileIsLeft → HeldVersionIsLeft → (past : List State)
      → LeavesSince disk past disk past Meant
  not_called law held past = none_yet Meant disk past
      (meant_now (record {
        durable = law;
        version = held;
        reads = λ it file. read_is_outcome (it file);
      }) disk files list w)

  -- ---- a rewrite of the manifest

  -- while slots that represent the version are written
  pub slots_were_written : DurableFileIsLeft → (past since : List State) (new : State)
      → LeavesSince disk past new since (SlotsAreLeft disk (ManifestRepresents known))
      → LeavesSince disk past new since Meant
  slots_were_written law past since new run =
      weaker (SlotsAreLeft disk (ManifestRepresents known)) Meant disk past new since
      (λ left at. named_were_left disk w.meant version w.hold.known.usable.version files.logs
      trimmed w.hold.known.tables list named as_meant law known.id left at.here
      (λ line has. at.others line.file
      (log_no_slot version w.hold.known.usable.version line has))
      (λ line has. at.others line.file
      (table_no_slot version w.hold.known.usable.version line has))) run

  -- with a manifest that wrote the version with a configuration they were meant to hold what they
  -- held, and a merge can end as before
  pub recorded_meant : HeldVersionStays → (epoch : ℕ) (ids : List ℕ)
      → IsVersion (with_config known epoch ids).version → (new : State) (manifest : Manifest)
      (slot : ℕ) → IsSlotFile slot → IsSameBut slot disk new
      → ManifestHolds new manifest (with_config known epoch ids)
      → MeantLater (known_store files w.hold.known.tables) new (with_manifest files manifest) list
  recorded_meant stays epoch ids lawful new manifest slot is spares holds =
      let later = mended version.tables w.meant new in
      let usable = w.hold.known.usable in
      let hold = stays new later manifest (with_config known epoch ids) holds
      (λ one is_slot. mended_beside version.tables w.meant new one
      (slot_beside version usable.version one is_slot)) in
      let same : (line : TableLine) → Contains version.tables line
      → new line.file ≡ disk line.file = λ line has.
      spares line.file (λ at. table_no_slot version usable.version line has
      (subst IsSlotFile (sym at) is)) in
      let both = recorded_later w.meant files list w.hold epoch ids lawful later manifest slot is
      (follow_but disk w.meant version.tables as_meant new slot spares) hold in
      let stay = as_meant_stays disk new w.meant later version files.tables w.hold.known.tables
      w.hold.known.read w.hold.known.served same
      (λ line has. mended_at version.tables w.meant new line has)
      (λ file beside. sym (mended_beside version.tables w.meant new file beside)) w.disk_is in (
        record {
          meant = later;
          hold = both.0;
          disk_is = subst (λ (n : NodeVersion). IsAsMeant new later n.version files.tables)
              (sym holds.knows) (record {
                others = stay.others;
                tables = stay.tables;
                blocks = stay.blocks;
                durable = stay.durable;
              });
        },
        both.1,
      )

  -- so it is with the own configuration
  pub meant_later : HeldVersionStays → (new : State) (manifest : Manifest) (slot : ℕ)
      → IsSlotFile slot → IsSameBut slot disk new → ManifestHolds new manifest known
      → MeantLater (known_store files w.hold.known.tables) new (with_manifest files manifest) list
  meant_later stays = recorded_meant stays version.epoch version.ids w.hold.known.usable.version

  -- so they were meant to hold it
  pub rewritten_as_meant : HeldVersionStays → (new : State) (manifest : Manifest) (slot : ℕ)
      → IsSlotFile slot → IsSameBut slot disk new → ManifestHolds new manifest known
      → WereMeantToHold new (with_manifest files manifest) list
  rewritten_as_meant stays new manifest slot is spares holds =
      (meant_later stays new manifest slot is spares holds).0

  -- ---- a table in the first free file

  module _ (next : ℕ) (is : next ≡ files.free_file) where
    next_least : version.next_file ≤ next
    next_least = let first = w.hold.known.usable.free in omega (arith, is, first)

    next_beside : All (λ line. line.file ≢ next) version.tables
    next_beside = unnamed_beside version w.hold.known.usable.version next next_least

    -- the file is fresh
    pub next_was_fresh : IsFresh (disk next) []
    next_was_fresh = subst (λ (s : Slot). IsFresh s [])
        (sym (w.disk_is.others next next_beside)) (next_is_fresh w.meant files list w.hold next is)

    -- where it is gone again, the open files were meant to hold what they were
    pub again_later : HeldVersionStays → (new : State) → IsSameBut next disk new
        → IsNone (seen (new next))
        → MeantLater (known_store files w.hold.known.tables) new files list
    again_later stays new spares none =
        let later = mended version.tables w.meant new in
        let same : (line : TableLine) → Contains version.tables line
        → new line.file ≡ disk line.file = λ line has.
        spares line.file (All-contains (λ (one : TableLine). one.file ≢ next) version.tables line
        next_beside has) in
        let both = held_again_later w.meant files list w.hold next is stays later
        (follow_but disk w.meant version.tables as_meant new next spares)
        (subst (λ (s : Slot). IsNone (seen s))
        (sym (mended_beside version.tables w.meant new next next_beside)) none) in (
          record {
            meant = later;
            hold = both.0;
            disk_is = as_meant_stays disk new w.meant later version files.tables
                w.hold.known.tables w.hold.known.read w.hold.known.served same
                (λ line has. mended_at version.tables w.meant new line has)
                (λ file beside. sym (mended_beside version.tables w.meant new file beside))
                w.disk_is;
          },
          both.1,
        )

    -- so they were meant to hold it
    pub meant_again : HeldVersionStays → (new : State) → IsSameBut next disk new
        → IsNone (seen (new next)) → WereMeantToHold new files list
    meant_again stays new spares none = (again_later stays new spares none).0

    module _ (law : DurableFileIsLeft) (held : HeldVersionIsLeft) (stays : HeldVersionStays) where
      -- at each moment of calls on the next file, a crash leaves files of the same store
      pub next_was_written : (past since : List State) (new : State)
          → LeavesSince disk past new since (IsLeftAt disk next (λ left. Unit {0}))
          → LeavesSince disk past new since Meant
      next_was_written past since new run =
          weaker (IsLeftAt disk next (λ left. Unit {0})) Meant disk past new since
          (λ left at. unnamed_is_left disk w.meant version w.hold.known.usable.version files.logs
          trimmed w.hold.known.tables list named as_meant files.manifest known.id
          w.hold.known.manifest stays law held next next_least left at.others) run

      -- and of calls behind them that leave nothing new
      pub next_was_opened : (past so_far since : List State) (mid new : State)
          → LeavesSince disk past mid so_far (IsLeftAt disk next (λ left. Unit {0}))
          → LeavesSince mid so_far new since (IsCrashOutcome mid)
          → LeavesSince disk past new since Meant
      next_was_opened past so_far since mid new run still =
          let written = next_was_written past so_far mid run in
          join Meant disk mid new past so_far since written
          (still_keeps Meant mid so_far new since written.now still)
