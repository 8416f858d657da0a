-- What files represent whose slots are of another format.
use Rattle.std.proofs.Common.{◌≡◌, ◌≤◌, ℕ, suc, List, Option, arith, inl, inr, refl}
use Rattle.std.proofs.Common.{subst, sym}
use Rattle.std.specs.Prelude.{◌⊎◌}
use Rattle.std.proofs.lemmas.Bool.{cases_eq}
use Rattle.std.proofs.lemmas.List.Elements.{All-contains, All-weaker}
use Rattle.disk.specs.{Contents, IsFileOutcome, State, contents}
use Rattle.disk.specs.StepsLemmas.{read_is_outcome}
use Rattle.version_edits.specs.Lawful.{IsAllocated}
use Rattle.manifest.specs.declared.LogLine.{LogLine}
use Rattle.manifest.specs.declared.TableLine.{TableLine}
use Rattle.manifest.specs.{FormatsAreApart, IsSlotFile, ManifestRepresentsIn, NodeVersion}
use Rattle.manifest.specs.{VersionsAreLawfulIn}
use Rattle.store_files.specs.Upgrades.{FormatsOutlastCrashes, FormatsRepresentAlike}
use Rattle.store_files.proofs.NamedFiles.{logs_same, tables_same, version_same_in}

-- a file from 3 on is no slot
no_slot : (file : ℕ) → 3 ≤ file → IsSlotFile file → ⊥
no_slot file le (inl one) = omega (arith, le, one)
no_slot file le (inr two) = omega (arith, le, two)

-- a file is a slot, or none
slot_or_not : (file : ℕ) → IsSlotFile file ⊎ (IsSlotFile file → ⊥)
slot_or_not file = elim (cases_eq file 1) [
  | inl one ↦ inl (inl one)
  | inr apart_1 ↦ elim (cases_eq file 2) [
    | inl two ↦ inl (inr two)
    | inr apart_2 ↦ inr (λ is. elim is [ inl one ↦ apart_1 one | inr two ↦ apart_2 two ])
  ]
]

-- contents whose slots are those that are read, and whose other files a crash left
record ReadSlots (disk : State) (left read : Contents) : Type 0 where
  pub slots : (file : ℕ) → IsSlotFile file → read file ≡ contents disk file
  pub others : (file : ℕ) → (IsSlotFile file → ⊥) → read file ≡ left file

-- there are such contents
read_slots : (disk : State) (left : Contents) → (read : Contents) × ReadSlots disk left read
read_slots disk left = (
  λ file. pick file (slot_or_not file),
  record {
    slots = λ file one. picks_slot file one (slot_or_not file);
    others = λ file none. picks_other file none (slot_or_not file);
  },
)
  where
    pick : (file : ℕ) → IsSlotFile file ⊎ (IsSlotFile file → ⊥) → Option (List ℕ)
    pick file (inl slot) = contents disk file
    pick file (inr none) = left file

    picks_slot : (file : ℕ) → IsSlotFile file
        → (which : IsSlotFile file ⊎ (IsSlotFile file → ⊥)) → pick file which ≡ contents disk file
    picks_slot file one (inl slot) = refl
    picks_slot file one (inr none) = absurd (none one)

    picks_other : (file : ℕ) → (IsSlotFile file → ⊥)
        → (which : IsSlotFile file ⊎ (IsSlotFile file → ⊥)) → pick file which ≡ left file
    picks_other file none (inl slot) = absurd (none slot)
    picks_other file none (inr other) = refl

module _ (apart : FormatsAreApart) (lawful : VersionsAreLawfulIn) where
  -- with the same version in slots of another format, files represent the same
  pub formats_alike : FormatsRepresentAlike
  formats_alike facts list named format left other either had has same =
      let h = either.1 in
      let own : NodeVersion = record { id = facts.id; version = h.version } in
      let is = (apart had.0 either.0 named own left had.1 h.manifest).1 in
      let law = lawful either.0 own left h.manifest in
      record {
        version = h.version;
        manifest = subst (λ (n : NodeVersion). ManifestRepresentsIn format n other) is has;
        epoch = h.epoch;
        ids = h.ids;
        floor = h.floor;
        logs = logs_same left other (suc facts.kept) h.version.logs _
            (λ line there. same line.file (no_slot line.file
            (All-contains (λ (line : LogLine). 3 ≤ line.file) h.version.logs line
            (All-weaker (λ (line : LogLine). IsAllocated h.version line.file)
            (λ (line : LogLine). 3 ≤ line.file) (λ line is. is.0) h.version.logs
            law.lines.log_files) there))) h.logs;
        tables = h.tables;
        read = tables_same left other h.version.tables h.tables
            (λ line there. same line.file (no_slot line.file
            (All-contains (λ (line : TableLine). 3 ≤ line.file) h.version.tables line
            (All-weaker (λ (line : TableLine). IsAllocated h.version line.file)
            (λ (line : TableLine). 3 ≤ line.file) (λ line is. is.0) h.version.tables
            law.lines.table_files) there))) h.read;
        store = h.store;
        each = h.each;
        few = h.few;
      }

  -- so it is with what a crash leaves of the other files
  pub formats_outlast : FormatsOutlastCrashes
  formats_outlast facts list disk named format left only had has =
      let read = read_slots disk left in
      let outcome : (file : ℕ) → IsFileOutcome (disk file) (read.0 file) = λ file.
      elim (slot_or_not file) [
        | inl slot ↦ subst (IsFileOutcome (disk file)) (sym (read.1.slots file slot))
            (read_is_outcome (disk file))
        | inr none ↦ subst (IsFileOutcome (disk file)) (sym (read.1.others file none))
            (has.others file none)
      ] in
      formats_alike facts list named format read.0 left (only read.0 outcome) (
        had.0,
        version_same_in (contents disk) read.0 (λ file is. read.1.slots file is) had.0 named
            had.1,
      ) has.here (λ file none. sym (read.1.others file none))
