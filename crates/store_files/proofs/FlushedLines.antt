-- Lines and tables of a flush, on another disk.
use Rattle.std.proofs.Common.{◌≡◌, ℕ, List, [], ◌∷◌, ap, inl, inr, refl, subst, sym}
use Rattle.std.specs.Prelude.{All, ◌==◌}
use Rattle.std.proofs.lemmas.List.Elements.{All-cons, All-head, All-nil, All-tail}
use Rattle.disk.specs.{IsDurable, State, contents, seen}
use Rattle.manifest.specs.declared.TableLine.{TableLine}
use Rattle.store_files.specs.declared.store_files.StoreFiles.{StoreFiles}
use Rattle.store_tables.specs.LevelTables.{with_flushed_line}
use Rattle.store_tables.specs.TableWriting.{IsWrittenTable}
use Rattle.store_files.proofs.Records.{either}
use Rattle.store_files.proofs.NamedFiles.{table_same}

-- what holds of each line, with a flushed one, holds of the others
pub all_before : (P : TableLine → Type 0) (lines : List TableLine) (line : TableLine)
    → All P (with_flushed_line lines line) → All P lines
all_before P [] line all = All-nil P
all_before P (other ∷ lines) line all = elim (either (other.level == 0)) [
  | inl zeroth ↦
      let same : with_flushed_line (other ∷ lines) line ≡ other ∷ with_flushed_line lines line =
      rw zeroth refl in
      let there = subst (All P) same all in
      All-cons P other lines (All-head P other (with_flushed_line lines line) there)
      (all_before P lines line (All-tail P other (with_flushed_line lines line) there))
  | inr deeper ↦
      let same : with_flushed_line (other ∷ lines) line ≡ line ∷ other ∷ lines =
      rw deeper refl in
      All-tail P line (other ∷ lines) (subst (All P) same all)
]

-- a table that was written is one on each disk that has its file
abbrev pub written_in : (old new : State) (files : StoreFiles) (line : TableLine)
    → (w : IsWrittenTable old files.memtable files.free_file line)
    → new line.file ≡ old line.file
    → IsWrittenTable new files.memtable files.free_file line
written_in old new files line w same = record {
  table = w.table;
  is = table_same (contents old) (contents new) line w.table (ap seen same) w.is;
  at = w.at;
  level = w.level;
  proper = w.proper;
  durable = subst (λ (f : ℕ). IsDurable (new f)) w.at (subst IsDurable (sym same)
      (subst (λ (f : ℕ). IsDurable (old f)) (sym w.at) w.durable));
  range = w.range;
  entries = w.entries;
}
