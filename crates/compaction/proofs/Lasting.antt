-- A merge under way outlives the calls of others.
use Rattle.std.proofs.Common.{◌≡◌, inl, inr, ℕ, ◌<◌, ◌≤◌, List}
use Rattle.std.proofs.Common.{Option, Some, None, refl, sym, subst, ◌∙◌}
use Rattle.std.proofs.Common.{arith}
use Rattle.disk.specs.declared.Disk.{Ghosts}
use Rattle.disk.specs.{State}
use Rattle.kv_types.specs.{Entry}
use Rattle.merge_iter.specs.declared.Cursor.{Ghosts as CursorGhosts}
use Rattle.merge_iter.specs.declared.Merged.{Merged}
use Rattle.sorted_table.specs.declared.TableCursor.{TableCursor}
use Rattle.compaction.specs.Merges.{MergesOutliveCalls, MergesStayBeside}
use Rattle.compaction.specs.Walks.{written_by, LeavesWalk}
use Rattle.merge_iter.specs.{AreCursorLaws}
use Rattle.store_model.specs.{LevelTable, tables_entries}
use Rattle.compaction.specs.declared.writer.OutputWriter.{OutputWriter}
use Rattle.compaction.specs.Outputs.{IsOwnFile, open_file}
use Rattle.compaction.specs.Walks.{IsWalking}
use Rattle.compaction.proofs.Numbers.{begun_more, edits_beside}
use Rattle.compaction.specs.WalksLemmas.{alike_through}
use Rattle.compaction.proofs.Writing.{outputs_kept}
use Rattle.std.proofs.lemmas.List.Elements.{All-weaker}
use Rattle.std.specs.Option.{option_map}
use Rattle.std.proofs.Common.{All, IfSome, ◌≢◌}
use Rattle.disk.specs.{Slot}
use Rattle.table_builder.specs.{Builds}
use Rattle.compaction.specs.declared.open_output.OpenOutput.{OpenOutput}
use Rattle.compaction.specs.Outputs.{HoldsOpen}

-- ---- what other calls keep

below_more : (o : Option ℕ) (P : ℕ → Type 0) (n m : ℕ) → n ≤ m
    → IfSome o (λ file. (file < n) × P file) → IfSome o (λ file. (file < m) × P file)
below_more None P n m le if_some = tt
below_more (Some file) P n m le if_some =
    let lt = if_some.0 in (omega (arith, lt, le), if_some.1)

open_kept : (old new : State) (current : Option OpenOutput) (entries : List Entry)
    → ((file : ℕ) → option_map (λ it. it.file) current ≡ Some file → new file ≡ old file)
    → HoldsOpen old current entries → HoldsOpen new current entries
open_kept old new None entries same is = is
open_kept old new (Some output) entries same builds =
    subst (λ (slot : Slot). Builds slot output.builder entries) (sym (same output.file refl)) builds

own_less : (writer : OutputWriter) (next_file later file : ℕ) → next_file ≤ later
    → IsOwnFile writer later file → IsOwnFile writer next_file file
own_less writer next_file later file le (inl is) = inl is
own_less writer next_file later file le (inr late) = inr (omega (arith, le, late))

module _ {U F : Type 0} (u : CursorGhosts U F) (d : Ghosts F)
    (laws : AreCursorLaws u.as_is u.is_intact u.holds u.is_sound u.suits u.keeps u.makes u.left
    u.most) where
  walk_left : (meant : u.Meant) (inputs : List LevelTable) (old new : F) (next_file later : ℕ)
      (union : U) (writer : OutputWriter)
      → IsWalking u d meant old next_file union writer inputs
      → LeavesWalk d old new next_file later writer inputs
      → IsWalking u d meant new later union writer inputs
  walk_left meant inputs old new next_file later union writer w left =
      let stay = laws.suited meant union old new (w.reads old new (λ h. left.sources)) w.sound in
      let le = left.number in
      record {
        honest = left.sources.0;
        sound = stay.0;
        alike = alike_through (u.holds meant union new) (u.holds meant union old)
            (tables_entries inputs) stay.1 w.alike;
        reads = w.reads;
        apart = λ file there mine.
            w.apart file there (own_less writer next_file later file le mine);
        met = w.met;
        walked = w.walked;
        rising = w.rising;
        writes = record {
          before = w.writes.before;
          closed = outputs_kept (d.state old) (d.state new) writer.level writer.closed.items
              (written_by writer w.met).closed left.closed w.writes.closed;
          current = open_kept (d.state old) (d.state new) writer.current
              (written_by writer w.met).opened left.current w.writes.current;
          numbered = record {
            closed = All-weaker (λ line. line.file < next_file) (λ line. line.file < later)
                (λ line lt. omega (arith, lt, le)) writer.closed.items w.writes.numbered.closed;
            once = w.writes.numbered.once;
            current = below_more (open_file writer)
                (λ file. All (λ line. line.file ≢ file) writer.closed.items) next_file later le
                w.writes.numbered.current;
          };
        };
        unused = left.unused;
      }

module _ {D F : Type 0} (u : CursorGhosts (Merged (TableCursor D)) F) (d : Ghosts F)
    (laws : AreCursorLaws u.as_is u.is_intact u.holds u.is_sound u.suits u.keeps u.makes u.left
    u.most) where
  -- a merge under way stays so while other calls leave its files as they were
  pub merge_left : MergesOutliveCalls u d
  merge_left meant old new next_file later it plan floor m left =
      let walk = walk_left u d laws meant plan.inputs old new next_file later it.union it.writer
      m.walk left in (
        record {
          works = m.works;
          walk = walk;
          deeper = m.deeper;
          level = m.level;
          same_floor = m.same_floor;
          gone = m.gone;
          numbers = begun_more it.first next_file later it.writer it.writer plan.inputs left.number
              (λ file output. inl output) walk.writes.numbered m.numbers;
        },
        λ intact other at. intact other (
          at.0,
          λ file there.
              at.1 file there ∙ left.sources.1 file there,
        ),
      )

-- a version that names no output of a merge names none after an edit that adds later files
pub merges_beside : {D F : Type 0} (u : CursorGhosts (Merged (TableCursor D)) F) (d : Ghosts F)
    → MergesStayBeside u d
merges_beside u d meant files next_file it plan floor version edit m logs tables beside =
    edits_beside version edit next_file it.writer m.walk.writes.numbered logs tables beside
