-- A finished table, and its line.
use Rattle.std.proofs.Common.{◌≡◌, ◌≤◌, List, [], ◌∷◌, length, Option, Some, Contains, IfSome}
use Rattle.std.proofs.Common.{ℕ, inl, inr, refl, sym, ap, subst, ◌∙◌, arith}
use Rattle.std.specs.Option.{option_map}
use Rattle.std.specs.Prelude.{IsSomeAnd, ◌↔◌}
use Rattle.disk.specs.{Slot, State, seen, IsDurable}
use Rattle.byte_fields.specs.{StoredKey}
use Rattle.kv_types.specs.declared.bounds.TheConstants.{MAX_NUMBER}
use Rattle.kv_types.specs.OrderLemmas.{Among, Rises, among_from_Contains, rises_from_AllPairs}
use Rattle.kv_types.specs.{Entry}
use Rattle.merge_iter.specs.declared.Direction.TheVariants.{Forward}
use Rattle.merge_iter.specs.{EntryPrecedes}
use Rattle.memtable.specs.declared.Memtable.{Memtable}
use Rattle.memtable.specs.{TableHolds}
use Rattle.table_format.specs.RisingLemmas.{last_among, last_of_some}
use Rattle.table_format.specs.{AreRising, TableRepresents, last_entry}
use Rattle.byte_fields.specs.declared.format.Format.TheVariants.{Two}
use Rattle.table_builder.specs.declared.Finished.{Finished}
use Rattle.table_builder.specs.{IsFinishedTable, first_entry}
use Rattle.sorted_table.specs.{greatest_key}
use Rattle.store_model.specs.Keys.{KeyPrecedes}
use Rattle.store_model.specs.KeysLemmas.{key_never}
use Rattle.store_model.specs.{LevelTable}
use Rattle.compaction.specs.OutputsLemmas.{finished_output, first_least, not_behind}
use Rattle.compaction.specs.{finished_line}
use Rattle.store_tables.specs.LevelTables.{least_key, line_range}
use Rattle.store_tables.specs.TableWriting.{IsWrittenTable}

-- ---- the ends of entries in order

last_greatest : (entries : List Entry) (last : Entry) → last_entry entries ≡ Some last
    → Rises (EntryPrecedes Forward) entries → (e : Entry) → Among e entries
    → KeyPrecedes last.key e.key → ⊥
last_greatest [] last is rises e among before = absurd among
last_greatest (x ∷ []) last is rises e (inl same) before =
    let end : x ≡ last = cc in
    key_never e.key (subst (λ (z : Entry). KeyPrecedes z.key e.key) (sym end ∙ same) before)
last_greatest (x ∷ []) last is rises e (inr none) before = absurd none
last_greatest (x ∷ y ∷ xs) last is rises e (inl same) before =
    let less = rises.0 last (last_among (y ∷ xs) last is) in
    not_behind x last less (subst (λ (z : Entry). KeyPrecedes last.key z.key) (sym same) before)
last_greatest (x ∷ y ∷ xs) last is rises e (inr later) before =
    last_greatest (y ∷ xs) last is rises.1 e later before

-- the ends of entries, by the keys that a finished table names
pub record HasEnds (entries : List Entry) (least greatest : StoredKey) : Type 0 where
  pub proper : KeyPrecedes greatest least → ⊥
  pub after : (e : Entry) → Contains entries e → KeyPrecedes e.key least → ⊥
  pub until : (e : Entry) → Contains entries e → KeyPrecedes greatest e.key → ⊥
  pub first : least_key entries ≡ Some least
  pub last : greatest_key entries ≡ Some greatest

entries_end : (x : Entry) (xs : List Entry) (last : Entry) → last_entry (x ∷ xs) ≡ Some last
    → AreRising (x ∷ xs) → HasEnds (x ∷ xs) x.key last.key
entries_end x xs last is rising =
    let entries = x ∷ xs in
    let rises = rises_from_AllPairs (EntryPrecedes Forward) entries rising in
    let there = last_among entries last is in
    record {
      proper = first_least x xs rises last there;
      after = λ e c. first_least x xs rises e (among_from_Contains entries e c);
      until = λ e c. last_greatest entries last is rises e (among_from_Contains entries e c);
      first = refl;
      last = ap (option_map (λ (e : Entry). e.key)) is;
    }

has_ends : (entries : List Entry) (least greatest : StoredKey) → AreRising entries
    → 1 ≤ length entries
    → IfSome (first_entry entries) (λ entry. least ≡ entry.key)
    → IfSome (last_entry entries) (λ entry. greatest ≡ entry.key)
    → HasEnds entries least greatest
has_ends [] least greatest rising some first end = absurd (omega (arith, some))
has_ends (x ∷ xs) least greatest rising some first end =
    let last = last_of_some (x ∷ xs) (omega arith) in
    let is : greatest ≡ last.0.key =
    subst (λ (o : Option Entry). IfSome o (λ entry. greatest ≡ entry.key)) last.1 end in
    subst (λ (k : StoredKey). HasEnds (x ∷ xs) k greatest) (sym first)
    (subst (λ (k : StoredKey). HasEnds (x ∷ xs) x.key k) (sym is)
    (entries_end x xs last.0 last.1 rising))

-- ---- its line

pub written_table : (disk : State) (memtable : Memtable) (file : ℕ) (entries : List Entry)
    (done : Finished) → file ≤ MAX_NUMBER → IsFinishedTable (disk file) entries done
    → ((entry : Entry) → Contains entries entry ↔ TableHolds memtable entry)
    → IsWrittenTable disk memtable file (finished_line 0 file done)
written_table disk memtable file entries done named f alike =
    let r = f.holds.represents in
    let line = finished_line 0 file done in
    let ends = has_ends entries done.least done.greatest r.rising r.some f.least f.greatest in
    let table : LevelTable =
    record { level = 0; file = file; range = line_range line; entries = entries } in
    record {
      table = table;
      is = record {
        level = refl;
        file = refl;
        range = refl;
        represents = subst
            (λ (slot : Slot). IsSomeAnd (seen slot)
            (λ bytes. (length bytes ≡ done.length) × TableRepresents bytes entries))
            (sym f.holds.durable) (sym f.len, record { format = Two; table = r });
        least = ends.first;
        greatest = ends.last;
      };
      at = refl;
      level = refl;
      proper = (finished_output disk 0 file entries done (omega arith) named f).proper;
      durable = subst (λ (slot : Slot). IsDurable slot) (sym f.holds.durable) (refl, refl);
      range = record {
        proper = ends.proper;
        within = λ e c. (ends.after e c, ends.until e c);
      };
      entries = alike;
    }
