-- A finished table, and its line.
use Rattle.std.proofs.Common.{◌≡◌, ◌≤◌, ◌<◌, ◌^◌, ℕ, List, [], ◌∷◌, ◌++◌, length, Option, All}
use Rattle.std.proofs.Common.{IfSome, inl, inr, refl, sym, ap, subst, ◌∙◌, arith, length-append}
use Rattle.std.specs.declared.cmp.Ordering.TheVariants.{Greater, Less}
use Rattle.std.specs.Ordering.{nat_cmp, ordering_reverse, ordering_then}
use Rattle.std.specs.Cmp.Lexicographic.{nat_list_cmp_total}
use Rattle.std.proofs.lemmas.List.Elements.{All-weaker}
use Rattle.disk.specs.{State}
use Rattle.byte_fields.specs.ByteOrderLemmas.{Less-below}
use Rattle.byte_fields.specs.{IsStoredKey, StoredKey, stored_cmp}
use Rattle.kv_types.specs.declared.bounds.TheConstants.{MAX_NUMBER}
use Rattle.kv_types.specs.OrderLemmas.{Among, Rises, among_of_All, rises_from_AllPairs}
use Rattle.kv_types.specs.{Entry}
use Rattle.merge_iter.specs.declared.Direction.TheVariants.{Forward}
use Rattle.merge_iter.specs.{EntryPrecedes}
use Rattle.table_format.specs.RisingLemmas.{last_among, last_of_some}
use Rattle.table_format.specs.TablesLemmas.{length-table}
use Rattle.table_format.specs.{AreRising, IsEntryOf, IsTableEntry, TableRepresentsIn, block_lines}
use Rattle.table_format.specs.{data_bytes, filter_part, index_part, last_entry}
use Rattle.byte_fields.specs.declared.format.Format.TheVariants.{Two}
use Rattle.table_builder.specs.declared.Finished.{Finished}
use Rattle.table_builder.specs.{IsFinishedTable, first_entry}
use Rattle.store_model.specs.{KeyPrecedes}
use Rattle.store_model.specs.KeysLemmas.{key_never}
use Rattle.compaction.specs.Outputs.{IsOutput, finished_line}

-- ---- the ends of entries in order

-- an entry's key is not behind those of the entries that follow it
pub not_behind : (a b : Entry) → EntryPrecedes Forward a b → KeyPrecedes b.key a.key → ⊥
not_behind a b less back =
    let turned : stored_cmp a.key b.key ≡ Greater =
    nat_list_cmp_total.antisymm a.key b.key ∙ ap ordering_reverse back in
    let wrong : Greater ≡ Less =
    sym (ap (λ o. ordering_then o (nat_cmp b.number a.number)) turned) ∙ less in
    cc

-- of entries in order, none has a lesser key than the first
pub first_least : (x : Entry) (xs : List Entry) → Rises (EntryPrecedes Forward) (x ∷ xs)
    → (e : Entry) → Among e (x ∷ xs) → KeyPrecedes e.key x.key → ⊥
first_least x xs rises e (inl is) before =
    key_never x.key (subst (λ (z : Entry). KeyPrecedes z.key x.key) (sym is) before)
first_least x xs rises e (inr later) before = not_behind x e (rises.0 e later) before

-- the ends of entries, by the keys that a finished table names
record HasProperEnds (least greatest : StoredKey) : Type 0 where
  first : IsStoredKey least
  last : IsStoredKey greatest
  proper : KeyPrecedes greatest least → ⊥

-- entries of a table have such ends
has_ends : (entries : List Entry) (least greatest : StoredKey) → All IsTableEntry entries
    → AreRising entries → 1 ≤ length entries
    → IfSome (first_entry entries) (λ entry. least ≡ entry.key)
    → IfSome (last_entry entries) (λ entry. greatest ≡ entry.key) → HasProperEnds least greatest
has_ends [] least greatest each rising some first end = absurd (omega (arith, some))
has_ends (x ∷ xs) least greatest each rising some first end =
    let last = last_of_some (x ∷ xs) (omega arith) in
    let is : greatest ≡ last.0.key =
    subst (λ (o : Option Entry). IfSome o (λ entry. greatest ≡ entry.key)) last.1 end in
    let there = last_among (x ∷ xs) last.0 last.1 in
    let rises = rises_from_AllPairs (EntryPrecedes Forward) (x ∷ xs) rising in
    record {
      first = subst IsStoredKey (sym first)
          (among_of_All IsTableEntry (x ∷ xs) x each (inl refl)).key;
      last = subst IsStoredKey (sym is)
          (among_of_All IsTableEntry (x ∷ xs) last.0 each there).key;
      proper = λ before. first_least x xs rises last.0 there
          (subst (λ k. KeyPrecedes k x.key) is
          (subst (λ k. KeyPrecedes greatest k) first before));
    }

-- the bytes of a table are fewer than a manifest may have
short_table : (bytes : List ℕ) (entries : List Entry) → TableRepresentsIn Two bytes entries
    → length bytes < 2 ^ 63
short_table bytes entries r =
    let filter = filter_part r.filter in
    let index = index_part Two (block_lines Two 0 r.blocks) in
    let data_len = r.fits.data_len in
    let filter_len = r.fits.filter_len in
    let index_len = r.fits.index_len in
    omega (
      arith,
      ap length r.spelled,
      length-table Two r.blocks r.filter,
      length-append (data_bytes Two r.blocks) (filter ++ index),
      length-append filter index,
      data_len,
      filter_len,
      index_len,
    )

-- ---- its line

-- a finished table is an output of its line
pub finished_output : (disk : State) (level file : ℕ) (entries : List Entry) (done : Finished)
    → level ≤ 6 → file ≤ MAX_NUMBER → IsFinishedTable (disk file) entries done
    → IsOutput disk level (finished_line level file done) entries
finished_output disk level file entries done merged named f =
    let r = f.holds.represents in
    let each = All-weaker (IsEntryOf Two) IsTableEntry (λ entry is. is.limits) entries r.each in
    let ends = has_ends entries done.least done.greatest each r.rising r.some f.least f.greatest in
    let len = f.len in
    let short = short_table f.holds.bytes entries r in
    record {
      at = refl;
      table = f.holds;
      len = f.len;
      least = f.least;
      greatest = f.greatest;
      proper = record {
        level = merged;
        file = named;
        bytes = omega (arith, len, short);
        least = ends.first;
        greatest = ends.last;
        proper = λ below. ends.proper (Less-below done.greatest done.least below);
      };
    }
