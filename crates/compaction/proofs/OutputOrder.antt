-- The tables that a merge writes stand in order of keys, and are its outputs.
use Rattle.std.proofs.Common.{◌≡◌, inl, inr, ℕ, suc, ◌<◌, List, [], ◌∷◌, ◌++◌, length}
use Rattle.std.proofs.Common.{Option, Some, IfSome, AllPairs}
use Rattle.std.proofs.Common.{refl, sym, ◌∙◌, ap, subst, append-nil, arith}
use Rattle.std.specs.Prelude.{slice_get}
use Rattle.std.specs.List.{AllZip}
use Rattle.kv_types.specs.{Entry}
use Rattle.kv_types.specs.OrderLemmas.{All-among, AllPairs-rises, Among, Contains-among, Rises}
use Rattle.kv_types.specs.OrderLemmas.{among_from_Contains, rises_from_AllPairs}
use Rattle.merge_iter.specs.declared.Direction.TheVariants.{Forward}
use Rattle.merge_iter.specs.{EntryPrecedes}
use Rattle.table_format.specs.{last_entry}
use Rattle.table_format.specs.RisingLemmas.{last_among, last_of_some}
use Rattle.store_model.specs.{AreInKeyOrder, IsInKeyOrder, KeyPrecedes}
use Rattle.store_model.specs.{LevelTable}
use Rattle.store_model.specs.Claims.{WrittenHaveRanges}
use Rattle.compaction.specs.Survivors.{SurvivorsAreLeft}
use Rattle.compaction.specs.Survivors.{survivors}
use Rattle.compaction.specs.WrittenTables.{IsTableOver, Written, WrittenAreMerged}
use Rattle.compaction.specs.WrittenTables.{open_table, tables_of}
use Rattle.compaction.specs.WrittenTables.{written_of}
use Rattle.compaction.proofs.Lists.{zip_back, zip_there}
use Rattle.compaction.specs.OutputsLemmas.{not_behind}
use Rattle.compaction.proofs.Cutting.{ComesFirst, IsInTurn, among_append, among_flat, flat}
use Rattle.compaction.proofs.Cutting.{flat_among, in_turn, joined_tables, rises_last, rises_part}
use Rattle.compaction.proofs.Cutting.{written_are_survivors}

some_tables : (it : Written) → IsInTurn it → (t : List Entry) → Among t (tables_of it)
    → 0 < length t
some_tables it turn t a = elim (among_append it.closed (open_table it.opened) t a) [
  | inl early ↦ turn.some t early
  | inr end ↦ some_open it.opened end
]
  where
    some_open : (opened : List Entry) → Among t (open_table opened) → 0 < length t
    some_open [] none = absurd none
    some_open (x ∷ xs) (inl is) = subst (λ (l : List Entry). 0 < length l) is (omega arith)
    some_open (x ∷ xs) (inr none) = absurd none

tables_rise : (it : Written) → IsInTurn it → Rises ComesFirst (tables_of it)
tables_rise it turn = by_open it.opened turn.opened
  where
    by_open : (opened : List Entry)
        → ((t : List Entry) → Among t it.closed → ComesFirst t opened)
        → Rises ComesFirst (it.closed ++ open_table opened)
    by_open [] before = subst (λ (l : List (List Entry)). Rises ComesFirst l)
        (sym (append-nil it.closed)) turn.closed
    by_open (x ∷ xs) before = rises_last ComesFirst it.closed (x ∷ xs) turn.closed before

rises_weaker : {A : Type 0} (R S : A → A → Type 0) → ((x y : A) → R x y → S x y) → (xs : List A)
    → Rises R xs → Rises S xs
rises_weaker R S so [] rises = tt
rises_weaker R S so (x ∷ xs) rises =
    (λ y a. so x y (rises.0 y a), rises_weaker R S so xs rises.1)

last_at : (x : Entry) (xs : List Entry) (last : Entry) → last_entry (x ∷ xs) ≡ Some last
    → slice_get (x ∷ xs) (length xs) ≡ Some last
last_at x [] last is = is
last_at x (y ∷ ys) last is = last_at y ys last is

module _ (level : ℕ) where
  -- one table
  in_key_order : (t : LevelTable) (entries : List Entry) → IsTableOver level t entries
      → Rises (EntryPrecedes Forward) entries → 0 < length entries → IsInKeyOrder t
  in_key_order t [] over rises some = absurd (omega (arith, some))
  in_key_order t (x ∷ xs) over rises some =
      let last = last_of_some (x ∷ xs) (omega arith) in
      record {
        rise = subst (λ (l : List Entry). AllPairs (λ a b. KeyPrecedes b.key a.key → ⊥) l)
            (sym over.all)
            (AllPairs-rises (λ a b. KeyPrecedes b.key a.key → ⊥) (x ∷ xs)
            (rises_weaker (EntryPrecedes Forward) _ not_behind (x ∷ xs) rises));
        first = x;
        begins = ap (λ (l : List Entry). slice_get l 0) over.all;
        least = sym over.least;
        place = length xs;
        count = ap length over.all;
        last = last.0;
        ends = ap (λ (l : List Entry). slice_get l (length xs)) over.all
            ∙ last_at x xs last.0 last.1;
        greatest = sym (subst (λ (o : Option Entry).
            IfSome o (λ entry. t.range.greatest ≡ entry.key)) last.1 over.greatest);
      }

  -- two tables
  ends_before : (t u : LevelTable) (xs ys : List Entry) → IsTableOver level t xs
      → IsTableOver level u ys → ComesFirst xs ys → 0 < length xs → 0 < length ys
      → KeyPrecedes t.range.greatest u.range.least
  ends_before t u xs [] over_t over_u first some_x some_y = absurd (omega (arith, some_y))
  ends_before t u xs (y ∷ ys) over_t over_u first some_x some_y =
      let last = last_of_some xs some_x in
      let greatest : t.range.greatest ≡ last.0.key =
      subst (λ (o : Option Entry). IfSome o (λ entry. t.range.greatest ≡ entry.key)) last.1
      over_t.greatest in
      subst (λ k. KeyPrecedes k u.range.least) (sym greatest)
      (subst (λ k. KeyPrecedes last.0.key k) (sym over_u.least)
      (first last.0 y (last_among xs last.0 last.1) (inl refl)))

  outputs_rise : (outputs : List LevelTable) (tables : List (List Entry))
      → AllZip (IsTableOver level) outputs tables → Rises ComesFirst tables
      → ((t : List Entry) → Among t tables → 0 < length t)
      → Rises (λ t u. KeyPrecedes t.range.greatest u.range.least) outputs
  outputs_rise [] tables zip rises some = tt
  outputs_rise (t ∷ ts) [] zip rises some = absurd zip
  outputs_rise (t ∷ ts) (x ∷ xs) zip rises some = (
    λ u a. let it = zip_there (IsTableOver level) ts xs u zip.1 a in
        ends_before t u x it.0 zip.0 it.2 (rises.0 it.0 it.1) (some x (inl refl))
        (some it.0 (inr it.1)),
    outputs_rise ts xs zip.1 rises.1 (λ y a. some y (inr a)),
  )

  outputs_in_order : (outputs : List LevelTable) (tables : List (List Entry))
      → AllZip (IsTableOver level) outputs tables → Rises (EntryPrecedes Forward) (flat tables)
      → Rises ComesFirst tables → ((t : List Entry) → Among t tables → 0 < length t)
      → AreInKeyOrder outputs
  outputs_in_order outputs tables zip rises apart some = record {
    each = All-among IsInKeyOrder outputs (λ t a.
        let it = zip_there (IsTableOver level) outputs tables t zip a in
        in_key_order t it.0 it.2 (rises_part tables it.0 rises it.1) (some it.0 it.1));
    rise = AllPairs-rises (λ t u. KeyPrecedes t.range.greatest u.range.least) outputs
        (outputs_rise outputs tables zip apart some);
  }

-- tables that have what is written of the sorted union of the inputs are the outputs
pub written_are_merged : SurvivorsAreLeft → WrittenHaveRanges → WrittenAreMerged
written_are_merged left own floor target plan outputs written =
    let deeper = written.deeper in
    let entries = written.entries in
    let lines = written.lines in
    let union = written.union in
    let zip = written.tables in
    let it = written_of floor deeper target entries in
    let tables = tables_of it in
    let rises = rises_from_AllPairs (EntryPrecedes Forward) entries union.rising in
    let turn = in_turn floor deeper target entries rises in
    let all : flat tables ≡ survivors floor deeper entries =
    written_are_survivors floor deeper target entries in
    let in_order = outputs_in_order (suc plan.level) outputs tables zip
    (subst (λ (l : List Entry). Rises (EntryPrecedes Forward) l) (sym (joined_tables it))
    turn.rises)
    (tables_rise it turn) (some_tables it turn) in
    let what = left floor plan deeper entries lines union in
    record {
      deeper = λ t in_t.
          let x = zip_there (IsTableOver (suc plan.level)) outputs tables t zip
          (among_from_Contains outputs t in_t) in
          x.2.at;
      own = own outputs in_order;
      only = λ e h.
          let x = zip_there (IsTableOver (suc plan.level)) outputs tables h.0 zip
          (among_from_Contains outputs h.0 h.1) in
          let here = subst (λ (l : List Entry). Among e l) x.2.all
          (among_from_Contains h.0.entries e h.2) in
          what.only e (Contains-among (survivors floor deeper entries) e
          (subst (λ (l : List Entry). Among e l) all (among_flat tables x.0 e x.1 here)));
      all = λ e h. elim (what.all e h) [
        | inl there ↦
            let a = subst (λ (l : List Entry). Among e l) (sym all)
            (among_from_Contains (survivors floor deeper entries) e there) in
            let x = flat_among tables e a in
            let t = zip_back (IsTableOver (suc plan.level)) outputs tables x.0 zip x.1 in
            inl (
              t.0,
              Contains-among outputs t.0 t.1,
              Contains-among t.0.entries e
                  (subst (λ (l : List Entry). Among e l) (sym t.2.all) x.2),
            )
        | inr dropped ↦ inr dropped
      ];
    }
