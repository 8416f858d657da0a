-- Tables after an edit: as an edit of the model, and with ranges apart.
use Rattle.std.proofs.Common.{◌≡◌, inl, inr, ℕ, List, [], ◌∷◌}
use Rattle.std.proofs.Common.{map, Bool, Contains, true, refl, sym, ◌∙◌, ap, subst}
use Rattle.std.proofs.Common.{arith}
use Rattle.std.specs.Prelude.{◌==◌, ◌&&◌, ◌||◌, not}
use Rattle.std.specs.List.{AllZip, filter, list_all, list_any}
use Rattle.std.specs.Ordering.{is_lt}
use Rattle.std.proofs.lemmas.Bool.{and_from, and_parts, both_ways, cases_Bool, eq-eqb, eqb-false}
use Rattle.std.proofs.lemmas.Bool.{eqb-true, not-true, or_left, or_right}
use Rattle.byte_fields.specs.{stored_cmp}
use Rattle.kv_types.specs.OrderLemmas.{Among, Contains-among, Rises, among_from_Contains}
use Rattle.store_model.specs.{AreDisjointRanges, AreEdited, AreLeveled}
use Rattle.store_model.specs.{LevelTable}
use Rattle.version_edits.specs.declared.TableLine.{TableLine}
use Rattle.version_edits.specs.declared.TableName.{TableName}
use Rattle.version_edits.specs.Versions.{all_apart, are_apart}
use Rattle.version_edits.specs.Versions.{table_is_before}
use Rattle.compaction.specs.Edits.{line_of_table, tables_after}
use Rattle.compaction.specs.Merges.{table_name}
use Rattle.compaction.specs.Plans.{IsLineOf}
use Rattle.compaction.specs.Survivors.{key_range}
use Rattle.compaction.proofs.Dropping.{less_Decides}
use Rattle.compaction.proofs.Lists.{among_filter, filter_among, zip_there}
use Rattle.compaction.proofs.Once.{Differ, all_true, among_map, any_true}
use Rattle.compaction.proofs.Once.{fold_cases, fold_new, fold_old, map_among}
use Rattle.compaction.proofs.Once.{rises_with}
use Rattle.compaction.proofs.Once.{same_of, true_any}

-- ---- the tables after an edit

-- the name is that of the table of this level and file
abbrev pub is_name : ℕ → ℕ → TableName → Bool
is_name level file one = one.level == level && one.file == file

pub is_named : (inputs : List LevelTable) (t : LevelTable) (level file : ℕ) → Among t inputs
    → t.level ≡ level → t.file ≡ file
    → list_any (is_name level file) (map table_name inputs) ≡ true
is_named inputs t level file in_t at is =
    any_true (is_name level file) (map table_name inputs) (table_name t)
    (among_map table_name inputs t in_t)
    (and_from (t.level == level) (t.file == file) (eq-eqb t.level level at)
    (eq-eqb t.file file is))

named_is : (inputs : List LevelTable) (level file : ℕ)
    → list_any (is_name level file) (map table_name inputs) ≡ true
    → (t : LevelTable) × Among t inputs × (t.file ≡ file)
named_is inputs level file passed =
    let one = true_any (is_name level file) (map table_name inputs) passed in
    let t = map_among table_name inputs one.0 one.1 in
    let parts = and_parts (one.0.level == level) (one.0.file == file) one.2 in
    (t.0, t.1, ap (λ (n : TableName). n.file) t.2 ∙ eqb-true one.0.file file parts.1)

abbrev pub table_file : LevelTable → ℕ
table_file t = t.file

abbrev pub line_file : TableLine → ℕ
line_file line = line.file

module _ (inputs outputs tables : List LevelTable) where
  abbrev is_gone : LevelTable → Bool
  is_gone t = list_any (is_name t.level t.file) (map table_name inputs)

  abbrev stands : LevelTable → LevelTable → Bool
  stands t u = table_is_before (line_of_table t) (line_of_table u)

  abbrev stay : List LevelTable
  stay = filter (λ t. not (is_gone t)) tables

  -- an edit of the model
  pub edited : Rises (Differ table_file) tables
      → ((t : LevelTable) → Contains inputs t → Contains tables t)
      → AreEdited inputs outputs tables (tables_after (map table_name inputs) outputs tables)
  edited differ there = record {
    stays = λ t has.
        elim (fold_cases stands stay outputs t (among_from_Contains _ t has)) [
          | inl old ↦
              let it = filter_among (λ (u : LevelTable). not (is_gone u)) tables t old in
              inl (
                Contains-among tables t it.0,
                λ gone.
                    let at = among_from_Contains inputs t gone in
                    both_ways (is_gone t) (not-true (is_gone t) it.1)
                    (is_named inputs t t.level t.file at refl refl),
              )
          | inr new ↦ inr (Contains-among outputs t new)
        ];
    left = λ t has.
        let in_t = among_from_Contains tables t has in
        elim (cases_Bool (is_gone t)) [
          | inl passed ↦
              let it = named_is inputs t.level t.file passed in
              let in_it = among_from_Contains tables it.0
              (there it.0 (Contains-among inputs it.0 it.1)) in
              let same = same_of table_file tables differ it.0 t in_it in_t it.2 in
              inl (subst (λ z. Contains inputs z) same (Contains-among inputs it.0 it.1))
          | inr none ↦ inr (Contains-among _ t (fold_old stands stay outputs t
              (among_filter (λ (u : LevelTable). not (is_gone u)) tables t in_t (ap not none))))
        ];
    new = λ t has. Contains-among _ t
        (fold_new stands stay outputs t (among_from_Contains outputs t has));
  }

-- ---- ranges apart

-- lines of tables that may stand together are apart, where their files differ
module _ (flushed : ℕ) (lines : List TableLine) (tables : List LevelTable)
    (zip : AllZip IsLineOf lines tables) (leveled : AreLeveled flushed tables) where
  two_apart : (a b : TableLine) → Among a lines → Among b lines → Differ line_file a b
      → are_apart a b ≡ true
  two_apart a b in_a in_b differ =
      let t = zip_there IsLineOf lines tables a zip in_a in
      let u = zip_there IsLineOf lines tables b zip in_b in
      elim (cases_Bool (a.level == b.level)) [
        | inr other ↦ rw other refl
        | inl same ↦ elim (cases_Bool (a.level == 0)) [
          | inl zeroth ↦ rw (same, zeroth) refl
          | inr deep ↦
              let at = eqb-true a.level b.level same in
              let some = eqb-false a.level 0 deep in
              let t_at = t.2.level in
              let u_at = u.2.level in
              rw (same, deep) (elim (leveled.disjoint t.0 u.0 (Contains-among tables t.0 t.1)
              (Contains-among tables u.0 u.1) (omega (arith, at, t_at, u_at))
              (omega (arith, some, t_at))) [
                | inl is ↦ absurd (differ
                    (sym t.2.file ∙ ap (λ (z : LevelTable). z.file) is ∙ u.2.file))
                | inr side ↦ sides a b (subst (λ r. AreDisjointRanges r (key_range b)) t.2.range
                    (subst (λ r. AreDisjointRanges t.0.range r) u.2.range side))
              ])
        ]
      ]
    where
      sides : (x y : TableLine) → AreDisjointRanges (key_range x) (key_range y)
          → (is_lt (stored_cmp x.greatest y.least) || is_lt (stored_cmp y.greatest x.least))
          ≡ true
      sides x y (inl lt) = or_left _ _ ((less_Decides (stored_cmp x.greatest y.least)).1 lt)
      sides x y (inr lt) = or_right _ _ ((less_Decides (stored_cmp y.greatest x.least)).1 lt)

  pub lines_apart : Rises (Differ line_file) lines → all_apart lines ≡ true
  lines_apart differ = every lines (rises_with (Differ line_file) (λ a b. are_apart a b ≡ true)
      lines two_apart differ)
    where
      every : (xs : List TableLine) → Rises (λ a b. are_apart a b ≡ true) xs
          → all_apart xs ≡ true
      every [] rises = refl
      every (x ∷ xs) rises = and_from (list_all (λ other. are_apart x other) xs) (all_apart xs)
          (all_true (λ other. are_apart x other) xs rises.0) (every xs rises.1)
