-- Tables of which some are given up and others are added are edited.
use Rattle.std.proofs.Common.{◌≡◌, ◌⊎◌, ◌&&◌, ◌==◌, ℕ, List, [], ◌∷◌, Contains}
use Rattle.std.proofs.Common.{Bool, true, false, Some, inl, inr, map, not, refl, slice_get, sym, ap}
use Rattle.std.proofs.Common.{arith, subst, ◌∙◌}
use Rattle.std.specs.List.{filter, fold, list_any}
use Rattle.std.proofs.lemmas.Bool.{cases_lt, eq-eqb, eqb-true}
use Rattle.std.proofs.lemmas.Option.{slice_get_within}
use Rattle.store_model.specs.{LevelTable}
use Rattle.store_model.specs.PlacesLemmas.{contains_cases, contains_head, contains_next}
use Rattle.store_model.specs.PlacesLemmas.{contains_none}
use Rattle.version_edits.specs.declared.TableName.{TableName}
use Rattle.version_edits.specs.Versions.{placed, table_is_before}
use Rattle.compaction.specs.Edits.{line_of_table}
use Rattle.compaction.specs.Merges.{table_name}
use Rattle.store_tables.specs.MergeTables.{ReplacedTablesAreEdited}
use Rattle.store_tables.specs.RangeReads.{HaveOwnFiles}
use Rattle.store_tables.proofs.LevelLemmas.{either}
use Rattle.store_tables.proofs.RangeTables.{index_of, is_kept, kept_was, place_of}

-- ---- elements at their places

module _ {A : Type 0} (before : A → A → Bool) where
  -- each element is the one that was placed, or was there
  placed_has : (xs : List A) (x t : A) → Contains (placed before xs x) t
      → (x ≡ t) ⊎ Contains xs t
  placed_has [] x t has = elim (contains_cases x [] t has) [
    | inl is ↦ inl is
    | inr later ↦ absurd (contains_none t later)
  ]
  placed_has (y ∷ ys) x t has = elim (either (before x y)) [
    | inl first ↦
        let there : Contains (x ∷ y ∷ ys) t = rw first at has in
        contains_cases x (y ∷ ys) t there
    | inr behind ↦
        let there : Contains (y ∷ placed before ys x) t = rw behind at has in
        elim (contains_cases y (placed before ys x) t there) [
          | inl is ↦ inr (subst (Contains (y ∷ ys)) is (contains_head y ys))
          | inr later ↦ elim (placed_has ys x t later) [
            | inl is ↦ inl is
            | inr was ↦ inr (contains_next y ys t was)
          ]
        ]
  ]

  -- what was there stays
  placed_old : (xs : List A) (x t : A) → Contains xs t → Contains (placed before xs x) t
  placed_old [] x t has = absurd (contains_none t has)
  placed_old (y ∷ ys) x t has = elim (either (before x y)) [
    | inl first ↦ rw first (contains_next x (y ∷ ys) t has)
    | inr behind ↦ rw behind (elim (contains_cases y ys t has) [
      | inl is ↦ subst (Contains (y ∷ placed before ys x)) is
          (contains_head y (placed before ys x))
      | inr later ↦ contains_next y (placed before ys x) t (placed_old ys x t later)
    ])
  ]

  -- what was placed is there
  placed_new : (xs : List A) (x : A) → Contains (placed before xs x) x
  placed_new [] x = contains_head x []
  placed_new (y ∷ ys) x = elim (either (before x y)) [
    | inl first ↦ rw first (contains_head x (y ∷ ys))
    | inr behind ↦ rw behind (contains_next y (placed before ys x) x (placed_new ys x))
  ]

  -- several are placed
  fold_has : (xs ys : List A) (t : A) → Contains (fold (placed before) xs ys) t
      → Contains xs t ⊎ Contains ys t
  fold_has xs [] t has = inl has
  fold_has xs (y ∷ ys) t has = elim (fold_has (placed before xs y) ys t has) [
    | inl there ↦ elim (placed_has xs y t there) [
      | inl is ↦ inr (subst (Contains (y ∷ ys)) is (contains_head y ys))
      | inr was ↦ inl was
    ]
    | inr later ↦ inr (contains_next y ys t later)
  ]

  fold_old : (xs ys : List A) (t : A) → Contains xs t → Contains (fold (placed before) xs ys) t
  fold_old xs [] t has = has
  fold_old xs (y ∷ ys) t has = fold_old (placed before xs y) ys t (placed_old xs y t has)

  fold_new : (xs ys : List A) (t : A) → Contains ys t → Contains (fold (placed before) xs ys) t
  fold_new xs [] t has = absurd (contains_none t has)
  fold_new xs (y ∷ ys) t has = elim (contains_cases y ys t has) [
    | inl is ↦ fold_old (placed before xs y) ys t
        (subst (Contains (placed before xs y)) is (placed_new xs y))
    | inr later ↦ fold_new (placed before xs y) ys t later
  ]

-- what a filter keeps passes
passes : {A : Type 0} (p : A → Bool) (xs : List A) (x : A) → Contains (filter p xs) x → p x ≡ true
passes p [] x has = absurd (contains_none x has)
passes p (y ∷ ys) x has = elim (either (p y)) [
  | inl t ↦
      let there : Contains (y ∷ filter p ys) x = rw t at has in
      elim (contains_cases y (filter p ys) x there) [
        | inl is ↦ subst (λ z. p z ≡ true) is t
        | inr later ↦ passes p ys x later
      ]
  | inr f ↦
      let there : Contains (filter p ys) x = rw f at has in
      passes p ys x there
]

-- ---- names of tables

-- the name is that of the table
abbrev names : LevelTable → TableName → Bool
names t one = one.level == t.level && one.file == t.file

both_true : (a b : Bool) → (a && b) ≡ true → (a ≡ true) × (b ≡ true)
both_true true b is = (refl, is)
both_true false b is = absurd cc

-- the name of a table of the list is among their names
named_is_gone : (inputs : List LevelTable) (t : LevelTable) → Contains inputs t
    → list_any (names t) (map table_name inputs) ≡ true
named_is_gone [] t has = absurd (contains_none t has)
named_is_gone (u ∷ us) t has = elim (contains_cases u us t has) [
  | inl is ↦
      let level = eq-eqb u.level t.level (ap (λ (x : LevelTable). x.level) is) in
      let file = eq-eqb u.file t.file (ap (λ (x : LevelTable). x.file) is) in
      rw (level, file) refl
  | inr later ↦ elim (either (names t (table_name u))) [
    | inl first ↦ rw first refl
    | inr other ↦ rw other (named_is_gone us t later)
  ]
]

-- and a name among them is that of one with this file
gone_is_named : (inputs : List LevelTable) (t : LevelTable)
    → list_any (names t) (map table_name inputs) ≡ true
    → (u : LevelTable) × Contains inputs u × (u.file ≡ t.file)
gone_is_named [] t is = absurd cc
gone_is_named (u ∷ us) t is = elim (either (names t (table_name u))) [
  | inl first ↦
      let both = both_true (u.level == t.level) (u.file == t.file) first in
      (u, contains_head u us, eqb-true u.file t.file both.1)
  | inr other ↦
      let rest : list_any (names t) (map table_name us) ≡ true = rw other at is in
      let it = gone_is_named us t rest in
      (it.0, contains_next u us it.0 it.1, it.2)
]

-- of tables with files of their own, two with one file are one
same_file : (tables : List LevelTable) → HaveOwnFiles tables → (t u : LevelTable)
    → Contains tables t → Contains tables u → t.file ≡ u.file → t ≡ u
same_file tables own t u has_t has_u same =
    let a = place_of tables t has_t in
    let b = place_of tables u has_u in
    let file_t = ap (λ (x : LevelTable). x.file) (index_of tables a.0 t t a.1) in
    let file_u = ap (λ (x : LevelTable). x.file) (index_of tables b.0 u t b.1) in
    let file_v = ap (λ (x : LevelTable). x.file) (index_of tables a.0 t u a.1) in
    let file_w = ap (λ (x : LevelTable). x.file) (index_of tables b.0 u u b.1) in
    elim (cases_lt a.0 b.0) [
      | inl lt ↦ absurd (own a.0 b.0 t lt (slice_get_within tables b.0 u b.1)
          (file_t ∙ same ∙ sym file_u))
      | inr le ↦ elim (cases_lt b.0 a.0) [
        | inl gt ↦ absurd (own b.0 a.0 u gt (slice_get_within tables a.0 t a.1)
            (file_w ∙ sym same ∙ sym file_v))
        | inr ge ↦
            let at : a.0 ≡ b.0 = omega (arith, le, ge) in
            let one : Some t ≡ Some u =
            sym a.1 ∙ ap (λ (i : ℕ). slice_get tables i) at ∙ b.1 in
            cc
      ]
    ]

-- ---- the edit

pub replaced_tables_are_edited : ReplacedTablesAreEdited
replaced_tables_are_edited inputs outputs tables own there =
    let gone = map table_name inputs in
    let test = λ (t : LevelTable). not (list_any (names t) gone) in
    let left = filter test tables in
    let before = λ (t u : LevelTable). table_is_before (line_of_table t) (line_of_table u) in
    record {
      stays = λ t has. elim (fold_has before left outputs t has) [
        | inl kept ↦ inl (
          kept_was test tables t kept,
          λ is.
              let named = named_is_gone inputs t is in
              let passed = passes test tables t kept in
              let never : not true ≡ true = ap not (sym named) ∙ passed in
              absurd cc,
        )
        | inr new ↦ inr new
      ];
      left = λ t has. elim (either (list_any (names t) gone)) [
        | inl named ↦
            let it = gone_is_named inputs t named in
            inl (subst (Contains inputs)
            (same_file tables own it.0 t (there it.0 it.1) has it.2) it.1)
        | inr other ↦ inr (fold_old before left outputs t
            (is_kept test tables t has (ap not other)))
      ];
      new = λ t has. fold_new before left outputs t has;
    }
