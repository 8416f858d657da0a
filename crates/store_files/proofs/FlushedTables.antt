-- A table of level 0 more, behind the others of level 0: its line, and the tables.
use Rattle.std.proofs.Common.{◌≡◌, ◌⊎◌, ◌<◌, List, [], ◌∷◌, All, Contains}
use Rattle.std.proofs.Common.{◌∙◌, arith, refl, ap, subst, inl, inr, true, false}
use Rattle.std.specs.Prelude.{◌==◌}
use Rattle.std.proofs.lemmas.Bool.{eqb-true, eqb-false, lt-ltb, le-ltb}
use Rattle.std.proofs.lemmas.List.Elements.{All-cons, All-head, All-nil, All-tail}
use Rattle.disk.specs.{Contents}
use Rattle.store_model.specs.{AreEdited, LevelTable}
use Rattle.store_model.specs.PlacesLemmas.{contains_cases, contains_head, contains_next}
use Rattle.store_model.specs.PlacesLemmas.{contains_none}
use Rattle.manifest.specs.declared.TableLine.{TableLine}
use Rattle.manifest.specs.Versions.{table_is_before, with_table}
use Rattle.store_tables.specs.LevelTables.{AreTablesOf, IsTableOf, with_flushed}
use Rattle.store_tables.specs.LevelTables.{with_flushed_line}
use Rattle.store_files.proofs.Records.{either}

-- ---- lines

-- a line of level 0 whose file is the greatest stands there in the manifest too
module _ (line : TableLine) (level : line.level ≡ 0) where
  flushed_behind : (other : TableLine) → other.level ≡ 0 → other.file < line.file
      → table_is_before line other ≡ false
  flushed_behind other zeroth lt =
      rw (level, zeroth, le-ltb line.file other.file (omega (arith, lt))) refl

  flushed_before : (other : TableLine) → (other.level == 0) ≡ false
      → table_is_before line other ≡ true
  flushed_before other deeper =
      let no = eqb-false other.level 0 deeper in
      rw (level, lt-ltb 0 other.level (omega (arith, no))) refl

  pub flushed_lines : (lines : List TableLine)
      → All (λ (other : TableLine). other.file < line.file) lines
      → with_table lines line ≡ with_flushed_line lines line
  flushed_lines [] less = refl
  flushed_lines (other ∷ lines) less = elim (either (other.level == 0)) [
    | inl zeroth ↦
        let lt = All-head (λ (o : TableLine). o.file < line.file) other lines less in
        rw (flushed_behind other (eqb-true other.level 0 zeroth) lt, zeroth)
        (ap (λ (l : List TableLine). other ∷ l) (flushed_lines lines
        (All-tail (λ (o : TableLine). o.file < line.file) other lines less)))
    | inr deeper ↦ rw (flushed_before other deeper, deeper) refl
  ]

-- what holds of each line and of the new one holds of all
pub all_flushed : (P : TableLine → Type 0) (lines : List TableLine) (line : TableLine)
    → All P lines → P line → All P (with_flushed_line lines line)
all_flushed P [] line all is = All-cons P line [] is (All-nil P)
all_flushed P (other ∷ lines) line all is = elim (either (other.level == 0)) [
  | inl zeroth ↦ rw zeroth (All-cons P other (with_flushed_line lines line)
      (All-head P other lines all) (all_flushed P lines line (All-tail P other lines all) is))
  | inr deeper ↦ rw deeper (All-cons P line (other ∷ lines) is all)
]

-- ---- tables

-- the files have the tables of these lines
pub flushed_read : (left : Contents) (lines : List TableLine) (tables : List LevelTable)
    (line : TableLine) (table : LevelTable) → AreTablesOf left lines tables
    → IsTableOf left line table
    → AreTablesOf left (with_flushed_line lines line) (with_flushed tables table)
flushed_read left [] [] line table h is = (is, tt)
flushed_read left [] (t ∷ tables) line table h is = absurd h
flushed_read left (other ∷ lines) [] line table h is = absurd h
flushed_read left (other ∷ lines) (t ∷ tables) line table h is =
    elim (either (other.level == 0)) [
      | inl zeroth ↦
          let too : (t.level == 0) ≡ true = ap (λ n. n == 0) h.0.level ∙ zeroth in
          rw (zeroth, too) (h.0, flushed_read left lines tables line table h.1 is)
      | inr deeper ↦
          let too : (t.level == 0) ≡ false = ap (λ n. n == 0) h.0.level ∙ deeper in
          rw (deeper, too) (is, h)
    ]

module _ (table : LevelTable) where
  flushed_only : (tables : List LevelTable) (t : LevelTable)
      → Contains (with_flushed tables table) t → Contains tables t ⊎ (table ≡ t)
  flushed_only [] t has = elim (contains_cases table [] t has)
      [ inl is ↦ inr is | inr none ↦ inl none ]
  flushed_only (u ∷ tables) t has = elim (either (u.level == 0)) [
    | inl zeroth ↦
        let same : with_flushed (u ∷ tables) table ≡ u ∷ with_flushed tables table =
        rw zeroth refl in
        let there = subst (λ (l : List LevelTable). Contains l t) same has in
        elim (contains_cases u (with_flushed tables table) t there) [
          | inl is ↦ inl (subst (Contains (u ∷ tables)) is (contains_head u tables))
          | inr later ↦ elim (flushed_only tables t later) [
            | inl was ↦ inl (contains_next u tables t was)
            | inr new ↦ inr new
          ]
        ]
    | inr deeper ↦
        let same : with_flushed (u ∷ tables) table ≡ table ∷ u ∷ tables = rw deeper refl in
        let there = subst (λ (l : List LevelTable). Contains l t) same has in
        elim (contains_cases table (u ∷ tables) t there) [ inl is ↦ inr is | inr was ↦ inl was ]
  ]

  flushed_old : (tables : List LevelTable) (t : LevelTable) → Contains tables t
      → Contains (with_flushed tables table) t
  flushed_old [] t has = absurd (contains_none t has)
  flushed_old (u ∷ tables) t has = elim (either (u.level == 0)) [
    | inl zeroth ↦ rw zeroth (elim (contains_cases u tables t has) [
      | inl is ↦ subst (Contains (u ∷ with_flushed tables table)) is
          (contains_head u (with_flushed tables table))
      | inr later ↦ contains_next u (with_flushed tables table) t (flushed_old tables t later)
    ])
    | inr deeper ↦ rw deeper (contains_next table (u ∷ tables) t has)
  ]

  flushed_new : (tables : List LevelTable) → Contains (with_flushed tables table) table
  flushed_new [] = contains_head table []
  flushed_new (u ∷ tables) = elim (either (u.level == 0)) [
    | inl zeroth ↦ rw zeroth
        (contains_next u (with_flushed tables table) table (flushed_new tables))
    | inr deeper ↦ rw deeper (contains_head table (u ∷ tables))
  ]

  -- as an edit of the model
  pub flushed_edited : (tables : List LevelTable)
      → AreEdited [] (table ∷ []) tables (with_flushed tables table)
  flushed_edited tables = record {
    stays = λ t has. elim (flushed_only tables t has) [
      | inl was ↦ inl (was, λ gone. contains_none t gone)
      | inr is ↦ inr (subst (Contains (table ∷ [])) is (contains_head table []))
    ];
    left = λ t has. inr (flushed_old tables t has);
    new = λ t has. elim (contains_cases table [] t has) [
      | inl is ↦ subst (Contains (with_flushed tables table)) is (flushed_new tables)
      | inr none ↦ absurd (contains_none t none)
    ];
  }
