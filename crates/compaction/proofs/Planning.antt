-- A plan that is picked is a plan of the model.
use Rattle.std.proofs.Common.{◌≡◌, inl, inr, ℕ, zero, suc, ◌+◌, ◌<◌, List, Option}
use Rattle.std.proofs.Common.{Some, None, Bool, true, false, Contains, refl, sym, ◌∙◌, ap}
use Rattle.std.proofs.Common.{subst, arith, ◌⊎◌, ◌≤◌}
use Rattle.std.specs.Prelude.{◌==◌, ◌&&◌}
use Rattle.std.specs.List.{AllZip, filter}
use Rattle.std.specs.Option.{option_and_then, option_map, option_or}
use Rattle.std.specs.Ordering.{is_lt}
use Rattle.std.proofs.lemmas.Bool.{and_from, and_parts, both_ways, cases_Bool}
use Rattle.std.proofs.lemmas.Bool.{eq-eqb, eqb-true, lt-ltb, ltb-true, not-false, not-true}
use Rattle.std.proofs.lemmas.Bool.{or_cases, or_left, or_right}
use Rattle.byte_fields.specs.{StoredKey, stored_cmp}
use Rattle.kv_types.specs.OrderLemmas.{Among, Contains-among, among_from_Contains, among_of_All}
use Rattle.version_edits.specs.declared.TableLine.{TableLine}
use Rattle.version_edits.specs.Lawful.{IsAllocated}
use Rattle.version_edits.specs.{IsVersion, StoreVersion}
use Rattle.store_model.specs.{AreDisjointRanges, IsPlanned, KeyRange, LevelTable, RangeLiesIn}
use Rattle.compaction.specs.declared.plan.Plan.{Plan}
use Rattle.compaction.specs.Picks.{begins_behind, due_level, first_behind, is_over, count_of_level}
use Rattle.compaction.specs.Picks.{merged_levels, plan_of_level, table_in_turn}
use Rattle.compaction.specs.Plans.{IsLineOf, PicksArePlanned, is_input, joint, model_plan}
use Rattle.compaction.specs.Plans.{names_line, overlaps, range_of}
use Rattle.compaction.specs.Survivors.{key_range}
use Rattle.compaction.proofs.Dropping.{less_Decides}
use Rattle.compaction.proofs.JointRanges.{covers, end_at, greatest_either, least_either}
use Rattle.compaction.proofs.JointRanges.{precedes, same_at, some_at}
use Rattle.compaction.proofs.Lists.{among_filter, counted_among, filter_among, find_among}
use Rattle.compaction.proofs.Lists.{same_table}
use Rattle.compaction.proofs.Lists.{zip_back, zip_there}

-- ---- the plan of the model

disjoint_when : (a b : KeyRange) → overlaps a b ≡ false → AreDisjointRanges a b
disjoint_when a b fails = elim (or_cases (is_lt (stored_cmp a.greatest b.least)) _
    (not-false _ fails)) [
      | inl lt ↦ inl (precedes a.greatest b.least lt)
      | inr lt ↦ inr (precedes b.greatest a.least lt)
    ]

overlap_not : (a b : KeyRange) → overlaps a b ≡ true → AreDisjointRanges a b → ⊥
overlap_not a b passed (inl lt) = both_ways _ (not-true _ passed)
    (or_left _ _ ((less_Decides (stored_cmp a.greatest b.least)).1 lt))
overlap_not a b passed (inr lt) = both_ways _ (not-true _ passed)
    (or_right _ _ ((less_Decides (stored_cmp b.greatest a.least)).1 lt))

module _ (plan : Plan) (range : KeyRange) (lines : List TableLine) (tables : List LevelTable)
    (zip : AllZip IsLineOf lines tables) (is : range_of plan lines ≡ Some range) where
  abbrev test : LevelTable → Bool
  test t = is_input plan range t.level t.file t.range

  abbrev inputs : List LevelTable
  inputs = filter test tables

  taken : (t : LevelTable) → Contains inputs t → Among t tables × (test t ≡ true)
  taken t in_t = filter_among test tables t (among_from_Contains inputs t in_t)

  take : (t : LevelTable) → Among t tables → test t ≡ true → Contains inputs t
  take t in_t passed = Contains-among inputs t (among_filter test tables t in_t passed)

  first_level : (level file : ℕ) → names_line plan level file ≡ true → level ≡ plan.level
  first_level level file passed =
      sym (eqb-true plan.level level (and_parts (plan.level == level) _ passed).0)

  next_level : (t : LevelTable) → ((plan.level + 1) == t.level && overlaps range t.range) ≡ true
      → t.level ≡ suc plan.level
  next_level t passed =
      let at = eqb-true (plan.level + 1) t.level
      (and_parts ((plan.level + 1) == t.level) _ passed).0 in
      omega (arith, at)

  first_lies : (t : LevelTable) → Among t tables → names_line plan t.level t.file ≡ true
      → RangeLiesIn t.range range
  first_lies t in_t passed =
      let line = zip_back IsLineOf lines tables t zip in_t in
      subst (λ r. RangeLiesIn r range) (sym line.2.range)
      ((covers plan lines None range is).1 line.0 line.1
      (subst (λ n. names_line plan n line.0.file ≡ true) line.2.level
      (subst (λ n. names_line plan t.level n ≡ true) line.2.file passed)))

  -- an end of the joint range is one of an input of the level
  ends : (end : KeyRange → StoredKey)
      → ((a b : KeyRange) → (end a ≡ end (joint a b)) ⊎ (end b ≡ end (joint a b)))
      → (t : LevelTable) × Contains inputs t × (t.level ≡ plan.level) × (end t.range ≡ end range)
  ends end either =
      let it = end_at plan end either lines range is in
      let t = zip_there IsLineOf lines tables it.0 zip it.1 in
      let passed : names_line plan t.0.level t.0.file ≡ true =
      subst (λ n. names_line plan n t.0.file ≡ true) (sym t.2.level)
      (subst (λ n. names_line plan it.0.level n ≡ true) (sym t.2.file) it.2) in (
        t.0,
        take t.0 t.1 (or_left _ _ passed),
        first_level t.0.level t.0.file passed,
        ap end t.2.range ∙ it.3,
      )

  planned : plan.level ≤ 5 → (plan.level ≡ 0 → (t : LevelTable) → Among t tables → t.level ≡ 0
      → names_line plan t.level t.file ≡ true)
      → (0 < plan.level → (t : LevelTable) × Among t tables
      × (names_line plan t.level t.file ≡ true) × (t.range ≡ range))
      → IsPlanned (model_plan plan range tables)
  planned shallow all one = record {
    level = shallow;
    least = ends (λ r. r.least) least_either;
    greatest = ends (λ r. r.greatest) greatest_either;
    there = λ t in_t. Contains-among tables t (taken t in_t).0;
    levels = λ t in_t. elim (or_cases (names_line plan t.level t.file) _ (taken t in_t).1) [
      | inl passed ↦ inl (first_level t.level t.file passed)
      | inr passed ↦ inr (next_level t passed)
    ];
    all = λ zero t in_t at. take t (among_from_Contains tables t in_t)
        (or_left (names_line plan t.level t.file) _
        (all zero t (among_from_Contains tables t in_t) at));
    one = λ some. let t = one some in
        (t.0, take t.0 t.1 (or_left _ _ t.2), first_level t.0.level t.0.file t.2, t.3);
    joint = λ t in_t at. elim (or_cases (names_line plan t.level t.file) _ (taken t in_t).1) [
      | inl passed ↦ first_lies t (taken t in_t).0 passed
      | inr passed ↦ let deeper = next_level t passed in absurd (omega (arith, at, deeper))
    ];
    overlapping = λ t in_t at. elim (cases_Bool (overlaps range t.range)) [
      | inl passed ↦ inl (take t (among_from_Contains tables t in_t)
          (or_right (names_line plan t.level t.file) _
          (and_from _ _ (eq-eqb (plan.level + 1) t.level (omega (arith, at))) passed)))
      | inr fails ↦ inr (disjoint_when range t.range fails)
    ];
    needed = λ t in_t at apart. elim (or_cases (names_line plan t.level t.file) _
        (taken t in_t).1) [
          | inl passed ↦ let here = first_level t.level t.file passed in omega (arith, at, here)
          | inr passed ↦ overlap_not range t.range
              (and_parts ((plan.level + 1) == t.level) _ passed).1
              apart
        ];
  }

-- ---- what is picked

shallow_level : (n : ℕ) → Among n merged_levels → n ≤ 5
shallow_level n (inl is) = omega (arith, is)
shallow_level n (inr (inl is)) = omega (arith, is)
shallow_level n (inr (inr (inl is))) = omega (arith, is)
shallow_level n (inr (inr (inr (inl is)))) = omega (arith, is)
shallow_level n (inr (inr (inr (inr (inl is))))) = omega (arith, is)
shallow_level n (inr (inr (inr (inr (inr (inl is)))))) = omega (arith, is)
shallow_level n (inr (inr (inr (inr (inr (inr none)))))) = absurd none

module _ (most base : ℕ) (turn : ℕ → Option StoredKey) (version : StoreVersion)
    (tables : List LevelTable) (lawful : IsVersion version)
    (zip : AllZip IsLineOf version.tables tables) where
  abbrev Planned : Plan → Type 0
  Planned plan = (range : KeyRange) × (range_of plan version.tables ≡ Some range)
      × IsPlanned (model_plan plan range tables)

  given : (line : TableLine) → Among line version.tables → line.file < version.next_file
  given line a = (among_of_All (λ l. IsAllocated version l.file) version.tables line
      lawful.lines.table_files a).1

  flushed_plan : is_over most base version.tables 0 ≡ true
      → Planned (record { level = 0; file = None; below = version.next_file })
  flushed_plan over =
      let plan : Plan = record { level = 0; file = None; below = version.next_file } in
      let many = ltb-true most (count_of_level 0 version.tables) over in
      let first = counted_among (λ line. line.level == 0) version.tables (omega (arith, many)) in
      let takes : (level file : ℕ) → level ≡ 0 → file < version.next_file
      → names_line plan level file ≡ true = λ level file at lt.
      and_from _ _ (eq-eqb 0 level (sym at)) (lt-ltb file version.next_file lt) in
      let range = some_at plan version.tables first.0 first.1
      (takes first.0.level first.0.file (eqb-true first.0.level 0 first.2)
      (given first.0 first.1)) in (
        range.0,
        range.1,
        planned plan range.0 version.tables tables zip range.1 (omega arith)
            (λ zero t in_t at. let line = zip_back IsLineOf version.tables tables t zip in_t in
            takes t.level t.file at
            (subst (λ n. n < version.next_file) (sym line.2.file) (given line.0 line.1)))
            (λ some. absurd (omega (arith, some))),
      )

  deeper_plan : (level : ℕ) → suc level ≤ 5 → (line : TableLine) → Among line version.tables
      → line.level == suc level ≡ true
      → Planned (record { level = suc level; file = Some line.file; below = version.next_file })
  deeper_plan level shallow line in_line at =
      let plan : Plan =
      record { level = suc level; file = Some line.file; below = version.next_file } in
      let here : line.level ≡ suc level = eqb-true line.level (suc level) at in
      let takes : names_line plan line.level line.file ≡ true =
      and_from _ _ (eq-eqb (suc level) line.level (sym here)) (eq-eqb line.file line.file refl) in
      let only : (other : TableLine) → Among other version.tables
      → names_line plan other.level other.file ≡ true → key_range other ≡ key_range line =
      λ other a passed.
      let file : other.file ≡ line.file =
      sym (eqb-true line.file other.file (and_parts (suc level == other.level) _ passed).1) in
      ap key_range (same_table version.logs version.tables lawful.lawful.files_once other line a
      in_line file) in
      let is = same_at plan version.tables (key_range line) line in_line takes only in
      let t = zip_there IsLineOf version.tables tables line zip in_line in (
        key_range line,
        is,
        planned plan (key_range line) version.tables tables zip is shallow
            (λ zero. absurd (omega (arith, zero)))
            (λ some. (
              t.0,
              t.1,
              subst (λ n. names_line plan n t.0.file ≡ true) (sym t.2.level)
                  (subst (λ n. names_line plan line.level n ≡ true) (sym t.2.file) takes),
              t.2.range,
            )),
      )

  in_turn : (level : ℕ) (after : Option StoredKey) (line : TableLine)
      → table_in_turn level after version.tables ≡ Some line
      → Among line version.tables × (line.level == level ≡ true)
  in_turn level after line is = by_first (first_behind level after version.tables) refl is
    where
      found : (key : Option StoredKey) → first_behind level key version.tables ≡ Some line
          → Among line version.tables × (line.level == level ≡ true)
      found key at =
          let it = find_among (λ l. l.level == level && begins_behind key l) version.tables line
          at in
          (it.0, (and_parts (line.level == level) _ it.1).0)

      by_first : (o : Option TableLine) → first_behind level after version.tables ≡ o
          → option_or o (first_behind level None version.tables) ≡ Some line
          → Among line version.tables × (line.level == level ≡ true)
      by_first None at is = found None is
      by_first (Some x) at is = found after (at ∙ is)

  by_table : (level : ℕ) → suc level ≤ 5 → (o : Option TableLine)
      → table_in_turn (suc level) (turn (suc level)) version.tables ≡ o → (plan : Plan)
      → option_map (λ line. record {
        level = suc level;
        file = Some line.file;
        below = version.next_file;
      }) o ≡ Some plan → Planned plan
  by_table level shallow None at plan is = absurd (let h : None ≡ Some plan = is in cc)
  by_table level shallow (Some line) at plan is =
      let made : Plan =
      record { level = suc level; file = Some line.file; below = version.next_file } in
      let h : Some made ≡ Some plan = is in
      let same : made ≡ plan = cc in
      let there = in_turn (suc level) (turn (suc level)) line at in
      subst Planned same (deeper_plan level shallow line there.0 there.1)

  by_level : (o : Option ℕ) → due_level most base version.tables ≡ o → (plan : Plan)
      → option_and_then (plan_of_level turn version) o ≡ Some plan → Planned plan
  by_level None due plan is = absurd (let h : None ≡ Some plan = is in cc)
  by_level (Some zero) due plan is =
      let made : Plan = record { level = 0; file = None; below = version.next_file } in
      let h : Some made ≡ Some plan = is in
      let same : made ≡ plan = cc in
      subst Planned same
      (flushed_plan (find_among (is_over most base version.tables) merged_levels 0 due).1)
  by_level (Some (suc level)) due plan is =
      by_table level (shallow_level (suc level)
      (find_among (is_over most base version.tables) merged_levels (suc level) due).0)
      (table_in_turn (suc level) (turn (suc level)) version.tables) refl plan is

-- a plan that is picked is a plan of the model
pub picks_are_planned : PicksArePlanned
picks_are_planned most base turn version plan tables lawful zip is =
    by_level most base turn version tables lawful zip (due_level most base version.tables) refl plan
    is
