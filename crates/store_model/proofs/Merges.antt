-- A merge keeps tables that may stand together.
use Rattle.std.proofs.Common.{◌≡◌, ◌⊎◌, inl, inr, ℕ, suc, ◌<◌, ◌≤◌, List, Contains, sym, ◌∙◌, subst}
use Rattle.std.proofs.Common.{arith}
use Rattle.std.proofs.lemmas.Bool.{cases_lt}
use Rattle.kv_types.specs.{Entry}
use Rattle.store_model.specs.Keys.{KeyPrecedes, RangeHolds, AreDisjointRanges}
use Rattle.store_model.specs.KeysLemmas.{key_chain, precedes_upto, upto_precedes, disjoint_keys}
use Rattle.store_model.specs.KeysLemmas.{disjoint_back}
use Rattle.store_model.specs.Tables.{LevelTable, AreLeveled, tables_entries}
use Rattle.store_model.specs.Steps.{AreAlikeDeeper, AreEdited, IsMerged, IsSpentDeletion, MergePlan}
use Rattle.store_model.specs.Steps.{PlanFits}

module _ (flushed base floor : ℕ) (plan : MergePlan) (before outputs after : List LevelTable)
    (ok : AreLeveled flushed before) (fits : PlanFits base plan before)
    (alike : AreAlikeDeeper plan.tables before) (merged : IsMerged floor plan outputs)
    (edited : AreEdited plan.inputs outputs before after) where
  -- ---- a table of the next level that is no input

  -- one that ends before the range of the plan ends before every input
  under : (t i : LevelTable) → Contains before t → t.level ≡ suc plan.level
      → KeyPrecedes t.range.greatest plan.range.least → Contains plan.inputs i
      → KeyPrecedes t.range.greatest i.range.least
  under t i in_t at lt in_i = elim (fits.levels i in_i) [
    | inl inside ↦ precedes_upto t.range.greatest plan.range.least i.range.least lt inside.1.0
    | inr next ↦
        elim (ok.disjoint t i in_t (fits.there i in_i) (at ∙ sym next.0) (omega (arith, at))) [
          | inl is ↦ absurd (next.1 (inr
              (subst (λ (z : LevelTable). KeyPrecedes z.range.greatest plan.range.least) is lt)))
          | inr side ↦ elim side [
            | inl x ↦ x
            | inr x ↦ absurd (next.1 (inr
                (key_chain i.range.greatest t.range.greatest plan.range.least
                (precedes_upto i.range.greatest t.range.least t.range.greatest x
                (ok.ranges t in_t).proper) lt)))
          ]
        ]
  ]

  -- one that begins after it begins after every input
  over : (t i : LevelTable) → Contains before t → t.level ≡ suc plan.level
      → KeyPrecedes plan.range.greatest t.range.least → Contains plan.inputs i
      → KeyPrecedes i.range.greatest t.range.least
  over t i in_t at lt in_i = elim (fits.levels i in_i) [
    | inl inside ↦
        upto_precedes i.range.greatest plan.range.greatest t.range.least inside.1.1 lt
    | inr next ↦
        elim (ok.disjoint t i in_t (fits.there i in_i) (at ∙ sym next.0) (omega (arith, at))) [
          | inl is ↦ absurd (next.1 (inl
              (subst (λ (z : LevelTable). KeyPrecedes plan.range.greatest z.range.least) is lt)))
          | inr side ↦ elim side [
            | inl x ↦ absurd (next.1 (inl
                (key_chain plan.range.greatest t.range.least i.range.least lt
                (upto_precedes t.range.least t.range.greatest i.range.least
                (ok.ranges t in_t).proper x))))
            | inr x ↦ x
          ]
        ]
  ]

  -- so it overlaps no input
  input_disjoint : (t i : LevelTable) → Contains before t → t.level ≡ suc plan.level
      → AreDisjointRanges plan.range t.range → Contains plan.inputs i
      → AreDisjointRanges t.range i.range
  input_disjoint t i in_t at side in_i = elim side [
    | inl x ↦ inr (over t i in_t at x in_i)
    | inr x ↦ inl (under t i in_t at x in_i)
  ]

  input_within : (i : LevelTable) → Contains plan.inputs i → (a : Entry) → Contains i.entries a
      → RangeHolds i.range a.key
  input_within i in_i a h = (ok.ranges i (fits.there i in_i)).within a h

  -- and no output, since the ends of an output's range are keys of inputs
  output_disjoint : (t o : LevelTable) → Contains before t → t.level ≡ suc plan.level
      → AreDisjointRanges plan.range t.range → Contains outputs o
      → AreDisjointRanges t.range o.range
  output_disjoint t o in_t at side in_o = elim side [
    | inl x ↦
        let end = merged.own.greatest o in_o in
        let from = (merged.only end.0 (o, in_o, end.1)).0 in
        let within = (input_within from.0 from.1 end.0 from.2).1 in
        inr (upto_precedes o.range.greatest from.0.range.greatest t.range.least
        (subst (λ k. KeyPrecedes from.0.range.greatest k → ⊥) end.2 within)
        (over t from.0 in_t at x from.1))
    | inr x ↦
        let end = merged.own.least o in_o in
        let from = (merged.only end.0 (o, in_o, end.1)).0 in
        let within = (input_within from.0 from.1 end.0 from.2).0 in
        inl (precedes_upto t.range.greatest from.0.range.least o.range.least
        (under t from.0 in_t at x from.1)
        (subst (λ k. KeyPrecedes k from.0.range.least → ⊥) end.2 within))
  ]

  -- ---- numbers of one key

  -- a table of the plan's level that is no input has greater numbers than an input of that level
  beside_inputs : (t : LevelTable) → Contains before t → (Contains plan.inputs t → ⊥)
      → t.level ≡ plan.level → (i : LevelTable) → Contains plan.inputs i → i.level ≡ plan.level
      → (a b : Entry) → Contains t.entries a → Contains i.entries b → a.key ≡ b.key
      → b.number < a.number
  beside_inputs t in_t out at i in_i i_at a b h g same = elim (fits.upper t in_t at) [
    | inl taken ↦ absurd (out taken)
    | inr other ↦ elim other [
      | inl later ↦
          let high = later a h in
          let low = fits.early b (i, in_i, g) in
          omega (arith, high, low)
      | inr side ↦ elim (fits.levels i in_i) [
        | inl inside ↦
            let p = input_within i in_i b g in
            let in_plan : RangeHolds plan.range b.key = (
              λ x. p.0 (precedes_upto b.key plan.range.least i.range.least x inside.1.0),
              λ x. p.1 (upto_precedes i.range.greatest plan.range.greatest b.key inside.1.1 x),
            ) in
            let within = (ok.ranges t in_t).within a h in
            absurd (disjoint_keys plan.range t.range b.key side in_plan
            (subst (λ k. RangeHolds t.range k) same within))
        | inr next ↦ let deep = next.0 in absurd (omega (arith, deep, i_at))
      ]
    ]
  ]

  -- so has every table of this level or a lesser one, against all inputs
  above_inputs : (t : LevelTable) → Contains before t → (Contains plan.inputs t → ⊥)
      → t.level < suc plan.level → (a b : Entry) → Contains t.entries a
      → tables_entries plan.inputs b → a.key ≡ b.key → b.number < a.number
  above_inputs t in_t out at a b h g same =
      let i = g.0 in
      elim (cases_lt t.level i.level) [
        | inl lt ↦ ok.newer t i in_t (fits.there i g.1) lt a b h g.2 same
        | inr ge ↦ elim (fits.levels i g.1) [
          | inl inside ↦
              let i_at = inside.0 in
              beside_inputs t in_t out (omega (arith, ge, at, i_at)) i g.1 i_at a b h g.2 same
          | inr next ↦ let deep = next.0 in absurd (omega (arith, ge, at, deep))
        ]
      ]

  -- an input has greater numbers than any table below the outputs
  inputs_above : (u : LevelTable) → Contains before u → suc plan.level < u.level → (a b : Entry)
      → tables_entries plan.inputs a → Contains u.entries b → a.key ≡ b.key → b.number < a.number
  inputs_above u in_u deep a b h g same =
      let i = h.0 in
      let shallow : i.level < u.level = elim (fits.levels i h.1) [
        | inl inside ↦ let at = inside.0 in omega (arith, at, deep)
        | inr next ↦ let at = next.0 in omega (arith, at, deep)
      ] in
      ok.newer i u (fits.there i h.1) in_u shallow a b h.2 g same

  -- ---- the tables after the merge

  output_from : (o : LevelTable) → Contains outputs o → (a : Entry) → Contains o.entries a
      → tables_entries plan.inputs a
  output_from o in_o a h = (merged.only a (o, in_o, h)).0

  after_numbers : (a : Entry) → tables_entries after a → a.number ≤ flushed
  after_numbers a h = elim (edited.stays h.0 h.1) [
    | inl old ↦ ok.numbers a (h.0, old.0, h.2)
    | inr new ↦
        let from = output_from h.0 new a h.2 in
        ok.numbers a (from.0, fits.there from.0 from.1, from.2)
  ]

  -- a table that stays shares no key and number with an output
  old_output : (t o : LevelTable) → Contains before t → (Contains plan.inputs t → ⊥)
      → Contains outputs o → (a b : Entry) → Contains t.entries a → Contains o.entries b
      → a.key ≡ b.key → a.number ≡ b.number → ⊥
  old_output t o in_t out in_o a b h g same number =
      let from = output_from o in_o b g in
      let is = (ok.unique t from.0 in_t (fits.there from.0 from.1) a b h from.2 same number).0 in
      out (subst (λ z. Contains plan.inputs z) (sym is) from.1)

  two_outputs : (t u : LevelTable) → Contains outputs t → Contains outputs u → (a b : Entry)
      → Contains t.entries a → Contains u.entries b → a.key ≡ b.key → a.number ≡ b.number
      → (t ≡ u) × (a ≡ b)
  two_outputs t u in_t in_u a b h g same number =
      let p = output_from t in_t a h in
      let q = output_from u in_u b g in (
        elim (merged.own.disjoint t u in_t in_u) [
          | inl is ↦ is
          | inr side ↦ absurd (disjoint_keys t.range u.range b.key side
              (subst (λ k. RangeHolds t.range k) same ((merged.own.ranges t in_t).within a h))
              ((merged.own.ranges u in_u).within b g))
        ],
        (ok.unique p.0 q.0 (fits.there p.0 p.1) (fits.there q.0 q.1) a b p.2 q.2 same number).1,
      )

  after_unique : (t u : LevelTable) → Contains after t → Contains after u → (a b : Entry)
      → Contains t.entries a → Contains u.entries b → a.key ≡ b.key → a.number ≡ b.number
      → (t ≡ u) × (a ≡ b)
  after_unique t u in_t in_u a b h g same number = elim (edited.stays t in_t) [
    | inl t_old ↦ elim (edited.stays u in_u) [
      | inl u_old ↦ ok.unique t u t_old.0 u_old.0 a b h g same number
      | inr u_new ↦ absurd (old_output t u t_old.0 t_old.1 u_new a b h g same number)
    ]
    | inr t_new ↦ elim (edited.stays u in_u) [
      | inl u_old ↦
          absurd (old_output u t u_old.0 u_old.1 t_new b a g h (sym same) (sym number))
      | inr u_new ↦ two_outputs t u t_new u_new a b h g same number
    ]
  ]

  after_newer : (t u : LevelTable) → Contains after t → Contains after u → t.level < u.level
      → (a b : Entry) → Contains t.entries a → Contains u.entries b → a.key ≡ b.key
      → b.number < a.number
  after_newer t u in_t in_u lt a b h g same = elim (edited.stays t in_t) [
    | inl t_old ↦ elim (edited.stays u in_u) [
      | inl u_old ↦ ok.newer t u t_old.0 u_old.0 lt a b h g same
      | inr u_new ↦ above_inputs t t_old.0 t_old.1
          (subst (λ z. t.level < z) (merged.deeper u u_new) lt) a b h (output_from u u_new b g) same
    ]
    | inr t_new ↦ elim (edited.stays u in_u) [
      | inl u_old ↦ inputs_above u u_old.0 (subst (λ z. z < u.level) (merged.deeper t t_new) lt) a b
          (output_from t t_new a h) g same
      | inr u_new ↦
          let p = merged.deeper t t_new in
          let q = merged.deeper u u_new in
          absurd (omega (arith, lt, p, q))
    ]
  ]

  plan_disjoint : (t : LevelTable) → Contains before t → (Contains plan.inputs t → ⊥)
      → t.level ≡ suc plan.level → AreDisjointRanges plan.range t.range
  plan_disjoint t in_t out at = elim (fits.lower t in_t at) [
    | inl taken ↦ absurd (out taken)
    | inr side ↦ side
  ]

  after_disjoint : (t u : LevelTable) → Contains after t → Contains after u → t.level ≡ u.level
      → 0 < t.level → (t ≡ u) ⊎ AreDisjointRanges t.range u.range
  after_disjoint t u in_t in_u eq pos = elim (edited.stays t in_t) [
    | inl t_old ↦ elim (edited.stays u in_u) [
      | inl u_old ↦ ok.disjoint t u t_old.0 u_old.0 eq pos
      | inr u_new ↦
          let at = eq ∙ merged.deeper u u_new in
          inr (output_disjoint t u t_old.0 at (plan_disjoint t t_old.0 t_old.1 at) u_new)
    ]
    | inr t_new ↦ elim (edited.stays u in_u) [
      | inl u_old ↦
          let at = sym eq ∙ merged.deeper t t_new in
          inr (disjoint_back u.range t.range
          (output_disjoint u t u_old.0 at (plan_disjoint u u_old.0 u_old.1 at) t_new))
      | inr u_new ↦ merged.own.disjoint t u t_new u_new
    ]
  ]

  pub merge_leveled : AreLeveled flushed after
  merge_leveled = record {
    ranges = λ t in_t. elim (edited.stays t in_t)
        [ inl old ↦ ok.ranges t old.0 | inr new ↦ merged.own.ranges t new ];
    numbers = after_numbers;
    unique = after_unique;
    newer = after_newer;
    disjoint = after_disjoint;
  }

  -- ---- a deletion that is dropped

  -- of its key, a table that stays has greater numbers
  old_above : (a : Entry) → tables_entries plan.inputs a → IsSpentDeletion floor plan a
      → (t : LevelTable) → Contains before t → (Contains plan.inputs t → ⊥) → (b : Entry)
      → b.key ≡ a.key → Contains t.entries b → a.number < b.number
  old_above a h spent t in_t out b same g =
      let within = (ok.ranges t in_t).within b g in
      elim (cases_lt t.level (suc plan.level)) [
        | inl lt ↦ above_inputs t in_t out lt b a g h same
        | inr ge ↦ elim (cases_lt (suc plan.level) t.level) [
          | inl deep ↦ absurd (spent.2 t (alike.back t in_t (omega (arith, deep))) deep
              (subst (λ k. RangeHolds t.range k) same within))
          | inr le ↦
              let at : t.level ≡ suc plan.level = omega (arith, ge, le) in
              let side = input_disjoint t h.0 in_t at (plan_disjoint t in_t out at) h.1 in
              absurd (disjoint_keys t.range h.0.range a.key side
              (subst (λ k. RangeHolds t.range k) same within) (input_within h.0 h.1 a h.2))
        ]
      ]

  -- and so has an output
  output_above : (a : Entry) → tables_entries plan.inputs a → IsSpentDeletion floor plan a
      → (tables_entries outputs a → ⊥) → (b : Entry) → b.key ≡ a.key → tables_entries outputs b
      → a.number < b.number
  output_above a h spent out b same g =
      let from = merged.only b g in
      elim (cases_lt a.number b.number) [
        | inl lt ↦ lt
        | inr ge ↦ elim (cases_lt b.number a.number) [
          | inl less ↦ absurd (from.1 (inl (a, h, sym same, less, spent.1)))
          | inr le ↦
              let i = from.0.0 in
              let number : b.number ≡ a.number = omega (arith, ge, le) in
              let is = (ok.unique i h.0 (fits.there i from.0.1) (fits.there h.0 h.1) b a from.0.2
              h.2 same number).1 in
              absurd (out (subst (λ z. tables_entries outputs z) is g))
        ]
      ]

  -- nothing is left below it
  pub nothing_below : (a : Entry) → tables_entries plan.inputs a → IsSpentDeletion floor plan a
      → (tables_entries outputs a → ⊥) → (b : Entry) → b.key ≡ a.key → tables_entries after b
      → a.number < b.number
  nothing_below a h spent out b same g = elim (edited.stays g.0 g.1) [
    | inl old ↦ old_above a h spent g.0 old.0 old.1 b same g.2
    | inr new ↦ output_above a h spent out b same (g.0, new, g.2)
  ]
