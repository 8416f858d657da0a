-- Cursors that go through tables in order, each through those that come next.
use Rattle.std.proofs.Common.{◌≡◌, ◌≢◌, ◌⊎◌, ◌↔◌, inl, inr, ℕ, zero, suc, ◌+◌, List, []}
use Rattle.std.proofs.Common.{◌∷◌, ◌++◌, length, Contains, Some, slice_get, get_or, refl, sym}
use Rattle.std.proofs.Common.{◌∙◌, ap, subst, arith}
use Rattle.std.proofs.lemmas.List.{append-nil, append_assoc, get_or-append-add, length-append}
use Rattle.std.proofs.lemmas.List.Elements.{Contains-append_cases, Contains-append_left}
use Rattle.std.proofs.lemmas.List.Elements.{Contains-append_right}
use Rattle.std.proofs.lemmas.Option.{slice_get_within}
use Rattle.kv_types.specs.{Entry, Span}
use Rattle.merge_iter.specs.{AreApart, EachChild, IsAlike, UnionHolds, equal_parts, union_of}
use Rattle.merge_iter.specs.declared.Cursor.{Ghosts}
use Rattle.store_model.specs.{LevelTable, tables_entries}
use Rattle.store_model.specs.PlacesLemmas.{contains_none, slice_get_longer}
use Rattle.store_tables.specs.RangeReads.{AreRangeCursors, HaveOwnFiles, meets_span, tables_in}
use Rattle.store_tables.specs.TableSeries.{EachFitsRange, AreOver, IsOver}
use Rattle.store_tables.proofs.RangeTables.{kept_was, own_before, place_of, span_has, span_own}
use Rattle.store_tables.proofs.RangeTables.{span_unique}

-- ---- tables of two lists

-- the entries of both
pub entries_both : (some later : List LevelTable) (entry : Entry)
    → tables_entries (some ++ later) entry
    ↔ (tables_entries some entry ⊎ tables_entries later entry)
entries_both some later entry = (
  λ has. elim (Contains-append_cases some later has.0 has.1) [
    | inl one ↦ inl (has.0, one, has.2)
    | inr two ↦ inr (has.0, two, has.2)
  ],
  λ has. elim has [
    | inl one ↦ (one.0, Contains-append_left some later one.0 one.1, one.2)
    | inr two ↦ (two.0, Contains-append_right some later two.0 two.1, two.2)
  ],
)

-- what stands in the second list stands as far behind the first
behind : {A : Type 0} (xs ys : List A) (i : ℕ) (x : A) → slice_get ys i ≡ Some x
    → slice_get (xs ++ ys) (length xs + i) ≡ Some x
behind [] ys i x is =
    let same : i ≡ 0 + i = omega arith in subst (λ n. slice_get ys n ≡ Some x) same is
behind (z ∷ xs) ys i x is =
    let same : suc (length xs + i) ≡ suc (length xs) + i = omega arith in
    subst (λ n. slice_get (z ∷ (xs ++ ys)) n ≡ Some x) same (behind xs ys i x is)

-- tables with files of their own are of one of two lists
own_apart : (some later : List LevelTable) → HaveOwnFiles (some ++ later) → (t u : LevelTable)
    → Contains some t → Contains later u → t ≡ u → ⊥
own_apart some later own t u has_t has_u same =
    let p = place_of some t has_t in
    let q = place_of later u has_u in
    let lt = slice_get_within some p.0 t p.1 in
    own_before (some ++ later) own p.0 (length some + q.0) t u
    (slice_get_longer some later p.0 t p.1) (behind some later q.0 u q.1) same
    (omega (arith, lt))

-- and those of the second have so among themselves
own_later : (some later : List LevelTable) → HaveOwnFiles (some ++ later) → HaveOwnFiles later
own_later some later own i j d lt within =
    let len = length-append some later in
    let both = own (length some + i) (length some + j) d (omega (arith, lt))
    (omega (arith, within, len)) in
    subst (λ (x : LevelTable). x.file ≢ (get_or later j d).file) (get_or-append-add some later i d)
    (subst (λ (y : LevelTable). (get_or (some ++ later) (length some + i) d).file ≢ y.file)
    (get_or-append-add some later j d) both)

-- ---- cursors that go through tables

module _ {C : Type 0} (holds : C → Entry → Type 0) (c : C) (cs : List C) (entry : Entry) where
  -- an entry of several cursors is of the first or of the others
  first_or_later : (i : ℕ) (d : C) → slice_get (c ∷ cs) i ≡ Some d → holds d entry
      → holds c entry ⊎ UnionHolds holds cs entry
  first_or_later zero d is held =
      let same : c ≡ d = cc in inl (subst (λ (x : C). holds x entry) (sym same) held)
  first_or_later (suc i) d is held = inr (i, d, is, held)

module _ {C S : Type 0} (g : Ghosts C S) (meant : g.Meant) (source : S) where
  -- with one cursor more they go through what it goes through too
  pub through_more : (cs : List C) (ts us : List LevelTable) (c : C)
      → AreOver g meant source cs ts → IsOver g meant source c us
      → AreOver g meant source (cs ++ c ∷ []) (ts ++ us)
  through_more [] ts us c none one = (
    us,
    [],
    ap (λ (l : List LevelTable). l ++ us) none ∙ sym (append-nil us),
    one,
    refl,
  )
  through_more (x ∷ cs) ts us c through one = (
    through.0,
    through.1 ++ us,
    ap (λ (l : List LevelTable). l ++ us) through.2 ∙ append_assoc through.0 through.1 us,
    through.3,
    through_more cs through.1 us c through.4 one,
  )

  -- where the tables fit their ranges, each is sound
  pub through_sound : (cs : List C) (ts : List LevelTable) → AreOver g meant source cs ts
      → EachFitsRange ts → EachChild (λ c. g.is_sound meant c source) cs
  through_sound [] ts none fit i d is = absurd cc
  through_sound (c ∷ cs) ts through fit zero d is =
      let same : c ≡ d = cc in
      subst (λ (x : C). g.is_sound meant x source) same
      (through.3.sound (λ t has. fit t (subst (λ (l : List LevelTable). Contains l t)
      (sym through.2) (Contains-append_left through.0 through.1 t has))))
  through_sound (c ∷ cs) ts through fit (suc i) d is =
      through_sound cs through.1 through.4 (λ t has. fit t
      (subst (λ (l : List LevelTable). Contains l t) (sym through.2)
      (Contains-append_right through.0 through.1 t has))) i d is

  -- they have the entries of the tables
  pub through_holds : (cs : List C) (ts : List LevelTable) → AreOver g meant source cs ts
      → IsAlike (union_of g meant cs source) (tables_entries ts)
  through_holds [] ts none entry = (
    λ held. let is : slice_get [] held.0 ≡ Some held.1 = held.2 in absurd cc,
    λ has. absurd (contains_none has.0
        (subst (λ (l : List LevelTable). Contains l has.0) none has.1)),
  )
  through_holds (c ∷ cs) ts through entry =
      let H = λ (x : C). g.holds meant x source in
      let later = through_holds cs through.1 through.4 entry in
      let both = entries_both through.0 through.1 entry in (
        λ held. subst (λ (l : List LevelTable). tables_entries l entry) (sym through.2)
            (both.1 (elim (first_or_later H c cs entry held.0 held.1 held.2 held.3) [
              | inl one ↦ inl ((through.3.holds entry).0 one)
              | inr two ↦ inr (later.0 two)
            ])),
        λ has. elim (both.0
            (subst (λ (l : List LevelTable). tables_entries l entry) through.2 has)) [
              | inl one ↦ (0, c, refl, (through.3.holds entry).1 one)
              | inr two ↦ let it = later.1 two in (suc it.0, it.1, it.2, it.3)
            ],
      )

  -- no two have entries of one key and number where no two tables do
  pub through_apart : (cs : List C) (ts : List LevelTable) → AreOver g meant source cs ts
      → ((t u : LevelTable) → Contains ts t → Contains ts u → (a b : Entry) → Contains t.entries a
      → Contains u.entries b → a.key ≡ b.key → a.number ≡ b.number → t ≡ u) → HaveOwnFiles ts
      → AreApart (λ c. g.holds meant c source) cs
  through_apart [] ts none unique own i j c d a b is_c is_d in_c in_d same = absurd cc
  through_apart (x ∷ cs) ts through unique own zero zero c d a b is_c is_d in_c in_d same = refl
  through_apart (x ∷ cs) ts through unique own zero (suc j) c d a b is_c is_d in_c in_d same =
      let is : x ≡ c = cc in
      let one = (through.3.holds a).0 (subst (λ (y : C). g.holds meant y source a) (sym is) in_c) in
      let two = (through_holds cs through.1 through.4 b).0 (j, d, is_d, in_d) in
      let parts = equal_parts a b same in
      absurd (own_apart through.0 through.1 (subst HaveOwnFiles through.2 own) one.0 two.0 one.1
      two.1 (unique one.0 two.0
      (subst (λ (l : List LevelTable). Contains l one.0) (sym through.2)
      (Contains-append_left through.0 through.1 one.0 one.1))
      (subst (λ (l : List LevelTable). Contains l two.0) (sym through.2)
      (Contains-append_right through.0 through.1 two.0 two.1)) a b one.2 two.2 parts.0 parts.1))
  through_apart (x ∷ cs) ts through unique own (suc i) zero c d a b is_c is_d in_c in_d same =
      let is : x ≡ d = cc in
      let one = (through.3.holds b).0 (subst (λ (y : C). g.holds meant y source b) (sym is) in_d) in
      let two = (through_holds cs through.1 through.4 a).0 (i, c, is_c, in_c) in
      let parts = equal_parts a b same in
      absurd (own_apart through.0 through.1 (subst HaveOwnFiles through.2 own) one.0 two.0 one.1
      two.1 (unique one.0 two.0
      (subst (λ (l : List LevelTable). Contains l one.0) (sym through.2)
      (Contains-append_left through.0 through.1 one.0 one.1))
      (subst (λ (l : List LevelTable). Contains l two.0) (sym through.2)
      (Contains-append_right through.0 through.1 two.0 two.1)) b a one.2 two.2 (sym parts.0)
      (sym parts.1)))
  through_apart (x ∷ cs) ts through unique own (suc i) (suc j) c d a b is_c is_d in_c in_d same =
      ap suc (through_apart cs through.1 through.4
      (λ t u has_t has_u. unique t u
      (subst (λ (l : List LevelTable). Contains l t) (sym through.2)
      (Contains-append_right through.0 through.1 t has_t))
      (subst (λ (l : List LevelTable). Contains l u) (sym through.2)
      (Contains-append_right through.0 through.1 u has_u)))
      (own_later through.0 through.1 (subst HaveOwnFiles through.2 own)) i j c d a b is_c is_d in_c
      in_d same)

-- ---- the tables that meet a span

-- cursors that go through them are those of a read of the span
pub are_range_cursors : {C S : Type 0} (g : Ghosts C S) (meant : g.Meant) (source : S) (span : Span)
    (tables : List LevelTable) (cursors : List C)
    → AreOver g meant source cursors (tables_in span tables)
    → AreRangeCursors g meant source span tables cursors
are_range_cursors g meant source span tables cursors through =
    let met = tables_in span tables in
    let alike = through_holds g meant source cursors met through in
    record {
      sound = λ fit. through_sound g meant source cursors met through
          (λ t has. fit t (kept_was (λ (u : LevelTable). meets_span u.range span) tables t has));
      entries = alike;
      within = λ flushed leveled entry within.
          let both = span_has span tables leveled.ranges entry within in
          (λ held. both.1 ((alike entry).0 held), λ has. (alike entry).1 (both.0 has));
      disjoint = λ flushed leveled own. through_apart g meant source cursors met through
          (span_unique span flushed tables leveled) (span_own span tables own);
    }
