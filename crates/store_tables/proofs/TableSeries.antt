-- Cursors over series of tables, as each table is added.
use Rattle.std.proofs.Common.{◌≡◌, ◌⊎◌, inl, inr, ℕ, ◌+◌, ◌-◌, ◌<◌, List, [], ◌∷◌, ◌++◌, length}
use Rattle.std.proofs.Common.{Contains, Some}
use Rattle.std.proofs.Common.{Result, Ok, Err, slice_get, refl, sym, ◌∙◌, ap, subst, arith}
use Rattle.std.proofs.lemmas.List.{append-nil, append_assoc, length-append}
use Rattle.std.proofs.lemmas.List.Elements.{Contains-append_left, Contains-append_right}
use Rattle.std.proofs.lemmas.Option.{slice_get_within}
use Rattle.std.specs.Prelude.{OnOk}
use Rattle.std.specs.Cmp.{nat_cmp_total, tied_itself}
use Rattle.std.specs.Ordering.{nat_cmp, ordering_then}
use Rattle.std.specs.declared.cmp.Ordering.{Ordering}
use Rattle.std.specs.declared.cmp.Ordering.TheVariants.{Less, Equal, Greater}
use Rattle.byte_fields.specs.{StoredKey, stored_cmp}
use Rattle.kv_types.specs.{Entry}
use Rattle.merge_iter.specs.{AreSound, EntryPrecedes, IsAlike, chain, spot, union_of}
use Rattle.merge_iter.specs.EntryOrder.{cases, same_right}
use Rattle.merge_iter.specs.declared.Cursor.{Ghosts}
use Rattle.merge_iter.specs.declared.Direction.TheVariants.{Forward}
use Rattle.sorted_table.specs.{EndsBefore}
use Rattle.store_cursors.specs.Concatenation.{AreConcatenated}
use Rattle.store_model.specs.{KeyPrecedes, LevelTable, tables_entries}
use Rattle.store_model.specs.PlacesLemmas.{contains_it, contains_none, contains_one}
use Rattle.store_model.specs.PlacesLemmas.{slice_get_shorter}
use Rattle.store_tables.specs.CursorListsLemmas.{each_more, place_cases, union_more}
use Rattle.store_tables.specs.RangeReads.{HasTable}
use Rattle.store_tables.specs.TableSeries.{AllPrecede, IsSeries, AreSeries, EachFitsRange}
use Rattle.store_tables.specs.TableSeries.{EndsSeries, AreOver, IsOver}
use Rattle.store_tables.proofs.ThroughTables.{entries_both, through_more}

-- where two things follow from one call, so does what follows from both
pub both_ok : {X Y : Type 0} (r : Result X Y) (P Q R : Type 0) → (P → Q → R) → OnOk r P → OnOk r Q
    → OnOk r R
both_ok (Ok x) P Q R to p q = to p q
both_ok (Err e) P Q R to p q = tt

-- ---- one series

-- the keys were in order
key_less : (o : Ordering) (n : ℕ) → ordering_then o (nat_cmp n n) ≡ Less → o ≡ Less
key_less Less n h = refl
key_less Equal n h =
    let z : nat_cmp n n ≡ Equal = tied_itself nat_cmp_total n in
    absurd (let y : Equal ≡ Less = sym z ∙ h in cc)
key_less Greater n h = absurd cc

-- what comes before a key comes before an entry whose key does not come before it
spot_before : (a b : Entry) (least : StoredKey)
    → EntryPrecedes Forward a (spot least b.number) → (KeyPrecedes b.key least → ⊥)
    → EntryPrecedes Forward a b
spot_before a b least before from = elim (cases Forward (spot least b.number) b) [
  | inl less ↦ chain Forward a (spot least b.number) b before less
  | inr more ↦ elim more [
    | inl same ↦ same_right Forward a (spot least b.number) b same before
    | inr less ↦ absurd (from (key_less (stored_cmp b.key least) b.number less))
  ]
]

up_to : (i mid : ℕ) → i < mid + 1 → (i < mid) ⊎ (i ≡ mid)
up_to i mid lt = grind arith

-- one place has one element
same_place : {A : Type 0} (xs : List A) (i k : ℕ) (x y : A) → i ≡ k → slice_get xs i ≡ Some x
    → slice_get xs k ≡ Some y → x ≡ y
same_place xs i k x y same is_x is_y =
    let both : Some x ≡ Some y =
    sym is_x ∙ ap (λ (n : ℕ). slice_get xs n) same ∙ is_y in cc

module _ {C S : Type 0} (g : Ghosts C S) (meant : g.Meant) (source : S) (xs : List C)
    (key : StoredKey) where
  -- where the last of several ends before a key, all do
  last_precedes : (x : C) (k : ℕ) → slice_get xs k ≡ Some x → length xs ≡ k + 1
      → AreConcatenated (λ c. g.holds meant c source) xs → EndsBefore (g.holds meant x source) key
      → AllPrecede g meant source xs key
  last_precedes x k is len order ends entry held number =
      let within = slice_get_within xs held.0 held.1 held.2 in
      elim (up_to held.0 k (omega (arith, within, len))) [
        | inl less ↦ chain Forward entry ends.some (spot key number)
            (order held.0 k held.1 x entry ends.some less held.2 is held.3 ends.held)
            (ends.each ends.some ends.held number)
        | inr same ↦
            let eq : held.1 ≡ x = same_place xs held.0 k held.1 x same held.2 is in
            ends.each entry (subst (λ (y : C). g.holds meant y source entry) eq held.3) number
      ]

  -- the last one is sound, so what it tells of the key is so
  pub all_precede : (read : List C) (x : C) (told : StoredKey) → read ≡ xs
      → Some x ≡ slice_get read (length read - 1) → told ≡ key → AreSound g meant xs source
      → AreConcatenated (λ c. g.holds meant c source) xs
      → (g.is_sound meant x source → EndsBefore (g.holds meant x source) told)
      → AllPrecede g meant source xs key
  all_precede read x told same at is each order ends =
      let here : slice_get xs (length xs - 1) ≡ Some x =
      subst (λ (l : List C). slice_get l (length l - 1) ≡ Some x) same (sym at) in
      let within = slice_get_within xs (length xs - 1) x here in
      last_precedes x (length xs - 1) here (omega (arith, within)) order
      (subst (λ (k : StoredKey). EndsBefore (g.holds meant x source) k) is
      (ends (each (length xs - 1) x here)))

module _ {C S : Type 0} (g : Ghosts C S) (meant : g.Meant) (source : S) where
  -- a series of no tables
  pub series_none : IsSeries g meant source [] []
  series_none = record {
    each = λ i c is. absurd cc;
    len = refl;
    holds = λ entry. (
      λ held. let is : slice_get [] held.0 ≡ Some held.1 = held.2 in absurd cc,
      λ has. absurd (contains_none has.0 has.1),
    );
    order = λ fit i j c d a b lt is_c is_d. absurd cc;
  }

  -- no entries come before anything
  pub none_precede : (these : List C) (key : StoredKey) → these ≡ []
      → AllPrecede g meant source these key
  none_precede these key none entry held number =
      let is : slice_get [] held.0 ≡ Some held.1 =
      subst (λ (l : List C). slice_get l held.0 ≡ Some held.1) none held.2 in absurd cc

  module _ (xs : List C) (ts : List LevelTable) (x : C) (t : LevelTable)
      (these : IsSeries g meant source xs ts) (it : HasTable g meant source x t)
      (precede : EachFitsRange ts → AllPrecede g meant source xs t.range.least) where
    more_holds : IsAlike (union_of g meant (xs ++ x ∷ []) source) (tables_entries (ts ++ t ∷ []))
    more_holds entry =
        let H = λ (c : C). g.holds meant c source in
        let cursors = union_more H xs x entry in
        let both = entries_both ts (t ∷ []) entry in (
          λ held. both.1 (elim (cursors.0 held) [
            | inl one ↦ inl ((these.holds entry).0 one)
            | inr two ↦ inr (t, contains_it t, (it.holds entry).0 two)
          ]),
          λ has. cursors.1 (elim (both.0 has) [
            | inl one ↦ inl ((these.holds entry).1 one)
            | inr two ↦ inr ((it.holds entry).1 (subst (λ (u : LevelTable). Contains u.entries
                entry)
                (sym (contains_one t two.0 two.1)) two.2))
          ]),
        )

    more_order : EachFitsRange (ts ++ t ∷ [])
        → AreConcatenated (λ c. g.holds meant c source) (xs ++ x ∷ [])
    more_order fit i j c d a b lt is_c is_d in_c in_d =
        let those : EachFitsRange ts = λ u has. fit u (Contains-append_left ts (t ∷ []) u has) in
        let this = fit t (Contains-append_right ts (t ∷ []) t (contains_it t)) in
        elim (place_cases xs x j d is_d) [
          | inl at_d ↦
              let within = slice_get_within xs j d at_d in
              let at_c = slice_get_shorter xs (x ∷ []) i c (omega (arith, lt, within)) is_c in
              these.order those i j c d a b lt at_c at_d in_c in_d
          | inr last ↦
              let last_place = last.0 in
              let at_c = slice_get_shorter xs (x ∷ []) i c (omega (arith, lt, last_place)) is_c in
              let has = (it.holds b).0 (subst (λ (y : C). g.holds meant y source b) (sym last.1)
              in_d) in
              spot_before a b t.range.least (precede those a (i, c, at_c, in_c) b.number)
              (this.within b has).0
        ]

    -- a series with a table more, where it ends before that
    pub series_more : IsSeries g meant source (xs ++ x ∷ []) (ts ++ t ∷ [])
    series_more = record {
      each = each_more (λ c. g.is_sound meant c source) xs x these.each it.sound;
      len =
          let a = length-append xs (x ∷ []) in
          let b = length-append ts (t ∷ []) in
          let same = these.len in
          omega (arith, a, b, same);
      holds = more_holds;
      order = more_order;
    }

-- ---- all series

module _ {C T S : Type 0} (g : Ghosts C S) (t : Ghosts T S) (meant : g.Meant) (lent : t.Meant)
    (source : S) where
  -- no tables
  pub all_none : AreSeries g t meant lent source [] [] []
  all_none = record {
    before = [];
    last = [];
    whole = refl;
    through = refl;
    series = series_none t lent source;
  }

  -- a cursor over a series goes through its tables
  over_series : (c : C) (these : List T) (last : List LevelTable)
      → IsSeries t lent source these last
      → (AreSound t lent these source → AreConcatenated (λ x. t.holds lent x source) these
      → g.is_sound meant c source) → IsAlike (g.holds meant c source) (union_of t lent these source)
      → IsOver g meant source c last
  over_series c these last it sound holds = record {
    sound = λ fit. sound it.each (it.order fit);
    holds = λ entry. (
      (λ held. (it.holds entry).0 ((holds entry).0 held)),
      (λ has. (holds entry).1 ((it.holds entry).1 has)),
    );
  }

  module _ (ended : List C) (these : List T) (tables : List LevelTable)
      (series : AreSeries g t meant lent source ended these tables) where
    -- the series has ended
    pub series_ended : (given : List T) → given ≡ these → (now : List C) (c : C)
        → now ≡ ended ++ c ∷ [] → (AreSound t lent given source
        → AreConcatenated (λ x. t.holds lent x source) given → g.is_sound meant c source)
        → IsAlike (g.holds meant c source) (union_of t lent given source)
        → AreOver g meant source now tables
    series_ended given same now c pushed sound holds =
        let mine : IsSeries t lent source given series.last =
        subst (λ (l : List T). IsSeries t lent source l series.last) (sym same) series.series in
        subst (λ (l : List C). AreOver g meant source l tables) (sym pushed)
        (subst (λ (l : List LevelTable). AreOver g meant source (ended ++ c ∷ []) l)
        (sym series.whole) (through_more g meant source ended series.before series.last c
        series.through (over_series c given series.last mine sound holds)))

    -- the last series has no tables
    pub series_empty : these ≡ [] → AreOver g meant source ended tables
    series_empty none =
        let len : length series.last ≡ 0 =
        sym series.series.len ∙ ap (λ (l : List T). length l) none in
        let no_last = no_tables series.last len in
        let same : tables ≡ series.before = series.whole
        ∙ ap (λ (l : List LevelTable). series.before ++ l) no_last ∙ append-nil series.before in
        subst (λ (l : List LevelTable). AreOver g meant source ended l) (sym same) series.through
      where
        no_tables : (ts : List LevelTable) → length ts ≡ 0 → ts ≡ []
        no_tables [] len = refl
        no_tables (u ∷ ts) len = absurd (omega (arith, len))

    -- it ends before the key
    pub still_series : (key : StoredKey) → (AreSound t lent these source
        → AreConcatenated (λ x. t.holds lent x source) these → AllPrecede t lent source these key)
        → EndsSeries g t meant lent source ended these tables key
    still_series key precede = record {
      series = series;
      precede = λ fit. precede series.series.each (series.series.order fit);
    }

  -- after all series have ended another begins
  pub begun_series : (ended : List C) (these : List T) (tables : List LevelTable) (key : StoredKey)
      → these ≡ [] → AreOver g meant source ended tables
      → EndsSeries g t meant lent source ended these tables key
  begun_series ended these tables key none through = record {
    series = record {
      before = tables;
      last = [];
      whole = sym (append-nil tables);
      through = through;
      series = subst (λ (l : List T). IsSeries t lent source l []) (sym none)
          (series_none t lent source);
    };
    precede = λ fit. none_precede t lent source these key none;
  }

  -- a table was added
  pub all_more : (ended : List C) (these now : List T) (tables : List LevelTable) (key : StoredKey)
      (x : T) (added : LevelTable) → EndsSeries g t meant lent source ended these tables key
      → HasTable t lent source x added → added.range.least ≡ key → now ≡ these ++ x ∷ []
      → AreSeries g t meant lent source ended now (tables ++ added ∷ [])
  all_more ended these now tables key x added ends it least pushed =
      let series = ends.series in record {
        before = series.before;
        last = series.last ++ added ∷ [];
        whole = ap (λ (l : List LevelTable). l ++ added ∷ []) series.whole
            ∙ append_assoc series.before series.last (added ∷ []);
        through = series.through;
        series = subst (λ (l : List T). IsSeries t lent source l (series.last ++ added ∷ []))
            (sym pushed) (series_more t lent source these series.last x added series.series it
            (λ fit. subst (λ (k : StoredKey). AllPrecede t lent source these k) (sym least)
            (ends.precede fit)));
      }
