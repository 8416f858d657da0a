-- The joint range of the tables that a plan names.
use Rattle.std.proofs.Common.{◌≡◌, ◌⊎◌, inl, inr, List, [], ◌∷◌, Option, Some, None, Bool, true}
use Rattle.std.proofs.Common.{false}
use Rattle.std.proofs.Common.{IfSome, refl, sym, ◌∙◌, ap, subst, cond}
use Rattle.std.specs.List.{fold}
use Rattle.std.specs.Ordering.{is_lt}
use Rattle.std.proofs.lemmas.Bool.{both_ways, cases_Bool, cond-false, cond-true, cond_both}
use Rattle.byte_fields.specs.{StoredKey, stored_cmp}
use Rattle.kv_types.specs.OrderLemmas.{Among}
use Rattle.version_edits.specs.declared.TableLine.{TableLine}
use Rattle.store_model.specs.{KeyPrecedes, KeyRange, RangeLiesIn}
use Rattle.store_model.specs.KeysLemmas.{key_chain, key_never, precedes_upto, upto_precedes}
use Rattle.compaction.specs.declared.plan.Plan.{Plan}
use Rattle.compaction.specs.Plans.{joint, names_line, with_range}
use Rattle.compaction.specs.Survivors.{key_range}
use Rattle.compaction.proofs.Dropping.{less_Decides}

-- ---- joint ranges

-- the test for less says that one key precedes the other
pub precedes : (a b : StoredKey) → is_lt (stored_cmp a b) ≡ true → KeyPrecedes a b
precedes a b is = (less_Decides (stored_cmp a b)).0 is

-- where it fails, it does not
pub precedes_not : (a b : StoredKey) → is_lt (stored_cmp a b) ≡ false → KeyPrecedes a b → ⊥
precedes_not a b fails lt = both_ways _ fails ((less_Decides (stored_cmp a b)).1 lt)

-- the lesser of two keys precedes neither
lesser : (x y : StoredKey) → let m = cond (is_lt (stored_cmp y x)) y x in
    (KeyPrecedes x m → ⊥) × (KeyPrecedes y m → ⊥)
lesser x y = cond_both (is_lt (stored_cmp y x)) y x
    (λ m. (KeyPrecedes x m → ⊥) × (KeyPrecedes y m → ⊥))
    (λ is. (λ h. key_never x (key_chain x y x h (precedes y x is)), key_never y))
    (λ fails. (key_never x, precedes_not y x fails))

-- neither of two keys precedes the greater
greater : (x y : StoredKey) → let m = cond (is_lt (stored_cmp x y)) y x in
    (KeyPrecedes m x → ⊥) × (KeyPrecedes m y → ⊥)
greater x y = cond_both (is_lt (stored_cmp x y)) y x
    (λ m. (KeyPrecedes m x → ⊥) × (KeyPrecedes m y → ⊥))
    (λ is. (λ h. key_never x (key_chain x y x (precedes x y is) h), key_never y))
    (λ fails. (key_never x, precedes_not x y fails))

lies_left : (a b : KeyRange) → RangeLiesIn a (joint a b)
lies_left a b = ((lesser a.least b.least).0, (greater a.greatest b.greatest).0)

lies_right : (a b : KeyRange) → RangeLiesIn b (joint a b)
lies_right a b = ((lesser a.least b.least).1, (greater a.greatest b.greatest).1)

lies_itself : (a : KeyRange) → RangeLiesIn a a
lies_itself a = (key_never a.least, key_never a.greatest)

lies_through : (a b c : KeyRange) → RangeLiesIn a b → RangeLiesIn b c → RangeLiesIn a c
lies_through a b c h k = (
  λ lt. h.0 (precedes_upto a.least c.least b.least lt k.0),
  λ lt. h.1 (upto_precedes b.greatest c.greatest a.greatest k.1 lt),
)

cond_same : {A : Type 0} (b : Bool) (x : A) → cond b x x ≡ x
cond_same true x = refl
cond_same false x = refl

joint_itself : (r : KeyRange) → joint r r ≡ r
joint_itself r = λ t. record {
  least = cond_same (is_lt (stored_cmp r.least r.least)) r.least t;
  greatest = cond_same (is_lt (stored_cmp r.greatest r.greatest)) r.greatest t;
}

module _ (plan : Plan) where
  -- the plan names the table of the line
  abbrev pub Takes : TableLine → Type 0
  Takes line = names_line plan line.level line.file ≡ true

  within : (acc : Option KeyRange) (line : TableLine) (range : KeyRange)
      → IfSome (with_range plan acc line) (λ r. RangeLiesIn r range)
      → IfSome acc (λ r. RangeLiesIn r range) × (Takes line → RangeLiesIn (key_range line) range)
  within None line range lies = (
    tt,
    λ takes. subst (λ o. IfSome o (λ r. RangeLiesIn r range)) (cond-true _ _ _ takes) lies,
  )
  within (Some r) line range lies = elim (cases_Bool (names_line plan line.level line.file)) [
    | inl takes ↦
        let both = subst (λ o. IfSome o (λ r. RangeLiesIn r range)) (cond-true _ _ _ takes) lies
        in (
          lies_through r (joint r (key_range line)) range (lies_left r (key_range line)) both,
          λ also. lies_through (key_range line) (joint r (key_range line)) range
              (lies_right r (key_range line)) both,
        )
    | inr fails ↦ (
      subst (λ o. IfSome o (λ r. RangeLiesIn r range)) (cond-false _ _ _ fails) lies,
      λ takes. absurd (both_ways _ fails takes),
    )
  ]

  -- the joint range holds that of each table that the plan names
  pub covers : (lines : List TableLine) (acc : Option KeyRange) (range : KeyRange)
      → fold (with_range plan) acc lines ≡ Some range
      → IfSome acc (λ r. RangeLiesIn r range)
      × ((line : TableLine) → Among line lines → Takes line → RangeLiesIn (key_range line) range)
  covers [] acc range is = (
    subst (λ o. IfSome o (λ r. RangeLiesIn r range)) (sym is) (lies_itself range),
    λ line a. absurd a,
  )
  covers (l ∷ ls) acc range is =
      let rest = covers ls (with_range plan acc l) range is in
      let first = within acc l range rest.0 in (
        first.0,
        λ line a takes. elim a [
          | inl same ↦ subst (λ z. RangeLiesIn (key_range z) range) same
              (first.1 (subst Takes (sym same) takes))
          | inr later ↦ rest.1 line later takes
        ],
      )

  some_from : (lines : List TableLine) (r : KeyRange)
      → (range : KeyRange) × (fold (with_range plan) (Some r) lines ≡ Some range)
  some_from [] r = (r, refl)
  some_from (l ∷ ls) r = elim (cases_Bool (names_line plan l.level l.file)) [
    | inl takes ↦ subst (λ o. (range : KeyRange) × (fold (with_range plan) o ls ≡ Some range))
        (sym (cond-true _ _ _ takes)) (some_from ls (joint r (key_range l)))
    | inr fails ↦ subst (λ o. (range : KeyRange) × (fold (with_range plan) o ls ≡ Some range))
        (sym (cond-false _ _ _ fails)) (some_from ls r)
  ]

  -- where the plan names a table, there is a joint range
  pub some_at : (lines : List TableLine) (line : TableLine) → Among line lines → Takes line
      → (range : KeyRange) × (fold (with_range plan) None lines ≡ Some range)
  some_at [] line a takes = absurd a
  some_at (l ∷ ls) line a takes = elim (cases_Bool (names_line plan l.level l.file)) [
    | inl passed ↦ subst (λ o. (range : KeyRange) × (fold (with_range plan) o ls ≡ Some range))
        (sym (cond-true _ _ _ passed)) (some_from ls (key_range l))
    | inr fails ↦ elim a [
      | inl same ↦ absurd (both_ways _ fails (subst Takes (sym same) takes))
      | inr later ↦ subst (λ o. (range : KeyRange) × (fold (with_range plan) o ls ≡ Some range))
          (sym (cond-false _ _ _ fails)) (some_at ls line later takes)
    ]
  ]

  same_from : (lines : List TableLine) (r : KeyRange)
      → ((line : TableLine) → Among line lines → Takes line → key_range line ≡ r)
      → fold (with_range plan) (Some r) lines ≡ Some r
  same_from [] r same = refl
  same_from (l ∷ ls) r same = elim (cases_Bool (names_line plan l.level l.file)) [
    | inl takes ↦
        ap (λ o. fold (with_range plan) o ls) (cond-true _ _ _ takes
        ∙ ap (λ z. Some (joint r z)) (same l (inl refl) takes) ∙ ap Some (joint_itself r))
        ∙ same_from ls r (λ line a. same line (inr a))
    | inr fails ↦ ap (λ o. fold (with_range plan) o ls) (cond-false _ _ _ fails)
        ∙ same_from ls r (λ line a. same line (inr a))
  ]

  -- where all tables that the plan names have one range, that is the joint one
  pub same_at : (lines : List TableLine) (r : KeyRange) (line : TableLine) → Among line lines
      → Takes line
      → ((line : TableLine) → Among line lines → Takes line → key_range line ≡ r)
      → fold (with_range plan) None lines ≡ Some r
  same_at [] r line a takes same = absurd a
  same_at (l ∷ ls) r line a takes same = elim (cases_Bool (names_line plan l.level l.file)) [
    | inl passed ↦
        ap (λ o. fold (with_range plan) o ls) (cond-true _ _ _ passed
        ∙ ap Some (same l (inl refl) passed))
        ∙ same_from ls r (λ other b. same other (inr b))
    | inr fails ↦ elim a [
      | inl is ↦ absurd (both_ways _ fails (subst Takes (sym is) takes))
      | inr later ↦ ap (λ o. fold (with_range plan) o ls) (cond-false _ _ _ fails)
          ∙ same_at ls r line later takes (λ other b. same other (inr b))
    ]
  ]

module _ (plan : Plan) (end : KeyRange → StoredKey)
    (either : (a b : KeyRange) → (end a ≡ end (joint a b)) ⊎ (end b ≡ end (joint a b))) where
  -- a table of these that the plan names ends where the range does
  abbrev HasEnd : List TableLine → KeyRange → Type 0
  HasEnd lines range = (line : TableLine) × Among line lines × Takes plan line
      × (end (key_range line) ≡ end range)

  end_later : (l : TableLine) (ls : List TableLine) (range : KeyRange) → HasEnd ls range
      → HasEnd (l ∷ ls) range
  end_later l ls range it = (it.0, inr it.1, it.2, it.3)

  end_from : (lines : List TableLine) (r range : KeyRange)
      → fold (with_range plan) (Some r) lines ≡ Some range
      → (end r ≡ end range) ⊎ HasEnd lines range
  end_from [] r range is = inl (let same : r ≡ range = cc in ap end same)
  end_from (l ∷ ls) r range is = elim (cases_Bool (names_line plan l.level l.file)) [
    | inl takes ↦ elim (end_from ls (joint r (key_range l)) range
        (subst (λ o. fold (with_range plan) o ls ≡ Some range) (cond-true _ _ _ takes) is)) [
          | inl same ↦ elim (either r (key_range l)) [
            | inl left ↦ inl (left ∙ same)
            | inr right ↦ inr (l, inl refl, takes, right ∙ same)
          ]
          | inr it ↦ inr (end_later l ls range it)
        ]
    | inr fails ↦ elim (end_from ls r range
        (subst (λ o. fold (with_range plan) o ls ≡ Some range) (cond-false _ _ _ fails) is)) [
          | inl same ↦ inl same
          | inr it ↦ inr (end_later l ls range it)
        ]
  ]

  -- the joint range ends where a table that the plan names does
  pub end_at : (lines : List TableLine) (range : KeyRange)
      → fold (with_range plan) None lines ≡ Some range → HasEnd lines range
  end_at [] range is = absurd (let h : None ≡ Some range = is in cc)
  end_at (l ∷ ls) range is = elim (cases_Bool (names_line plan l.level l.file)) [
    | inl takes ↦ elim (end_from ls (key_range l) range
        (subst (λ o. fold (with_range plan) o ls ≡ Some range) (cond-true _ _ _ takes) is)) [
          | inl same ↦ (l, inl refl, takes, same)
          | inr it ↦ end_later l ls range it
        ]
    | inr fails ↦ end_later l ls range (end_at ls range
        (subst (λ o. fold (with_range plan) o ls ≡ Some range) (cond-false _ _ _ fails) is))
  ]

-- the least key of a joint range is one of the two
pub least_either : (a b : KeyRange) → (a.least ≡ (joint a b).least) ⊎ (b.least ≡ (joint a b).least)
least_either a b = cond_both (is_lt (stored_cmp b.least a.least)) b.least a.least
    (λ m. (a.least ≡ m) ⊎ (b.least ≡ m)) (λ is. inr refl) (λ fails. inl refl)

-- so is its greatest
pub greatest_either : (a b : KeyRange)
    → (a.greatest ≡ (joint a b).greatest) ⊎ (b.greatest ≡ (joint a b).greatest)
greatest_either a b = cond_both (is_lt (stored_cmp a.greatest b.greatest)) b.greatest a.greatest
    (λ m. (a.greatest ≡ m) ⊎ (b.greatest ≡ m)) (λ is. inr refl) (λ fails. inl refl)
