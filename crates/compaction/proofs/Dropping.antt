-- The two rules of dropping decide what a merge leaves.
use Rattle.std.proofs.Common.{◌≡◌, ◌⊎◌, inl, inr, ℕ, suc, ◌<◌, ◌≤◌, List, [], ◌∷◌, Option, Some}
use Rattle.std.proofs.Common.{None}
use Rattle.std.proofs.Common.{true, Contains, Decides, IfSome, refl, sym, subst, ap}
use Rattle.std.proofs.Common.{arith}
use Rattle.std.specs.Prelude.{nat_le, is_none, not}
use Rattle.std.specs.List.{list_any}
use Rattle.std.specs.declared.cmp.Ordering.{Ordering}
use Rattle.std.specs.declared.cmp.Ordering.TheVariants.{Less, Equal, Greater}
use Rattle.std.specs.Ordering.{is_lt}
use Rattle.std.proofs.lemmas.Bool.{cases_Bool, cond-false, cond-true, false≢true, leb-true, le-leb}
use Rattle.std.proofs.lemmas.Bool.{or_cases, or_left, or_right}
use Rattle.std.proofs.lemmas.Bool.Decides.{Decides-and, Decides-like, Decides-not, Decides-or}
use Rattle.std.proofs.lemmas.Bool.Decides.{not_from_Decides}
use Rattle.std.proofs.lemmas.Slice.Eq.{bytes_eq-Decides}
use Rattle.byte_fields.specs.{StoredKey, stored_cmp}
use Rattle.kv_types.specs.{Entry}
use Rattle.kv_types.specs.OrderLemmas.{Among, Contains-among, Rises, among_from_Contains}
use Rattle.kv_types.specs.OrderLemmas.{rises_from_AllPairs}
use Rattle.version_edits.specs.declared.TableLine.{TableLine}
use Rattle.merge_iter.specs.declared.Direction.TheVariants.{Forward}
use Rattle.merge_iter.specs.{EntryPrecedes}
use Rattle.merge_iter.specs.EntryOrder.{chain}
use Rattle.merge_iter.specs.EntryParts.{numbers_fall}
use Rattle.store_model.specs.{IsNextInSweep, IsDropped, IsOverwritten, IsSpentDeletion, KeyRange}
use Rattle.store_model.specs.{LevelTable, MergePlan, RangeHolds, tables_entries}
use Rattle.store_model.specs.SweepsLemmas.{next_is_newer, next_overwrites}
use Rattle.compaction.specs.Survivors.{AreDeeperLines, SurvivorsAreLeft}
use Rattle.compaction.specs.Survivors.{is_dropped, is_overwritten, is_spent, line_holds, key_range}
use Rattle.compaction.specs.Survivors.{survivors, survivors_behind}
use Rattle.compaction.proofs.Orders.{less_parts}

-- ---- the tests

pub less_Decides : (r : Ordering) → Decides (is_lt r) (r ≡ Less)
less_Decides Less = (λ h. refl, λ h. refl)
less_Decides Equal = (λ h. cc, λ h. cc)
less_Decides Greater = (λ h. cc, λ h. cc)

none_Decides : (o : Option (List ℕ)) → Decides (is_none o) (o ≡ None)
none_Decides None = (λ h. refl, λ h. refl)
none_Decides (Some v) = (λ h. cc, λ h. cc)

le_Decides : (m n : ℕ) → Decides (nat_le m n) (m ≤ n)
le_Decides m n = (leb-true m n, le-leb m n)

pub holds_Decides : (key : StoredKey) (line : TableLine)
    → Decides (line_holds key line) (RangeHolds (key_range line) key)
holds_Decides key line =
    Decides-and _ _ (Decides-not _ (less_Decides (stored_cmp key line.least)))
    (Decides-not _ (less_Decides (stored_cmp line.greatest key)))

any_among : (key : StoredKey) (lines : List TableLine) → list_any (line_holds key) lines ≡ true
    → (line : TableLine) × Among line lines × (line_holds key line ≡ true)
any_among key [] is = absurd (false≢true is)
any_among key (line ∷ lines) is = elim (or_cases (line_holds key line) _ is) [
  | inl here ↦ (line, inl refl, here)
  | inr later ↦ let it = any_among key lines later in (it.0, inr it.1, it.2)
]

any_at : (key : StoredKey) (lines : List TableLine) (line : TableLine) → Among line lines
    → line_holds key line ≡ true → list_any (line_holds key) lines ≡ true
any_at key [] line a is = absurd a
any_at key (first ∷ lines) line (inl e) is =
    or_left (line_holds key first) _ (subst (λ l. line_holds key l ≡ true) (sym e) is)
any_at key (first ∷ lines) line (inr a) is =
    or_right (line_holds key first) _ (any_at key lines line a is)

module _ (floor : ℕ) (plan : MergePlan) (deeper : List TableLine)
    (lines : AreDeeperLines plan deeper) where
  -- no deeper table can have the key
  abbrev NoneDeeper : StoredKey → Type 0
  NoneDeeper key = (t : LevelTable) → Contains plan.tables t → suc plan.level < t.level
      → RangeHolds t.range key → ⊥

  none_Deeper : (key : StoredKey)
      → Decides (not (list_any (line_holds key) deeper)) (NoneDeeper key)
  none_Deeper key = Decides-like _
      (λ none t in_t below holds.
      let it = lines.named t in_t below in
      none (any_at key deeper it.0 (among_from_Contains deeper it.0 it.1)
      ((holds_Decides key it.0).1 (subst (λ (r : KeyRange). RangeHolds r key) it.2 holds))))
      (λ none any.
      let it = any_among key deeper any in
      let t = lines.real it.0 (Contains-among deeper it.0 it.1) in
      none t.0 t.1 t.2
      (subst (λ (r : KeyRange). RangeHolds r key) (sym t.3) ((holds_Decides key it.0).0 it.2)))
      (Decides-not (list_any (line_holds key) deeper)
      ((λ is. is), (λ is. is)))

  spent_Decides : (e : Entry) → Decides (is_spent floor deeper e) (IsSpentDeletion floor plan e)
  spent_Decides e = Decides-like _ (λ h. (h.0, h.1.0, h.1.1)) (λ h. (h.0, (h.1, h.2)))
      (Decides-and _ _ (none_Decides e.value)
      (Decides-and _ _ (le_Decides e.number floor) (none_Deeper e.key)))

-- ---- a walk over the entries in order

-- the entry is this one, or comes before it
abbrev pub IsUpTo : Option Entry → Entry → Type 0
IsUpTo None e = ⊥
IsUpTo (Some b) e = (e ≡ b) ⊎ EntryPrecedes Forward e b

-- of the set, these entries are left behind this one
record IsRest (has : Entry → Type 0) (before : Option Entry) (rest : List Entry) : Type 0 where
  each : (e : Entry) → Among e rest → has e
  rises : Rises (EntryPrecedes Forward) rest
  split : (e : Entry) → has e → IsUpTo before e ⊎ Among e rest
  behind : IfSome before (λ b. has b × ((e : Entry) → Among e rest → EntryPrecedes Forward b e))

module _ (has : Entry → Type 0) where
  up_to : (before : Option Entry) (x : Entry) (xs : List Entry) → IsRest has before (x ∷ xs)
      → (e : Entry) → IsUpTo before e → IsUpTo (Some x) e
  up_to None x xs s e never = absurd never
  up_to (Some b) x xs s e (inl is) =
      inr (subst (λ (z : Entry). EntryPrecedes Forward z x) (sym is) (s.behind.1 x (inl refl)))
  up_to (Some b) x xs s e (inr lt) = inr (chain Forward e b x lt (s.behind.1 x (inl refl)))

  rest_more : (before : Option Entry) (x : Entry) (xs : List Entry) → IsRest has before (x ∷ xs)
      → IsRest has (Some x) xs
  rest_more before x xs s = record {
    each = λ e a. s.each e (inr a);
    rises = s.rises.1;
    split = λ e h. elim (s.split e h) [
      | inl early ↦ inl (up_to before x xs s e early)
      | inr a ↦ elim a [ inl is ↦ inl (inl (sym is)) | inr later ↦ inr later ]
    ];
    behind = (s.each x (inl refl), λ e a. s.rises.0 e a);
  }

  comes_next : (b x : Entry) (xs : List Entry) → IsRest has (Some b) (x ∷ xs)
      → IsNextInSweep has b x
  comes_next b x xs s = record {
    before = s.behind.0;
    in_order = less_parts b x (s.behind.1 x (inl refl));
    none_between = λ e h. elim (s.split e h) [
      | inl early ↦ elim early
          [ inl is ↦ inl (inl is) | inr lt ↦ inl (inr (less_parts e b lt)) ]
      | inr a ↦ elim a [
        | inl is ↦ inr (inl (sym is))
        | inr later ↦ inr (inr (less_parts x e (s.rises.0 e later)))
      ]
    ];
  }

module _ (floor : ℕ) (inputs : List LevelTable) where
  -- nothing overwrites the first entry
  first_stays : (x : Entry) (xs : List Entry) → IsRest (tables_entries inputs) None (x ∷ xs)
      → IsOverwritten floor inputs x → ⊥
  first_stays x xs s (newer, has, same, lt, le) = elim (s.split newer has) [
    | inl never ↦ never
    | inr a ↦ elim a [
      | inl is ↦ let number : x.number ≡ newer.number = ap (λ (e : Entry). e.number) is in
          absurd (omega (arith, lt, number))
      | inr later ↦ let falls = numbers_fall x newer (s.rises.0 newer later) (sym same) in
          absurd (omega (arith, falls, lt))
    ]
  ]

  overwritten_Decides : (before : Option Entry) (x : Entry) (xs : List Entry)
      → IsRest (tables_entries inputs) before (x ∷ xs)
      → Decides (is_overwritten floor before x) (IsOverwritten floor inputs x)
  overwritten_Decides None x xs s =
      (λ h. absurd (false≢true h), λ h. absurd (first_stays x xs s h))
  overwritten_Decides (Some b) x xs s =
      let next = comes_next (tables_entries inputs) b x xs s in
      Decides-like _
      (λ h. (b, s.behind.0, h.0, next_is_newer (tables_entries inputs) b x next h.0, h.1))
      (λ h. next_overwrites (tables_entries inputs) b x next h.0 floor h.1 h.2 h.3 h.4)
      (Decides-and _ _ (bytes_eq-Decides b.key x.key) (le_Decides b.number floor))

module _ (floor : ℕ) (plan : MergePlan) (deeper : List TableLine)
    (lines : AreDeeperLines plan deeper) where
  abbrev Has : Entry → Type 0
  Has = tables_entries plan.inputs

  dropped_Decides : (before : Option Entry) (x : Entry) (xs : List Entry)
      → IsRest Has before (x ∷ xs)
      → Decides (is_dropped floor deeper before x) (IsDropped floor plan x)
  dropped_Decides before x xs s =
      Decides-or _ _ (overwritten_Decides floor plan.inputs before x xs s)
      (spent_Decides floor plan deeper lines x)

  only_left : (before : Option Entry) (rest : List Entry) → IsRest Has before rest → (e : Entry)
      → Among e (survivors_behind floor deeper before rest) → Has e × (IsDropped floor plan e → ⊥)
  only_left before [] s e a = absurd a
  only_left before (x ∷ xs) s e a = elim (cases_Bool (is_dropped floor deeper before x)) [
    | inl gone ↦ only_left (Some x) xs (rest_more Has before x xs s) e
        (subst (λ l. Among e l) (cond-true _ _ _ gone) a)
    | inr stays ↦ elim (subst (λ l. Among e l) (cond-false _ _ _ stays) a) [
      | inl is ↦ subst (λ z. Has z × (IsDropped floor plan z → ⊥)) is
          (s.each x (inl refl), not_from_Decides _ (dropped_Decides before x xs s) stays)
      | inr later ↦ only_left (Some x) xs (rest_more Has before x xs s) e later
    ]
  ]

  all_left : (before : Option Entry) (rest : List Entry) → IsRest Has before rest → (e : Entry)
      → Among e rest → Among e (survivors_behind floor deeper before rest) ⊎ IsDropped floor plan e
  all_left before [] s e a = absurd a
  all_left before (x ∷ xs) s e a = elim (cases_Bool (is_dropped floor deeper before x)) [
    | inl gone ↦ elim a [
      | inl is ↦ inr (subst (λ z. IsDropped floor plan z) is
          ((dropped_Decides before x xs s).0 gone))
      | inr later ↦ elim (all_left (Some x) xs (rest_more Has before x xs s) e later) [
        | inl there ↦ inl (subst (λ l. Among e l) (sym (cond-true _ _ _ gone)) there)
        | inr dropped ↦ inr dropped
      ]
    ]
    | inr stays ↦ elim a [
      | inl is ↦ inl (subst (λ l. Among e l) (sym (cond-false _ _ _ stays)) (inl is))
      | inr later ↦ elim (all_left (Some x) xs (rest_more Has before x xs s) e later) [
        | inl there ↦ inl (subst (λ l. Among e l) (sym (cond-false _ _ _ stays)) (inr there))
        | inr dropped ↦ inr dropped
      ]
    ]
  ]

pub survivors_are_left : SurvivorsAreLeft
survivors_are_left floor plan deeper entries lines union =
    let start : IsRest (tables_entries plan.inputs) None entries = record {
      each = λ e a. (union.alike e).0 (Contains-among entries e a);
      rises = rises_from_AllPairs (EntryPrecedes Forward) entries union.rising;
      split = λ e h. inr (among_from_Contains entries e ((union.alike e).1 h));
      behind = tt;
    } in
    record {
      only = λ e h. only_left floor plan deeper lines None entries start e
          (among_from_Contains (survivors floor deeper entries) e h);
      all = λ e h. elim (all_left floor plan deeper lines None entries start e
          (among_from_Contains entries e ((union.alike e).1 h))) [
            | inl there ↦ inl (Contains-among (survivors floor deeper entries) e there)
            | inr dropped ↦ inr dropped
          ];
    }
