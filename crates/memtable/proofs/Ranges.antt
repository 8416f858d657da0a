-- What is left of the keys on one side of a key, once one is taken.
use Rattle.std.proofs.Common.{◌≡◌, ℕ, sym, ap, ◌∙◌, subst, List, [], ◌∷◌, ◌++◌, Bool, true, false}
use Rattle.std.proofs.Common.{cond, refl}
use Rattle.std.proofs.Common.{◌⊎◌, inl, inr, Option, Some, None}
use Rattle.std.specs.Option.{IsSome}
use Rattle.std.specs.List.{filter, AllByRecursion}
use Rattle.std.specs.List.Sorted.{IsStrictlySortedBy}
use Rattle.std.specs.Map.{keys_of, lookup}
use Rattle.std.specs.BTreeMap.{is_at}
use Rattle.std.specs.BTreeMap.Range.{range_contains}
use Rattle.std.specs.Cmp.{tied_itself}
use Rattle.std.specs.declared.cmp.Ordering.TheVariants.{Less, Equal}
use Rattle.std.specs.declared.collections.Bound.TheVariants.{Excluded, Unbounded}
use Rattle.std.specs.Ordering.{is_eq}
use Rattle.std.proofs.lemmas.Map.Keys.{sorted_head, sorted_tail}
use Rattle.std.proofs.lemmas.Map.Views.{IsInRange-from_range_contains}
use Rattle.std.proofs.lemmas.Map.Views.{range_contains-from_IsInRange}
use Rattle.std.proofs.lemmas.Map.Text.{is_eq-slice_cmp}
use Rattle.std.proofs.lemmas.Slice.Eq.{bytes_eq-Decides}
use Rattle.std.proofs.lemmas.Bool.{false≢true}
use Rattle.byte_fields.specs.{StoredKey, stored_cmp}
use Rattle.byte_fields.specs.StoredKeysLemmas.{stored_total}
use Rattle.memtable.specs.declared.version.Versions.{Versions}
use Rattle.memtable.specs.Maps.{VersionMap}
use Rattle.memtable.specs.Ranges.{KeyList, keys_after, keys_before}

abbrev Keys : StoredKey → StoredKey → Type 0
Keys k l = stored_cmp k l ≡ Less

abbrev after : StoredKey → StoredKey → Bool
after k l = range_contains stored_cmp (Excluded k) Unbounded l

abbrev before : StoredKey → StoredKey → Bool
before k l = range_contains stored_cmp Unbounded (Excluded k) l

is_after : (k l : StoredKey) → Keys k l → after k l ≡ true
is_after k l h = range_contains-from_IsInRange stored_total (Excluded k) Unbounded l (h, tt)

after_is : (k l : StoredKey) → after k l ≡ true → Keys k l
after_is k l h = (IsInRange-from_range_contains stored_total (Excluded k) Unbounded l h).0

is_before : (k l : StoredKey) → Keys l k → before k l ≡ true
is_before k l h = range_contains-from_IsInRange stored_total Unbounded (Excluded k) l (tt, h)

before_is : (k l : StoredKey) → before k l ≡ true → Keys l k
before_is k l h = (IsInRange-from_range_contains stored_total Unbounded (Excluded k) l h).1

trans : (k l m : StoredKey) → Keys k l → Keys l m → Keys k m
trans k l m h j = stored_total.trans k l m h j

not_self : (k : StoredKey) → Keys k k → ⊥
not_self k h = let e : Equal ≡ Less = sym (tied_itself stored_total k) ∙ h in cc

false_by : (b : Bool) → (b ≡ true → ⊥) → b ≡ false
false_by true h = absurd (h refl)
false_by false h = refl

-- ---- filters

all_kept : {A : Type 0} (p : A → Bool) (xs : List A) → AllByRecursion (λ x. p x ≡ true) xs
    → filter p xs ≡ xs
all_kept p [] h = refl
all_kept p (x ∷ xs) h = ap (λ b. cond b (x ∷ filter p xs) (filter p xs)) h.0 ∙ ap (λ ys. x ∷ ys)
    (all_kept p xs h.1)

none_kept : {A : Type 0} (p : A → Bool) (xs : List A) → AllByRecursion (λ x. p x ≡ false) xs
    → filter p xs ≡ []
none_kept p [] h = refl
none_kept p (x ∷ xs) h = ap (λ b. cond b (x ∷ filter p xs) (filter p xs)) h.0 ∙ none_kept p xs h.1

-- what holds of each holds of each that is kept, and the test too
kept : {A : Type 0} (P : A → Type 0) (p : A → Bool) (xs : List A) → AllByRecursion P xs
    → AllByRecursion (λ x. P x × (p x ≡ true)) (filter p xs)
kept P p [] h = tt
kept {A} P p (x ∷ xs) h = by (p x) refl (kept P p xs h.1)
  where
    by : (b : Bool) → p x ≡ b → AllByRecursion (λ y. P y × (p y ≡ true)) (filter p xs)
        → AllByRecursion (λ y. P y × (p y ≡ true)) (cond b (x ∷ filter p xs) (filter p xs))
    by true e others = ((h.0, e), others)
    by false e others = others

each : {A : Type 0} (P Q : A → Type 0) → ((x : A) → P x → Q x) → (xs : List A) → AllByRecursion P xs
    → AllByRecursion Q xs
each P Q f [] h = tt
each P Q f (x ∷ xs) h = (f x h.0, each P Q f xs h.1)

of_last : {A : Type 0} (P : A → Type 0) (xs : List A) (y : A) → AllByRecursion P (xs ++ y ∷ [])
    → P y
of_last P [] y h = h.0
of_last P (x ∷ xs) y h = of_last P xs y h.1

any : {A : Type 0} (xs : List A) → AllByRecursion (λ x. Unit {0}) xs
any [] = tt
any (x ∷ xs) = (tt, any xs)

by_keys : (P : StoredKey → Type 0) (es : KeyList) → AllByRecursion P (keys_of es) → AllByRecursion
    (λ e. P e.0) es
by_keys P [] h = tt
by_keys P (e ∷ es) h = (h.0, by_keys P es h.1)

later : (e : StoredKey × Versions) (es : KeyList) → IsStrictlySortedBy stored_cmp
    (keys_of (e ∷ es)) → AllByRecursion (λ y. Keys e.0 y.0) es
later e es sorted = by_keys (λ k. Keys e.0 k) es (sorted_head stored_cmp e.0 (keys_of es)
    sorted)

-- ---- the first key is taken

pub after_first : (es : KeyList) (k : StoredKey) (e : StoredKey × Versions) (t : KeyList)
    → IsStrictlySortedBy stored_cmp (keys_of es)
    → filter (λ y. after k y.0) es ≡ e ∷ t → filter (λ y. after e.0 y.0) es ≡ t
after_first [] k e t sorted is = absurd (cc)
after_first (x ∷ xs) k e t sorted is =
    by (after k x.0) refl (after_first xs k e t (sorted_tail stored_cmp x.0 (keys_of xs)
    sorted))
  where
    rest : filter (λ y. after x.0 y.0) xs ≡ xs
    rest = all_kept (λ y. after x.0 y.0) xs (each (λ y. Keys x.0 y.0) (λ y. after x.0 y.0 ≡ true)
        (λ y h. is_after x.0 y.0 h) xs (later x xs sorted))

    by : (b : Bool) → after k x.0 ≡ b → (filter (λ y. after k y.0) xs ≡ e ∷ t
        → filter (λ y. after e.0 y.0) xs ≡ t) → filter (λ y. after e.0 y.0) (x ∷ xs) ≡ t
    by true h others =
        let here : x ∷ filter (λ y. after k y.0) xs ≡ e ∷ t =
        sym (ap (λ b. cond b (x ∷ filter (λ y. after k y.0) xs) (filter (λ y. after k y.0) xs))
        h) ∙ is in
        let same : x ≡ e = cc in
        let tail : filter (λ y. after k y.0) xs ≡ t = cc in
        let whole : filter (λ y. after k y.0) xs ≡ xs = all_kept (λ y. after k y.0) xs
        (each (λ y. Keys x.0 y.0) (λ y. after k y.0 ≡ true)
        (λ y j. is_after k y.0 (trans k x.0 y.0 (after_is k x.0 h) j)) xs (later x xs sorted))
        in
        let own = ap (λ b. cond b (x ∷ filter (λ y. after x.0 y.0) xs)
        (filter (λ y. after x.0 y.0) xs))
        (false_by (after x.0 x.0) (λ j. not_self x.0 (after_is x.0 x.0 j))) in
        subst (λ (z : StoredKey × Versions). filter (λ y. after z.0 y.0) (x ∷ xs) ≡ t) same
        (own ∙ (rest ∙ (sym whole ∙ tail)))
    by false h others =
        let tail : filter (λ y. after k y.0) xs ≡ e ∷ t =
        sym (ap (λ b. cond b (x ∷ filter (λ y. after k y.0) xs) (filter (λ y. after k y.0) xs))
        h) ∙ is in
        let passes = (subst (AllByRecursion (λ (y : StoredKey × Versions). Unit {0}
        × (after k y.0 ≡ true))) tail (kept (λ y. Unit {0}) (λ y. after k y.0) xs (any xs))).0.1
        in
        let gone = false_by (after e.0 x.0) (λ j. let z : true ≡ false =
        sym (is_after k x.0 (trans k e.0 x.0 (after_is k e.0 passes) (after_is e.0 x.0 j)))
        ∙ h in cc) in
        ap (λ b. cond b (x ∷ filter (λ y. after e.0 y.0) xs) (filter (λ y. after e.0 y.0) xs)) gone
        ∙ others tail

-- ---- the last key is taken

pub before_last : (es : KeyList) (k : StoredKey) (e : StoredKey × Versions) (t : KeyList)
    → IsStrictlySortedBy stored_cmp (keys_of es)
    → filter (λ y. before k y.0) es ≡ t ++ e ∷ [] → filter (λ y. before e.0 y.0) es ≡ t
before_last [] k e [] sorted is = absurd (cc)
before_last [] k e (y ∷ t) sorted is = absurd (cc)
before_last (x ∷ xs) k e t sorted is = by (before k x.0) refl
    (λ u. before_last xs k e u (sorted_tail stored_cmp x.0 (keys_of xs) sorted)) t is
  where
    beyond : filter (λ y. before x.0 y.0) xs ≡ []
    beyond = none_kept (λ y. before x.0 y.0) xs
        (each (λ y. Keys x.0 y.0) (λ y. before x.0 y.0 ≡ false)
        (λ y h. false_by (before x.0 y.0)
        (λ j. not_self x.0 (trans x.0 y.0 x.0 h (before_is x.0 y.0 j)))) xs (later x xs sorted))

    -- what is taken behind comes after this one
    behind : (u : KeyList) → filter (λ y. before k y.0) xs ≡ u ++ e ∷ [] → Keys x.0 e.0
        × (before k e.0 ≡ true)
    behind u tail = of_last (λ (y : StoredKey × Versions). Keys x.0 y.0 × (before k y.0 ≡ true)) u e
        (subst (AllByRecursion (λ (y : StoredKey × Versions). Keys x.0 y.0 × (before k y.0 ≡ true)))
        tail (kept (λ y. Keys x.0 y.0) (λ y. before k y.0) xs (later x xs sorted)))

    by : (b : Bool) → before k x.0 ≡ b → ((u : KeyList) → filter (λ y. before k y.0) xs ≡ u ++ e ∷
        [] → filter (λ y. before e.0 y.0) xs ≡ u) → (u : KeyList) → filter (λ y. before k y.0)
        (x ∷ xs) ≡ u ++ e ∷ [] → filter (λ y. before e.0 y.0) (x ∷ xs) ≡ u
    by true h others [] at =
        let here : x ∷ filter (λ y. before k y.0) xs ≡ e ∷ [] =
        sym (ap (λ b. cond b (x ∷ filter (λ y. before k y.0) xs)
        (filter (λ y. before k y.0) xs)) h) ∙ at in
        let same : x ≡ e = cc in
        let own = ap (λ b. cond b (x ∷ filter (λ y. before x.0 y.0) xs)
        (filter (λ y. before x.0 y.0) xs))
        (false_by (before x.0 x.0) (λ j. not_self x.0 (before_is x.0 x.0 j))) in
        subst (λ (z : StoredKey × Versions). filter (λ y. before z.0 y.0) (x ∷ xs) ≡ []) same
        (own ∙ beyond)
    by true h others (w ∷ u) at =
        let here : x ∷ filter (λ y. before k y.0) xs ≡ w ∷ (u ++ e ∷ []) =
        sym (ap (λ b. cond b (x ∷ filter (λ y. before k y.0) xs)
        (filter (λ y. before k y.0) xs)) h) ∙ at in
        let same : x ≡ w = cc in
        let tail : filter (λ y. before k y.0) xs ≡ u ++ e ∷ [] = cc in
        let one = ap (λ b. cond b (x ∷ filter (λ y. before e.0 y.0) xs)
        (filter (λ y. before e.0 y.0) xs)) (is_before e.0 x.0 (behind u tail).0) in
        one ∙ (ap (λ (ys : KeyList). x ∷ ys) (others u tail) ∙ ap (λ
        (z : StoredKey × Versions). z ∷ u)
        same)
    by false h others u at =
        let tail : filter (λ y. before k y.0) xs ≡ u ++ e ∷ [] =
        sym (ap (λ b. cond b (x ∷ filter (λ y. before k y.0) xs)
        (filter (λ y. before k y.0) xs)) h) ∙ at in
        let last = behind u tail in
        let z : true ≡ false =
        sym (is_before k x.0 (trans x.0 e.0 k last.0 (before_is k e.0 last.1))) ∙ h in
        absurd (cc)

-- ---- what a lookup finds

abbrev look : StoredKey → KeyList → Option Versions
look q es = lookup (is_at (stored_cmp q)) es

same_key : (k l : StoredKey) → is_eq (stored_cmp k l) ≡ true → k ≡ l
same_key k l e = (bytes_eq-Decides k l).0 (sym (is_eq-slice_cmp k l) ∙ e)

other_key : (k l : StoredKey) → (k ≡ l → ⊥) → is_eq (stored_cmp k l) ≡ false
other_key k l apart = false_by (is_eq (stored_cmp k l)) (λ e. apart (same_key k l e))

look_here : (e : StoredKey × Versions) (es : KeyList) → look e.0 (e ∷ es) ≡ Some e.1
look_here e es = ap (λ b. cond b (Some e.1) (look e.0 es))
    (ap is_eq (tied_itself stored_total e.0))

look_on : (q : StoredKey) (e : StoredKey × Versions) (es : KeyList) → (q ≡ e.0 → ⊥)
    → look q (e ∷ es) ≡
    look q es
look_on q e es apart = ap (λ b. cond b (Some e.1) (look q es)) (other_key q e.0 apart)

-- a key that is found is this one, or one behind it
found_in : (q : StoredKey) (e : StoredKey × Versions) (es : KeyList) → IsSome (look q (e ∷ es))
    → (q ≡ e.0) ⊎ IsSome (look q es)
found_in q e es some = by (is_eq (stored_cmp q e.0)) refl
  where
    by : (b : Bool) → is_eq (stored_cmp q e.0) ≡ b → (q ≡ e.0) ⊎ IsSome (look q es)
    by true h = inl (same_key q e.0 h)
    by false h = inr (subst IsSome (ap (λ b. cond b (Some e.1) (look q es)) h) some)

-- what holds of each key holds of one that is found
holds_found : (P : StoredKey → Type 0) (q : StoredKey) (es : KeyList)
    → AllByRecursion (λ e. P e.0) es
    → IsSome (look q es) → P q
holds_found P q [] all some = absurd (cc)
holds_found P q (e ∷ es) all some = elim (found_in q e es some) [
  | inl here ↦ subst P (sym here) all.0
  | inr behind ↦ holds_found P q es all.1 behind
]

not_some : {X : Type 0} (o : Option X) → (IsSome o → ⊥) → o ≡ None
not_some None h = refl
not_some (Some x) h = absurd (h refl)

-- the filter of a list that begins with an entry that passes, or does not
filter_passes : (p : List ℕ → Bool) (x : StoredKey × Versions) (xs : KeyList) → p x.0 ≡ true
    → filter (λ y. p y.0) (x ∷ xs) ≡ x ∷ filter (λ y. p y.0) xs
filter_passes p x xs h = ap (λ b. cond b (x ∷ filter (λ y. p y.0) xs) (filter (λ y. p y.0) xs)) h

filter_drops : (p : List ℕ → Bool) (x : StoredKey × Versions) (xs : KeyList) → p x.0 ≡ false
    → filter (λ y. p y.0) (x ∷ xs) ≡ filter (λ y. p y.0) xs
filter_drops p x xs h = ap (λ b. cond b (x ∷ filter (λ y. p y.0) xs) (filter (λ y. p y.0) xs)) h

-- no key passes
none_found : (p : List ℕ → Bool) (es : KeyList) (q : StoredKey) → filter (λ y. p y.0) es ≡ []
    → p q ≡ true → IsSome (look q es) → ⊥
none_found p [] q is passes some = cc
none_found p (x ∷ xs) q is passes some = by (p x.0) refl (λ none. none_found p xs q none passes)
  where
    by : (b : Bool) → p x.0 ≡ b → (filter (λ y. p y.0) xs ≡ [] → IsSome (look q xs) → ⊥) → ⊥
    by true h others = let z : x ∷ filter (λ y. p y.0) xs ≡ [] = sym (filter_passes p x xs h)
        ∙ is in cc
    by false h others = elim (found_in q x xs some) [
      | inl here ↦ let z : true ≡ false = sym passes ∙ (ap p here ∙ h) in cc
      | inr behind ↦ others (sym (filter_drops p x xs h) ∙ is) behind
    ]

pub none_after : (m : VersionMap) (k : StoredKey) (r : KeyList) → r ≡ keys_after m k → r ≡ []
    → (q : StoredKey) → Keys k q → IsSome (look q m.entries) → ⊥
none_after m k r is none q h some = none_found (after k) m.entries q (sym is ∙ none)
    (is_after k q h) some

pub none_before : (m : VersionMap) (k : StoredKey) (r : KeyList) → r ≡ keys_before m k → r ≡ []
    → (q : StoredKey) → Keys q k → IsSome (look q m.entries) → ⊥
none_before m k r is none q h some = none_found (before k) m.entries q (sym is ∙ none)
    (is_before k q h) some

-- what the first of the keys behind a key is: found, behind it, and the least of those
pub record IsNextKey (es : KeyList) (k : StoredKey) (e : StoredKey × Versions) : Type 0 where
  pub got : look e.0 es ≡ Some e.1
  pub behind : Keys k e.0
  pub least : (q : StoredKey) → Keys k q → IsSome (look q es) → Keys q e.0 → ⊥

pub next_key : (es : KeyList) (k : StoredKey) (e : StoredKey × Versions) (t : KeyList)
    → IsStrictlySortedBy stored_cmp (keys_of es)
    → filter (λ y. after k y.0) es ≡ e ∷ t → IsNextKey es k e
next_key [] k e t sorted is = absurd (cc)
next_key (x ∷ xs) k e t sorted is =
    by (after k x.0) refl (next_key xs k e t (sorted_tail stored_cmp x.0 (keys_of xs)
    sorted))
  where
    by : (b : Bool) → after k x.0 ≡ b → (filter (λ y. after k y.0) xs ≡ e ∷ t → IsNextKey xs k e)
        → IsNextKey (x ∷ xs) k e
    by true h others =
        let here : x ∷ filter (λ y. after k y.0) xs ≡ e ∷ t = sym (filter_passes (after k) x xs h)
        ∙ is in
        let same : x ≡ e = cc in
        subst (IsNextKey (x ∷ xs) k) same (record {
          got = look_here x xs;
          behind = after_is k x.0 h;
          least = λ q later_ some less. elim (found_in q x xs some) [
            | inl at ↦ not_self q (subst (Keys q) (sym at) less)
            | inr on ↦ not_self q
                (trans q x.0 q less (holds_found (Keys x.0) q xs (later x xs sorted) on))
          ];
        })
    by false h others =
        let rest = others (sym (filter_drops (after k) x xs h) ∙ is) in
        let lost = λ (q : StoredKey) (j : Keys k q) (at : q ≡ x.0). let z : true ≡ false =
        sym (is_after k q j) ∙ (ap (after k) at ∙ h) in false≢true (sym z) in record {
          got = look_on e.0 x xs (lost e.0 rest.behind) ∙ rest.got;
          behind = rest.behind;
          least = λ q later_ some less. elim (found_in q x xs some) [
            | inl at ↦ lost q later_ at
            | inr on ↦ rest.least q later_ on less
          ];
        }

-- what the last of the keys before a key is
pub record IsKeyBefore (es : KeyList) (k : StoredKey) (e : StoredKey × Versions) : Type 0 where
  pub got : look e.0 es ≡ Some e.1
  pub before : Keys e.0 k
  pub greatest : (q : StoredKey) → Keys q k → IsSome (look q es) → Keys e.0 q → ⊥

pub key_before : (es : KeyList) (k : StoredKey) (e : StoredKey × Versions) (t : KeyList)
    → IsStrictlySortedBy stored_cmp (keys_of es)
    → filter (λ y. before k y.0) es ≡ t ++ e ∷ [] → IsKeyBefore es k e
key_before [] k e [] sorted is = absurd (cc)
key_before [] k e (y ∷ t) sorted is = absurd (cc)
key_before (x ∷ xs) k e t sorted is = by (before k x.0) refl
    (λ u. key_before xs k e u (sorted_tail stored_cmp x.0 (keys_of xs) sorted)) t is
  where
    behind : (u : KeyList) → filter (λ y. before k y.0) xs ≡ u ++ e ∷ [] → Keys x.0 e.0
        × (before k e.0 ≡ true)
    behind u tail = of_last (λ (y : StoredKey × Versions). Keys x.0 y.0 × (before k y.0 ≡ true)) u e
        (subst (AllByRecursion (λ (y : StoredKey × Versions). Keys x.0 y.0 × (before k y.0 ≡ true)))
        tail (kept (λ y. Keys x.0 y.0) (λ y. before k y.0) xs (later x xs sorted)))

    by : (b : Bool) → before k x.0 ≡ b → ((u : KeyList) → filter (λ y. before k y.0) xs ≡ u ++ e ∷
        [] → IsKeyBefore xs k e) → (u : KeyList) → filter (λ y. before k y.0) (x ∷ xs) ≡ u ++ e ∷ []
        → IsKeyBefore (x ∷ xs) k e
    by true h others [] at =
        let here : x ∷ filter (λ y. before k y.0) xs ≡ e ∷ [] =
        sym (filter_passes (before k) x xs h) ∙ at in
        let same : x ≡ e = cc in
        let none : filter (λ y. before k y.0) xs ≡ [] = cc in
        subst (IsKeyBefore (x ∷ xs) k) same (record {
          got = look_here x xs;
          before = before_is k x.0 h;
          greatest = λ q less some more. elim (found_in q x xs some) [
            | inl at_ ↦ not_self q (subst (λ z. Keys z q) (sym at_) more)
            | inr on ↦ none_found (before k) xs q none (is_before k q less) on
          ];
        })
    by true h others (w ∷ u) at =
        let here : x ∷ filter (λ y. before k y.0) xs ≡ w ∷ (u ++ e ∷ []) =
        sym (filter_passes (before k) x xs h) ∙ at in
        let tail : filter (λ y. before k y.0) xs ≡ u ++ e ∷ [] = cc in
        let rest = others u tail in
        let less_e = (behind u tail).0 in record {
          got = look_on e.0 x xs (λ at_. not_self x.0 (subst (Keys x.0) at_ less_e)) ∙ rest.got;
          before = rest.before;
          greatest = λ q less some more. elim (found_in q x xs some) [
            | inl at_ ↦ not_self x.0 (trans x.0 e.0 x.0 less_e (subst (Keys e.0) at_ more))
            | inr on ↦ rest.greatest q less on more
          ];
        }
    by false h others u at =
        let tail : filter (λ y. before k y.0) xs ≡ u ++ e ∷ [] =
        sym (filter_drops (before k) x xs h) ∙ at in
        let last = behind u tail in
        let z : true ≡ false =
        sym (is_before k x.0 (trans x.0 e.0 k last.0 (before_is k e.0 last.1))) ∙ h in
        absurd (cc)
