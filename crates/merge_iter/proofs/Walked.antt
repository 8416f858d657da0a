-- What a search over one cursor keeps, and what it finds.
use Rattle.std.proofs.Common.{◌≡◌, ℕ, ◌≤◌, ◌<◌, IfOk, OnOk, refl, ◌∙◌, subst, arith, Bool, true}
use Rattle.std.proofs.Common.{false, Result, Ok, Err, IsTrue}
use Rattle.merge_iter.specs.declared.direction.Direction.{Direction}
use Rattle.merge_iter.specs.declared.direction.Direction.TheVariants.{Forward, Backward}
use Rattle.merge_iter.specs.declared.error.CursorError.{CursorError}
use Rattle.merge_iter.specs.declared.mode.Mode.{Mode}
use Rattle.merge_iter.specs.declared.mode.Mode.TheVariants as mode
use Rattle.byte_fields.specs.{StoredKey, stored_cmp}
use Rattle.kv_types.specs.{Entry}
use Rattle.merge_iter.specs.Order.{IsAlike, IsApart, EntryPrecedes, spot}
use Rattle.merge_iter.specs.Positions.{Position, On, Off, Broken, IsOn, IfOn, IsFirst}
use Rattle.merge_iter.specs.Positions.{WalkStart, At, After, WalkMeets}
use Rattle.merge_iter.specs.Moves.{Moved, MoveFinds, AreCursorLaws}
use Rattle.merge_iter.specs.Unions.{first_kept, stays_same, stays_through}
use Rattle.kv_types.specs.{IsShown}
use Rattle.merge_iter.specs.ShownEntries.{IsBefore, IsHidden, IsAhead, IsJudged, IsJudgedBack}
use Rattle.merge_iter.specs.ShownEntries.{IsOnTheWay, IsSettled}
use Rattle.std.specs.declared.cmp.Ordering.{Ordering}
use Rattle.std.specs.Ordering.{is_lt, ordering_then, nat_cmp}
use Rattle.merge_iter.specs.OrderLemmas.{by_parts}
use Rattle.merge_iter.proofs.BackwardSearches.{judged_back}
use Rattle.merge_iter.proofs.ForwardSearches.{judged_step, shown_here, shown_none}
use Rattle.merge_iter.proofs.SeekSearches.{seek_itself}
use Rattle.merge_iter.proofs.BackwardSearches.{settled_left, settled_end}

module _ {C S K : Type 0} (holds : K → C → S → Entry → Type 0) (sound : K → C → S → Type 0)
    (suits : C → S → S → Type 0) (keeps : S → S → Type 0) (left : C → Direction → ℕ) (most : C → ℕ)
    {as_is : S → K} {is_intact : K → S → Type 0}
    {makes : Bool → S → S → Type 0}
    (laws : AreCursorLaws as_is is_intact holds sound suits keeps makes left most) where
  pub all_itself : (c : C) (a : S) → Moved holds sound suits keeps most c a c a
  all_itself c a = record {
    source = laws.itself a;
    stays = λ m. stays_same (holds m) (sound m) suits c a;
    size = refl;
  }

  pub all_through : (c d e : C) (a b z : S) → Moved holds sound suits keeps most c a d b → Moved
      holds sound suits keeps most d b e z → Moved holds sound suits keeps most c a e z
  all_through c d e a b z m n = record {
    source = laws.through a b z m.source n.source;
    stays = λ k. stays_through (holds k) (sound k) suits c d e a b z (m.stays k) (n.stays k);
    size = n.size ∙ m.size;
  }

pub flip : (P Q : Entry → Type 0) → IsAlike P Q → IsAlike Q P
flip P Q same entry = ((same entry).1, (same entry).0)

-- N has the entries that S had when the search began
module _ (at : ℕ) (S N : Entry → Type 0) (same : IsAlike N S) where
  next_of : (way : Direction) (entry : Entry) (s : Position) (r : Result (Unit {0}) CursorError)
      → r ≡ Ok tt → MoveFinds way (After entry) N r s → IsFirst way
      (λ p. S p × EntryPrecedes way entry p) s
  next_of way entry s r ok f = first_kept way (After entry) s N S (flip N S same)
      (subst (λ (q : Result (Unit {0}) CursorError). MoveFinds way (After entry) N q s) ok f)

  pub forward_on : IsApart S → (start : WalkStart) (hides hides' : Bool)
      (hidden hidden' : StoredKey)
      (s s' : Position) (r : Result (Unit {0}) CursorError) → IsOn s
      → IfOn s (λ entry. IsJudged at hides hidden entry hides' hidden' false) → r ≡ Ok tt
      → IfOn s (λ entry. MoveFinds Forward (After entry) N r s')
      → IsAhead at S start (IsHidden hides hidden) s → IsAhead at S start (IsHidden hides' hidden')
      s'
  forward_on apart start hides hides' hidden hidden' (On entry) s' r on j ok f a =
      judged_step at S apart start hides hides' hidden hidden' entry s' a j
      (next_of Forward entry s' r ok f)
  forward_on apart start hides hides' hidden hidden' Off s' r on j ok f a = absurd on
  forward_on apart start hides hides' hidden hidden' Broken s' r on j ok f a = absurd on

  pub back_on : IsApart S → (start : WalkStart) (found found' : Bool) (w w' : Entry)
      (s s' : Position) (r : Result (Unit {0}) CursorError) → IsOn s
      → IfOn s (λ entry. IsJudgedBack at found w entry found' w' false) → r ≡ Ok tt
      → IfOn s (λ entry. MoveFinds Backward (After entry) N r s')
      → IsOnTheWay found at S start w s → IsOnTheWay found' at S start w' s'
  back_on apart start found found' w w' (On entry) s' r on j ok f c = judged_back at S apart start
      found found' w w' entry s' c j (next_of Backward entry s' r ok f)
  back_on apart start found found' w w' Off s' r on j ok f c = absurd on
  back_on apart start found found' w w' Broken s' r on j ok f c = absurd on

module _ (at : ℕ) (S : Entry → Type 0) where
  pub shown_on : (start : WalkStart) (hides hides' : Bool) (hidden hidden' : StoredKey)
      (s : Position)
      (kept : Entry) → IsOn s → IfOn s (λ entry. IsJudged at hides hidden entry hides' hidden' true)
      → IsAhead at S start (IsHidden hides hidden) s → IsFirst Forward
      (λ p. IsShown at S p × WalkMeets Forward start p) s × IsSettled at S mode.Inner s kept
  shown_on start hides hides' hidden hidden' (On entry) kept on j a = let h =
      shown_here at S start hides hides' hidden hidden' entry a j in (h.0, (entry, refl, h.1))
  shown_on start hides hides' hidden hidden' Off kept on j a = absurd on
  shown_on start hides hides' hidden hidden' Broken kept on j a = absurd on

  pub end_off : (start : WalkStart) (hid : StoredKey → Type 0) (s : Position) → (IsOn s → ⊥)
      → IsAhead at S start hid s → IsFirst Forward (λ p. IsShown at S p × WalkMeets Forward start p)
      Off
  end_off start hid (On entry) off a = absurd (off tt)
  end_off start hid Off off a = shown_none at S start hid a
  end_off start hid Broken off a = absurd a.before

  pub left_on : (start : WalkStart) (found found' : Bool) (w w' : Entry) (s : Position) → IsOn s
      → IfOn s (λ entry. IsJudgedBack at found w entry found' w' true) → IsOnTheWay found at S start
      w s
      → IsFirst Backward (λ p. IsShown at S p × WalkMeets Backward start p) (On w')
      × (IsShown at S w' × IsBefore Backward at S (After w') s)
  left_on start found found' w w' (On entry) on j c = settled_left at S start found found' w w'
      entry c j
  left_on start found found' w w' Off on j c = absurd on
  left_on start found found' w w' Broken on j c = absurd on

  pub back_end : (start : WalkStart) (found : Bool) (w : Entry) (s : Position) → (IsOn s → ⊥)
      → IsOnTheWay found at S start w s
      → (found ≡ true → IsFirst Backward (λ p. IsShown at S p × WalkMeets Backward start p) (On w)
      × (IsShown at S w × IsBefore Backward at S (After w) s))
      × (found ≡ false → IsFirst Backward (λ p. IsShown at S p × WalkMeets Backward start p)
      Off)
  back_end start found w (On entry) off c = absurd (off tt)
  back_end start true w Off off c =
      ((λ e. settled_end at S start w c), (λ e. let z : true ≡ false = e in cc))
  back_end start false w Off off c = ((λ e. let z : false ≡ true = e in cc), (λ e p h. c p h.0 h.1))
  back_end start true w Broken off c = absurd c.passed
  back_end start false w Broken off c = absurd c

-- on the entry again by its key and number
pub returned : (S : Entry → Type 0) → IsApart S → (w entry : Entry) (key : StoredKey) (s : Position)
    (r : Result (Unit {0}) CursorError) → key ≡ w.key → S w → On w ≡ On entry
    → MoveFinds Forward (At (spot key w.number)) S r s → OnOk r (s ≡ On entry)
returned S apart w entry key s (Ok u) is had on f =
    seek_itself 0 S apart w s had
    (subst (λ k. IsFirst Forward (λ p. S p × WalkMeets Forward (At (spot k w.number)) p) s) is
    f) ∙ on
returned S apart w entry key s (Err e) is had on f = tt

-- a number below a bound on all
pub below : (r : Result Mode CursorError) (f : Mode → ℕ) (a b : ℕ) → IfOk r (λ m. f m ≤ a) → a < b
    → IfOk r (λ m. f m < b)
below (Ok m) f a b h l = omega (arith, h, l)
below (Err e) f a b h l = tt

-- what a comparison with a spot says of the entry stood on
pub spot_early : (s : Position) (k key : StoredKey) (m number : ℕ) (r : Ordering) (t : Bool)
    → IfOn s (λ a. k ≡ a.key) → IfOn s (λ a. m ≡ a.number) → r ≡ ordering_then
    (stored_cmp k key) (nat_cmp number m) → t ≡ is_lt r
    → IsTrue t → IfOn s (λ a. EntryPrecedes Forward a (spot key number))
spot_early (On a) k key m number r t ka ma o is h =
    (by_parts k key m number a (spot key number) r t ka ma refl refl o is).0 h
spot_early Off k key m number r t ka ma o is h = tt
spot_early Broken k key m number r t ka ma o is h = tt

pub spot_late : (s : Position) (k key : StoredKey) (m number : ℕ) (r : Ordering) (t : Bool)
    → IfOn s (λ a. k ≡ a.key) → IfOn s (λ a. m ≡ a.number) → r ≡ ordering_then
    (stored_cmp k key) (nat_cmp number m) → t ≡ is_lt r
    → (IsTrue t → ⊥) → IfOn s (λ a. EntryPrecedes Forward a (spot key number) → ⊥)
spot_late (On a) k key m number r t ka ma o is else_ =
    λ c. else_ ((by_parts k key m number a (spot key number) r t ka ma refl refl o is).1 c)
spot_late Off k key m number r t ka ma o is else_ = tt
spot_late Broken k key m number r t ka ma o is else_ = tt

pub on_row : (s : Position) → IsOn s → (entry : Entry) × (s ≡ On entry)
on_row (On entry) h = (entry, refl)
on_row Off h = absurd h
on_row Broken h = absurd h
