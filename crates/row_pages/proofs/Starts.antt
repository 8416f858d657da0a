-- The entry at which a walk over a range begins.
use Rattle.std.proofs.Common.{◌≡◌, ◌⊎◌, ◌↔◌, ℕ, List, inl, inr, sym, subst, Option, Some}
use Rattle.std.proofs.Common.{Bool, true, false, IfSome, OnOk, Ok, Err, Result}
use Rattle.byte_fields.specs.Order.{IsBelow}
use Rattle.byte_fields.specs.ByteOrderLemmas.{below_is_strict}
use Rattle.kv_types.specs.declared.bounds.TheConstants.{MAX_NUMBER}
use Rattle.kv_types.specs.{Entry, Span}
use Rattle.merge_iter.specs.declared.CursorError.{CursorError}
use Rattle.merge_iter.specs.declared.Direction.TheVariants.{Forward, Backward}
use Rattle.merge_iter.specs.Unions.{same_first}
use Rattle.merge_iter.specs.{After, At, AtEnd, Broken, EntryPrecedes, IfOn, IsAlike, IsFirst, IsOn}
use Rattle.merge_iter.specs.{MoveFinds, Off, On, Position, spot}
use Rattle.row_pages.specs.Walking.{AreNumbered, HasBegun, way_of}
use Rattle.row_pages.proofs.Orders.{entry_before, from_spot}

-- the keys from this one on
abbrev pub IsFrom : List ℕ → List ℕ → Type 0
IsFrom key other = (key ≡ other) ⊎ IsBelow key other

module _ (entries : Entry → Type 0) (numbered : AreNumbered entries) (key : List ℕ) where
  -- the entry that a search for a key finds is the first from that key on
  pub sought : {R : Type 0} (result : Result R CursorError) (at : Position)
      → MoveFinds Forward (At (spot key MAX_NUMBER)) entries result at
      → OnOk result (IsFirst Forward (λ e. entries e × IsFrom key e.key) at)
  sought (Ok x) at finds = same_first Forward
      (λ e. entries e × (EntryPrecedes Forward e (spot key MAX_NUMBER) → ⊥))
      (λ e. entries e × IsFrom key e.key) at
      (λ e. (
        (λ h. (h.0, (from_spot key e (numbered e h.0)).0 h.1)),
        (λ h. (h.0, (from_spot key e (numbered e h.0)).1 h.1)),
      )) finds
  sought (Err e) at finds = tt

  apart : (other : List ℕ) → IsFrom key other → IsBelow other key → ⊥
  apart other (inl same) lower = below_is_strict.never key (subst (λ k. IsBelow k key) (sym same)
      lower)
  apart other (inr higher) lower =
      below_is_strict.never key (below_is_strict.through key other key higher lower)

  from_or_below : (other : List ℕ) → IsFrom key other ⊎ IsBelow other key
  from_or_below other = elim (below_is_strict.total key other) [
    | inl h ↦ inl (inr h)
    | inr more ↦ elim more [ inl same ↦ inl (inl same) | inr h ↦ inr h ]
  ]

  lower_than : (low other : List ℕ) → IsBelow low key → IsFrom key other → IsBelow low other
  lower_than low other lower (inl same) = subst (IsBelow low) same lower
  lower_than low other lower (inr higher) = below_is_strict.through low key other lower higher

  -- the entries before that one are those below the key
  before_first : (first : Entry) → IsFirst Forward (λ e. entries e × IsFrom key e.key) (On first)
      → (e : Entry) → (entries e × EntryPrecedes Backward first e)
      ↔ (entries e × IsBelow e.key key)
  before_first first is e = (
    (λ h. (
      h.0,
      elim (from_or_below e.key) [
        | inl from ↦ absurd (is.1 e (h.0, from) h.1)
        | inr lower ↦ lower
      ],
    )),
    (λ h. (h.0, entry_before Backward first e (lower_than e.key first.key h.1 is.0.1))),
  )

  module _ (now : Entry → Type 0) (alike : IsAlike now entries) where
    -- a step back from it finds the last entry below the key
    pub stepped_back : {R : Type 0} (result : Result R CursorError) (was at : Position) → IsOn was
        → IsFirst Forward (λ e. entries e × IsFrom key e.key) was
        → IfOn was (λ first. MoveFinds Backward (After first) now result at)
        → OnOk result (IsFirst Backward (λ e. entries e × IsBelow e.key key) at)
    stepped_back (Err e) was at on first finds = tt
    stepped_back (Ok x) (On found) at on first finds = same_first Backward
        (λ e. now e × EntryPrecedes Backward found e) (λ e. entries e × IsBelow e.key key) at
        (λ e. (
          (λ h. (before_first found first e).0 ((alike e).0 h.0, h.1)),
          (λ h. let g = (before_first found first e).1 h in ((alike e).1 g.0, g.1)),
        )) finds
    stepped_back (Ok x) Off at on first finds = absurd on
    stepped_back (Ok x) Broken at on first finds = absurd on

    -- where there is none from the key on, the last entry is below the key
    pub last_below : {R : Type 0} (result : Result R CursorError) (was at : Position)
        → (IsOn was → ⊥) → IsFirst Forward (λ e. entries e × IsFrom key e.key) was
        → MoveFinds Backward AtEnd now result at
        → OnOk result (IsFirst Backward (λ e. entries e × IsBelow e.key key) at)
    last_below (Err e) was at off first finds = tt
    last_below (Ok x) (On found) at off first finds = absurd (off tt)
    last_below (Ok x) Broken at off first finds = absurd first
    last_below (Ok x) Off at off first finds = same_first Backward (λ e. now e × Unit {0})
        (λ e. entries e × IsBelow e.key key) at
        (λ e. (
          (λ h. let has = (alike e).0 h.0 in (
            has,
            elim (from_or_below e.key) [
              | inl from ↦ absurd (first e (has, from))
              | inr lower ↦ lower
            ],
          )),
          (λ h. ((alike e).1 h.0, tt)),
        )) finds

-- what is so after Ok is so of an answer
pub on_ok : {R E P : Type 0} (result : Result R E) (x : R) → result ≡ Ok x → OnOk result P → P
on_ok (Ok y) x is p = p
on_ok (Err e) x is p = absurd cc

-- the move found the entry at which a walk over the range begins
abbrev pub WalkBeginsAt : {R : Type 0} → (Entry → Type 0) → Span → Bool → Result R CursorError
    → Position → Type 0
WalkBeginsAt entries range backward result at =
    OnOk result (IsFirst (way_of backward)
    (λ e. entries e × HasBegun (way_of backward) range e.key) at)

module _ {R : Type 0} (entries : Entry → Type 0) (range : Span) (result : Result R CursorError)
    (at : Position) where
  -- a walk forward begins at the first key of the range
  pub begins_forward : (backward : Bool) (key : List ℕ) → backward ≡ false → key ≡ range.from
      → OnOk result (IsFirst Forward (λ e. entries e × IsFrom key e.key) at)
      → WalkBeginsAt entries range backward result at
  begins_forward backward key forward same h =
      subst (λ b. WalkBeginsAt entries range b result at) (sym forward)
      (subst (λ (k : List ℕ). OnOk result (IsFirst Forward (λ e. entries e × IsFrom k e.key) at))
      same h)

  -- a walk back begins below its bound
  pub begins_below : (backward : Bool) (key : List ℕ) → backward ≡ true → range.to ≡ Some key
      → OnOk result (IsFirst Backward (λ e. entries e × IsBelow e.key key) at)
      → WalkBeginsAt entries range backward result at
  begins_below backward key back bound h =
      subst (λ b. WalkBeginsAt entries range b result at) (sym back)
      (subst (λ (to : Option (List ℕ)). OnOk result (IsFirst Backward
      (λ e. entries e × IfSome to (λ t. IsBelow e.key t)) at)) (sym bound) h)
