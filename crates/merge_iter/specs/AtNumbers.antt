-- What a cursor over the entries shown at a number keeps.
use Rattle.std.proofs.Common.{Bool, ◌≤◌, ◌+◌, ℕ, arith, refl}
use Rattle.merge_iter.specs.declared.direction.Direction.{Direction}
use Rattle.merge_iter.specs.declared.direction.Direction.TheVariants.{Forward, Backward}
use Rattle.merge_iter.specs.declared.mode.Mode.{Mode}
use Rattle.merge_iter.specs.declared.mode.Mode.TheVariants as mode
use Rattle.kv_types.specs.{Entry}
use Rattle.merge_iter.specs.Positions.{Position, IfOn}
use Rattle.merge_iter.specs.TableEntries.{IsTableEntry}
use Rattle.merge_iter.specs.Moves.{AreCursorLaws, IsLawful, law_at}
use Rattle.kv_types.specs.{IsShown}
use Rattle.merge_iter.specs.ShownEntries.{IfKept, IsSettled, left_in, view_position}
use Rattle.merge_iter.specs.AlikeViews.{all_shown_alike, settled_alike}

module _ {C : Type 0} (left : C → Direction → ℕ) (most : C → ℕ)
    (within : (c : C) (way : Direction) → left c way ≤ most c) where
  -- no more steps are left than from end to end
  shown_within : (c : C) (m : Mode) (way : Direction) → left_in (left c) (most c) m way ≤ most c + 2
  shown_within c mode.Inner Forward = let h = within c Forward in omega (arith, h)
  shown_within c mode.Inner Backward = omega arith
  shown_within c mode.Kept Forward = omega arith
  shown_within c mode.Kept Backward = let h = within c Backward in omega (arith, h)
  shown_within c mode.Off way = omega arith
  shown_within c mode.Broken way = omega arith

module _ {C S : Type 0} (holds : C → S → Entry → Type 0) (sound : C → S → Type 0) (suits : C → S →
    S → Type 0)
    (keeps : S → S → Type 0) (left : C → Direction → ℕ) (most : C → ℕ) (position : C → Position)
    (laws : IsLawful holds sound suits keeps left most) where
  -- the laws of a cursor hold of a view of one
  pub at_laws : {M : Type 0} (inner : M → C) (at : M → ℕ) (m : M → Mode) (kept : M → Entry)
      → IsLawful {C = M} (λ a s. IsShown (at a) (holds (inner a) s)) (λ a s. sound (inner a) s
      × IsSettled (at a) (holds (inner a) s) (m a) (position (inner a)) (kept a))
      (λ a s t. suits (inner a) s t) keeps
      (λ a. left_in (left (inner a)) (most (inner a)) (m a)) (λ a. most (inner a) + 2)
  at_laws inner at m kept = record {
    itself = laws.itself;
    through = laws.through;
    stays = λ a s t k h.
        let z = laws.stays (inner a) s t k h.0 in (
          (
            z.0,
            settled_alike (at a) (holds (inner a) s) (holds (inner a) t) z.1 (m a)
                (position (inner a)) (kept a) h.1,
          ),
          all_shown_alike (at a) (holds (inner a) s) (holds (inner a) t) z.1,
          z.2,
        );
    suited = λ a s t k h.
        let z = laws.suited (inner a) s t k h.0 in (
          (
            z.0,
            settled_alike (at a) (holds (inner a) s) (holds (inner a) t) z.1 (m a)
                (position (inner a)) (kept a) h.1,
          ),
          all_shown_alike (at a) (holds (inner a) s) (holds (inner a) t) z.1,
          z.2,
        );
    apart = λ a s h p q hp hq e. laws.apart (inner a) s h.0 p q hp.newest.seen.0 hq.newest.seen.0 e;
    within = λ a way. shown_within left most laws.within (inner a) (m a) way;
  }

module _ {C S K : Type 0} {as_is : S → K} {is_intact : K → S → Type 0}
    (holds : K → C → S → Entry → Type 0) (sound : K → C → S → Type 0) (suits : C → S → S → Type 0)
    (keeps : S → S → Type 0) (left : C → Direction → ℕ) (most : C → ℕ) (position : C → Position)
    {makes : Bool → S → S → Type 0}
    (laws : AreCursorLaws as_is is_intact holds sound suits keeps makes
    left most) where
  -- what a view keeps, whatever its inner cursor's source was meant to hold
  pub view_laws : {M : Type 0} (inner : M → C) (at : M → ℕ) (m : M → Mode) (kept : M → Entry)
      → AreCursorLaws {C = M} as_is is_intact (λ w a s. IsShown (at a) (holds w (inner a) s))
      (λ w a s. sound w (inner a) s × IsSettled (at a) (holds w (inner a) s) (m a)
      (position (inner a)) (kept a)) (λ a s t. suits (inner a) s t) keeps makes
      (λ a. left_in (left (inner a)) (most (inner a)) (m a)) (λ a. most (inner a) + 2)
  view_laws inner at m kept = record {
    itself = laws.itself;
    through = laws.through;
    makes_itself = laws.makes_itself;
    makes_through = laws.makes_through;
    lasts = laws.lasts;
    whole = laws.whole;
    stays = λ w. (at_laws (holds w) (sound w) suits keeps left most position (law_at laws w) inner
        at m kept).stays;
    suited = λ w. (at_laws (holds w) (sound w) suits keeps left most position (law_at laws w) inner
        at m kept).suited;
    apart = λ w. (at_laws (holds w) (sound w) suits keeps left most position (law_at laws w) inner
        at m kept).apart;
    within = λ a way. shown_within left most laws.within (inner a) (m a) way;
  }

-- ---- the entry of a view

-- the entry on which a view stands keeps its limits, if the inner cursor's and the kept one do
pub view_fits : (m : Mode) (inner : Position) (kept : Entry) → IfOn inner IsTableEntry
    → IfKept m (IsTableEntry kept) → IfOn (view_position m inner kept) IsTableEntry
view_fits mode.Inner inner kept here own = here
view_fits mode.Kept inner kept here own = own refl
view_fits mode.Off inner kept here own = tt
view_fits mode.Broken inner kept here own = tt
