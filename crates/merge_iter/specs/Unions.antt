-- What a union of cursors keeps, where its children and their source are moved.
use Rattle.std.proofs.Common.{Bool, ◌≡◌, ◌↔◌, ◌<◌, ◌≤◌, ℕ, inl, inr, sym, ◌∙◌, subst}
use Rattle.std.proofs.Common.{List, length, Option, Some, None, arith}
use Rattle.std.specs.List.{slice_get, sum_by}
use Rattle.std.proofs.lemmas.Option.{slice_get_within, slice_get_cases}
use Rattle.std.proofs.lemmas.List.Sums.{sum_by-le-sum_by}
use Rattle.merge_iter.specs.declared.direction.Direction.{Direction}
use Rattle.merge_iter.specs.declared.direction.Direction.TheVariants.{Forward, Backward}
use Rattle.merge_iter.specs.declared.place.Place.{Place}
use Rattle.merge_iter.specs.declared.place.Place.TheVariants as place
use Rattle.kv_types.specs.{Entry}
use Rattle.merge_iter.specs.Order.{IsAlike, IsApart}
use Rattle.merge_iter.specs.Positions.{Position, On, Off, Broken, IsFirst, WalkStart, At, WalkMeets}
use Rattle.merge_iter.specs.Positions.{IfOn}
use Rattle.merge_iter.specs.TableEntries.{IsTableEntry}
use Rattle.merge_iter.specs.Merging.{EachChild, ChildrenKeep, AreApart, UnionHolds, IsPlaced}
use Rattle.merge_iter.specs.Merging.{IsMerge, child_position, merged_left, merged_most}
use Rattle.merge_iter.specs.Merging.{union_position}
use Rattle.merge_iter.specs.Moves.{AreCursorLaws, EntriesStay, IsLawful, law_at}

-- the same entries have the same first one
pub same_first : (way : Direction) (P Q : Entry → Type 0) (s : Position) → ((p : Entry) → P p ↔ Q p)
    → IsFirst way P s → IsFirst way Q s
same_first way P Q (On q) same f = ((same q).0 f.0, λ other k c. f.1 other ((same other).1 k) c)
same_first way P Q Off same f = λ other k. f other ((same other).1 k)
same_first way P Q Broken same f = f

-- the first of a set is that of a set of the same entries
pub first_kept : (way : Direction) (start : WalkStart) (s : Position) (P Q : Entry → Type 0)
    → IsAlike Q P → IsFirst way (λ p. P p × WalkMeets way start p) s → IsFirst way
    (λ p. Q p × WalkMeets way start p) s
first_kept way start s P Q same = same_first way (λ p. P p × WalkMeets way start p)
    (λ p. Q p × WalkMeets way start p) s
    (λ p. ((λ h. ((same p).1 h.0, h.1)), (λ h. ((same p).0 h.0, h.1))))

-- a list of the same length has an element there too
pub there : {C : Type 0} (xs ys : List C) (i : ℕ) (d : C) → length ys ≡ length xs → slice_get ys i ≡
    Some d → (c : C) × (slice_get xs i ≡ Some c)
there xs ys i d len e = elim (slice_get_cases xs i).1 [
  | inl (x, w, is, at) ↦ (x, is)
  | inr (past, is) ↦ absurd (let w : i < length ys = slice_get_within ys i d e in omega arith)
]

-- one place of a list has one element
pub one : {C : Type 0} (xs : List C) (i : ℕ) (c d : C) → slice_get xs i ≡ Some c → slice_get xs i ≡
    Some d → d ≡ c
one xs i c d p q = let h : Some d ≡ Some c = sym q ∙ p in cc

module _ {C : Type 0} (left : C → Direction → ℕ) (most : C → ℕ)
    (within : (c : C) (way : Direction) → left c way ≤ most c) where
  -- no children have more steps left than from end to end
  pub left_all : (way : Direction) (xs : List C) → sum_by (λ c. left c way) xs ≤ sum_by most xs
  left_all way xs = sum_by-le-sum_by (λ c. left c way) most xs (λ c. within c way)

  -- nor has their union
  merged_within : (xs : List C) (at : Place) (way : Direction) → merged_left left most xs at way ≤
      merged_most most xs
  merged_within xs (place.On Forward k second) Forward =
      let h = left_all Forward xs in omega (arith, h)
  merged_within xs (place.On Forward k second) Backward = omega arith
  merged_within xs (place.On Backward k second) Forward = omega arith
  merged_within xs (place.On Backward k second) Backward =
      let h = left_all Backward xs in omega (arith, h)
  merged_within xs place.Off way = omega arith
  merged_within xs place.Broken way = omega arith

module _ {C S : Type 0} (holds : C → S → Entry → Type 0) (sound : C → S → Type 0)
    (suits : C → S → S → Type 0) where
  -- entries stay where nothing changes
  pub stays_same : (c : C) (s : S) → EntriesStay holds sound suits c s c s
  stays_same c s h = (h, λ entry. ((λ x. x), (λ x. x)), λ a b z. z)

  -- entries that stay twice stay
  pub stays_through : (a b d : C) (s t u : S) → EntriesStay holds sound suits a s b t → EntriesStay
      holds
      sound suits b t d u → EntriesStay holds sound suits a s d u
  stays_through a b d s t u f g h =
      let k = f h in
      let m = g k.0 in (
        m.0,
        λ entry. (
          (λ x. (k.1 entry).0 ((m.1 entry).0 x)),
          (λ x. (m.1 entry).1 ((k.1 entry).1 x)),
        ),
        λ v w z. m.2 v w (k.2 v w z),
      )

module _ {C S : Type 0} (holds : C → S → Entry → Type 0) (sound : C → S → Type 0) (suits : C → S →
    S → Type 0)
    (keeps : S → S → Type 0) (most : C → ℕ) where
  -- all are sound where they were before
  pub all_sound : (old new : List C) (before now : S) → ChildrenKeep holds sound suits keeps most
      old
      before new now → EachChild (λ c. sound c before) old → EachChild (λ c. sound c now) new
  all_sound old new before now m each j c e =
      let o = there old new j c m.len e in
      (m.each j o.0 c o.1 e (each j o.0 o.1)).0

  -- together they hold the same entries
  pub any_alike : (old new : List C) (before now : S) → ChildrenKeep holds sound suits keeps most
      old
      before new now → EachChild (λ c. sound c before) old
      → IsAlike (UnionHolds (λ c. holds c now) new) (UnionHolds (λ c. holds c before) old)
  any_alike old new before now m each entry = (
    (λ h. let o = there old new h.0 h.1 m.len h.2 in
        (h.0, o.0, o.1, ((m.each h.0 o.0 h.1 o.1 h.2 (each h.0 o.0 o.1)).1 entry).0 h.3)),
    (λ h. let o = there new old h.0 h.1 (sym m.len) h.2 in
        (h.0, o.0, o.1, ((m.each h.0 h.1 o.0 h.2 o.1 (each h.0 h.1 h.2)).1 entry).1 h.3)),
  )

  -- what served all children does so
  pub all_suited : (old new : List C) (before now : S) → ChildrenKeep holds sound suits keeps most
      old
      before new now → EachChild (λ c. sound c before) old → (v w : S)
      → EachChild (λ c. suits c v w) old → EachChild (λ c. suits c v w) new
  all_suited old new before now m each v w all j c e =
      let o = there old new j c m.len e in
      (m.each j o.0 c o.1 e (each j o.0 o.1)).2 v w (all j o.0 o.1)

  -- children that keep their entries stay apart
  pub children_apart : (old new : List C) (before now : S)
      → ChildrenKeep holds sound suits keeps most
      old
      before new now → EachChild (λ c. sound c before) old → AreApart (λ c. holds c before) old
      → AreApart (λ c. holds c now) new
  children_apart old new before now m each apart i j c d a b p q ha hb e =
      let o = there old new i c m.len p in
      let r = there old new j d m.len q in
      apart i j o.0 r.0 a b o.1 r.1 (((m.each i o.0 c o.1 p (each i o.0 o.1)).1 a).0 ha)
      (((m.each j r.0 d r.1 q (each j r.0 r.1)).1 b).0 hb) e

  module _ (left : C → Direction → ℕ) (position : C → Position) (laws : IsLawful holds sound suits
      keeps
      left most) where
    -- each child stays as it is from one source to the other
    abbrev AllStay : List C → S → S → Type 0
    AllStay xs a b = EachChild (λ c. EntriesStay holds sound suits c a c b) xs

    -- the union stays where it stands from one source to the other
    placed_on : (xs : List C) (a b : S) → AllStay xs a b → EachChild (λ c. sound c a) xs
        → (at : Place) → IsPlaced (λ c. holds c a) position xs at
        → IsPlaced (λ c. holds c b) position xs at
    placed_on xs a b k each (place.On way n second) p = (
      p.0,
      p.1,
      p.2,
      p.3,
      λ i c e. first_kept way (At p.1) (position c) (holds c a) (holds c b)
          (k i c e (each i c e)).1 (p.4 i c e),
      p.5,
    )
    placed_on xs a b k each place.Off p = tt
    placed_on xs a b k each place.Broken p = tt

    -- the union has the same entries over both sources
    alike_on : (xs : List C) (a b : S) → AllStay xs a b → EachChild (λ c. sound c a) xs
        → IsAlike (UnionHolds (λ c. holds c b) xs) (UnionHolds (λ c. holds c a) xs)
    alike_on xs a b k each entry = (
      (λ h. (h.0, h.1, h.2, ((k h.0 h.1 h.2 (each h.0 h.1 h.2)).1 entry).0 h.3)),
      (λ h. (h.0, h.1, h.2, ((k h.0 h.1 h.2 (each h.0 h.1 h.2)).1 entry).1 h.3)),
    )

    -- the union stays sound from one source to the other
    merged_on : (xs : List C) (at : Place) (a b : S) → AllStay xs a b → IsMerge (λ c. holds c a)
        position (λ c. sound c a) xs at
        → IsMerge (λ c. holds c b) position (λ c. sound c b) xs at
        × IsAlike (UnionHolds (λ c. holds c b) xs) (UnionHolds (λ c. holds c a) xs)
        × ((v w : S) → EachChild (λ c. suits c v w) xs → EachChild (λ c. suits c v w) xs)
    merged_on xs at a b k m = (
      record {
        each = λ i c e. (k i c e (m.each i c e)).0;
        apart = λ i j c d x y p q hx hy e. m.apart i j c d x y p q
            (((k i c p (m.each i c p)).1 x).0 hx) (((k j d q (m.each j d q)).1 y).0 hy) e;
        placed = placed_on xs a b k m.each at m.placed;
      },
      alike_on xs a b k m.each,
      λ v w all. all,
    )

    merged_stays : (xs : List C) (at : Place) (a b : S) → keeps a b → IsMerge (λ c. holds c a)
        position (λ c. sound c a) xs at
        → IsMerge (λ c. holds c b) position (λ c. sound c b) xs at
        × IsAlike (UnionHolds (λ c. holds c b) xs) (UnionHolds (λ c. holds c a) xs)
        × ((v w : S) → EachChild (λ c. suits c v w) xs → EachChild (λ c. suits c v w) xs)
    merged_stays xs at a b k = merged_on xs at a b (λ i c e. laws.stays c a b k)

    merged_apart : (xs : List C) (at : Place) (a : S) → IsMerge (λ c. holds c a) position
        (λ c. sound c a) xs at → IsApart (UnionHolds (λ c. holds c a) xs)
    merged_apart xs at a m p q hp hq e =
        let i : hp.0 ≡ hq.0 = m.apart hp.0 hq.0 hp.1 hq.1 p q hp.2 hq.2 hp.3 hq.3 e in
        let c : hp.1 ≡ hq.1 = one xs hq.0 hq.1 hp.1 hq.2 (subst (λ n. slice_get xs n ≡ Some hp.1) i
        hp.2) in
        laws.apart hq.1 a (m.each hq.0 hq.1 hq.2) p q (subst (λ d. holds d a p) c hp.3) hq.3 e

    -- the laws of a cursor hold of a union
    pub merged_laws : {M : Type 0} (children : M → List C) (at : M → Place)
        → IsLawful {C = M} (λ m s. UnionHolds (λ c. holds c s) (children m))
        (λ m s. IsMerge (λ c. holds c s) position (λ c. sound c s) (children m) (at m))
        (λ m a b. EachChild (λ c. suits c a b) (children m)) keeps
        (λ m. merged_left left most (children m) (at m)) (λ m. merged_most most (children m))
    merged_laws children at = record {
      itself = laws.itself;
      through = laws.through;
      stays = λ m a b k s. merged_stays (children m) (at m) a b k s;
      suited = λ m a b all s. merged_on (children m) (at m) a b
          (λ i c e. laws.suited c a b (all i c e)) s;
      apart = λ m a s. merged_apart (children m) (at m) a s;
      within = λ m way. merged_within left most laws.within (children m) (at m) way;
    }

module _ {C S K : Type 0} {as_is : S → K} {is_intact : K → S → Type 0}
    (holds : K → C → S → Entry → Type 0) (sound : K → C → S → Type 0) (suits : C → S → S → Type 0)
    (keeps : S → S → Type 0) (most : C → ℕ) (left : C → Direction → ℕ) (position : C → Position)
    {makes : Bool → S → S → Type 0}
    (laws : AreCursorLaws as_is is_intact holds sound suits keeps makes
    left most) where
  -- what a union keeps, whatever its children's source was meant to hold
  pub union_laws : {M : Type 0} (children : M → List C) (at : M → Place)
      → AreCursorLaws {C = M} as_is is_intact (λ w m s. UnionHolds (λ c. holds w c s) (children m))
      (λ w m s. IsMerge (λ c. holds w c s) position (λ c. sound w c s) (children m) (at m))
      (λ m a b. EachChild (λ c. suits c a b) (children m)) keeps makes
      (λ m. merged_left left most (children m) (at m)) (λ m. merged_most most (children m))
  union_laws children at = record {
    itself = laws.itself;
    through = laws.through;
    makes_itself = laws.makes_itself;
    makes_through = laws.makes_through;
    lasts = laws.lasts;
    whole = laws.whole;
    stays = λ w. (merged_laws (holds w) (sound w) suits keeps most left position (law_at laws w)
        children at).stays;
    suited = λ w. (merged_laws (holds w) (sound w) suits keeps most left position (law_at laws w)
        children at).suited;
    apart = λ w. (merged_laws (holds w) (sound w) suits keeps most left position (law_at laws w)
        children at).apart;
    within = λ m way. merged_within left most laws.within (children m) (at m) way;
  }

-- ---- the entry of a union

module _ {C : Type 0} (position : C → Position)
    (fits : (c : C) → IfOn (position c) IsTableEntry) where
  -- the entry of a child keeps its limits
  child_fits : (c : Option C) → IfOn (child_position position c) IsTableEntry
  child_fits None = tt
  child_fits (Some c) = fits c

  -- so does the one on which the union stands
  pub union_fits : (children : List C) (at : Place)
      → IfOn (union_position position children at) IsTableEntry
  union_fits children (place.On way k second) = child_fits (slice_get children k)
  union_fits children place.Off = tt
  union_fits children place.Broken = tt
