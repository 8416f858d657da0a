-- The batches that events submit, and what the parts of their list are.
use Rattle.std.proofs.Common.{◌≡◌, inl, inr, ℕ, suc, ◌+◌, ◌<◌, List, [], ◌∷◌, Some}
use Rattle.std.proofs.Common.{All, AllPairs, Contains, refl, sym, ap, subst, ◌∙◌, arith}
use Rattle.kv_types.specs.OrderLemmas.{Among, All-among, AllPairs-rises, Rises}
use Rattle.kv_types.specs.OrderLemmas.{among_from_Contains}
use Rattle.kv_types.specs.{Part, place}
use Rattle.events.specs.declared.EventContent.{EventContent}
use Rattle.events.specs.declared.EventKind.{EventKind}
use Rattle.events.specs.declared.EventKind.TheVariants.{Submit}
use Rattle.lab.specs.History.{IsSubmitted, Placed}

-- ---- parts of a list

-- an element of a part is one of the list
part_among : {A : Type 0} (l m : List A) → Part l m → (x : A) → Among x l → Among x m
part_among [] m part x a = absurd a
part_among (y ∷ l) [] part x a = absurd part
part_among (y ∷ l) (z ∷ m) (inl first) x (inl e) = inl (sym first.0 ∙ e)
part_among (y ∷ l) (z ∷ m) (inl first) x (inr a) = inr (part_among l m first.1 x a)
part_among (y ∷ l) (z ∷ m) (inr later) x a = inr (part_among (y ∷ l) m later x a)

-- a part of an ordered list is in order
part_rises : {A : Type 0} (R : A → A → Type 0) (l m : List A) → Part l m → Rises R m → Rises R l
part_rises R [] m part rises = tt
part_rises R (y ∷ l) [] part rises = absurd part
part_rises R (y ∷ l) (z ∷ m) (inl first) rises = (
  λ x a. subst (λ q. R q x) (sym first.0) (rises.0 x (part_among l m first.1 x a)),
  part_rises R l m first.1 rises.1,
)
part_rises R (y ∷ l) (z ∷ m) (inr later) rises = part_rises R (y ∷ l) m later rises.1

-- a part is one of a longer list
pub part_behind : {A : Type 0} (x : A) (l m : List A) → Part l m → Part l (x ∷ m)
part_behind x [] m part = tt
part_behind x (y ∷ l) m part = inr part

-- a part of a part is a part
pub part_of_part : {A : Type 0} (k l m : List A) → Part k l → Part l m → Part k m
part_of_part [] l m part of = tt
part_of_part (x ∷ k) [] m part of = absurd part
part_of_part (x ∷ k) (y ∷ l) [] part of = absurd of
part_of_part (x ∷ k) (y ∷ l) (z ∷ m) part (inr later) =
    inr (part_of_part (x ∷ k) (y ∷ l) m part later)
part_of_part (x ∷ k) (y ∷ l) (z ∷ m) (inl first) (inl same) =
    inl (first.0 ∙ same.0, part_of_part k l m first.1 same.1)
part_of_part (x ∷ k) (y ∷ l) (z ∷ m) (inr part) (inl same) =
    inr (part_of_part (x ∷ k) l m part same.1)

-- ---- the batches that events submit

-- the batches that events submit, the first event being in place i
abbrev pub with_batch : ℕ → EventKind → List Placed → List Placed
with_batch i (Submit node batch) later = (i, batch) ∷ later
with_batch i kind later = later

-- the batches that these events submit, each with the place of its event
abbrev pub submitted_from : ℕ → List EventContent → List Placed
submitted_from i [] = []
submitted_from i (event ∷ events) = with_batch i event.kind (submitted_from (suc i) events)

-- the batch is that of one of these events, before the first of which there are i others
abbrev IsSubmittedFrom : ℕ → List EventContent → Placed → Type 0
IsSubmittedFrom i events placed =
    (k : ℕ) × (i + suc k ≡ placed.0) × (node : ℕ) × (event : EventContent)
    × (place events (suc k) ≡ Some event) × (event.kind ≡ Submit node placed.1)

-- each of these batches is that of an event
from_event : (i : ℕ) (events : List EventContent) (placed : Placed) →
    Among placed (submitted_from (suc i) events) → IsSubmittedFrom i events placed
from_event i [] placed a = absurd a
from_event i (event ∷ events) placed a =
    one event.kind refl (λ later. from_event (suc i) events placed later) a
  where
    behind : IsSubmittedFrom (suc i) events placed → IsSubmittedFrom i (event ∷ events) placed
    behind it =
        let at : suc i + suc it.0 ≡ placed.0 = it.1 in
        (suc it.0, omega (arith, at), it.2, it.3, it.4, it.5)

    one : (kind : EventKind) → event.kind ≡ kind →
        (Among placed (submitted_from (suc (suc i)) events) →
        IsSubmittedFrom (suc i) events placed) →
        Among placed (with_batch (suc i) kind (submitted_from (suc (suc i)) events)) →
        IsSubmittedFrom i (event ∷ events) placed
    one (Submit x batch) is later (inl e) =
        let at : suc i ≡ placed.0 = ap (λ (p : Placed). p.0) e in
        (0, omega (arith, at), x, event, refl, is ∙ ap (λ (p : Placed). Submit x p.1) e)
    one (Submit x batch) is later (inr a) = behind (later a)
    one kind is later a = behind (later a)

-- an earlier place
abbrev Precedes : Placed → Placed → Type 0
Precedes a b = a.0 < b.0

-- they stand in the order of their events
in_places : (i : ℕ) (events : List EventContent) → Rises Precedes (submitted_from (suc i) events)
in_places i [] = tt
in_places i (event ∷ events) = one event.kind (in_places (suc i) events)
  where
    one : (kind : EventKind) → Rises Precedes (submitted_from (suc (suc i)) events) →
        Rises Precedes (with_batch (suc i) kind (submitted_from (suc (suc i)) events))
    one (Submit x batch) later = (
      λ y a. let it = from_event (suc i) events y a in
          let at : suc i + suc it.0 ≡ y.0 = it.1 in omega (arith, at),
      later,
    )
    one kind later = later

-- ---- a part of them

-- a batch of a part was submitted by the event at its place
one_submitted : (B : List Placed) (events : List EventContent) → Part B (submitted_from 1 events) →
    (placed : Placed) → Among placed B → IsSubmitted events placed
one_submitted B events part placed a =
    let it = from_event 0 events placed (part_among B (submitted_from 1 events) part placed a) in
    let at : suc it.0 ≡ placed.0 = omega (arith, it.1) in
    (it.2, it.3, subst (λ (n : ℕ). place events n ≡ Some it.3) at it.4, it.5)

-- so was each
pub all_submitted : (B : List Placed) (events : List EventContent) →
    Part B (submitted_from 1 events) →
    All (IsSubmitted events) B
all_submitted B events part =
    All-among (IsSubmitted events) B (one_submitted B events part)

-- and one that the model has among them
pub was_submitted : (B : List Placed) (events : List EventContent) →
    Part B (submitted_from 1 events) → (placed : Placed) → Contains B placed →
    IsSubmitted events placed
was_submitted B events part placed is =
    one_submitted B events part placed (among_from_Contains B placed is)

-- and a part of them is in the order of their submits
pub all_ordered : (B : List Placed) (events : List EventContent) →
    Part B (submitted_from 1 events) →
    AllPairs (λ (a b : Placed). a.0 < b.0) B
all_ordered B events part = AllPairs-rises Precedes B
    (part_rises Precedes B (submitted_from 1 events) part (in_places 0 events))
