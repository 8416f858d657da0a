-- The batches that a run submits, the request of each, and those that were not refused.
use Rattle.std.proofs.Common.{◌≡◌, ◌⊎◌, inl, inr, ℕ, List, [], ◌∷◌, ◌++◌, Bool, true, false, cond}
use Rattle.std.proofs.Common.{nat_le, refl, sym, ◌∙◌, ap, subst, append_assoc, zero, suc, Some}
use Rattle.std.specs.List.{AllByRecursion}
use Rattle.std.proofs.lemmas.Bool.{cond_both}
use Rattle.kv_types.specs.{Marked, Part, place}
use Rattle.kv_types.specs.ListsLemmas.{part_more}
use Rattle.kv_types.specs.OrderLemmas.{Among}
use Rattle.kv_types.specs.declared.mark.Mark.{Mark}
use Rattle.chain_model.specs.Requests.{Close, Committed, Open, Read, Refused, Response, Submit}
use Rattle.chain_model.specs.Machine.{MachineState, due, replied, silent}
use Rattle.chain_model.specs.Rules.{queued, repeat}
use Rattle.chain_model.specs.System.{Ask, Deliver, Lost, Notice, Start, Stop, SystemEvent}
use Rattle.chain_model.specs.System.{SystemState, Tend, Tick, outcome, run, state_after}

-- the batches that an event submits, and those of a list of events, in order
abbrev pub handed_by : {A : Type 0} → SystemEvent A → List (Marked A)
handed_by (Ask x i (Submit b) went) = b ∷ []
handed_by _ = []

-- the batches that events submit, in order
abbrev pub handed : {A : Type 0} → List (SystemEvent A) → List (Marked A)
handed [] = []
handed (e ∷ es) = handed_by e ++ handed es

-- in this event request i submits b
abbrev pub IsHandIn : {A : Type 0} → ℕ → Marked A → SystemEvent A → Type 0
IsHandIn i b (Ask x j (Submit c) went) = (j ≡ i) × (c ≡ b)
IsHandIn i b _ = ⊥

-- in one of these events request i submits b
abbrev pub WasHandedIn : {A : Type 0} → List (SystemEvent A) → ℕ → Marked A → Type 0
WasHandedIn [] i b = ⊥
WasHandedIn (e ∷ es) i b = IsHandIn i b e ⊎ WasHandedIn es i b

-- request i submits a batch with the mark of batch a, and a was submitted before
pub record WasSubmittedAgain {A : Type 0} (events : List (SystemEvent A)) (i : ℕ) (a : Marked A)
    : Type 0 where
  pub before : List (SystemEvent A)
  pub later : List (SystemEvent A)
  pub whole : before ++ later ≡ events
  pub earlier : Among a (handed before)
  pub mark : Mark
  pub bears : a.mark ≡ Some mark
  pub batch : Marked A
  pub submits : WasHandedIn later i batch
  pub same : batch.mark ≡ Some mark

-- the batch may be acknowledged to request i, which submitted it, then or again
abbrev pub MayAnswer : {A : Type 0} → List (SystemEvent A) → ℕ → Marked A → Type 0
MayAnswer events i a = WasHandedIn events i a ⊎ WasSubmittedAgain events i a

-- the batches of l are answers to request i that submits b, where they have the mark of b
abbrev pub AreAnswers : {A : Type 0} → List (SystemEvent A) → List (Marked A) → ℕ → Marked A
    → Type 0
AreAnswers events l i b = (a : Marked _) (m : Mark) → Among a l → a.mark ≡ Some m
    → b.mark ≡ Some m → WasSubmittedAgain events i a

-- what events submit was submitted in a longer run
pub was_behind : {A : Type 0} (before later : List (SystemEvent A)) (i : ℕ) (b : Marked A)
    → WasHandedIn later i b → WasHandedIn (before ++ later) i b
was_behind [] later i b was = was
was_behind (e ∷ before) later i b was = inr (was_behind before later i b was)

-- ---- elements

-- an element of a sublist is one of the list
pub among_part : {X : Type 0} (x : X) (l m : List X) → Part l m → Among x l → Among x m
among_part x [] m part is = absurd is
among_part x (y ∷ l) [] part is = absurd part
among_part x (y ∷ l) (z ∷ m) (inl part) (inl is) = inl (sym part.0 ∙ is)
among_part x (y ∷ l) (z ∷ m) (inl part) (inr is) = inr (among_part x l m part.1 is)
among_part x (y ∷ l) (z ∷ m) (inr part) is = inr (among_part x (y ∷ l) m part is)

-- an element at a place is one of the list
pub among_place : {X : Type 0} (x : X) (l : List X) (n : ℕ) → place l n ≡ Some x → Among x l
among_place x [] n e = absurd (cc)
among_place x (y ∷ l) zero e = absurd (cc)
among_place x (y ∷ l) (suc zero) e = let same : y ≡ x = cc e in inl same
among_place x (y ∷ l) (suc (suc n)) e = inr (among_place x l (suc n) e)

-- an element of either of two lists is one of both in a row
pub among_front : {X : Type 0} (x : X) (l m : List X) → Among x l → Among x (l ++ m)
among_front x [] m is = absurd is
among_front x (y ∷ l) m (inl is) = inl is
among_front x (y ∷ l) m (inr is) = inr (among_front x l m is)

pub among_back : {X : Type 0} (x : X) (l m : List X) → Among x m → Among x (l ++ m)
among_back x [] m is = is
among_back x (y ∷ l) m is = inr (among_back x l m is)

-- what holds of each element holds of one
pub every_among : {X : Type 0} (P : X → Type 0) (x : X) (l : List X) → AllByRecursion P l
    → Among x l → P x
every_among P x [] each is = absurd is
every_among P x (y ∷ l) each (inl is) = subst P is each.0
every_among P x (y ∷ l) each (inr is) = every_among P x l each.1 is

-- the batch of a request is among those that its event submits
handed_by_among : {A : Type 0} (e : SystemEvent A) (i : ℕ) (b : Marked A) → IsHandIn i b e
    → Among b (handed_by e)
handed_by_among (Ask x j (Submit c) went) i b is = inl is.1
handed_by_among (Ask x j (Read at) went) i b is = absurd is
handed_by_among (Ask x j (Open at) went) i b is = absurd is
handed_by_among (Ask x j (Close s) went) i b is = absurd is
handed_by_among (Tick x went) i b is = absurd is
handed_by_among (Tend x rises gives_up went) i b is = absurd is
handed_by_among (Notice x e went) i b is = absurd is
handed_by_among (Deliver p went) i b is = absurd is
handed_by_among (Start x went) i b is = absurd is
handed_by_among (Stop x) i b is = absurd is
handed_by_among Lost i b is = absurd is

-- .. and so among those that all events submit
pub handed_among : {A : Type 0} (es : List (SystemEvent A)) (i : ℕ) (b : Marked A)
    → WasHandedIn es i b → Among b (handed es)
handed_among [] i b was = absurd was
handed_among (e ∷ es) i b (inl is) =
    among_front b (handed_by e) (handed es) (handed_by_among e i b is)
handed_among (e ∷ es) i b (inr was) =
    among_back b (handed_by e) (handed es) (handed_among es i b was)

-- ---- what was not refused

-- whether one of these replies is a refusal
abbrev pub has_refusal : {A : Type 0} → List (Response A) → Bool
has_refusal [] = false
has_refusal (Refused i why ∷ replies) = true
has_refusal (reply ∷ replies) = has_refusal replies

-- a request that submits a batch again is not refused
pub repeat_refuses_none : {A : Type 0} (n : MachineState A) (i k : ℕ)
    → has_refusal (repeat n i k).replies ≡ false
repeat_refuses_none n i k =
    cond_both (nat_le k n.committed) (replied n (Committed i k))
    (silent (record n { pending = queued (k, i) n.pending }))
    (λ a. has_refusal a.replies ≡ false) (λ _. refl) (λ _. refl)

-- replies to pending requests refuse none
pub due_refuses_none : (A : Type 0) (k : ℕ) (ps : List (ℕ × ℕ))
    → has_refusal {A = A} (due k ps) ≡ false
due_refuses_none A k [] = refl
due_refuses_none A k (p ∷ ps) =
    cond_both (nat_le p.0 k) (Committed p.1 p.0 ∷ due k ps) (due k ps)
    (λ (rs : List (Response A)). has_refusal rs ≡ false) (λ _. due_refuses_none A k ps)
    (λ _. due_refuses_none A k ps)

module _ {A : Type 0} (cs : List (List ℕ)) where
  -- the batch that an event submits in this world, if it is not refused
  abbrev pub accepted_by : SystemState A → SystemEvent A → List (Marked A)
  accepted_by w e = cond (has_refusal (outcome w cs e).replies) [] (handed_by e)

  -- those of events from a world on, in order
  abbrev pub accepted : List (SystemEvent A) → SystemState A → List (Marked A)
  accepted [] w = []
  accepted (e ∷ es) w = accepted_by w e ++ accepted es (state_after cs w e)

  -- events one after the other
  pub accepted_append : (es fs : List (SystemEvent A)) (w : SystemState A)
      → accepted (es ++ fs) w ≡ accepted es w ++ accepted fs (run cs es w)
  accepted_append [] fs w = refl
  accepted_append (e ∷ es) fs w =
      let next = state_after cs w e in
      ap (λ l. accepted_by w e ++ l) (accepted_append es fs next)
      ∙ sym (append_assoc (accepted_by w e) (accepted es next) (accepted fs (run cs es next)))

  -- a part stays one behind other batches
  part_after : (h l m : List (Marked A)) → Part l m → Part l (h ++ m)
  part_after [] l m p = p
  part_after (y ∷ h) l m p = part_more l (h ++ m) y (part_after h l m p)

  -- and with the same batches in front of both
  part_front : (h l m : List (Marked A)) → Part l m → Part (h ++ l) (h ++ m)
  part_front [] l m p = p
  part_front (y ∷ h) l m p = inl (refl, part_front h l m p)

  -- they were submitted, in the same order
  pub accepted_part : (es : List (SystemEvent A)) (w : SystemState A)
      → Part (accepted es w) (handed es)
  accepted_part [] w = tt
  accepted_part (e ∷ es) w =
      let next = state_after cs w e in
      let later = accepted_part es next in
      cond_both (has_refusal (outcome w cs e).replies) [] (handed_by e)
      (λ l. Part (l ++ accepted es next) (handed_by e ++ handed es))
      (λ _. part_after (handed_by e) (accepted es next) (handed es) later)
      (λ _. part_front (handed_by e) (accepted es next) (handed es) later)
