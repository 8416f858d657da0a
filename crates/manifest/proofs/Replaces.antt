-- What a crash leaves of a file that is written anew behind its gate.
use Rattle.std.proofs.Common.{◌≡◌, ◌≢◌, ℕ, ◌+◌, ◌<◌, ◌≤◌, List, [], ◌∷◌, ◌++◌, length, take, drop}
use Rattle.std.proofs.Common.{Option, Some, None, Result, Ok, Err, refl, sym, ap, subst, ◌∙◌, inl}
use Rattle.std.proofs.Common.{inr}
use Rattle.std.proofs.Common.{append-nil, arith}
use Rattle.std.specs.Prelude.{IsSomeAnd, slice_get}
use Rattle.std.proofs.lemmas.Bool.{cases_eq}
use Rattle.std.proofs.lemmas.List.{take-append-drop, take_all, drop_all, length-take}
use Rattle.disk.specs.declared.PendingWrite.TheVariants.{Wrote, Cut}
use Rattle.disk.specs.declared.DiskError.{DiskError}
use Rattle.disk.specs.{Slot, Kept, State, IsUnsynced, IsSameBut, LeavesSince, Passes, SyncOutcome}
use Rattle.disk.specs.{IsFileOutcome, IsLeftAt, WriteOutcome, seen, written}
use Rattle.disk.specs.States.{AgreesOutside, cut_to}
use Rattle.disk.specs.BesideLemmas.{at_start, at_join, at_more, at_sync, at_weaker}
use Rattle.std.proofs.Common.{Bool, true, false}
use Rattle.disk.specs.Calls.{CanBegin, CutOutcome}
use Rattle.disk.specs.PlacesLemmas.{window_same}
use Rattle.disk.specs.StepsLemmas.{Only, sure_only, fails_only, writes_only}
use Rattle.record_log.specs.{IsClosed, IsDurableAs, IsGatedWrite, IsPartlyOpened}
use Rattle.manifest.specs.Replace.{HasGate, IsReplaced, IsClosedFile}

-- what a crash may leave on the way
abbrev pub OnTheWay : List ℕ → List ℕ → Option (List ℕ) → Type 0
OnTheWay was behind left = IsSomeAnd left (IsReplaced was behind)

-- a write of the gate alone leaves the places behind it
behind_gate : (end place : ℕ) → place < end → 1 ≤ place → IsUnsynced end (Wrote 0 1 ∷ []) place → ⊥
behind_gate end place inside past loose = elim loose [
  | inl wrote ↦ elim wrote [
    | inl range ↦ (let r = range.1 in omega (arith, r, past))
    | inr beyond ↦ omega (arith, beyond, inside)
  ]
  | inr none ↦ none
]

-- no part of nothing is something
nothing : (n : ℕ) (l t : List ℕ) → t ≡ [] → 0 < length l → take n t ≡ l → ⊥
nothing n l t is some same =
    omega (arith, length-take n t, ap length same, ap length is, some)

-- so some byte, and then what was behind the gate
gate_loose : (v : ℕ) (rest c : List ℕ) (end : ℕ) → end ≡ length rest + 1 → 0 < length rest
    → AgreesOutside end (Wrote 0 1 ∷ []) c (v ∷ rest)
    → (g : ℕ) × (more : List ℕ) × (c ≡ g ∷ (rest ++ more))
gate_loose v rest c end is some now =
    split c
    (window_same 1 (length rest) c (v ∷ rest)
    (λ place le lt. now place (behind_gate end place (omega (arith, is, lt)) le))
    ∙ take_all (length rest) rest (omega arith))
  where
    split : (c : List ℕ) → take (length rest) (drop 1 c) ≡ rest
        → (g : ℕ) × (more : List ℕ) × (c ≡ g ∷ (rest ++ more))
    split [] same = absurd (nothing (length rest) rest (drop 1 []) refl some same)
    split (g ∷ t) same = (
      g,
      drop (length rest) t,
      ap (λ (b : List ℕ). g ∷ b)
          (sym (take-append-drop (length rest) t)
          ∙ ap (λ (f : List ℕ). f ++ drop (length rest) t) same),
    )

-- where the gate is not loose and closed, it is closed
closed_left : (z : ℕ) (b c : List ℕ) → z ≢ 1 → slice_get c 0 ≡ slice_get (z ∷ b) 0 → IsClosed c
closed_left z b [] shut same = absurd cc
closed_left z b (g ∷ t) shut same =
    let is : g ≡ z = cc in
    (g, t, (λ open_gate. shut (sym is ∙ open_gate)), refl)

-- whatever a cut answers
pub cuts_only : {T : Type 0} (P : Option (List ℕ) → Type 0) (result : Result T DiskError)
    (old new : State) (file len : ℕ) → CutOutcome old file len result new
    → Only P (old file) → Only P (cut_to len (old file)) → Only P (new file)
cuts_only P (Ok x) old new file len w before after =
    subst (λ (s : Slot). Only P s) (sym w.1.here) after
cuts_only P (Err e) old new file len w before after =
    fails_only P e old new file (cut_to len (old file)) w.0 before after

-- ---- a gate that is closed

-- an open gate, with bytes behind it
module _ (w behind : List ℕ) (some : 0 < length w) where
  -- before the write
  pub open_only : Only (OnTheWay (1 ∷ w) behind) (Kept (1 ∷ w) (1 ∷ w) [])
  open_only = sure_only (OnTheWay (1 ∷ w) behind) (1 ∷ w) (inr (inl ([], sym (append-nil (1 ∷ w)))))

  -- and after it
  pub shut_only : Only (OnTheWay (1 ∷ w) behind) (Kept (0 ∷ w) (1 ∷ w) (Wrote 0 1 ∷ []))
  shut_only None now = absurd now
  shut_only (Some c) now =
      let found = gate_loose 0 w c (length (1 ∷ w)) (omega arith) some now in
      elim (cases_eq found.0 1) [
        | inl one ↦ inr (inl (found.1, found.2 ∙ ap (λ (g : ℕ). g ∷ (w ++ found.1)) one))
        | inr shut ↦ inl (found.0, w ++ found.1, shut, found.2)
      ]

-- ---- a file behind a closed gate

module _ (was behind : List ℕ) (z : ℕ) (rest : List ℕ) (shut : z ≢ 1) where
  -- closed
  pub closed_only : Only (OnTheWay was behind) (Kept (z ∷ rest) (z ∷ rest) [])
  closed_only = sure_only (OnTheWay was behind) (z ∷ rest) (inl (z, rest, shut, refl))

  -- after the cut only the gate is left
  pub cut_only : Only (OnTheWay was behind) (Kept (z ∷ []) (z ∷ rest) (Cut 1 ∷ []))
  cut_only None now = absurd now
  cut_only (Some c) now =
      inl (closed_left z [] c shut (now 0 (λ loose. elim loose [
        | inl past ↦ omega (arith, past)
        | inr none ↦ none
      ])))

  -- the new bytes stand behind it
  pub filled_only : Only (OnTheWay was behind)
      (Kept (z ∷ behind) (z ∷ rest) (Cut 1 ∷ Wrote 1 (length behind) ∷ []))
  filled_only None now = absurd now
  filled_only (Some c) now =
      inl (closed_left z behind c shut (now 0 (λ loose. elim loose [
        | inl past ↦ omega (arith, past)
        | inr more ↦ elim more [
          | inl wrote ↦ elim wrote [
            | inl range ↦ (let r = range.0 in omega (arith, r))
            | inr past ↦ omega (arith, past)
          ]
          | inr none ↦ none
        ]
      ])))

  -- ---- what the calls make of the slot

  -- a write behind the gate that is left
  pub filled_is : written 1 behind (Kept (z ∷ []) (z ∷ rest) (Cut 1 ∷ []))
      ≡ Kept (z ∷ behind) (z ∷ rest) (Cut 1 ∷ Wrote 1 (length behind) ∷ [])
  filled_is =
      ap (λ (b : List ℕ). Kept (z ∷ b) (z ∷ rest) (Cut 1 ∷ Wrote 1 (length behind) ∷ []))
      (ap (λ (b : List ℕ). behind ++ b) (drop_all (1 + length behind) (z ∷ []) (omega arith))
      ∙ append-nil behind)

-- ---- the calls that shut a gate

-- a gate as is said is on the way
pub gate_only : (is_open : Bool) (was behind : List ℕ) → HasGate is_open was
    → Only (OnTheWay was behind) (Kept was was [])
gate_only true was behind gate =
    subst (λ (b : List ℕ). Only (OnTheWay b behind) (Kept b b [])) (sym gate.1)
    (open_only gate.0 behind gate.2)
gate_only false was behind gate = sure_only (OnTheWay was behind) was (inl gate)

-- so it is in its file
pub gate_start : (is_open : Bool) (was behind : List ℕ) (disk : State) (file : ℕ)
    → IsDurableAs disk file was → HasGate is_open was → Only (OnTheWay was behind) (disk file)
gate_start is_open was behind disk file sure gate =
    subst (λ (slot : Slot). Only (OnTheWay was behind) slot) (sym sure)
    (gate_only is_open was behind gate)

-- after it is written
pub gate_write : {T : Type 0} (is_open : Bool) (was behind : List ℕ) (result : Result T DiskError)
    (old new : State) (file : ℕ) → is_open ≡ true → IsDurableAs old file was
    → HasGate is_open was → WriteOutcome old file 0 (0 ∷ []) result new
    → Only (OnTheWay was behind) (new file)
gate_write true was behind result old new file is sure gate w =
    let after : Only (OnTheWay was behind) (written 0 (0 ∷ []) (Kept was was [])) =
    subst (λ (b : List ℕ). Only (OnTheWay b behind) (written 0 (0 ∷ []) (Kept b b [])))
    (sym gate.1) (shut_only gate.0 behind gate.2) in
    writes_only (OnTheWay was behind) result old new file 0 (0 ∷ []) w
    (gate_start true was behind old file sure gate)
    (subst (λ (slot : Slot). Only (OnTheWay was behind) (written 0 (0 ∷ []) slot)) (sym sure) after)
gate_write false was behind result old new file is sure gate w = absurd cc

-- ---- the calls that fill a file behind its closed gate

module _ (was behind : List ℕ) (s0 : State) (file : ℕ) (h : IsClosedFile s0 file) where
  abbrev z : ℕ
  z = h.closed.0

  abbrev rest : List ℕ
  rest = h.closed.1

  sure : s0 file ≡ Kept (z ∷ rest) (z ∷ rest) []
  sure = h.sure ∙ ap (λ (b : List ℕ). Kept b b []) h.closed.3

  -- before the first
  pub fill_start : Only (OnTheWay was behind) (s0 file)
  fill_start =
      subst (λ (slot : Slot). Only (OnTheWay was behind) slot) (sym sure)
      (closed_only was behind z rest h.closed.2)

  -- the cut
  pub fill_cut : {T : Type 0} (result : Result T DiskError) (s1 : State)
      → CutOutcome s0 file 1 result s1 → Only (OnTheWay was behind) (s1 file)
  fill_cut result s1 w =
      cuts_only (OnTheWay was behind) result s0 s1 file 1 w fill_start
      (subst (λ (slot : Slot). Only (OnTheWay was behind) (cut_to 1 slot)) (sym sure)
      (cut_only was behind z rest h.closed.2))

  -- behind the cut, the write is one behind the closed gate
  pub fill_gated : (s1 : State) → s1 file ≡ cut_to 1 (s0 file) → 0 < length behind
      → IsGatedWrite (s1 file) 0 1 behind (z ∷ behind)
  fill_gated s1 cut some =
      let is : s1 file ≡ Kept (z ∷ []) (z ∷ rest) (Cut 1 ∷ []) = cut ∙ ap (cut_to 1) sure in
      record {
        begins = subst (λ (slot : Slot). CanBegin (seen slot) 1) (sym is) (omega arith);
        has = ap (λ (slot : Slot). seen (written 1 behind slot)) is
            ∙ ap seen (filled_is was behind z rest h.closed.2);
        some = omega (arith, some);
      }

  -- its outcomes are on the way
  pub fill_way : (s1 : State) → s1 file ≡ cut_to 1 (s0 file) → (left : Option (List ℕ))
      → IsPartlyOpened (s1 file) 0 1 behind (z ∷ behind) left → OnTheWay was behind left
  fill_way s1 cut left (inl now) =
      let is : s1 file ≡ Kept (z ∷ []) (z ∷ rest) (Cut 1 ∷ []) = cut ∙ ap (cut_to 1) sure in
      cut_only was behind z rest h.closed.2 left
      (subst (λ (slot : Slot). IsFileOutcome slot left) is now)
  fill_way s1 cut left (inr (inl now)) =
      let is : s1 file ≡ Kept (z ∷ []) (z ∷ rest) (Cut 1 ∷ []) = cut ∙ ap (cut_to 1) sure in
      filled_only was behind z rest h.closed.2 left
      (subst (λ (slot : Slot). IsFileOutcome slot left)
      (ap (written 1 behind) is ∙ filled_is was behind z rest h.closed.2) now)
  fill_way s1 cut None (inr (inr has)) = absurd has
  fill_way s1 cut (Some c) (inr (inr has)) =
      let is : c ≡ has.0 ∷ (behind ++ has.1) = has.2 in
      elim (cases_eq has.0 1) [
        | inl one ↦ inr (inr (has.1, is ∙ ap (λ (g : ℕ). g ∷ (behind ++ has.1)) one))
        | inr closed ↦ inl (has.0, behind ++ has.1, closed, is)
      ]

-- ---- the moments of the calls that shut a gate

module _ {D : Type 0} (state : D → State) (past : D → List State) (is_open : Bool)
    (was behind : List ℕ) (file : ℕ) (d0 : D) (sure : IsDurableAs (state d0) file was)
    (gate : HasGate is_open was) where
  -- on the way since the first call began
  abbrev ShutLeaves : D → Type 0
  ShutLeaves new = LeavesSince (state d0) (past d0) (state new) (past new)
      (IsLeftAt (state d0) file (OnTheWay was behind))

  shut_start : ShutLeaves d0
  shut_start =
      at_start (OnTheWay was behind) file (state d0) (past d0)
      (gate_start is_open was behind (state d0) file sure gate)

  -- the sync of a gate that is closed
  pub shut_synced : {T : Type 0} (d1 : D) (result : Result T DiskError)
      → SyncOutcome (state d0) file result (state d1)
      → Passes (past d0) (state d0) (past d1) (state d1) → ShutLeaves d1
  shut_synced d1 result w passes =
      at_sync (OnTheWay was behind) file result (state d0) (state d0) (state d1)
      (past d0) (past d0) (past d1) shut_start passes w

  module _ {T : Type 0} (d1 : D) (wrote : Result T DiskError) (opened : is_open ≡ true)
      (w1 : WriteOutcome (state d0) file 0 (0 ∷ []) wrote (state d1))
      (others1 : IsSameBut file (state d0) (state d1))
      (passes1 : Passes (past d0) (state d0) (past d1) (state d1)) where
    -- the write of the gate
    pub shut_wrote : ShutLeaves d1
    shut_wrote =
        at_more (OnTheWay was behind) file (state d0) (state d0) (state d1)
        (past d0) (past d0) (past d1) shut_start passes1 others1
        (gate_write is_open was behind wrote (state d0) (state d1) file opened sure gate w1)

    -- and its sync
    pub shut_done : (d2 : D) (result : Result T DiskError)
        → SyncOutcome (state d1) file result (state d2)
        → Passes (past d1) (state d1) (past d2) (state d2) → ShutLeaves d2
    shut_done d2 result w2 passes2 =
        at_sync (OnTheWay was behind) file result (state d0) (state d1) (state d2)
        (past d0) (past d1) (past d2) shut_wrote passes2 w2

-- ---- the moments of the calls that fill a file

module _ {D : Type 0} (state : D → State) (past : D → List State) (was behind : List ℕ) (file : ℕ)
    (d0 : D) (h : IsClosedFile (state d0) file) where
  -- on the way since the first call began
  abbrev FillLeaves : D → Type 0
  FillLeaves new = LeavesSince (state d0) (past d0) (state new) (past new)
      (IsLeftAt (state d0) file (OnTheWay was behind))

  module _ {T : Type 0} (d1 : D) (cut : Result T DiskError)
      (w1 : CutOutcome (state d0) file 1 cut (state d1))
      (others1 : IsSameBut file (state d0) (state d1))
      (passes1 : Passes (past d0) (state d0) (past d1) (state d1)) where
    pub after_cut : FillLeaves d1
    after_cut =
        at_more (OnTheWay was behind) file (state d0) (state d0) (state d1)
        (past d0) (past d0) (past d1)
        (at_start (OnTheWay was behind) file (state d0) (past d0)
        (fill_start was behind (state d0) file h)) passes1 others1
        (fill_cut was behind (state d0) file h cut (state d1) w1)

    pub after_fill : (d2 : D) → state d1 file ≡ cut_to 1 (state d0 file)
        → LeavesSince (state d1) (past d1) (state d2) (past d2) (IsLeftAt (state d1) file
        (IsPartlyOpened (state d1 file) 0 1 behind (h.closed.0 ∷ behind))) → FillLeaves d2
    after_fill d2 is1 run =
        at_join (OnTheWay was behind) file (state d0) (state d1) (state d2)
        (past d0) (past d1) (past d2) after_cut others1
        (at_weaker (IsPartlyOpened (state d1 file) 0 1 behind (h.closed.0 ∷ behind))
        (OnTheWay was behind) file (state d1) (past d1) (state d2) (past d2)
        (fill_way was behind (state d0) file h (state d1) is1) run)
