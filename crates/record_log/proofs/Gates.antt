-- What a crash leaves of a file while bytes are written behind its gate and the gate is opened.
use Rattle.std.proofs.Common.{◌≡◌, ℕ, ◌+◌, ◌<◌, ◌≤◌, List, [], ◌∷◌, ◌++◌, length, get_or, take}
use Rattle.std.proofs.Common.{drop, Option, Some, None, Result, refl, sym, ap, subst, ◌∙◌, inl, inr}
use Rattle.std.proofs.Common.{append_assoc, length-append, arith}
use Rattle.std.proofs.lemmas.List.{take_at, drop_at, take-append-drop, take_all, length-take}
use Rattle.std.proofs.lemmas.List.{drop_more, length-drop}
use Rattle.disk.specs.declared.PendingWrite.TheVariants.{Wrote}
use Rattle.disk.specs.declared.DiskError.{DiskError}
use Rattle.disk.specs.{Absent, Fresh, Kept, IsUnsynced, Slot, State, WriteOutcome, seen, synced}
use Rattle.disk.specs.{written}
use Rattle.disk.specs.PlacesLemmas.{take_same, window_same}
use Rattle.disk.specs.StepsLemmas.{Only, sure_only, writes_only}
use Rattle.record_log.specs.Gate.{HasAllButGate, IsGatedWrite, IsPartlyOpened, with_open_gate}

-- one write makes its places unsynced, and those past the synced end
pub stays_synced : (end at len place : ℕ) → place < end → (at ≤ place → place < at + len → ⊥)
    → IsUnsynced end (Wrote at len ∷ []) place → ⊥
stays_synced end at len place inside apart unsynced = elim unsynced [
  | inl wrote ↦ elim wrote [
    | inl range ↦ apart range.0 range.1
    | inr past ↦ omega (arith, past, inside)
  ]
  | inr none ↦ none
]

-- a file that has bytes durably has them after a sync
pub synced_is : (slot : Slot) (all : List ℕ) → seen slot ≡ Some all
    → synced slot ≡ Kept all all []
synced_is (Absent back) all is = absurd cc
synced_is (Fresh bytes back) all is =
    let same : bytes ≡ all = cc in ap (λ (b : List ℕ). Kept b b []) same
synced_is (Kept bytes kept touches) all is =
    let same : bytes ≡ all = cc in ap (λ (b : List ℕ). Kept b b []) same

-- ---- the four calls

-- A write behind the gate of a file.
module _ (slot : Slot) (gate at : ℕ) (bytes all : List ℕ)
    (w : IsGatedWrite slot gate at bytes all) where
  abbrev tail : List ℕ
  tail = drop (gate + 1) all

  abbrev Way : Option (List ℕ) → Type 0
  Way = IsPartlyOpened slot gate at bytes all

  -- the bytes before the gate
  gate_len : length (take gate all) ≡ gate
  gate_len = let some = w.some in omega (arith, length-take gate all)

  -- a content that has all but the gate
  whole : (c : List ℕ) → gate < length c → take gate c ≡ take gate all
      → take (length tail) (drop (gate + 1) c) ≡ tail → HasAllButGate all gate c
  whole c long before middle =
      let value = get_or c gate 0 in
      let rest = drop (length tail) (drop (gate + 1) c) in
      let parts : drop (gate + 1) c ≡ tail ++ rest =
      sym (take-append-drop (length tail) (drop (gate + 1) c))
      ∙ ap (λ (m : List ℕ). m ++ rest) middle in
      let from_gate : drop gate c ≡ value ∷ (tail ++ rest) =
      drop_more c gate 0 long ∙ ap (λ (d : List ℕ). value ∷ d) parts in (
        value,
        rest,
        sym (take-append-drop gate c) ∙ ap (λ (f : List ℕ). f ++ drop gate c) before
            ∙ ap (λ (b : List ℕ). take gate all ++ b) from_gate,
      )

  -- before the write
  before_only : Only Way slot
  before_only left now = inl now

  -- after it
  written_only : Only Way (written at bytes slot)
  written_only left now = inr (inl now)

  -- after the first sync it leaves what was written
  synced_only : Only Way (Kept all all [])
  synced_only =
      let some = w.some in
      sure_only Way all
      (inr (inr (whole all (omega (arith, some)) refl (take_all (length tail) tail (omega arith)))))

  -- after the second write it leaves all but the gate
  gate_only : Only Way (written gate (1 ∷ []) (Kept all all []))
  gate_only None now = absurd now
  gate_only (Some c) now =
      let some = w.some in
      let n = length tail in
      let second = with_open_gate all gate in
      let size : n + (gate + 1) ≡ length all = omega (arith, length-drop (gate + 1) all, some) in
      let apart : (place : ℕ) → place < length all → (place ≡ gate → ⊥)
      → IsUnsynced (length all) (Wrote gate 1 ∷ []) place → ⊥ =
      λ place lt other. stays_synced (length all) gate 1 place lt
      (λ from to. other (omega (arith, from, to))) in
      let before : take gate c ≡ take gate all =
      take_same gate c second
      (λ place lt. now place (apart place (omega (arith, lt, some)) (λ e. omega (arith, e, lt))))
      ∙ ap (take gate) (append_assoc (take gate all) (1 ∷ []) tail)
      ∙ take_at (take gate all) (1 ∷ tail) gate gate_len in
      let after : drop (gate + 1) second ≡ tail =
      drop_at (take gate all ++ 1 ∷ []) tail (gate + 1)
      (omega (arith, length-append (take gate all) (1 ∷ []), gate_len)) in
      let middle : take n (drop (gate + 1) c) ≡ tail =
      window_same (gate + 1) n c second
      (λ place le lt. now place (apart place (omega (arith, lt, size)) (λ e. omega (arith, e, le))))
      ∙ ap (take n) after ∙ take_all n tail (omega arith) in
      let long : gate < length c =
      omega (
        arith,
        ap length middle,
        length-take n (drop (gate + 1) c),
        length-drop (gate + 1) c,
        size,
        some,
      ) in
      inr (inr (whole c long before middle))

  -- the first write, whatever it answers
  pub first_write : {T : Type 0} (file : ℕ) (result : Result T DiskError) (old new : State)
      → old file ≡ slot → WriteOutcome old file at bytes result new → Only Way (new file)
  first_write file result old new is wrote =
      writes_only Way result old new file at bytes wrote
      (subst (λ (s : Slot). Only Way s) (sym is) before_only)
      (subst (λ (s : Slot). Only Way (written at bytes s)) (sym is) written_only)

  -- the second write, when the first is synced
  pub second_write : {T : Type 0} (file : ℕ) (result : Result T DiskError) (s2 s3 : State)
      → s2 file ≡ synced (written at bytes slot) → WriteOutcome s2 file gate (1 ∷ []) result s3
      → Only Way (s3 file)
  second_write file result s2 s3 is wrote =
      let sure : s2 file ≡ Kept all all [] = is ∙ synced_is (written at bytes slot) all w.has in
      writes_only Way result s2 s3 file gate (1 ∷ []) wrote
      (subst (λ (s : Slot). Only Way s) (sym sure) synced_only)
      (subst (λ (s : Slot). Only Way (written gate (1 ∷ []) s)) (sym sure) gate_only)

  -- before the calls
  pub at_first : Only Way slot
  at_first = before_only
