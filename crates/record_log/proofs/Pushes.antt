-- What a crash leaves of a file while an append writes behind its gate.
use Rattle.std.proofs.Common.{◌≡◌, ◌⊎◌, ℕ, ◌+◌, ◌<◌, List, [], ◌∷◌, ◌++◌, length, take}
use Rattle.std.proofs.Common.{drop, Option, Some, None, refl, sym, ap, subst, ◌∙◌, inl, inr}
use Rattle.std.proofs.Common.{append_assoc, length-append, arith}
use Rattle.std.specs.Prelude.{IsSomeAnd}
use Rattle.std.proofs.lemmas.List.{drop_at, length-take}
use Rattle.disk.specs.{IsFileOutcome, Slot, Kept, overwritten, seen, written}
use Rattle.disk.specs.Calls.{CanBegin}
use Rattle.disk.specs.PlacesLemmas.{take_same, overwritten_before}
use Rattle.disk.specs.StepsLemmas.{Only, sure_only}
use Rattle.record_log.specs.Gate.{HasAllButGate, IsGatedWrite, IsPartlyOpened, pushed}
use Rattle.record_log.proofs.Gates.{stays_synced}

-- A crash outcome during the calls. The bytes up to the gate are unchanged, or those before the
-- gate are unchanged and all the new bytes follow it.
abbrev pub IsPartlyPushed : List ℕ → ℕ → List ℕ → List ℕ → Type 0
IsPartlyPushed bytes gate behind left = (take (gate + 1) left ≡ take (gate + 1) bytes)
    ⊎ ((g : ℕ) × (rest : List ℕ) × (left ≡ take gate bytes ++ (g ∷ (behind ++ rest))))

-- a content on the way
abbrev OnTheWay : List ℕ → ℕ → List ℕ → Option (List ℕ) → Type 0
OnTheWay bytes gate behind left = IsSomeAnd left (IsPartlyPushed bytes gate behind)

-- A file's bytes, a gate within them, and bytes that are put behind it.
module _ (bytes : List ℕ) (gate : ℕ) (behind : List ℕ) (within : gate < length bytes) where
  abbrev tail : List ℕ
  tail = drop (gate + 1 + length behind) bytes

  -- after the first write, which leaves all up to the gate
  abbrev first : List ℕ
  first = overwritten bytes (gate + 1) behind

  -- all up to the gate is as it was
  up_to_gate : take (gate + 1) first ≡ take (gate + 1) bytes
  up_to_gate =
      take_same (gate + 1) first bytes
      (λ place lt. overwritten_before bytes (gate + 1) behind place (omega arith) lt)

  -- and so is what is before it
  before_gate : take gate first ≡ take gate bytes
  before_gate =
      take_same gate first bytes
      (λ place lt. overwritten_before bytes (gate + 1) behind place (omega arith) (omega arith))

  -- the new bytes stand behind it
  behind_gate : drop (gate + 1) first ≡ behind ++ tail
  behind_gate =
      ap (drop (gate + 1)) (append_assoc (take (gate + 1) bytes) behind tail)
      ∙ drop_at (take (gate + 1) bytes) (behind ++ tail) (gate + 1)
      (omega (arith, length-take (gate + 1) bytes))

  -- after all four calls
  pub pushed_is : pushed bytes gate behind ≡ take gate bytes ++ (1 ∷ (behind ++ tail))
  pushed_is =
      append_assoc (take gate first) (1 ∷ []) (drop (gate + 1) first)
      ∙ ap (λ (f : List ℕ). f ++ (1 ∷ drop (gate + 1) first)) before_gate
      ∙ ap (λ (b : List ℕ). take gate bytes ++ (1 ∷ b)) behind_gate

  -- the write behind the gate leaves all up to the gate
  behind_only : Only (OnTheWay bytes gate behind) (written (gate + 1) behind (Kept bytes bytes []))
  behind_only None now = absurd now
  behind_only (Some c) now =
      let same : take (gate + 1) c ≡ take (gate + 1) first =
      take_same (gate + 1) c first
      (λ place lt. now place (stays_synced (length bytes) (gate + 1) (length behind) place
      (omega arith) (λ from to. omega (arith, from, lt)))) in
      inl (same ∙ up_to_gate)

  -- a content that has all but the gate
  all_but_gate : (left : Option (List ℕ)) → IsSomeAnd left (HasAllButGate first gate)
      → OnTheWay bytes gate behind left
  all_but_gate None has = absurd has
  all_but_gate (Some c) has = inr (
    has.0,
    tail ++ has.1,
    has.2 ∙ ap (λ (f : List ℕ). f ++ (has.0 ∷ (drop (gate + 1) first ++ has.1))) before_gate
        ∙ ap (λ (b : List ℕ). take gate bytes ++ (has.0 ∷ (b ++ has.1))) behind_gate
        ∙ ap (λ (b : List ℕ). take gate bytes ++ (has.0 ∷ b)) (append_assoc behind tail has.1),
  )

  -- ---- a file that is durable at first

  module _ (slot : Slot) (sure : slot ≡ Kept bytes bytes []) where
    -- the write is one behind the file's gate
    pub gated : 0 < length behind → IsGatedWrite slot gate (gate + 1) behind first
    gated some = record {
      begins = subst (λ (s : Slot). CanBegin (seen s) (gate + 1)) (sym sure) (omega arith);
      has = ap (λ (s : Slot). seen (written (gate + 1) behind s)) sure;
      some = omega (
        arith,
        some,
        length-append (take (gate + 1) bytes ++ behind) tail,
        length-append (take (gate + 1) bytes) behind,
        length-take (gate + 1) bytes,
      );
    }

    -- and its outcomes are those of an append
    pub way_of : (left : Option (List ℕ)) → IsPartlyOpened slot gate (gate + 1) behind first left
        → OnTheWay bytes gate behind left
    way_of left (inl now) =
        sure_only (OnTheWay bytes gate behind) bytes (inl refl) left
        (subst (λ (s : Slot). IsFileOutcome s left) sure now)
    way_of left (inr (inl now)) =
        behind_only left
        (subst (λ (s : Slot). IsFileOutcome (written (gate + 1) behind s) left) sure now)
    way_of left (inr (inr has)) = all_but_gate left has
