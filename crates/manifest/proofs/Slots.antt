-- Open slots, of either format.
use Rattle.std.proofs.Common.{◌≡◌, ◌∙◌, ◌<◌, ◌≤◌, ◌^◌, ℕ, List, [], ◌∷◌, ◌++◌, take, drop, get_or}
use Rattle.std.proofs.Common.{Bool, true, false, Option, Some, None, refl, sym, ap, inl, inr, arith}
use Rattle.std.proofs.Common.{length}
use Rattle.std.specs.Prelude.{IsSomeAnd}
use Rattle.std.specs.Int.{w16, w64, from_be_bytes, to_be_bytes}
use Rattle.std.proofs.lemmas.List.{length-take, take-append-le, take-take}
use Rattle.std.proofs.lemmas.Nat.{from_be_bytes-to_be_bytes_2, from_be_bytes-to_be_bytes_8}
use Rattle.kv_types.specs.declared.bounds.TheConstants.{MAX_NUMBER}
use Rattle.configurations.specs.{IsId}
use Rattle.record_log.specs.{IsClosed}
use Rattle.manifest.specs.Replace.{HasGate}
use Rattle.manifest.specs.Slots.{HasOldHead, IsOpenSlot, IsSuperseded, head_length, old_head_length}
use Rattle.manifest.specs.Slots.{old_slot_head, slot_head}

-- ---- files that are there

-- what holds of the bytes of a file
pub some_as : (file : Option (List ℕ)) (P Q : List ℕ → Type 0)
    → ((bytes : List ℕ) → P bytes → Q bytes) → IsSomeAnd file P → IsSomeAnd file Q
some_as None P Q so is = absurd is
some_as (Some bytes) P Q so is = so bytes is

-- what follows of two facts on the bytes of a file
pub some_both : (file : Option (List ℕ)) (P Q : List ℕ → Type 0) (R : Type 0)
    → ((bytes : List ℕ) → P bytes → Q bytes → R) → IsSomeAnd file P → IsSomeAnd file Q → R
some_both None P Q R so is both = absurd is
some_both (Some bytes) P Q R so is both = so bytes is both

-- ---- heads

-- bytes that begin with a head do so with more behind them
pub begins_more : (n : ℕ) (head bytes rest : List ℕ) → length head ≡ n → take n bytes ≡ head
    → take n (bytes ++ rest) ≡ head
begins_more n head bytes rest size is =
    let long : n ≤ length bytes = omega (arith, size, ap length is, length-take n bytes) in
    take-append-le n bytes rest long ∙ is

-- with more bytes behind it, an open slot is one of the same generation
pub opens_more : (g : ℕ) (bytes rest : List ℕ) → IsOpenSlot g bytes → IsOpenSlot g (bytes ++ rest)
opens_more g bytes rest is = elim is.1 [
  | inl head ↦ (is.0, inl (begins_more head_length (slot_head g is.0) bytes rest refl head))
  | inr old ↦ (
    is.0,
    inr (
      old.0,
      begins_more old_head_length (old_slot_head g is.0) bytes rest refl old.1,
    ),
  )
]

-- an open slot begins with 1 and its generation
pub gate_and_generation : (g : ℕ) (bytes : List ℕ) → IsOpenSlot g bytes
    → take 9 bytes ≡ 1 ∷ to_be_bytes w64 g
gate_and_generation g bytes is = elim is.1 [
  | inl head ↦ sym (take-take 9 head_length bytes (omega arith)) ∙ ap (take 9) head
  | inr old ↦ sym (take-take 9 old_head_length bytes (omega arith)) ∙ ap (take 9) old.1
]

pub begins_open : (g : ℕ) (bytes : List ℕ) → IsOpenSlot g bytes
    → (rest : List ℕ) × (bytes ≡ 1 ∷ rest)
begins_open g [] is = let gate = gate_and_generation g [] is in absurd cc
begins_open g (b ∷ bytes) is =
    let first : b ≡ 1 =
    ap (λ (l : List ℕ). get_or l 0 0) (gate_and_generation g (b ∷ bytes) is) in
    (bytes, ap (λ (x : ℕ). x ∷ bytes) first)

-- it has a head, of 11 bytes at least
pub open_length : (g : ℕ) (bytes : List ℕ) → IsOpenSlot g bytes → old_head_length ≤ length bytes
open_length g bytes is = elim is.1 [
  | inl head ↦
      let size : length (take head_length bytes) ≡ head_length = ap length head in
      omega (arith, size, length-take head_length bytes)
  | inr old ↦
      let size : length (take old_head_length bytes) ≡ old_head_length = ap length old.1 in
      omega (arith, size, length-take old_head_length bytes)
]

-- it has one generation
pub one_generation : (g h : ℕ) (bytes : List ℕ) → g < 2 ^ 64 → h < 2 ^ 64 → IsOpenSlot g bytes
    → IsOpenSlot h bytes → g ≡ h
one_generation g h bytes small short a b =
    let same : to_be_bytes w64 g ≡ to_be_bytes w64 h =
    ap (drop 1) (sym (gate_and_generation g bytes a) ∙ gate_and_generation h bytes b) in
    sym (from_be_bytes-to_be_bytes_8 g small) ∙ ap (from_be_bytes w64) same
    ∙ from_be_bytes-to_be_bytes_8 h short

-- no node has the id that stands in the place of format 1's
pub no_zero : (id : ℕ) → IsId id → to_be_bytes w16 id ≡ to_be_bytes w16 0 → ⊥
no_zero id is same =
    let zero : id ≡ 0 = sym (from_be_bytes-to_be_bytes_2 id (omega (arith, is.1)))
    ∙ ap (from_be_bytes w16) same in
    omega (arith, zero, is.0)

-- so no slot is of both formats
pub not_both : (g id h other : ℕ) (bytes : List ℕ) → take head_length bytes ≡ slot_head g id
    → HasOldHead h other bytes → ⊥
not_both g id h other bytes head old =
    no_zero other old.0 (ap (drop 9) (sym old.1
    ∙ sym (take-take old_head_length head_length bytes (omega arith))
    ∙ ap (take old_head_length) head))

-- a closed slot is not open
pub not_closed : (g : ℕ) (bytes : List ℕ) → IsClosed bytes → IsOpenSlot g bytes → ⊥
not_closed g bytes closed is =
    let begins = begins_open g bytes is in
    closed.2 (ap (λ (l : List ℕ). get_or l 0 0) (sym closed.3 ∙ begins.1))

-- ---- superseded slots

-- an open slot that is superseded has the lesser generation
pub below : (g h : ℕ) (bytes : List ℕ) → g ≤ MAX_NUMBER → h < 2 ^ 64 → IsOpenSlot h bytes
    → IsSuperseded g bytes → h < g
below g h bytes small short is (inl closed) = absurd (not_closed h bytes closed is)
below g h bytes small short is (inr lesser) =
    let same : h ≡ lesser.0 =
    one_generation h lesser.0 bytes short (omega (arith, small, lesser.1)) is lesser.2 in
    omega (arith, same, lesser.1)

-- with more bytes behind it, a slot that yields yields
pub yields_more : (g : ℕ) (bytes rest : List ℕ) → IsSuperseded g bytes
    → IsSuperseded g (bytes ++ rest)
yields_more g bytes rest (inl shut) =
    inl (shut.0, shut.1 ++ rest, shut.2, ap (λ (b : List ℕ). b ++ rest) shut.3)
yields_more g bytes rest (inr lesser) =
    inr (lesser.0, lesser.1, opens_more lesser.0 bytes rest lesser.2)

-- an open gate has bytes behind it
pub open_gate : (g : ℕ) (bytes : List ℕ) → IsOpenSlot g bytes → HasGate true bytes
open_gate g bytes is =
    let begins = begins_open g bytes is in
    let long = open_length g bytes is in
    (begins.0, begins.1, omega (arith, long, ap length begins.1))

-- a superseded slot has a gate
pub gate_of : (file : Option (List ℕ)) (g : ℕ) → IsSomeAnd file (IsSuperseded g)
    → (is_open : Bool) × IsSomeAnd file (λ bytes. IsSuperseded g bytes × HasGate is_open bytes)
gate_of None g is = absurd is
gate_of (Some bytes) g (inl closed) = (false, (inl closed, closed))
gate_of (Some bytes) g (inr lesser) =
    (true, (inr lesser, open_gate lesser.0 bytes lesser.2))
