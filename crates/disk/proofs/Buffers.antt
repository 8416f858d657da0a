-- A buffer whose overwritten bytes are restored.
use Rattle.std.proofs.Common.{◌≡◌, ◌⊎◌, ℕ, suc, ◌+◌, ◌-◌, ◌<◌, ◌≤◌}
use Rattle.std.proofs.Common.{List, [], ◌∷◌, ◌++◌, length, take, drop}
use Rattle.std.proofs.Common.{refl, sym, ap, ◌∙◌, inl, inr, append_assoc, length-append, arith}
use Rattle.std.specs.Prelude.{slice_get, max, min}
use Rattle.std.proofs.Common.{subst}
use Rattle.std.proofs.Math.Seq.{get_or-append_seam}
use Rattle.std.proofs.lemmas.Bool.{cases_lt}
use Rattle.std.proofs.lemmas.Grind.{common_steps}
use Rattle.std.proofs.lemmas.List.{length-take, length-drop, take-append-le, drop-append-le}
use Rattle.disk.specs.Piece.{Piece}
use Rattle.disk.specs.States.{overwritten}
use Rattle.disk.specs.Buffer.{uncovered, AllWithin}
use Rattle.disk.specs.PlacesLemmas.{same_bytes, get-take, get-take_past, get-drop}
use Rattle.disk.specs.PlacesLemmas.{get-append_left, get-append_right}
use Rattle.disk.specs.PlacesLemmas.{overwritten_before, overwritten_inside, overwritten_after}

-- a write makes the bytes longer only where it goes past their end
pub length-overwritten : (old : List ℕ) (at : ℕ) (bytes : List ℕ) → at ≤ length old
    → length (overwritten old at bytes) ≡ max (length old) (at + length bytes)
length-overwritten old at bytes within = grind (arith, common_steps)

-- a window of what was there
covered_at : (old : List ℕ) (at n place : ℕ) → at ≤ place → place < at + n
    → slice_get (take n (drop at old)) (place - at) ≡ slice_get old place
covered_at old at n place from lt =
    get-take n (drop at old) (place - at) (omega arith)
    ∙ get-drop at old (place - at)
    ∙ ap (slice_get old) (omega arith)

-- the buffer once more, and behind it what was written past its end
extended_at : (old new : List ℕ) (place : ℕ) → length old ≤ place
    → slice_get (old ++ drop (length old) new) place ≡ slice_get new place
extended_at old new place past =
    get-append_right old (drop (length old) new) place past
    ∙ get-drop (length old) new (place - length old)
    ∙ ap (slice_get new) (omega arith)

-- the bytes that a write has overwritten
covered_len : (old : List ℕ) (at n : ℕ)
    → length (take n (drop at old)) ≡ min n (length old - at)
covered_len old at n = length-take n (drop at old) ∙ ap (min n) (length-drop at old)

-- `overwritten_back` at one place
back_at : (old : List ℕ) (at : ℕ) (bytes saved : List ℕ) → at ≤ length old
    → saved ≡ take (length bytes) (drop at old) → (place : ℕ)
    → slice_get (overwritten (overwritten old at bytes) at saved) place
    ≡ slice_get (old ++ drop (length old) (overwritten old at bytes)) place
back_at old at bytes saved within is place =
    let size : length saved ≡ min (length bytes) (length old - at) =
    ap length is ∙ covered_len old at (length bytes) in
    let room : at ≤ length (overwritten old at bytes) =
    omega (arith, length-overwritten old at bytes within) in
    let new = overwritten old at bytes in
    elim (cases_lt place at) [
      | inl lt ↦ overwritten_before new at saved place room lt
          ∙ overwritten_before old at bytes place within lt
          ∙ sym (get-append_left old (drop (length old) new) place (omega arith))
      | inr ge ↦ elim (cases_lt place (at + length saved)) [
        | inl lt ↦ overwritten_inside new at saved place room ge lt
            ∙ ap (λ (b : List ℕ). slice_get b (place - at)) is
            ∙ covered_at old at (length bytes) place ge (omega (arith, size))
            ∙ sym (get-append_left old (drop (length old) new) place (omega (arith, size)))
        | inr past ↦ overwritten_after new at saved place room past
            ∙ behind (cases_lt place (length old)) size ge past
      ]
    ]
  where
    behind : (place < length old) ⊎ (length old ≤ place)
        → length saved ≡ min (length bytes) (length old - at)
        → at ≤ place → at + length saved ≤ place
        → slice_get (overwritten old at bytes) place
        ≡ slice_get (old ++ drop (length old) (overwritten old at bytes)) place
    behind (inl lt) size ge past =
        overwritten_after old at bytes place within (omega (arith, size))
        ∙ sym (get-append_left old (drop (length old) (overwritten old at bytes)) place lt)
    behind (inr out) size ge past = sym (extended_at old (overwritten old at bytes) place out)

-- Restoring the bytes that a write has overwritten yields the old bytes, and behind them the bytes
-- that it wrote past their end.
pub overwritten_back : (old : List ℕ) (at : ℕ) (bytes saved : List ℕ) → at ≤ length old
    → saved ≡ take (length bytes) (drop at old)
    → overwritten (overwritten old at bytes) at saved
    ≡ old ++ drop (length old) (overwritten old at bytes)
overwritten_back old at bytes saved within is =
    same_bytes _ _ (λ place. back_at old at bytes saved within is place)

-- the bytes behind the places written stay
pub overwritten-append : (old tail : List ℕ) (at : ℕ) (bytes : List ℕ)
    → at + length bytes ≤ length old
    → overwritten (old ++ tail) at bytes ≡ overwritten old at bytes ++ tail
overwritten-append old tail at bytes within =
    rw (
      take-append-le at old tail (omega arith),
      drop-append-le
          (at + length bytes) old tail within,
    )
    (sym (append_assoc (take at old ++ bytes) (drop (at + length bytes) old) tail))

-- the beginning of a buffer, up to the end of a write
pub take-overwritten : (old : List ℕ) (len at : ℕ) (bytes : List ℕ) → len ≤ length old → at ≤ len
    → take (max len (at + length bytes)) (overwritten old at bytes)
    ≡ overwritten (take len old) at bytes
take-overwritten old len at bytes inside within = same_bytes _ _ by_place
  where
    room : at ≤ length (take len old)
    room = omega (arith, length-take len old)

    by_place : (place : ℕ)
        → slice_get (take (max len (at + length bytes)) (overwritten old at bytes)) place
        ≡ slice_get (overwritten (take len old) at bytes) place
    by_place place = elim (cases_lt place (max len (at + length bytes))) [
      | inr past ↦ get-take_past (max len (at + length bytes)) (overwritten old at bytes) place past
          ∙ sym (overwritten_after (take len old) at bytes place room (omega arith)
          ∙ get-take_past len old place (omega arith))
      | inl lt ↦ get-take (max len (at + length bytes)) (overwritten old at bytes) place lt
          ∙ elim (cases_lt place at) [
            | inl before ↦ overwritten_before old at bytes place (omega arith) before
                ∙ sym (overwritten_before (take len old) at bytes place room before
                ∙ get-take len old place (omega arith))
            | inr from ↦ elim (cases_lt place (at + length bytes)) [
              | inl inner ↦ overwritten_inside old at bytes place (omega arith) from inner
                  ∙ sym (overwritten_inside (take len old) at bytes place room from inner)
              | inr behind ↦ overwritten_after old at bytes place (omega arith) behind
                  ∙ sym (overwritten_after (take len old) at bytes place room behind
                  ∙ get-take len old place (omega arith))
            ]
          ]
    ]

-- ---- restoring

-- restoring keeps the buffer's length
pub length-uncovered : (buffer : List ℕ) (covered : List Piece) → AllWithin (length buffer) covered
    → length (uncovered buffer covered) ≡ length buffer
length-uncovered buffer [] within = refl
length-uncovered buffer (one ∷ later) within =
    let here : one.at + length one.bytes ≤ length buffer = within 0 one (omega arith) in
    let below : length (uncovered buffer later) ≡ length buffer =
    length-uncovered buffer later (λ k d lt. within (suc k) d (omega arith)) in
    omega (
      arith,
      below,
      length-overwritten (uncovered buffer later) one.at one.bytes
          (omega (arith, below)),
    )

-- the bytes behind all overwritten ones stay
pub uncovered-append : (buffer tail : List ℕ) (covered : List Piece)
    → AllWithin (length buffer) covered
    → uncovered (buffer ++ tail) covered ≡ uncovered buffer covered ++ tail
uncovered-append buffer tail [] within = refl
uncovered-append buffer tail (one ∷ later) within =
    let rest : AllWithin (length buffer) later = λ k d lt. within (suc k) d (omega arith) in
    let size = length-uncovered buffer later rest in
    ap (λ (b : List ℕ). overwritten b one.at one.bytes) (uncovered-append buffer tail later rest)
    ∙ overwritten-append (uncovered buffer later) tail one.at one.bytes
    (omega (arith, size, within 0 one (omega arith)))

-- the latest is restored first
pub uncovered-push : (buffer : List ℕ) (covered : List Piece) (one : Piece)
    → uncovered buffer (covered ++ one ∷ [])
    ≡ uncovered (overwritten buffer one.at one.bytes) covered
uncovered-push buffer [] one = refl
uncovered-push buffer (first ∷ later) one =
    ap (λ (b : List ℕ). overwritten b first.at first.bytes) (uncovered-push buffer later one)

-- a write over saved bytes keeps the content that can be restored
pub kept_stays : (buffer : List ℕ) (covered : List Piece) (one : Piece) (len : ℕ) (bytes : List ℕ)
    → len ≤ length buffer → one.at ≤ length buffer → AllWithin (length buffer) covered
    → one.bytes ≡ take (length bytes) (drop one.at buffer)
    → take len (uncovered (overwritten buffer one.at bytes) (covered ++ one ∷ []))
    ≡ take len (uncovered buffer covered)
kept_stays buffer covered one len bytes inside within all saved =
    let tail = drop (length buffer) (overwritten buffer one.at bytes) in
    let back : uncovered (overwritten buffer one.at bytes) (covered ++ one ∷ [])
    ≡ uncovered buffer covered ++ tail =
    uncovered-push (overwritten buffer one.at bytes) covered one
    ∙ ap (λ (b : List ℕ). uncovered b covered)
    (overwritten_back buffer one.at bytes one.bytes within saved)
    ∙ uncovered-append buffer tail covered all in
    ap (take len) back
    ∙ take-append-le len (uncovered buffer covered) tail
    (omega (arith, length-uncovered buffer covered all))

-- one step of restoring
pub uncovered-pop : (buffer new : List ℕ) (covered rest : List Piece) (one : Piece)
    → covered ≡ rest ++ one ∷ [] → new ≡ overwritten buffer one.at one.bytes
    → uncovered new rest ≡ uncovered buffer covered
uncovered-pop buffer new covered rest one parts is =
    ap (λ (b : List ℕ). uncovered b rest) is
    ∙ sym (ap (uncovered buffer) parts ∙ uncovered-push buffer rest one)

-- the overwritten bytes within a length, but for the latest
pub AllWithin-pop : (len : ℕ) (covered rest : List Piece) (one : Piece)
    → covered ≡ rest ++ one ∷ [] → AllWithin len covered → AllWithin len rest
AllWithin-pop len covered rest one parts within =
    let all : AllWithin len (rest ++ one ∷ []) = subst (AllWithin len) parts within in
    λ k d lt. grind (arith, common_steps, all k d)

-- the latest overwritten bytes within a length
pub AllWithin-last : (len : ℕ) (covered rest : List Piece) (one : Piece)
    → covered ≡ rest ++ one ∷ [] → AllWithin len covered → one.at + length one.bytes ≤ len
AllWithin-last len covered rest one parts within =
    let all : AllWithin len (rest ++ one ∷ []) = subst (AllWithin len) parts within in
    let size : length (rest ++ one ∷ []) ≡ length rest + 1 = length-append rest (one ∷ []) in
    subst (λ (it : Piece). it.at + length it.bytes ≤ len) (get_or-append_seam rest one [] one)
    (all (length rest) one (omega (arith, size)))

-- how many bytes the last sync kept
pub length-kept : (buffer : List ℕ) (covered : List Piece) (len : ℕ) → len ≤ length buffer
    → AllWithin (length buffer) covered → length (take len (uncovered buffer covered)) ≡ len
length-kept buffer covered len inside within =
    omega (
      arith,
      length-take len
          (uncovered buffer covered),
      length-uncovered buffer covered within,
    )
