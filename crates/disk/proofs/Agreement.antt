-- The synced bytes agree with the bytes that a read returns, in all synced places, after every
-- call.
use Rattle.std.proofs.Common.{◌≡◌, ◌≢◌, ℕ, ◌+◌, List, [], ◌∷◌, ◌++◌, length}
use Rattle.std.proofs.Common.{Result, Ok, Err}
use Rattle.std.proofs.Common.{refl, sym, ap, subst, ◌∙◌, inl, inr}
use Rattle.std.specs.Prelude.{slice_get}
use Rattle.std.proofs.lemmas.Bool.{cases_lt, cases_eq}
use Rattle.disk.specs.declared.pending_write.PendingWrite.{PendingWrite}
use Rattle.disk.specs.declared.pending_write.PendingWrite.TheVariants.{Wrote, Cut}
use Rattle.disk.specs.declared.error.DiskError.{DiskError}
use Rattle.disk.specs.declared.error.DiskError.TheVariants.{Failed, NoFile, Short, Memory}
use Rattle.disk.specs.States.{Slot, Absent, Fresh, Kept, State, seen, MakesUnsynced, IsUnsynced}
use Rattle.disk.specs.States.{IsSame, ChangesSlot, written, cut_to}
use Rattle.disk.specs.Calls.{CanBegin, WriteOutcome, CutOutcome}
use Rattle.disk.specs.Memory.{KeptAgrees, AllKeptAgree}
use Rattle.disk.specs.PlacesLemmas.{get-take, overwritten_before, overwritten_after}

-- an unsynced place stays unsynced under one more pending write
pub unsynced_still : (end : ℕ) (touches : List PendingWrite) (one : PendingWrite) (place : ℕ)
    → IsUnsynced end touches place → IsUnsynced end (touches ++ one ∷ []) place
unsynced_still end [] one place unsynced = absurd unsynced
unsynced_still end (first ∷ touches) one place (inl here) = inl here
unsynced_still end (first ∷ touches) one place (inr later) =
    inr (unsynced_still end touches one place later)

-- a pending write makes its own places unsynced
pub unsynced_now : (end : ℕ) (touches : List PendingWrite) (one : PendingWrite) (place : ℕ)
    → MakesUnsynced one end place → IsUnsynced end (touches ++ one ∷ []) place
unsynced_now end [] one place here = inl here
unsynced_now end (first ∷ touches) one place here = inr (unsynced_now end touches one place here)

-- it agrees after a write
agrees_written : (at : ℕ) (bytes : List ℕ) (slot : Slot) → CanBegin (seen slot) at → KeptAgrees slot
    → KeptAgrees (written at bytes slot)
agrees_written at bytes (Absent back) begins agrees = tt
agrees_written at bytes (Fresh old back) begins agrees = tt
agrees_written at bytes (Kept old kept touches) begins agrees = λ place stays.
    let one = Wrote at (length bytes) in
    let end = length kept in
    let before : slice_get kept place ≡ slice_get old place =
    agrees place (λ unsynced. stays (unsynced_still end touches one place unsynced)) in
    elim (cases_lt place at) [
      | inl lt ↦ before ∙ sym (overwritten_before old at bytes place begins lt)
      | inr ge ↦ elim (cases_lt place (at + length bytes)) [
        | inl inside ↦ absurd (stays (unsynced_now end touches one place (inl (ge, inside))))
        | inr past ↦ before ∙ sym (overwritten_after old at bytes place begins past)
      ]
    ]

-- they agree after a cut
agrees_cut : (len : ℕ) (slot : Slot) → KeptAgrees slot → KeptAgrees (cut_to len slot)
agrees_cut len (Absent back) agrees = tt
agrees_cut len (Fresh old back) agrees = tt
agrees_cut len (Kept old kept touches) agrees = λ place stays.
    let before : slice_get kept place ≡ slice_get old place =
    agrees place
    (λ unsynced. stays (unsynced_still (length kept) touches (Cut len) place unsynced)) in
    elim (cases_lt place len) [
      | inl lt ↦ before ∙ sym (get-take len old place lt)
      | inr past ↦ absurd (stays (unsynced_now (length kept) touches (Cut len) place past))
    ]

-- an unchanged slot agrees
same_agree : (old new : State) → IsSame old new → AllKeptAgree old → AllKeptAgree new
same_agree old new same all = λ file. subst KeptAgrees (sym (same file)) (all file)

-- where one slot changes, that one decides
changed_agree : (old new : State) (file : ℕ) (slot : Slot) → ChangesSlot old new file slot
    → KeptAgrees slot → AllKeptAgree old → AllKeptAgree new
changed_agree old new file slot changes here all = λ other. elim (cases_eq other file) [
  | inl is ↦ subst KeptAgrees (sym (ap new is ∙ changes.here)) here
  | inr apart ↦ subst KeptAgrees (sym (changes.others other apart)) (all other)
]

-- a write that didn't fail
pub writes_agree : {T : Type 0} (result : Result T DiskError) (old new : State) (file at : ℕ)
    (bytes : List ℕ) → WriteOutcome old file at bytes result new → result ≢ Err Failed
    → AllKeptAgree old → AllKeptAgree new
writes_agree (Ok x) old new file at bytes w apart all =
    changed_agree old new file (written at bytes (old file)) w.2
    (agrees_written at bytes (old file) w.0 (all file)) all
writes_agree (Err Failed) old new file at bytes w apart all = absurd (apart refl)
writes_agree (Err NoFile) old new file at bytes w apart all = same_agree old new w.0 all
writes_agree (Err Short) old new file at bytes w apart all = same_agree old new w.0 all
writes_agree (Err Memory) old new file at bytes w apart all = same_agree old new w.0 all

-- a cut that didn't fail
pub cuts_agree : {T : Type 0} (result : Result T DiskError) (old new : State) (file len : ℕ)
    → CutOutcome old file len result new → result ≢ Err Failed → AllKeptAgree old → AllKeptAgree new
cuts_agree (Ok x) old new file len c apart all =
    changed_agree old new file (cut_to len (old file)) c.1
    (agrees_cut len (old file) (all file)) all
cuts_agree (Err Failed) old new file len c apart all = absurd (apart refl)
cuts_agree (Err NoFile) old new file len c apart all = same_agree old new c.0 all
cuts_agree (Err Short) old new file len c apart all = same_agree old new c.0 all
cuts_agree (Err Memory) old new file len c apart all = same_agree old new c.0 all
