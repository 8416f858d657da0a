-- A slot that was written anew is short.
use Rattle.std.proofs.Common.{◌≡◌, ◌<◌, ◌≤◌, ◌^◌, ◌+◌, ℕ, List, [], ◌∷◌, append-nil, arith}
use Rattle.std.proofs.Common.{drop}
use Rattle.std.proofs.Common.{length, length-append, refl, subst}
use Rattle.disk.specs.{Kept, State}
use Rattle.record_log.specs.declared.log.TheConstants.{MAX_RECORD}
use Rattle.record_log.specs.declared.Log.{Log}
use Rattle.record_log.specs.{FirstLengthIs, GatesAreInFiles, IsDurableLog, LogHolds, Represents}
use Rattle.record_log.specs.{gate_of}
use Rattle.manifest.specs.Holds.{IsLongLog, slot_behind}
use Rattle.manifest.specs.Slots.{head_length}
use Rattle.manifest.proofs.Rewrites.{new_slot}

-- whatever the disk, the log of a slot with one record ends behind that record
pub new_is_short : GatesAreInFiles → FirstLengthIs → (file generation id : ℕ) (one : List ℕ)
    (log : Log) → length one ≤ MAX_RECORD →
    ((disk : State) → IsDurableLog disk file head_length (one ∷ [])
    → LogHolds disk log (one ∷ [])) →
    IsLongLog log → ⊥
new_is_short gates first file generation id one log short holds long =
    let behind = slot_behind generation id one in
    let bytes = 1 ∷ behind in
    let disk : State = λ f. Kept bytes bytes [] in
    let size : length bytes ≡ 19 + length one = omega (arith, length-append one (0 ∷ [])) in
    let small : length one < 2 ^ 32 = omega (arith, short) in
    let held = holds disk (record {
      bytes = bytes;
      sure = refl;
      within = omega (arith, size);
      fits = omega (arith, size, short);
      stands = subst (λ (b : List ℕ). Represents (drop head_length (1 ∷ b)) (one ∷ []))
          (append-nil behind) (new_slot generation id one [] small).log;
    }) in
    let gate : gate_of log < length bytes = gates disk log (one ∷ []) held in
    let len = first disk log one [] held in
    omega (arith, long, gate, size, len)
