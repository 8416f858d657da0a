-- The slots of a new store.
use Rattle.std.proofs.Common.{◌≡◌, ℕ, ◌<◌, ◌≤◌, ◌^◌, List, [], ◌∷◌, length, take, drop}
use Rattle.std.proofs.Common.{Option, Some, None, false, refl, sym, ap, subst, ◌∙◌, inl, inr, arith}
use Rattle.std.proofs.Common.{append-nil}
use Rattle.std.specs.Prelude.{IsNone}
use Rattle.disk.specs.declared.DiskError.TheVariants as disk
use Rattle.disk.specs.declared.DiskError.{DiskError}
use Rattle.disk.specs.{Absent, Fresh, IsEnvironmental, Kept, Slot, State, seen}
use Rattle.record_log.specs.declared.LogError.TheVariants as log
use Rattle.record_log.specs.{IsClosed, IsDurableAs, IsGatedWrite}
use Rattle.record_log.specs.{LogHolds, IsAt, Represents, begun}
use Rattle.record_log.specs.Error.{log_error}
use Rattle.manifest.specs.declared.slot_pair.SlotPair.{SlotPair}
use Rattle.manifest.specs.Slots.{slot_head, head_length, IsSlot}
use Rattle.manifest.specs.Holds.{SlotsHold, slot_behind}
use Rattle.manifest.proofs.Rewrites.{new_slot}

begun_closed : (was : Option (List ℕ)) → IsClosed (begun was)
begun_closed None = (0, [], (λ e. absurd (omega (arith, e))), refl)
begun_closed (Some bytes) = (0, drop 1 bytes, (λ e. absurd (omega (arith, e))), refl)

-- of a file that was absent a creation makes the closed gate alone
pub begun_none : (was : Option (List ℕ)) → IsNone was → begun was ≡ 0 ∷ []
begun_none None none = refl
begun_none (Some bytes) none = absurd cc

-- a write at the first place of an absent file is one behind the gate that it begins with
pub begun_gated : (slot : Slot) (closed behind : List ℕ) → IsNone (seen slot) →
    closed ≡ 0 ∷ behind → 0 < length behind → IsGatedWrite slot 0 0 closed (0 ∷ behind)
begun_gated (Absent back) closed behind none is some =
    record { begins = refl; has = ap Some is; some = omega (arith, some) }
begun_gated (Fresh bytes back) closed behind none is some = absurd cc
begun_gated (Kept bytes kept touches) closed behind none is some = absurd cc

-- the device's failure and want of memory say nothing of a log
pub external_log : (e : DiskError) → IsEnvironmental disk.Failed disk.Memory e →
    IsEnvironmental (log.Disk disk.Failed) log.Memory (log_error e)
external_log e (inl failed) = rw failed (inl refl)
external_log e (inr memory) = rw memory (inr refl)

module _ (id : ℕ) (one : List ℕ) (short : length one < 2 ^ 32) where
  abbrev behind : List ℕ
  behind = slot_behind 1 id one

  whole : IsSlot 1 id (one ∷ []) (1 ∷ behind)
  whole =
      subst (λ (b : List ℕ). IsSlot 1 id (one ∷ []) (1 ∷ b)) (append-nil behind)
      (new_slot 1 id one [] short)

  pub begun_stands : Represents (drop head_length (1 ∷ behind)) (one ∷ [])
  begun_stands = whole.log

  pub begun_long : head_length ≤ length (1 ∷ behind)
  begun_long = omega arith

  pub held_begun : (new : State) (slots : SlotPair) (was : Option (List ℕ)) → slots.slot ≡ 1
      → slots.generation ≡ 1 → slots.id ≡ id → slots.other_is_open ≡ false
      → IsAt 1 head_length slots.log → LogHolds new slots.log (one ∷ [])
      → IsDurableAs new 1 (1 ∷ behind)
      → IsDurableAs new 2 (begun was) → SlotsHold new slots id (one ∷ [])
  held_begun new slots was s g i o at log sure other =
      let there : IsDurableAs new 1 log.bytes =
      subst (λ (f : ℕ). IsDurableAs new f log.bytes) at.in_file log.sure in
      let bytes : log.bytes ≡ 1 ∷ behind = cc in
      record {
        one = inl s;
        is_id = i;
        limit = omega (arith, g);
        at = subst (λ (n : ℕ). IsAt n head_length slots.log) (sym s) at;
        log = log;
        head = subst (λ (n : ℕ). take head_length log.bytes ≡ slot_head n id) (sym g)
            (ap (take head_length) bytes ∙ whole.head);
        other_bytes = begun was;
        other_sure = rw s other;
        other = inl (begun_closed was);
        gate = rw o (begun_closed was);
      }
