-- What the two slots represent while the one that does not count is written anew.
use Rattle.std.proofs.Common.{◌≡◌, ◌≢◌, ℕ, ◌+◌, ◌<◌, ◌≤◌, ◌^◌, List, [], ◌∷◌, ◌++◌, length, take}
use Rattle.std.proofs.Common.{drop}
use Rattle.std.proofs.Common.{Option, Some, None, refl, sym, ap, subst, ◌∙◌, inl, inr, arith}
use Rattle.std.proofs.Common.{append_assoc, append-nil}
use Rattle.std.specs.Prelude.{IsSomeAnd, ◌⊎◌}
use Rattle.std.specs.Int.{w32, to_be_bytes}
use Rattle.std.proofs.Common.{Bool, true}
use Rattle.manifest.specs.Replace.{HasGate}
use Rattle.kv_types.specs.declared.bounds.TheConstants.{MAX_NUMBER}
use Rattle.disk.specs.{Slot, State, Contents, IsFileOutcome}
use Rattle.disk.specs.{IsLeftAt, LeavesSince}
use Rattle.disk.specs.MomentsLemmas.{none_yet, weaker}
use Rattle.disk.specs.StepsLemmas.{sure_only}
use Rattle.record_log.specs.{Represents}
use Rattle.record_log.specs.{IsDurableAs}
use Rattle.record_log.specs.{file_of, LogHolds, IsAt}
use Rattle.manifest.specs.declared.slot_pair.SlotPair.{SlotPair}
use Rattle.manifest.specs.Slots.{IsSlotFile, other_slot, slot_head, head_length, IsSlot}
use Rattle.manifest.specs.Slots.{IsOpenSlot, IsSlotIn, IsSuperseded, SlotsRepresent}
use Rattle.manifest.specs.Slots.{SlotsRepresentIn, log_start}
use Rattle.manifest.specs.Slots.{SlotsAreLeft}
use Rattle.manifest.specs.Holds.{SlotsHold, SlotsHoldIn, slot_behind}
use Rattle.byte_fields.specs.declared.format.Format.{Format}
use Rattle.manifest.proofs.Replaces.{OnTheWay}
use Rattle.manifest.proofs.Counting.{opens_by}
use Rattle.manifest.proofs.Records.{has_old, has_old_at, other_one, others_differ}
use Rattle.manifest.specs.Changes.{IsLeftByRewrite}
use Rattle.manifest.proofs.Slots.{open_gate, yields_more}

-- the other of the other slot
other_back : (slot : ℕ) → IsSlotFile slot → other_slot (other_slot slot) ≡ slot
other_back slot (inl one) = omega (arith, one)
other_back slot (inr two) = omega (arith, two)

-- the new slot, with the gate open
pub new_slot : (generation id : ℕ) (one rest : List ℕ) → length one < 2 ^ 32
    → IsSlot generation id (one ∷ []) (1 ∷ (slot_behind generation id one ++ rest))
new_slot generation id one rest short =
    let text = to_be_bytes w32 (length one) in
    record {
      head = refl;
      log = (
        0 ∷ rest,
        short,
        ap (λ (b : List ℕ). 1 ∷ b)
            (append_assoc text (one ++ 0 ∷ []) rest
            ∙ ap (λ (b : List ℕ). text ++ b) (append_assoc one (0 ∷ []) rest)
            ∙ sym (append_assoc text one (0 ∷ rest))),
        (0, rest, (λ e. absurd cc), refl),
      );
    }

module _ (format : Format) (disk : State) (slots : SlotPair) (id : ℕ) (records : List (List ℕ))
    (one : List ℕ) (h : SlotsHoldIn format disk slots id records) (short : length one < 2 ^ 32)
    (room : slots.generation < MAX_NUMBER) where
  abbrev next : ℕ
  next = slots.generation + 1

  abbrev behind : List ℕ
  behind = slot_behind next slots.id one

  -- the counting slot is open
  opened : IsOpenSlot slots.generation h.log.bytes
  opened = opens_by format slots.generation id h.log.bytes h.head

  -- a slot of these records that yields to the next generation
  record Stays (bytes : List ℕ) : Type 0 where
    pub slot : IsSlotIn format slots.generation id records bytes
    pub yields : IsSuperseded next bytes

  -- the counting slot stays
  counting : (left : Contents) → IsFileOutcome (disk slots.slot) (left slots.slot)
      → IsSomeAnd (left slots.slot) Stays
  counting left now =
      let Q : Option (List ℕ) → Type 0 = λ l. IsSomeAnd l Stays in
      let file : file_of slots.log ≡ slots.slot = h.at.in_file in
      let sure : IsDurableAs disk slots.slot h.log.bytes =
      subst (λ (f : ℕ). IsDurableAs disk f h.log.bytes) file h.log.sure in
      let log : Represents (drop (log_start format) h.log.bytes) records =
      subst (λ (s : ℕ). Represents (drop s h.log.bytes) records) h.at.from h.log.stands in
      let stays : Stays h.log.bytes = record {
        slot = record { head = h.head; log = log };
        yields = inr (slots.generation, omega arith, opened);
      } in
      sure_only Q h.log.bytes stays (left slots.slot)
      (subst (λ (slot : Slot). IsFileOutcome slot (left slots.slot)) sure now)

  -- the other one yields still, or has the record alone
  other : (left : Option (List ℕ)) → OnTheWay h.other_bytes behind left
      → IsSomeAnd left (IsSuperseded slots.generation) ⊎ IsSomeAnd left (IsSlot next id (one ∷ []))
  other None way = absurd way
  other (Some c) (inl shut) = inl (inl shut)
  other (Some c) (inr (inl old)) =
      inl (subst (IsSuperseded slots.generation) (sym old.1)
      (yields_more slots.generation h.other_bytes old.0 h.other))
  other (Some c) (inr (inr new)) =
      inr (subst (λ (i : ℕ). IsSlot next i (one ∷ []) c) h.is_id
      (subst (IsSlot next slots.id (one ∷ [])) (sym new.1)
      (new_slot next slots.id one new.0 short)))

  -- what stays is there for both
  as_slot : (left : Option (List ℕ)) → IsSomeAnd left Stays
      → IsSomeAnd left (IsSlotIn format slots.generation id records)
  as_slot None stays = absurd stays
  as_slot (Some c) stays = stays.slot

  as_yields : (left : Option (List ℕ)) → IsSomeAnd left Stays → IsSomeAnd left (IsSuperseded next)
  as_yields None stays = absurd stays
  as_yields (Some c) stays = stays.yields

  -- so the slots have the old records, in the old slot, or the new one alone, in the other
  has_either_at : (file : ℕ) → file ≡ other_slot slots.slot → (left : Contents)
      → IsLeftAt disk file (OnTheWay h.other_bytes behind) left
      → ((old : SlotsRepresentIn format id records left) × (old.slot ≡ slots.slot))
      ⊎ ((new : SlotsRepresent id (one ∷ []) left) × (new.slot ≡ other_slot slots.slot)
      × (new.generation ≡ slots.generation + 1))
  has_either_at file is left at =
      let apart : slots.slot ≢ file =
      λ same. others_differ slots.slot h.one (sym (same ∙ is)) in
      let stays = counting left (at.others slots.slot apart) in
      let way : OnTheWay h.other_bytes behind (left (other_slot slots.slot)) =
      subst (λ (f : ℕ). OnTheWay h.other_bytes behind (left f)) is at.here in
      elim (other (left (other_slot slots.slot)) way) [
        | inl old ↦ inl (
          record {
            slot = slots.slot;
            one = h.one;
            generation = slots.generation;
            limit = h.limit;
            counting = as_slot (left slots.slot) stays;
            other = old;
          },
          refl,
        )
        | inr new ↦ inr (
          record {
            slot = other_slot slots.slot;
            one = other_one slots.slot h.one;
            generation = next;
            limit = omega arith;
            counting = new;
            other = subst (λ (s : ℕ). IsSomeAnd (left s) (IsSuperseded next))
                (sym (other_back slots.slot h.one)) (as_yields (left slots.slot) stays);
          },
          refl,
          refl,
        )
      ]

  pub has_either : (file : ℕ) → file ≡ other_slot slots.slot → (left : Contents)
      → IsLeftAt disk file (OnTheWay h.other_bytes behind) left
      → SlotsRepresentIn format id records left ⊎ SlotsRepresent id (one ∷ []) left
  has_either file is left at =
      elim (has_either_at file is left at) [
        | inl old ↦ inl old.0
        | inr new ↦ inr new.0
      ]

  -- at every moment, and each other file is what a crash might have left
  pub left_since : (new : State) (past since : List State) (file : ℕ)
      → file ≡ other_slot slots.slot
      → LeavesSince disk past new since (IsLeftAt disk file (OnTheWay h.other_bytes behind))
      → LeavesSince disk past new since (IsLeftByRewrite format disk slots id records one)
  left_since new past since file is run =
      weaker (IsLeftAt disk file (OnTheWay h.other_bytes behind))
      (IsLeftByRewrite format disk slots id records one) disk past new since
      (λ left at. record {
        here = has_either_at file is left at;
        others = λ other apart. at.others other (λ same. apart (same ∙ is));
      }) run

  -- and before the first call
  pub left_unmoved : (past : List State)
      → LeavesSince disk past disk past (IsLeftByRewrite format disk slots id records one)
  left_unmoved past =
      none_yet (IsLeftByRewrite format disk slots id records one) disk past
      (λ left now. record {
        here = inl (has_old_at format disk slots id records h left (λ slot one. now slot));
        others = λ other apart. now other;
      })

  -- at every moment
  pub either_since : (new : State) (past since : List State) (file : ℕ)
      → file ≡ other_slot slots.slot
      → LeavesSince disk past new since (IsLeftAt disk file (OnTheWay h.other_bytes behind))
      → LeavesSince disk past new since
      (SlotsAreLeft disk (λ left. SlotsRepresentIn format id records left
      ⊎ SlotsRepresent id (one ∷ []) left))
  either_since new past since file is run =
      weaker (IsLeftAt disk file (OnTheWay h.other_bytes behind))
      (SlotsAreLeft disk (λ left. SlotsRepresentIn format id records left
      ⊎ SlotsRepresent id (one ∷ []) left))
      disk past new since
      (λ left at. record {
        here = has_either file is left at;
        others = λ other apart. at.others other
            (λ same. apart (subst IsSlotFile (sym (same ∙ is)) (other_one slots.slot h.one)));
      }) run

  -- before the first call no moment has passed
  pub unmoved : (past : List State) → LeavesSince disk past disk past
      (SlotsAreLeft disk (λ left. SlotsRepresentIn format id records left
      ⊎ SlotsRepresent id (one ∷ []) left))
  unmoved past =
      none_yet (SlotsAreLeft disk (λ left. SlotsRepresentIn format id records left
      ⊎ SlotsRepresent id (one ∷ []) left))
      disk past
      (λ left now. record {
        here = inl (has_old format disk slots id records h left (λ slot one. now slot));
        others = λ other apart. now other;
      })

  -- after the last call the slots hold the record alone
  pub held_new : (new : State) (later : SlotPair) → later.slot ≡ other_slot slots.slot
      → later.generation ≡ next → later.id ≡ slots.id → later.other_is_open ≡ true
      → IsAt (other_slot slots.slot) head_length later.log → LogHolds new later.log (one ∷ [])
      → IsDurableAs new (other_slot slots.slot) (1 ∷ behind)
      → new slots.slot ≡ disk slots.slot → SlotsHold new later id (one ∷ [])
  held_new new later s g i o at log sure same =
      let there : IsDurableAs new (other_slot slots.slot) log.bytes =
      subst (λ (f : ℕ). IsDurableAs new f log.bytes) at.in_file log.sure in
      let bytes : log.bytes ≡ 1 ∷ behind = cc in
      let old : IsDurableAs disk slots.slot h.log.bytes =
      subst (λ (f : ℕ). IsDurableAs disk f h.log.bytes) h.at.in_file h.log.sure in
      let head : take head_length (1 ∷ behind) ≡ slot_head next id =
      ap (slot_head next) h.is_id in
      record {
        one = subst IsSlotFile (sym s) (other_one slots.slot h.one);
        is_id = i ∙ h.is_id;
        limit = omega (arith, g, room);
        at = subst (λ (n : ℕ). IsAt n head_length later.log) (sym s) at;
        log = log;
        head = subst (λ (n : ℕ). take head_length log.bytes ≡ slot_head n id) (sym g)
            (ap (take head_length) bytes ∙ head);
        other_bytes = h.log.bytes;
        other_sure = subst (λ (n : ℕ). IsDurableAs new n h.log.bytes)
            (sym (ap other_slot s ∙ other_back slots.slot h.one)) (same ∙ old);
        other = subst (λ (n : ℕ). IsSuperseded n h.log.bytes) (sym g)
            (inr (slots.generation, omega arith, opened));
        gate = subst (λ (b : Bool). HasGate b h.log.bytes) (sym o)
            (open_gate slots.generation h.log.bytes opened);
      }

  -- what the log of the new slot stands for
  pub new_stands : Represents (drop head_length (1 ∷ behind)) (one ∷ [])
  new_stands =
      subst (λ (b : List ℕ). Represents (drop head_length (1 ∷ b)) (one ∷ [])) (append-nil behind)
      (new_slot next slots.id one [] short).log

  pub new_long : head_length ≤ length (1 ∷ behind)
  new_long = omega arith
