-- What the two slots represent while a record is added to the one that counts.
use Rattle.std.proofs.Common.{◌≡◌, ◌≢◌, ℕ, List, [], ◌∷◌, ◌++◌, take, drop, Option, Some, None}
use Rattle.std.proofs.Common.{refl, sym, subst, ◌∙◌, inl, inr, arith}
use Rattle.std.specs.Prelude.{IsSomeAnd, ◌⊎◌}
use Rattle.disk.specs.declared.DiskError.TheVariants as disk
use Rattle.disk.specs.{IsEnvironmental, Slot, State, Contents, IsFileOutcome, seen}
use Rattle.disk.specs.{IsLeftAt, IsSameBut, LeavesSince}
use Rattle.disk.specs.MomentsLemmas.{weaker}
use Rattle.disk.specs.StepsLemmas.{sure_only, read_is_outcome}
use Rattle.record_log.specs.{Represents}
use Rattle.record_log.specs.{IsDurableAs}
use Rattle.std.proofs.Common.{Result, Ok, Err}
use Rattle.std.specs.Prelude.{MatchResult}
use Rattle.record_log.specs.declared.LogError.{LogError}
use Rattle.record_log.specs.declared.log.Log.{Log}
use Rattle.record_log.specs.declared.log.TheConstants.{MAX_RECORD}
use Rattle.record_log.specs.{LogHolds, file_of, start_of, IsAt, IsOldOrNewFrom, Appended}
use Rattle.record_log.specs.{IsExpected}
use Rattle.record_log.specs.{HasFailed}
use Rattle.record_log.specs.declared.LogError.TheVariants as errors
use Rattle.std.proofs.Common.{length}
use Rattle.std.specs.Prelude.{IfErr}
use Rattle.manifest.specs.declared.slot_pair.SlotPair.{SlotPair}
use Rattle.manifest.specs.Slots.{IsSlotFile, other_slot, slot_head, head_length, IsSlot}
use Rattle.manifest.specs.Slots.{IsSlotIn, IsSuperseded, SlotsRepresent, SlotsRepresentIn}
use Rattle.manifest.specs.Slots.{SlotsAreLeft}
use Rattle.std.proofs.Common.{◌≤◌, Bool}
use Rattle.kv_types.specs.declared.bounds.TheConstants.{MAX_NUMBER}
use Rattle.manifest.specs.Replace.{HasGate}
use Rattle.manifest.specs.Holds.{SlotsHold, SlotsHoldIn}
use Rattle.byte_fields.specs.declared.format.Format.{Format}

-- the other slot is another
pub others_differ : (slot : ℕ) → IsSlotFile slot → other_slot slot ≢ slot
others_differ slot (inl one) same = omega (arith, one, same)
others_differ slot (inr two) same = omega (arith, two, same)

-- which is one of the two
pub other_one : (slot : ℕ) → IsSlotFile slot → IsSlotFile (other_slot slot)
other_one slot (inl one) = inr (omega (arith, one))
other_one slot (inr two) = inl (omega (arith, two))

module _ (disk : State) (slots : SlotPair) (id : ℕ) (records : List (List ℕ)) (one : List ℕ)
    (h : SlotsHold disk slots id records) where
  -- the records with one more
  abbrev pub grown : List (List ℕ)
  grown = records ++ one ∷ []

  -- what is asked of the counting slot while a record is added to its log
  abbrev pub OnTheWay : Option (List ℕ) → Type 0
  OnTheWay left = IsSomeAnd left (IsOldOrNewFrom h.log.bytes (start_of slots.log) records one)

  -- the counting slot has the old records or the new ones
  counting : (left : Option (List ℕ)) → OnTheWay left
      → IsSomeAnd left (IsSlot slots.generation id records)
      ⊎ IsSomeAnd left (IsSlot slots.generation id grown)
  counting None way = absurd way
  counting (Some c) way =
      let start : start_of slots.log ≡ head_length = h.at.from in
      let head : take head_length c ≡ slot_head slots.generation id =
      subst (λ (s : ℕ). take s c ≡ take s h.log.bytes) start way.head ∙ h.head in
      elim way.is [
        | inl old ↦ inl (record {
          head = head;
          log = subst (λ (s : ℕ). Represents (drop s c) records) start old;
        })
        | inr new ↦ inr (record {
          head = head;
          log = subst (λ (s : ℕ). Represents (drop s c) grown) start new;
        })
      ]

  -- the other one yields
  yields : (left : Contents) → IsFileOutcome (disk (other_slot slots.slot))
      (left (other_slot slots.slot))
      → IsSomeAnd (left (other_slot slots.slot)) (IsSuperseded slots.generation)
  yields left now =
      let Q : Option (List ℕ) → Type 0 = λ l. IsSomeAnd l (IsSuperseded slots.generation) in
      sure_only Q h.other_bytes h.other (left (other_slot slots.slot))
      (subst (λ (slot : Slot). IsFileOutcome slot (left (other_slot slots.slot))) h.other_sure now)

  -- so the slots have the old records or the new ones
  pub has_either : (left : Contents) → IsLeftAt disk (file_of slots.log) OnTheWay left
      → SlotsRepresent id records left ⊎ SlotsRepresent id grown left
  has_either left at =
      let file : file_of slots.log ≡ slots.slot = h.at.in_file in
      let apart : other_slot slots.slot ≢ file_of slots.log =
      λ same. others_differ slots.slot h.one (same ∙ file) in
      let other = yields left (at.others (other_slot slots.slot) apart) in
      elim (counting (left slots.slot) (subst (λ (f : ℕ). OnTheWay (left f)) file at.here)) [
        | inl old ↦ inl (record {
          slot = slots.slot;
          one = h.one;
          generation = slots.generation;
          limit = h.limit;
          counting = old;
          other = other;
        })
        | inr new ↦ inr (record {
          slot = slots.slot;
          one = h.one;
          generation = slots.generation;
          limit = h.limit;
          counting = new;
          other = other;
        })
      ]

  -- at every moment
  pub either_since : (new : State) (past since : List State)
      → LeavesSince disk past new since (IsLeftAt disk (file_of slots.log) OnTheWay)
      → LeavesSince disk past new since
      (SlotsAreLeft disk (λ left. SlotsRepresent id records left ⊎ SlotsRepresent id grown left))
  either_since new past since run =
      weaker (IsLeftAt disk (file_of slots.log) OnTheWay)
      (SlotsAreLeft disk (λ left. SlotsRepresent id records left ⊎ SlotsRepresent id grown left))
      disk past new since
      (λ left at. record {
        here = has_either left at;
        others = λ other apart. at.others other
            (λ same. apart (subst IsSlotFile (sym (same ∙ h.at.in_file)) h.one));
      }) run

  -- and the head is as it was when the record is there
  pub head_after : (new : State) (past since : List State) (bytes : List ℕ)
      → LeavesSince disk past new since (IsLeftAt disk (file_of slots.log) OnTheWay)
      → IsDurableAs new (file_of slots.log) bytes
      → take head_length bytes ≡ slot_head slots.generation id
  head_after new past since bytes run sure =
      let here : OnTheWay (seen (new (file_of slots.log))) =
      (run.now (λ file. seen (new file)) (λ file. read_is_outcome (new file))).here in
      let way : OnTheWay (Some bytes) = subst (λ (slot : Slot). OnTheWay (seen slot)) sure here in
      subst (λ (s : ℕ). take s bytes ≡ take s h.log.bytes) h.at.from way.head ∙ h.head

-- as it is, the slots have the records, in the slot that counts
pub has_old_at : (format : Format) (disk : State) (slots : SlotPair) (id : ℕ)
    (records : List (List ℕ)) → SlotsHoldIn format disk slots id records → (left : Contents)
    → ((slot : ℕ) → IsSlotFile slot → IsFileOutcome (disk slot) (left slot))
    → (old : SlotsRepresentIn format id records left) × (old.slot ≡ slots.slot)
has_old_at format disk slots id records h left now =
    let Q : Option (List ℕ) → Type 0 =
    λ l. IsSomeAnd l (IsSlotIn format slots.generation id records) in
    let R : Option (List ℕ) → Type 0 = λ l. IsSomeAnd l (IsSuperseded slots.generation) in
    let slot : IsSlotIn format slots.generation id records h.log.bytes = record {
      head = h.head;
      log = subst (λ (s : ℕ). Represents (drop s h.log.bytes) records) h.at.from h.log.stands;
    } in
    let sure : IsDurableAs disk slots.slot h.log.bytes =
    subst (λ (f : ℕ). IsDurableAs disk f h.log.bytes) h.at.in_file h.log.sure in (
      record {
        slot = slots.slot;
        one = h.one;
        generation = slots.generation;
        limit = h.limit;
        counting = sure_only Q h.log.bytes slot (left slots.slot)
            (subst (λ (s : Slot). IsFileOutcome s (left slots.slot)) sure (now slots.slot h.one));
        other = sure_only R h.other_bytes h.other (left (other_slot slots.slot))
            (subst (λ (s : Slot). IsFileOutcome s (left (other_slot slots.slot))) h.other_sure
            (now (other_slot slots.slot) (other_one slots.slot h.one)));
      },
      refl,
    )

pub has_old : (format : Format) (disk : State) (slots : SlotPair) (id : ℕ)
    (records : List (List ℕ)) → SlotsHoldIn format disk slots id records → (left : Contents)
    → ((slot : ℕ) → IsSlotFile slot → IsFileOutcome (disk slot) (left slot))
    → SlotsRepresentIn format id records left
has_old format disk slots id records h left now =
    (has_old_at format disk slots id records h left now).0

-- what an append that was answered leaves of the slots
pub held_after : (disk new : State) (past since : List State) (slots later : SlotPair) (id : ℕ)
    (records : List (List ℕ)) (one : List ℕ) (h : SlotsHold disk slots id records)
    → later.slot ≡ slots.slot → later.generation ≡ slots.generation → later.id ≡ slots.id
    → later.other_is_open ≡ slots.other_is_open → IsAt slots.slot head_length later.log
    → LogHolds new later.log (records ++ one ∷ [])
    → LeavesSince disk past new since (IsLeftAt disk (file_of slots.log)
    (λ left. IsSomeAnd left (IsOldOrNewFrom h.log.bytes (start_of slots.log) records one)))
    → IsSameBut (file_of slots.log) disk new
    → SlotsHold new later id (records ++ one ∷ [])
held_after disk new past since slots later id records one h s g i o at log run others =
    let same_file : file_of later.log ≡ file_of slots.log = at.in_file ∙ sym h.at.in_file in
    let sure : IsDurableAs new (file_of slots.log) log.bytes =
    subst (λ (f : ℕ). IsDurableAs new f log.bytes) same_file log.sure in
    let head = head_after disk slots id records one h new past since log.bytes run sure in
    let apart : other_slot slots.slot ≢ file_of slots.log =
    λ same. others_differ slots.slot h.one (same ∙ h.at.in_file) in
    record {
      one = subst IsSlotFile (sym s) h.one;
      is_id = i ∙ h.is_id;
      limit = subst (λ (n : ℕ). n ≤ MAX_NUMBER) (sym g) h.limit;
      at = subst (λ (n : ℕ). IsAt n head_length later.log) (sym s) at;
      log = log;
      head = subst (λ (n : ℕ). take head_length log.bytes ≡ slot_head n id) (sym g) head;
      other_bytes = h.other_bytes;
      other_sure = subst (λ (n : ℕ). IsDurableAs new (other_slot n) h.other_bytes) (sym s)
          (others (other_slot slots.slot) apart ∙ h.other_sure);
      other = subst (λ (n : ℕ). IsSuperseded n h.other_bytes) (sym g) h.other;
      gate = subst (λ (b : Bool). HasGate b h.other_bytes) (sym o) h.gate;
    }

-- whatever an append answers
pub recorded : {T : Type 0} (untouched : Type 0) (disk new : State) (past since : List State)
    (slots : SlotPair)
    (log : Log) (id : ℕ) (records : List (List ℕ)) (one : List ℕ)
    (h : SlotsHold disk slots id records) (result : Result T LogError)
    → Appended MAX_RECORD result slots.log log one untouched
    → MatchResult result (λ _. LogHolds new log (records ++ one ∷ [])) IsExpected
    → LeavesSince disk past new since (IsLeftAt disk (file_of slots.log)
    (λ left. IsSomeAnd left (IsOldOrNewFrom h.log.bytes (start_of slots.log) records one)))
    → IsSameBut (file_of slots.log) disk new
    → MatchResult result
    (λ _. SlotsHold new (record slots { log = log }) id (records ++ one ∷ [])) IsExpected
recorded untouched disk new past since slots log id records one h (Ok x) told held run others =
    held_after disk new past since slots
    (record slots { log = log }) id records one h refl refl refl
    refl
    (record {
      in_file = told.0.file ∙ h.at.in_file;
      from = told.0.start ∙ h.at.from;
      works = told.1.2;
    }) held run others
recorded untouched disk new past since slots log id records one h (Err e) told held run others =
    held

-- a log that works, and a record that is not too long
pub machine_only : {T : Type 0} (untouched : Type 0) (old log : Log) (one : List ℕ)
    (result : Result T LogError) → Appended MAX_RECORD result old log one untouched
    → (HasFailed old → ⊥) → length one ≤ MAX_RECORD → IfErr result IsExpected
    → IfErr result (IsEnvironmental (errors.Disk disk.Failed) errors.Memory)
machine_only untouched old log one (Ok x) told works short met = tt
machine_only untouched old log one (Err (errors.Disk e)) told works short met = elim met [
  | inl machine ↦ machine
  | inr own ↦ elim own [ inl e ↦ absurd cc | inr e ↦ absurd cc ]
]
machine_only untouched old log one (Err errors.Memory) told works short met = inr refl
machine_only untouched old log one (Err errors.TooLong) told works short met =
    let long = told.1.1 in absurd (omega (arith, long, short))
machine_only untouched old log one (Err errors.Failed) told works short met =
    absurd (works told.1.0)

-- what is said of each answer is said of a refusal
pub errors_of : {T : Type 0} (P : T → Type 0) (Q : LogError → Type 0) (result : Result T LogError)
    → MatchResult result P Q → IfErr result Q
errors_of P Q (Ok x) said = tt
errors_of P Q (Err e) said = said
