-- The slot that counts, and what its records give.
use Rattle.std.proofs.Common.{◌≡◌, ℕ, List, [], ◌∷◌, drop, map}
use Rattle.std.proofs.Common.{Option, Some, None, Result, Ok, Err, refl, sym, ap, subst, ◌∙◌}
use Rattle.std.proofs.Common.{arith, inl, inr}
use Rattle.std.specs.Prelude.{IsNone, IsSomeAnd, ◌⊎◌}
use Rattle.std.proofs.lemmas.Bool.{cases_eq}
use Rattle.configurations.specs.{IsId}
use Rattle.disk.specs.{AddsNoOutcome, Contents, IsFileOutcome, IsSame, Kept, Slot, State}
use Rattle.disk.specs.{IsEnvironmental, seen}
use Rattle.disk.specs.StepsLemmas.{read_is_outcome, sure_left}
use Rattle.disk.specs.declared.DiskError.TheVariants as disk
use Rattle.record_log.specs.{HasRecords, IsAt, IsDurableAs, LogHolds, OpenRefusal, Represents}
use Rattle.record_log.specs.declared.LogError.{LogError}
use Rattle.record_log.specs.declared.LogError.TheVariants as log
use Rattle.record_log.specs.declared.log.Log.{Log}
use Rattle.manifest.specs.declared.head.CountingSlot.{CountingSlot}
use Rattle.byte_fields.specs.declared.format.Format.{Format}
use Rattle.byte_fields.specs.declared.format.Format.TheVariants as formats
use Rattle.manifest.specs.declared.slot_pair.SlotPair.{SlotPair}
use Rattle.manifest.specs.declared.error.ManifestError.{ManifestError}
use Rattle.manifest.specs.declared.error.ManifestError.TheVariants as manifest
use Rattle.version_edits.specs.declared.EditError.{EditError}
use Rattle.version_edits.specs.declared.EditError.TheVariants as edit_error
use Rattle.manifest.specs.Errors.{error_by_edit, error_by_log}
use Rattle.version_edits.specs.{NodeVersion, Change, after_all, empty}
use Rattle.version_edits.specs.{change_text, change_text_in}
use Rattle.manifest.specs.Slots.{IsNotCreated, IsSlotFile, IsSlotIn, ManifestRepresents}
use Rattle.manifest.specs.Slots.{ManifestRepresentsIn, ManifestRepresentsInEither, SlotsRead}
use Rattle.manifest.specs.Slots.{SlotsRepresentIn, log_start, other_slot}
use Rattle.manifest.specs.Upgrades.{UpgradeRefusal}
use Rattle.manifest.specs.Holds.{SlotsHoldIn}
use Rattle.manifest.specs.Heads.{HasHead, NoneCounts, SlotCounts}
use Rattle.version_edits.specs.{IsEditHistory}
use Rattle.manifest.specs.Laws.{OldStoresAreApart, VersionsAreCreated}
use Rattle.manifest.specs.Manifests.{ManifestRefusal}
use Rattle.manifest.specs.Opening.{AreOpened, OpensSlots, ReadsSlots, SlotsAreKept}
use Rattle.manifest.proofs.Records.{others_differ}
use Rattle.manifest.proofs.Records.{other_one}
use Rattle.manifest.proofs.Counting.{counted, counting_by, counts_in, not_old, old_counts}
use Rattle.manifest.proofs.Counting.{old_represents_none, opens, represent_counts, yields}
use Rattle.manifest.proofs.Slots.{begins_open, some_as, some_both}
use Rattle.manifest.proofs.VersionIsOne.{same_head}

-- ---- the slot that counts

-- what is there
some_of : {A : Type 0} (file : Option A) (P : A → Type 0) → IsSomeAnd file P
    → (x : A) × (file ≡ Some x) × P x
some_of None P is = absurd is
some_of (Some x) P is = (x, refl, is)

-- where a slot is open, a store was created
made : (left : Contents) (slot : ℕ) → IsSlotFile slot
    → IsSomeAnd (left slot) (λ bytes. (rest : List ℕ) × (bytes ≡ 1 ∷ rest)) → IsNotCreated left
    → ⊥
made left slot one opened blank =
    elim one [ inl s ↦ blank.first (at 1 s) | inr s ↦ blank.second (at 2 s) ]
  where
    at : (file : ℕ) → slot ≡ file
        → IsSomeAnd (left file) (λ bytes. (rest : List ℕ) × (bytes ≡ 1 ∷ rest))
    at file is =
        subst (λ (f : ℕ). IsSomeAnd (left f) (λ bytes. (rest : List ℕ) × (bytes ≡ 1 ∷ rest))) is
        opened

not_blank : (it : CountingSlot) (left : Contents) → SlotCounts it left → IsNotCreated left → ⊥
not_blank it left c =
    made left it.slot c.one (some_as (left it.slot) (HasHead it.head)
    (λ bytes. (rest : List ℕ) × (bytes ≡ 1 ∷ rest))
    (λ bytes head. begins_open it.head.generation bytes (opens it.head bytes head)) c.head)

created_in : (format : Format) (named : NodeVersion) (left : Contents)
    → ManifestRepresentsIn format named left → IsNotCreated left → ⊥
created_in format named left h =
    let r = h.records in
    let new = represent_counts format named.id (map (change_text_in format) h.changes) left r in
    not_blank (counting_by format r.slot r.generation named.id new.0) left new.1

pub were_created : VersionsAreCreated
were_created named left h = created_in formats.Two named left h

pub old_stores_are_apart : OldStoresAreApart
old_stores_are_apart left o =
    let old = old_counts left o in (
      not_blank (counting_by formats.One o.slot o.generation o.id old.0) left old.1,
      λ named h.
          old_represents_none named.id (map change_text h.changes) left h.records o,
    )

-- ---- the slot that counts, in its format

module _ (it : CountingSlot) (left : Contents) (c : SlotCounts it left) where
  -- the log of the slot has the records that the slots represent
  log_of : (id : ℕ) (records : List (List ℕ)) → SlotsRepresentIn it.head.format id records left
      → IsSomeAnd (left it.slot)
      (λ bytes. Represents (drop (log_start it.head.format) bytes) records)
  log_of id records r =
      some_as (left it.slot) (IsSlotIn it.head.format r.generation id records)
      (λ bytes. Represents (drop (log_start it.head.format) bytes) records)
      (λ bytes slot. slot.log) (counted it left c it.head.format id records r)

  -- files of which no version comes are damaged
  damaged : ((named : NodeVersion) → ManifestRepresentsIn it.head.format named left → ⊥)
      → UpgradeRefusal manifest.Damaged left
  damaged none = (
    not_blank it left c,
    λ named either.
        let h = either.1 in
        let same : either.0 ≡ it.head.format = counts_in it left c either.0 named.id
        (map (change_text_in either.0) h.changes) h.records in
        none named (subst (λ (f : Format). ManifestRepresentsIn f named left) same h),
  )

  -- no node has the id 0
  pub zero_is_no_id : it.head.id ≡ 0 → UpgradeRefusal manifest.Damaged left
  zero_is_no_id zero = damaged (λ named h.
      let records = map (change_text_in it.head.format) h.changes in
      let same : named.id ≡ it.head.id =
      some_both (left it.slot) (IsSlotIn it.head.format h.records.generation named.id records)
      (HasHead it.head) (named.id ≡ it.head.id)
      (λ bytes slot head. same_head it.head.format h.records.generation it.head.generation named.id
      it.head.id bytes h.id.1 (omega (arith, zero)) slot.head head)
      (counted it left c it.head.format named.id records h.records) c.head in
      omega (arith, zero, same, h.id.0))

  -- a slot that counts is there
  there : IsNone (left it.slot) → ⊥
  there none = absent (left it.slot) none c.head
    where
      absent : (file : Option (List ℕ)) → IsNone file → IsSomeAnd file (HasHead it.head) → ⊥
      absent None none some = some
      absent (Some bytes) none some = absurd cc

  -- where it has no log, the files represent no version
  no_log : (file : Option (List ℕ)) (records : List (List ℕ))
      → IsSomeAnd file (λ bytes. (records : List (List ℕ))
      → Represents (drop (log_start it.head.format) bytes) records → ⊥)
      → IsSomeAnd file (λ bytes. Represents (drop (log_start it.head.format) bytes) records) → ⊥
  no_log None records none some = some
  no_log (Some bytes) records none some = none records some

  pub log_refused : (e : LogError) → OpenRefusal e (left it.slot) (log_start it.head.format)
      → UpgradeRefusal (error_by_log e) left
  log_refused (log.Disk disk.Failed) why = tt
  log_refused (log.Disk disk.NoFile) why = absurd (there why)
  log_refused (log.Disk disk.Short) why = damaged (λ named h.
      let records = map (change_text_in it.head.format) h.changes in
      no_log (left it.slot) records why (log_of named.id records h.records))
  log_refused (log.Disk disk.Memory) why = absurd why
  log_refused log.Memory why = tt
  log_refused log.TooLong why = absurd why
  log_refused log.Failed why = absurd why

  -- records that are no edits give no version
  pub replay_refused : (disk : State) (e : EditError) → SlotsAreKept disk left
      → (e ≡ edit_error.Damaged → (changes : List Change) → IsEditHistory it.head.format changes
      → HasRecords disk it.slot (log_start it.head.format)
      (map (change_text_in it.head.format) changes) → ⊥)
      → UpgradeRefusal (error_by_edit e) left
  replay_refused disk edit_error.Damaged kept bad = damaged (λ named h.
      let records = map (change_text_in it.head.format) h.changes in
      bad refl h.changes (record { some = h.some; each = h.each; fit = h.fit })
      (subst
      (λ (file : Option (List ℕ)).
      IsSomeAnd file (λ bytes. Represents (drop (log_start it.head.format) bytes) records))
      (sym (kept.read it.slot c.one)) (log_of named.id records h.records)))
  replay_refused disk edit_error.Memory kept bad = tt

  -- a slot of format 2 that is not read is not opened
  pub refused_two : it.head.format ≡ formats.Two → (e : ManifestError) → UpgradeRefusal e left
      → ManifestRefusal e left
  refused_two two manifest.Disk why = tt
  refused_two two manifest.Damaged why =
      (why.0, (λ named h. why.1 named (formats.Two, h)), not_old it left c two)
  refused_two two manifest.NotCreated why = why
  refused_two two manifest.Memory why = tt
  refused_two two manifest.Failed why = absurd why
  refused_two two manifest.OldFormat why = absurd why

  -- and one that is read is opened
  pub opened_two : it.head.format ≡ formats.Two → (new : State)
      (result : Result (SlotPair × NodeVersion) ManifestError)
      → ReadsSlots it.head.format left new result → OpensSlots left new result
  opened_two two new (Ok x) is = subst (λ (f : Format). AreOpened f left new x.0 x.1) two is
  opened_two two new (Err e) why = refused_two two e why

-- ---- refusals

-- no slot counts, or the machine refused
pub none_refused : (e : ManifestError) (left : Contents) →
    IsEnvironmental manifest.Disk manifest.Memory e ⊎ NoneCounts e left
    → ManifestRefusal e left
none_refused e left (inl (inl failed)) =
    subst (λ (x : ManifestError). ManifestRefusal x left) (sym failed) tt
none_refused e left (inl (inr memory)) =
    subst (λ (x : ManifestError). ManifestRefusal x left) (sym memory) tt
none_refused manifest.NotCreated left (inr none) = none
none_refused manifest.Damaged left (inr none) = (
  none.0,
  λ named h.
      let r = h.records in
      let new = represent_counts formats.Two named.id (map change_text h.changes) left r in
      none.1 (counting_by formats.Two r.slot r.generation named.id new.0) new.1,
  λ o.
      let old = old_counts left o in
      none.1 (counting_by formats.One o.slot o.generation o.id old.0) old.1,
)
none_refused manifest.Disk left (inr none) = tt
none_refused manifest.Memory left (inr none) = tt
none_refused manifest.Failed left (inr none) = absurd none
none_refused manifest.OldFormat left (inr none) = absurd none

-- no slot of either format counts, or the machine refused
pub none_upgraded : (e : ManifestError) (left : Contents) →
    IsEnvironmental manifest.Disk manifest.Memory e ⊎ NoneCounts e left
    → UpgradeRefusal e left
none_upgraded e left (inl (inl failed)) =
    subst (λ (x : ManifestError). UpgradeRefusal x left) (sym failed) tt
none_upgraded e left (inl (inr memory)) =
    subst (λ (x : ManifestError). UpgradeRefusal x left) (sym memory) tt
none_upgraded manifest.NotCreated left (inr none) = none
none_upgraded manifest.Damaged left (inr none) = (
  none.0,
  λ named either.
      let h = either.1 in
      let r = h.records in
      let new = represent_counts either.0 named.id (map (change_text_in either.0) h.changes) left
      r in
      none.1 (counting_by either.0 r.slot r.generation named.id new.0) new.1,
)
none_upgraded manifest.Disk left (inr none) = tt
none_upgraded manifest.Memory left (inr none) = tt
none_upgraded manifest.Failed left (inr none) = absurd none
none_upgraded manifest.OldFormat left (inr none) = absurd none

-- files that represent a version are not upgraded for the machine alone
pub upgrade_refused : (e : ManifestError) (left : Contents) (named : NodeVersion)
    → UpgradeRefusal e left → ManifestRepresentsInEither named left →
    IsEnvironmental manifest.Disk manifest.Memory e
upgrade_refused manifest.Disk left named why h = inl refl
upgrade_refused manifest.Damaged left named why h = absurd (why.1 named h)
upgrade_refused manifest.NotCreated left named why h =
    absurd (created_in h.0 named left h.1 why)
upgrade_refused manifest.Memory left named why h = inr refl
upgrade_refused manifest.Failed left named why h = absurd why
upgrade_refused manifest.OldFormat left named why h = absurd why

-- files that represent a version are refused by the machine alone
pub named_refused : (e : ManifestError) (left : Contents) (named : NodeVersion)
    → ManifestRefusal e left → ManifestRepresents named left →
    IsEnvironmental manifest.Disk manifest.Memory e
named_refused manifest.Disk left named why h = inl refl
named_refused manifest.Damaged left named why h = absurd (why.1 named h)
named_refused manifest.NotCreated left named why h = absurd (were_created named left h why)
named_refused manifest.Memory left named why h = inr refl
named_refused manifest.Failed left named why h = absurd why
named_refused manifest.OldFormat left named why h =
    absurd ((old_stores_are_apart left why).1 named h)

-- ---- slots that were opened

-- where no file changes, the slots stay as they are
pub kept_so : (old new : State) (left : Contents) → IsSame old new → SlotsAreKept old left
    → SlotsAreKept new left
kept_so old new left same kept =
    record {
      read = λ slot one. ap seen (same slot) ∙ kept.read slot one;
      durable = λ slot one bytes is. same slot ∙ kept.durable slot one bytes is;
    }

-- a durable file that a call adds no outcome to has the same bytes behind it, if it is durable
same_bytes : (old new : State) (file : ℕ) (was now : List ℕ) → IsDurableAs old file was
    → IsDurableAs new file now → AddsNoOutcome file old new → now ≡ was
same_bytes old new file was now before behind adds =
    let left : IsFileOutcome (new file) (Some now) =
    subst (λ (s : Slot). IsFileOutcome s (Some now)) (sym behind)
    (read_is_outcome (Kept now now [])) in
    let stood : IsFileOutcome (Kept was was []) (Some now) =
    subst (λ (s : Slot). IsFileOutcome s (Some now)) before (adds.crash (Some now) left) in
    let same : Some now ≡ Some was = sure_left (Kept was was []) (Some now) (refl, refl) stood in
    cc same

module _ (it : CountingSlot) (left : Contents) (old new : State) (c : SlotCounts it left)
    (kept : SlotsAreKept old left) (adds : AddsNoOutcome it.slot old new) (log : Log)
    (at : IsAt it.slot (log_start it.head.format) log) (records : List (List ℕ))
    (stood : HasRecords old it.slot (log_start it.head.format) records)
    (holds : LogHolds new log records) where
  -- the slots had the records
  slots_had : (had : SlotsRepresentIn it.head.format it.head.id records left)
      × (had.slot ≡ it.slot) × (had.generation ≡ it.head.generation)
  slots_had =
      let own = some_of (left it.slot) (HasHead it.head) c.head in
      let log_is : Represents (drop (log_start it.head.format) own.0) records =
      subst (λ (file : Option (List ℕ)).
      IsSomeAnd file (λ bytes. Represents (drop (log_start it.head.format) bytes) records))
      (kept.read it.slot c.one ∙ own.1) stood in (
        record {
          slot = it.slot;
          one = c.one;
          generation = it.head.generation;
          limit = c.limit;
          counting = subst (λ (file : Option (List ℕ)). IsSomeAnd file
              (IsSlotIn it.head.format it.head.generation it.head.id records)) (sym own.1)
              (record { head = own.2; log = log_is });
          other = yields it left c;
        },
        refl,
        refl,
      )

  -- and hold them
  slots_hold : (slots : SlotPair) → slots ≡ record {
    slot = it.slot;
    generation = it.head.generation;
    id = it.head.id;
    other_is_open = it.other_is_open;
    log = log;
  } → SlotsHoldIn it.head.format new slots it.head.id records
  slots_hold slots is =
      let own = some_of (left it.slot) (HasHead it.head) c.head in
      let other = some_of (left (other_slot it.slot)) _ c.other in
      let here : IsDurableAs new it.slot holds.bytes =
      subst (λ (f : ℕ). IsDurableAs new f holds.bytes) at.in_file holds.sure in
      let same : holds.bytes ≡ own.0 =
      same_bytes old new it.slot own.0 holds.bytes
      (kept.durable it.slot c.one own.0 own.1) here adds in
      subst (λ (s : SlotPair). SlotsHoldIn it.head.format new s it.head.id records) (sym is)
      (record {
        one = c.one;
        is_id = refl;
        limit = c.limit;
        at = at;
        log = holds;
        head = subst (HasHead it.head) (sym same) own.2;
        other_bytes = other.0;
        other_sure = adds.others (other_slot it.slot) (others_differ it.slot c.one)
            ∙ kept.durable (other_slot it.slot) (other_one it.slot c.one) other.0 other.1;
        other = other.2.0;
        gate = other.2.1;
      })

  -- and read as before
  slots_read : SlotsRead new left
  slots_read slot one =
      let own = some_of (left it.slot) (HasHead it.head) c.head in
      let here : IsDurableAs new it.slot holds.bytes =
      subst (λ (f : ℕ). IsDurableAs new f holds.bytes) at.in_file holds.sure in
      let same : holds.bytes ≡ own.0 =
      same_bytes old new it.slot own.0 holds.bytes
      (kept.durable it.slot c.one own.0 own.1) here adds in
      elim (cases_eq slot it.slot) [
        | inl is ↦ subst (λ (f : ℕ). seen (new f) ≡ left f) (sym is)
            (ap seen here ∙ ap Some same ∙ sym own.1)
        | inr apart ↦ ap seen (adds.others slot apart) ∙ kept.read slot one
      ]

  -- what the slots had, and hold
  record HaveAndHold (slots : SlotPair) (id : ℕ) (given : List (List ℕ)) : Type 0 where
    pub had : SlotsRepresentIn it.head.format id given left
    pub slot : had.slot ≡ it.slot
    pub generation : had.generation ≡ it.head.generation
    pub held : SlotsHoldIn it.head.format new slots id given

  -- so the version that they give is opened
  pub opened_is : (slots : SlotPair) (id : ℕ) (named : NodeVersion) (changes : List Change)
      → slots ≡ record {
        slot = it.slot;
        generation = it.head.generation;
        id = it.head.id;
        other_is_open = it.other_is_open;
        log = log;
      } → id ≡ it.head.id → IsId id → IsEditHistory it.head.format changes
      → records ≡ map (change_text_in it.head.format) changes
      → named ≡ record { id = id; version = after_all empty changes }
      → AreOpened it.head.format left new slots named
  opened_is slots id named changes is of_node node history spelled gives =
      let both : HaveAndHold slots id (map (change_text_in it.head.format) changes) =
      subst (HaveAndHold slots id) spelled
      (subst (λ (i : ℕ). HaveAndHold slots i records) (sym of_node) (record {
        had = slots_had.0;
        slot = slots_had.1;
        generation = slots_had.2;
        held = slots_hold slots is;
      })) in
      subst (AreOpened it.head.format left new slots) (sym gives) (record {
        id = node;
        changes = changes;
        history = history;
        is = refl;
        had = both.had;
        slot = both.slot ∙ sym (ap (λ (s : SlotPair). s.slot) is);
        generation = both.generation ∙ sym (ap (λ (s : SlotPair). s.generation) is);
        holds = both.held;
        read = slots_read;
      })
