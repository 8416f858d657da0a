-- The slot that counts, of either format.
use Rattle.std.proofs.Common.{◌≡◌, ◌∙◌, ◌<◌, ◌≤◌, ℕ, List, Bool, Option, refl, sym, subst, take}
use Rattle.std.proofs.Common.{inl, inr, arith}
use Rattle.std.specs.Prelude.{IsSomeAnd}
use Rattle.kv_types.specs.declared.bounds.TheConstants.{MAX_NUMBER}
use Rattle.disk.specs.{Contents}
use Rattle.manifest.specs.declared.head.CountingSlot.{CountingSlot}
use Rattle.manifest.specs.declared.head.OpenHead.{OpenHead}
use Rattle.byte_fields.specs.declared.format.Format.{Format}
use Rattle.byte_fields.specs.declared.format.Format.TheVariants as formats
use Rattle.manifest.specs.Heads.{HasHead, SlotCounts}
use Rattle.manifest.specs.Slots.{HasHeadIn, HasOldHead, IsOldStore, IsOpenSlot, IsSlotIn}
use Rattle.manifest.specs.Slots.{IsSuperseded, SlotsRepresent, SlotsRepresentIn, head_length}
use Rattle.manifest.specs.Slots.{other_slot, slot_head}
use Rattle.manifest.proofs.Slots.{below, gate_of, not_both, some_as, some_both}

-- a slot with a head of this format is open
pub opens_by : (format : Format) (g id : ℕ) (bytes : List ℕ) → HasHeadIn format g id bytes
    → IsOpenSlot g bytes
opens_by formats.One g id bytes old = (id, inr old)
opens_by formats.Two g id bytes head = (id, inl head)

pub opens : (it : OpenHead) (bytes : List ℕ) → HasHead it bytes → IsOpenSlot it.generation bytes
opens it bytes is = opens_by it.format it.generation it.id bytes is

-- ---- one slot counts

-- the other slot yields
pub yields : (it : CountingSlot) (left : Contents) → SlotCounts it left
    → IsSomeAnd (left (other_slot it.slot)) (IsSuperseded it.head.generation)
yields it left c =
    some_as (left (other_slot it.slot)) _ (IsSuperseded it.head.generation) (λ bytes is. is.0)
    c.other

-- a slot that counts, and yields to another
lesser : (file : Option (List ℕ)) (g : ℕ) (it : OpenHead) → g ≤ MAX_NUMBER
    → it.generation ≤ MAX_NUMBER → IsSomeAnd file (HasHead it)
    → IsSomeAnd file (IsSuperseded g) → it.generation < g
lesser file g it small short is yielded =
    some_both file (HasHead it) (IsSuperseded g) (it.generation < g)
    (λ bytes head to. below g it.generation bytes small (omega (arith, short)) (opens it bytes head)
    to) is yielded

module _ (left : Contents) (a b : CountingSlot) (p : SlotCounts a left) (q : SlotCounts b left)
  where
    -- two slots cannot both count
    not_two : b.slot ≡ other_slot a.slot → a.slot ≡ other_slot b.slot → ⊥
    not_two at_b at_a =
        let less : b.head.generation < a.head.generation =
        lesser (left b.slot) a.head.generation b.head p.limit q.limit q.head
        (subst (λ (f : ℕ). IsSomeAnd (left f) (IsSuperseded a.head.generation)) (sym at_b)
        (yields a left p)) in
        let more : a.head.generation < b.head.generation =
        lesser (left a.slot) b.head.generation a.head q.limit p.limit p.head
        (subst (λ (f : ℕ). IsSomeAnd (left f) (IsSuperseded b.head.generation)) (sym at_a)
        (yields b left q)) in
        omega (arith, less, more)

    pub one_counts : a.slot ≡ b.slot
    one_counts =
        elim p.one [
          | inl s ↦ elim q.one [
            | inl t ↦ s ∙ sym t
            | inr t ↦ absurd (not_two (omega (arith, s, t)) (omega (arith, s, t)))
          ]
          | inr s ↦ elim q.one [
            | inl t ↦ absurd (not_two (omega (arith, s, t)) (omega (arith, s, t)))
            | inr t ↦ s ∙ sym t
          ]
        ]

-- ---- of which format

-- a slot that counts
abbrev pub counting_by : Format → (slot generation id : ℕ) → Bool → CountingSlot
counting_by format slot generation id is_open = record {
  slot = slot;
  head = record { format = format; generation = generation; id = id };
  other_is_open = is_open;
}

-- where slots represent records in a format, one of it counts
pub represent_counts : (format : Format) (id : ℕ) (records : List (List ℕ)) (left : Contents)
    → (r : SlotsRepresentIn format id records left)
    → (is_open : Bool) × SlotCounts (counting_by format r.slot r.generation id is_open) left
represent_counts format id records left r =
    let gate = gate_of (left (other_slot r.slot)) r.generation r.other in (
      gate.0,
      record {
        one = r.one;
        limit = r.limit;
        head = some_as (left r.slot) (IsSlotIn format r.generation id records)
            (HasHeadIn format r.generation id) (λ bytes slot. slot.head) r.counting;
        other = gate.1;
      },
    )

-- in an old store one of format 1
pub old_counts : (left : Contents) → (o : IsOldStore left)
    → (is_open : Bool) × SlotCounts (counting_by formats.One o.slot o.generation o.id is_open) left
old_counts left o =
    let gate = gate_of (left (other_slot o.slot)) o.generation o.other in
    (gate.0, record { one = o.one; limit = o.limit; head = o.counting; other = gate.1 })

-- bytes begin with a head of one format
one_format : (format other : Format) (g h id next : ℕ) (bytes : List ℕ)
    → HasHeadIn format g id bytes → HasHeadIn other h next bytes → format ≡ other
one_format formats.One formats.One g h id next bytes a b = refl
one_format formats.One formats.Two g h id next bytes a b =
    absurd (not_both h next g id bytes b a)
one_format formats.Two formats.One g h id next bytes a b =
    absurd (not_both g id h next bytes a b)
one_format formats.Two formats.Two g h id next bytes a b = refl

module _ (it : CountingSlot) (left : Contents) (c : SlotCounts it left) where
  -- slots represent records in the format of the one that counts, which has them
  pub counted : (format : Format) (id : ℕ) (records : List (List ℕ))
      → (r : SlotsRepresentIn format id records left)
      → IsSomeAnd (left it.slot) (IsSlotIn format r.generation id records)
  counted format id records r =
      let other = represent_counts format id records left r in
      let same : r.slot ≡ it.slot = one_counts left
      (counting_by format r.slot r.generation id other.0) it other.1 c in
      subst (λ (f : ℕ). IsSomeAnd (left f) (IsSlotIn format r.generation id records)) same
      r.counting

  pub counts_in : (format : Format) (id : ℕ) (records : List (List ℕ))
      → SlotsRepresentIn format id records left → format ≡ it.head.format
  counts_in format id records r =
      some_both (left it.slot) (IsSlotIn format r.generation id records) (HasHead it.head)
      (format ≡ it.head.format)
      (λ bytes slot head. one_format format it.head.format r.generation it.head.generation id
      it.head.id bytes slot.head head) (counted format id records r) c.head

  -- a slot of format 1 that counts makes an old store
  pub is_old : it.head.format ≡ formats.One → IsOldStore left
  is_old one = record {
    slot = it.slot;
    one = c.one;
    generation = it.head.generation;
    limit = c.limit;
    id = it.head.id;
    counting = subst (λ (f : Format).
        IsSomeAnd (left it.slot) (HasHeadIn f it.head.generation it.head.id)) one c.head;
    other = yields it left c;
  }

  -- the head of one of format 2
  pub new_head : it.head.format ≡ formats.Two → IsSomeAnd (left it.slot)
      (λ bytes. take head_length bytes ≡ slot_head it.head.generation it.head.id)
  new_head two =
      subst (λ (f : Format).
      IsSomeAnd (left it.slot) (HasHeadIn f it.head.generation it.head.id)) two c.head

  -- which makes none
  pub not_old : it.head.format ≡ formats.Two → IsOldStore left → ⊥
  not_old two o =
      let old = old_counts left o in
      let same : o.slot ≡ it.slot = one_counts left
      (counting_by formats.One o.slot o.generation o.id old.0) it old.1 c in
      some_both (left it.slot)
      (λ bytes. take head_length bytes ≡ slot_head it.head.generation it.head.id)
      (HasOldHead o.generation o.id) ⊥
      (λ bytes head is. not_both it.head.generation it.head.id o.generation o.id bytes head is)
      (new_head two)
      (subst (λ (f : ℕ). IsSomeAnd (left f) (HasOldHead o.generation o.id)) same o.counting)

-- an old store has no records
pub old_represents_none : (id : ℕ) (records : List (List ℕ)) (left : Contents)
    → SlotsRepresent id records left → IsOldStore left → ⊥
old_represents_none id records left r =
    let new = represent_counts formats.Two id records left r in
    not_old (counting_by formats.Two r.slot r.generation id new.0) left new.1 refl
