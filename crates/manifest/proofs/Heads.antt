-- The heads of the slots, as they are read, and which slot counts.
use Rattle.std.proofs.Common.{◌≡◌, ◌≢◌, ◌∙◌, ◌^◌, ◌<◌, ◌≤◌, ℕ, List, ◌∷◌, ◌++◌, ap, arith, drop}
use Rattle.std.proofs.Common.{take, get_or, length, Option, Some, None, Bool, true, false}
use Rattle.std.proofs.Common.{Result, Ok, Err, refl, sym, subst, inl, inr}
use Rattle.std.specs.Prelude.{MatchResult, ◌⊎◌, IsSomeAnd}
use Rattle.std.proofs.lemmas.List.{take-append-drop, length-take}
use Rattle.std.specs.Int.{w16, w64, to_be_bytes}
use Rattle.byte_fields.specs.FieldsLemmas.{BeginsWith, IsBytes}
use Rattle.byte_fields.specs.{number_at}
use Rattle.byte_fields.specs.ReadersLemmas.{number_reads, wide16, wide64}
use Rattle.kv_types.specs.declared.bounds.TheConstants.{MAX_NUMBER}
use Rattle.disk.specs.{Contents, IsEnvironmental}
use Rattle.record_log.specs.{IsClosed}
use Rattle.manifest.specs.declared.error.ManifestError.{ManifestError}
use Rattle.manifest.specs.declared.error.ManifestError.TheVariants as manifest
use Rattle.manifest.specs.declared.head.CountingSlot.{CountingSlot}
use Rattle.manifest.specs.declared.head.Head.{Head}
use Rattle.manifest.specs.declared.head.Head.TheVariants as heads
use Rattle.manifest.specs.declared.head.OpenHead.{OpenHead}
use Rattle.byte_fields.specs.declared.format.Format.{Format}
use Rattle.byte_fields.specs.declared.format.Format.TheVariants as formats
use Rattle.manifest.specs.Heads.{EndsBeforeLog, HasHead, HeadIs, HeadYields}
use Rattle.manifest.specs.Heads.{HeadsCount, HeadsRefuse, IsBlank, IsFilled, NoneCounts, SlotCounts}
use Rattle.manifest.specs.Replace.{HasGate}
use Rattle.manifest.specs.Slots.{HasHeadIn, HasOldHead, IsClosedOrAbsent, IsOpenSlot}
use Rattle.manifest.specs.Slots.{IsSuperseded}
use Rattle.manifest.specs.Slots.{head_length, old_head_length, old_slot_head, other_slot, slot_head}
use Rattle.manifest.proofs.Counting.{opens, yields}
use Rattle.manifest.proofs.Slots.{begins_more, begins_open, below, no_zero, not_closed}
use Rattle.manifest.proofs.Slots.{one_generation}
use Rattle.manifest.proofs.Slots.{open_gate, open_length, some_as, some_both}

-- ---- bytes behind an open gate

module _ (behind r s : List ℕ) (g old : ℕ) (fits : IsBytes behind)
    (one : number_at w64 behind ≡ Some (g, r)) (two : number_at w16 r ≡ Some (old, s)) where
  generation : BeginsWith behind (to_be_bytes w64 g) r × (g < 2 ^ 64)
  generation = (number_reads w64 (2 ^ 64) wide64).takes behind (g, r) fits one

  place : BeginsWith r (to_be_bytes w16 old) s × (old < 2 ^ 16)
  place = (number_reads w16 (2 ^ 16) wide16).takes r (old, s) generation.0.rest_fits two

  whole : behind ≡ to_be_bytes w64 g ++ (to_be_bytes w16 old ++ s)
  whole = generation.0.parts ∙ ap (λ (l : List ℕ). to_be_bytes w64 g ++ l) place.0.parts

  -- with an id in the place of format 1's they are of that format
  pub old_head : old ≢ 0 → HasOldHead g old (1 ∷ behind) × (g < 2 ^ 64)
  old_head some = (
    (
      (omega (arith, some), omega (arith, place.1)),
      ap (λ (l : List ℕ). take old_head_length (1 ∷ l)) whole,
    ),
    generation.1,
  )

  -- and else of format 2
  pub new_head : old ≡ 0 → (id : ℕ) (t : List ℕ) → number_at w16 s ≡ Some (id, t)
      → (take head_length (1 ∷ behind) ≡ slot_head g id) × (g < 2 ^ 64)
  new_head zero id t three =
      let last = ((number_reads w16 (2 ^ 16) wide16).takes s (id, t) place.0.rest_fits three).0 in (
        ap (λ (l : List ℕ). take head_length (1 ∷ l)) (whole
            ∙ ap (λ (l : List ℕ). to_be_bytes w64 g ++ (to_be_bytes w16 old ++ l)) last.parts
            ∙ ap (λ (x : ℕ). to_be_bytes w64 g ++ (to_be_bytes w16 x ++ (to_be_bytes w16 id ++ t)))
            zero),
        generation.1,
      )

-- ---- reads of the first bytes of a slot

has_more : (format : Format) (g id : ℕ) (bytes rest : List ℕ) → HasHeadIn format g id bytes
    → HasHeadIn format g id (bytes ++ rest)
has_more formats.One g id bytes rest old =
    (old.0, begins_more old_head_length (old_slot_head g id) bytes rest refl old.1)
has_more formats.Two g id bytes rest head =
    begins_more head_length (slot_head g id) bytes rest refl head

-- with more behind 13 bytes, a slot has their head
head_more : (head : Head) (bytes rest : List ℕ) → length bytes ≡ 13 → HeadIs head (Some bytes)
    → HeadIs head (Some (bytes ++ rest))
head_more heads.Missing bytes rest size is = absurd (omega (arith, size, ap length is))
head_more heads.Closed bytes rest size is =
    (is.0, is.1 ++ rest, is.2, ap (λ (b : List ℕ). b ++ rest) is.3)
head_more heads.Short bytes rest size is = absurd (elim is.2 [
  | inl short ↦ omega (arith, size, short)
  | inr short ↦ omega (arith, size, short.1)
])
head_more (heads.Open it) bytes rest size is =
    (has_more it.format it.generation it.id bytes rest is.0, is.1)

-- so 13 bytes that are read have the slot's
pub head_of_13 : (head : Head) (file : Option (List ℕ)) (into : List ℕ) → length into ≡ 13
    → IsFilled true file into → HeadIs head (Some into) → HeadIs head file
head_of_13 head None into size is of_into = absurd is
head_of_13 head (Some it) into size is of_into =
    let rest = drop (length into) it in
    let whole : into ++ rest ≡ it =
    ap (λ (l : List ℕ). l ++ rest) is.1 ∙ take-append-drop (length into) it in
    subst (λ (b : List ℕ). HeadIs head (Some b)) whole (head_more head into rest size of_into)

-- ---- which slot counts, by the heads

-- an open slot that ends before its log has no head
no_log : (g : ℕ) (bytes : List ℕ) → EndsBeforeLog bytes → IsOpenSlot g bytes → ⊥
no_log g bytes (inl short) is = let long = open_length g bytes is in omega (arith, short, long)
no_log g bytes (inr short) is = elim is.1 [
  | inl head ↦
      let size : length (take head_length bytes) ≡ head_length = ap length head in
      omega (arith, size, short.1, length-take head_length bytes)
  | inr old ↦ no_zero is.0 old.0 (ap (drop 9) (sym old.1) ∙ short.0)
]

-- nor has an absent one
not_there : (file : Option (List ℕ)) (g : ℕ) → HeadIs heads.Missing file
    → IsSomeAnd file (IsOpenSlot g) → ⊥
not_there None g none opened = opened
not_there (Some bytes) g none opened =
    let long = open_length g bytes opened in omega (arith, long, ap length none)

module _ (file : Option (List ℕ)) (g : ℕ) (limit : g ≤ MAX_NUMBER) where
  -- an open slot has a head with its generation
  open_of : (head : Head) → HeadIs head file → IsSomeAnd file (IsOpenSlot g)
      → (it : OpenHead) × (head ≡ heads.Open it) × (it.generation ≡ g)
  open_of heads.Missing is opened = absurd (not_there file g is opened)
  open_of heads.Closed is opened =
      absurd (some_both file IsClosed (IsOpenSlot g) ⊥ (λ bytes a b. not_closed g bytes a b) is
      opened)
  open_of heads.Short is opened =
      absurd (some_both file _ (IsOpenSlot g) ⊥ (λ bytes a b. no_log g bytes a.2 b) is opened)
  open_of (heads.Open it) is opened = (
    it,
    refl,
    some_both file (HasHead it) (IsOpenSlot g) (it.generation ≡ g)
        (λ bytes a b. one_generation it.generation g bytes is.1 (omega (arith, limit))
        (opens it bytes a) b) is.0 opened,
  )

  -- a superseded slot has a head that yields
  yields_of : (head : Head) → HeadIs head file → IsSomeAnd file (IsSuperseded g)
      → (is_open : Bool) × HeadYields g is_open head
  yields_of heads.Missing is yielded = absurd (blank file is yielded)
    where
      blank : (f : Option (List ℕ)) → HeadIs heads.Missing f → IsSomeAnd f (IsSuperseded g) → ⊥
      blank None none to = to
      blank (Some bytes) none (inl closed) =
          let gone = none in absurd (omega (arith, ap length (sym closed.3 ∙ none)))
      blank (Some bytes) none (inr lesser) = not_there (Some bytes) lesser.0 none lesser.2
  yields_of heads.Closed is yielded = (false, refl)
  yields_of heads.Short is yielded = absurd (short file is yielded)
    where
      short : (f : Option (List ℕ)) → HeadIs heads.Short f → IsSomeAnd f (IsSuperseded g) → ⊥
      short None ends to = to
      short (Some bytes) ends (inl closed) =
          closed.2 (ap (λ (l : List ℕ). get_or l 0 0) (sym closed.3 ∙ ends.1))
      short (Some bytes) ends (inr lesser) = no_log lesser.0 bytes ends.2 lesser.2
  yields_of (heads.Open it) is yielded = (
    true,
    (
      refl,
      some_both file (HasHead it) (IsSuperseded g) (it.generation < g)
          (λ bytes a b. below g it.generation bytes limit is.1 (opens it bytes a) b) is.0 yielded,
    ),
  )

-- a head that yields is of a superseded slot
superseded_of : (file : Option (List ℕ)) (g : ℕ) (is_open : Bool) (head : Head) → HeadIs head file
    → HeadYields g is_open head
    → IsSomeAnd file (λ bytes. IsSuperseded g bytes × HasGate is_open bytes)
superseded_of file g is_open heads.Missing is to = absurd to
superseded_of file g is_open heads.Closed is to =
    some_as file IsClosed (λ bytes. IsSuperseded g bytes × HasGate is_open bytes)
    (λ bytes closed. (inl closed, subst (λ (b : Bool). HasGate b bytes) (sym to) closed)) is
superseded_of file g is_open heads.Short is to = absurd to
superseded_of file g is_open (heads.Open it) is to =
    some_as file (HasHead it) (λ bytes. IsSuperseded g bytes × HasGate is_open bytes)
    (λ bytes head. (
      inr (it.generation, to.1, opens it bytes head),
      subst (λ (b : Bool). HasGate b bytes) (sym to.0)
          (open_gate it.generation bytes (opens it bytes head)),
    )) is.0

-- the head of a closed or absent slot, and of no other, is blank
blank_file : (file : Option (List ℕ)) (head : Head) → HeadIs head file → IsBlank head
    → IsClosedOrAbsent file
blank_file None head is blank = λ opened. opened
blank_file (Some bytes) heads.Missing is blank =
    λ opened. omega (arith, ap length (sym is ∙ opened.1))
blank_file (Some bytes) heads.Closed is blank =
    λ opened. is.2 (ap (λ (l : List ℕ). get_or l 0 0) (sym is.3 ∙ opened.1))
blank_file (Some bytes) heads.Short is blank = absurd blank
blank_file (Some bytes) (heads.Open it) is blank = absurd blank

blank_head : (file : Option (List ℕ)) (head : Head) → HeadIs head file → IsClosedOrAbsent file
    → IsBlank head
blank_head file heads.Missing is closed = tt
blank_head file heads.Closed is closed = tt
blank_head file heads.Short is closed =
    closed (some_as file _ (λ bytes. (rest : List ℕ) × (bytes ≡ 1 ∷ rest))
    (λ bytes short. (short.0, short.1)) is)
blank_head file (heads.Open it) is closed =
    closed (some_as file (HasHead it) (λ bytes. (rest : List ℕ) × (bytes ≡ 1 ∷ rest))
    (λ bytes head. begins_open it.generation bytes (opens it bytes head)) is.0)

module _ (left : Contents) (first second : Head) (a : HeadIs first (left 1))
    (b : HeadIs second (left 2)) where
  -- by the heads a slot counts, and so it does by the files
  slot_counts : (it : CountingSlot) → HeadsCount first second it → SlotCounts it left
  slot_counts it (inl c) =
      let here = subst (λ (h : Head). HeadIs h (left 1)) c.1.is a in
      let there = superseded_of (left 2) it.head.generation it.other_is_open second b c.1.yields in
      record {
        one = inl c.0;
        limit = c.1.limit;
        head = subst (λ (f : ℕ). IsSomeAnd (left f) (HasHead it.head)) (sym c.0) here.0;
        other = subst (λ (f : ℕ). IsSomeAnd (left (other_slot f)) (λ bytes.
            IsSuperseded it.head.generation bytes × HasGate it.other_is_open bytes)) (sym c.0)
            there;
      }
  slot_counts it (inr c) =
      let here = subst (λ (h : Head). HeadIs h (left 2)) c.1.is b in
      let there = superseded_of (left 1) it.head.generation it.other_is_open first a c.1.yields in
      record {
        one = inr c.0;
        limit = c.1.limit;
        head = subst (λ (f : ℕ). IsSomeAnd (left f) (HasHead it.head)) (sym c.0) here.0;
        other = subst (λ (f : ℕ). IsSomeAnd (left (other_slot f)) (λ bytes.
            IsSuperseded it.head.generation bytes × HasGate it.other_is_open bytes)) (sym c.0)
            there;
      }

  -- and the other way round
  heads_count : (it : CountingSlot) → SlotCounts it left
      → (other : CountingSlot) × HeadsCount first second other
  heads_count it c = elim c.one [
    | inl s ↦
        let here = some_as (left it.slot) (HasHead it.head) (IsOpenSlot it.head.generation)
        (λ bytes head. opens it.head bytes head) c.head in
        let own = open_of (left 1) it.head.generation c.limit first a
        (subst (λ (f : ℕ). IsSomeAnd (left f) (IsOpenSlot it.head.generation)) s here) in
        let to = yields_of (left 2) it.head.generation c.limit second b
        (subst (λ (f : ℕ). IsSomeAnd (left (other_slot f)) (IsSuperseded it.head.generation)) s
        (yields it left c)) in (
          record { slot = 1; head = own.0; other_is_open = to.0 },
          inl (
            refl,
            record {
              is = own.1;
              limit = subst (λ (n : ℕ). n ≤ MAX_NUMBER) (sym own.2) c.limit;
              yields = subst (λ (n : ℕ). HeadYields n to.0 second) (sym own.2) to.1;
            },
          ),
        )
    | inr s ↦
        let here = some_as (left it.slot) (HasHead it.head) (IsOpenSlot it.head.generation)
        (λ bytes head. opens it.head bytes head) c.head in
        let own = open_of (left 2) it.head.generation c.limit second b
        (subst (λ (f : ℕ). IsSomeAnd (left f) (IsOpenSlot it.head.generation)) s here) in
        let to = yields_of (left 1) it.head.generation c.limit first a
        (subst (λ (f : ℕ). IsSomeAnd (left (other_slot f)) (IsSuperseded it.head.generation)) s
        (yields it left c)) in (
          record { slot = 2; head = own.0; other_is_open = to.0 },
          inr (
            refl,
            record {
              is = own.1;
              limit = subst (λ (n : ℕ). n ≤ MAX_NUMBER) (sym own.2) c.limit;
              yields = subst (λ (n : ℕ). HeadYields n to.0 first) (sym own.2) to.1;
            },
          ),
        )
  ]

  -- where none counts by the heads, none does by the files
  none_counts : (e : ManifestError) → HeadsRefuse first second e → NoneCounts e left
  none_counts manifest.NotCreated none = record {
    first = blank_file (left 1) first a none.0;
    second = blank_file (left 2) second b none.1;
  }
  none_counts manifest.Damaged none = (
    λ blank. none.0 (
      blank_head (left 1) first a blank.first,
      blank_head (left 2) second b blank.second,
    ),
    λ it c. let other = heads_count it c in none.1 other.0 other.1,
  )
  none_counts manifest.Disk none = absurd none
  none_counts manifest.Memory none = absurd none
  none_counts manifest.Failed none = absurd none
  none_counts manifest.OldFormat none = absurd none

  -- what the heads say of the files
  pub counted_by : (result : Result CountingSlot ManifestError)
      → MatchResult result (HeadsCount first second) (HeadsRefuse first second)
      → MatchResult result (λ it. SlotCounts it left)
      (λ e. IsEnvironmental manifest.Disk manifest.Memory e ⊎ NoneCounts e left)
  counted_by (Ok it) is = slot_counts it is
  counted_by (Err e) is = inr (none_counts e is)
