-- The batches that a memtable takes from logs, one behind another.
use Rattle.std.proofs.Common.{◌≡◌, ◌⊎◌, ℕ, zero, suc, ◌+◌, ◌≤◌, List, [], ◌∷◌, ◌++◌, length}
use Rattle.std.proofs.Common.{Some, inl, inr, refl, sym, ap, subst, ◌∙◌, arith, length-append, take}
use Rattle.std.specs.Prelude.{All, slice_get}
use Rattle.std.proofs.lemmas.List.{take_all}
use Rattle.std.proofs.lemmas.List.Elements.{All-nil, All-push}
use Rattle.kv_types.specs.{BatchContent, Entry, IsBatch, entries_of}
use Rattle.memtable.specs.declared.Memtable.{Memtable}
use Rattle.memtable.specs.{TableHolds}
use Rattle.record_log.specs.declared.OpenedLog.{OpenedLog}
use Rattle.record_log.specs.{HasRead, count_of}
use Rattle.store_model.specs.{replayed_entries}
use Rattle.batch_logs.specs.Layout.{batch_record, records_from}
use Rattle.batch_logs.specs.Replaying.{AreBatchesAdded, IsBatchAdded, AddsBatch, AddsBatches}
use Rattle.batch_logs.specs.LayoutLemmas.{length-ends}
use Rattle.batch_logs.proofs.Records.{records_from-push, take_suc}

-- ---- the entries of batches behind others

at_front : (a b : List BatchContent) (i : ℕ) (x : BatchContent) → slice_get a i ≡ Some x →
    slice_get (a ++ b) i ≡ Some x
at_front [] b i x got = absurd cc
at_front (y ∷ a) b zero x got = got
at_front (y ∷ a) b (suc i) x got = at_front a b i x got

behind_front : (a b : List BatchContent) (i : ℕ) (x : BatchContent) → slice_get b i ≡ Some x →
    slice_get (a ++ b) (length a + i) ≡ Some x
behind_front [] b i x got = ap (slice_get b) (omega arith) ∙ got
behind_front (y ∷ a) b i x got =
    let at : length (y ∷ a) + i ≡ suc (length a + i) = omega arith in
    ap (slice_get (y ∷ a ++ b)) at ∙ behind_front a b i x got

-- a place of two lists is one of either
record IsBehind (b : List BatchContent) (long i : ℕ) (x : BatchContent) : Type 0 where
  place : ℕ
  is : i ≡ long + place
  got : slice_get b place ≡ Some x

in_either : (a b : List BatchContent) (i : ℕ) (x : BatchContent) → slice_get (a ++ b) i ≡ Some x →
    (slice_get a i ≡ Some x) ⊎ IsBehind b (length a) i x
in_either [] b i x got = inr (record { place = i; is = omega arith; got = got })
in_either (y ∷ a) b zero x got = inl got
in_either (y ∷ a) b (suc i) x got =
    elim (in_either a b i x got) as
    (λ _. (slice_get a i ≡ Some x) ⊎ IsBehind b (suc (length a)) (suc i) x) [
      | inl front ↦ inl front
      | inr behind ↦ inr (record {
        place = behind.place;
        is = omega (arith, behind.is);
        got = behind.got;
      })
    ]

none_at : {P : Type 0} (i : ℕ) (b : BatchContent) → slice_get [] i ≡ Some b → P
none_at i b got = absurd cc

pub none_replayed : (before flushed : ℕ) (entry : Entry)
    → replayed_entries before flushed [] entry →
    ⊥
none_replayed before flushed entry it = none_at it.0 it.1 it.2

module _ (before flushed : ℕ) (a b : List BatchContent) (entry : Entry) where
  pub replayed_front : replayed_entries before flushed a entry →
      replayed_entries before flushed (a ++ b) entry
  replayed_front it = (it.0, it.1, at_front a b it.0 it.1 it.2, it.3, it.4)

  pub replayed_behind : replayed_entries (before + length a) flushed b entry →
      replayed_entries before flushed (a ++ b) entry
  replayed_behind it =
      let at : suc (before + length a + it.0) ≡ suc (before + (length a + it.0)) = omega arith in (
        length a + it.0,
        it.1,
        behind_front a b it.0 it.1 it.2,
        subst (λ (n : ℕ). entries_of n it.1 entry) at it.3,
        it.4,
      )

  pub replayed_either : replayed_entries before flushed (a ++ b) entry →
      replayed_entries before flushed a entry
      ⊎ replayed_entries (before + length a) flushed b entry
  replayed_either it =
      elim (in_either a b it.0 it.1 it.2) as
      (λ _. replayed_entries before flushed a entry
      ⊎ replayed_entries (before + length a) flushed b entry) [
        | inl front ↦ inl (it.0, it.1, front, it.3, it.4)
        | inr behind ↦ inr (
          behind.place,
          it.1,
          behind.got,
          subst (λ (n : ℕ). entries_of n it.1 entry) (omega (arith, behind.is)) it.3,
          it.4,
        )
      ]

-- ---- what a memtable takes

-- the batches of some records, and those of more behind them
pub takes_more : (old mid new : Memtable) (before flushed : ℕ) (a b : List BatchContent) →
    AddsBatches old mid before flushed a → AddsBatches mid new (before + length a) flushed b →
    AddsBatches old new before flushed (a ++ b)
takes_more old mid new before flushed a b first second entry = (to, back)
  where
    Both : Type 0
    Both = TableHolds old entry ⊎ replayed_entries before flushed (a ++ b) entry

    to : TableHolds new entry → Both
    to holds = elim ((second entry).0 holds) as (λ _. Both) [
      | inl was ↦ elim ((first entry).0 was) as (λ _. Both) [
        | inl older ↦ inl older
        | inr front ↦ inr (replayed_front before flushed a b entry front)
      ]
      | inr behind ↦ inr (replayed_behind before flushed a b entry behind)
    ]

    back : Both → TableHolds new entry
    back (inl older) = (second entry).1 (inl ((first entry).1 (inl older)))
    back (inr it) = elim (replayed_either before flushed a b entry it) as
        (λ _. TableHolds new entry) [
          | inl front ↦ (second entry).1 (inl ((first entry).1 (inr front)))
          | inr behind ↦ (second entry).1 (inr behind)
        ]

only_first : (x b : BatchContent) (i : ℕ) → slice_get (x ∷ []) i ≡ Some b → (i ≡ 0) × (x ≡ b)
only_first x b zero got =
    let same : x ≡ b = cc in
    (refl, same)
only_first x b (suc i) got = absurd cc

-- one batch is a list of one
pub takes_one : (old new : Memtable) (number before flushed : ℕ) (batch : BatchContent) →
    number ≡ suc before → AddsBatch old new number flushed batch →
    AddsBatches old new before flushed (batch ∷ [])
takes_one old new number before flushed batch is takes entry = (to, back)
  where
    Both : Type 0
    Both = TableHolds old entry ⊎ replayed_entries before flushed (batch ∷ []) entry

    to : TableHolds new entry → Both
    to holds = elim ((takes entry).0 holds) as (λ _. Both) [
      | inl older ↦ inl older
      | inr among ↦ inr (
        0,
        batch,
        refl,
        subst (λ (n : ℕ). entries_of n batch entry) (omega (arith, is)) among.0,
        among.1,
      )
    ]

    back : Both → TableHolds new entry
    back (inl older) = (takes entry).1 (inl older)
    back (inr it) =
        let only = only_first batch it.1 it.0 it.2 in
        let at : suc (before + it.0) ≡ number = omega (arith, only.0, is) in
        (takes entry).1 (inr (
          subst (λ (n : ℕ). entries_of n batch entry) at
              (subst (λ (b : BatchContent). entries_of (suc (before + it.0)) b entry) (sym only.1)
              it.3),
          it.4,
        ))

pub takes_none : (table : Memtable) (before flushed : ℕ)
    → AddsBatches table table before flushed []
takes_none table before flushed entry = (
  λ holds. inl holds,
  λ either. elim either as (λ _. TableHolds table entry) [
    | inl holds ↦ holds
    | inr it ↦ absurd (none_replayed before flushed entry it)
  ],
)

-- the memtable took the batches of the first records
pub record TakenTo (records : List (List ℕ)) (i before flushed : ℕ) (old now : Memtable) : Type 0
  where
    pub batches : List BatchContent
    pub size : length batches ≡ i
    pub spelled : take i records ≡ records_from (suc before) batches
    pub each : All IsBatch batches
    pub entries : AddsBatches old now before flushed batches

pub none_taken : (records : List (List ℕ)) (before flushed : ℕ) (table : Memtable) →
    TakenTo records 0 before flushed table table
none_taken records before flushed table = record {
  batches = [];
  size = refl;
  spelled = refl;
  each = All-nil IsBatch;
  entries = takes_none table before flushed;
}

taken_records : (records : List (List ℕ)) (i before : ℕ) (batches : List BatchContent)
    (bytes : List ℕ) (batch : BatchContent) → length batches ≡ i →
    take i records ≡ records_from (suc before) batches → slice_get records i ≡ Some bytes →
    bytes ≡ batch_record (before + i + 1) batch →
    take (i + 1) records ≡ records_from (suc before) (batches ++ batch ∷ [])
taken_records records i before batches bytes batch size spelled got is =
    let next : i + 1 ≡ suc i = omega arith in
    let number : before + i + 1 ≡ suc before + length batches = omega (arith, size) in
    ap (λ (n : ℕ). take n records) next ∙ take_suc records i bytes got
    ∙ ap (λ (l : List (List ℕ)). l ++ bytes ∷ []) spelled
    ∙ ap (λ (r : List ℕ). records_from (suc before) batches ++ r ∷ [])
    (is ∙ ap (λ (n : ℕ). batch_record n batch) number)
    ∙ sym (records_from-push (suc before) batches batch)

-- .. and one more
pub taken_next : (records : List (List ℕ)) (i before flushed number : ℕ) (old mid new : Memtable)
    (bytes : List ℕ) → TakenTo records i before flushed old mid → slice_get records i ≡ Some bytes →
    number ≡ before + i + 1 → IsBatchAdded bytes number flushed mid new →
    TakenTo records (i + 1) before flushed old new
taken_next records i before flushed number old mid new bytes was got is taken = record {
  batches = was.batches ++ taken.batch ∷ [];
  size = omega (arith, length-append was.batches (taken.batch ∷ []), was.size);
  spelled = taken_records records i before was.batches bytes taken.batch was.size was.spelled got
      (taken.spelled ∙ ap (λ (n : ℕ). batch_record n taken.batch) is);
  each = All-push IsBatch was.batches taken.batch was.each taken.is_batch;
  entries = takes_more old mid new before flushed was.batches (taken.batch ∷ []) was.entries
      (takes_one mid new number (before + length was.batches) flushed taken.batch
      (omega (arith, is, was.size)) taken.entries);
}

-- all of them
pub all_taken : (opened : OpenedLog) (records : List (List ℕ)) (i before flushed : ℕ)
    (old new : Memtable) → HasRead opened records → count_of opened.log ≤ i →
    TakenTo records i before flushed old new → AreBatchesAdded records before flushed old new
all_taken opened records i before flushed old new read all was =
    let size : length records ≤ i =
    omega (arith, all, ap length read.ends, length-ends 0 records) in
    record {
      batches = was.batches;
      spelled = sym (take_all i records size) ∙ was.spelled;
      each = was.each;
      entries = was.entries;
    }
