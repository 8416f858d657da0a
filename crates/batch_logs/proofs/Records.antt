-- The records of batches that are numbered without a gap.
use Rattle.std.proofs.Common.{◌≡◌, ℕ, zero, suc, ◌+◌, ◌≤◌, List, [], ◌∷◌, ◌++◌, length, take}
use Rattle.std.proofs.Common.{None, Some, sym, ap, ◌∙◌, length-append}
use Rattle.std.proofs.Common.{arith}
use Rattle.std.specs.Prelude.{All, Option, SomeIff, slice_get}
use Rattle.std.proofs.lemmas.List.Elements.{All-head, All-tail}
use Rattle.std.specs.Int.{w64, to_be_bytes}
use Rattle.kv_types.specs.{BatchContent, IsBatch, batch_bytes}
use Rattle.batch_logs.specs.Layout.{batch_record, records_from}

-- one batch more is one record more
pub records_from-push : (number : ℕ) (list : List BatchContent) (batch : BatchContent) →
    records_from number (list ++ batch ∷ [])
    ≡ records_from number list ++ batch_record (number + length list) batch ∷ []
records_from-push number [] batch = ap (λ (n : ℕ). batch_record n batch ∷ []) (omega arith)
records_from-push number (first ∷ list) batch =
    let others : List (List ℕ) = records_from (suc number) list in
    ap (λ (r : List (List ℕ)). batch_record number first ∷ r)
    (records_from-push (suc number) list batch
    ∙ ap (λ (n : ℕ). others ++ batch_record n batch ∷ []) (omega arith))

-- a record of batches is that of a batch of its number
pub record Numbered (number : ℕ) (bytes : List ℕ) : Type 0 where
  pub batch : BatchContent
  pub is_batch : IsBatch batch
  pub spelled : bytes ≡ batch_record number batch

pub numbered_at : (number : ℕ) (list : List BatchContent) (i : ℕ) (bytes : List ℕ) →
    All IsBatch list → slice_get (records_from number list) i ≡ Some bytes →
    Numbered (number + i) bytes
numbered_at number [] i bytes each got = absurd cc
numbered_at number (first ∷ list) zero bytes each got =
    let same : batch_record number first ≡ bytes = cc in
    record {
      batch = first;
      is_batch = All-head IsBatch first list each;
      spelled = sym same ∙ ap (λ (n : ℕ). batch_record n first) (omega arith);
    }
numbered_at number (first ∷ list) (suc i) bytes each got =
    let below = numbered_at (suc number) list i bytes (All-tail IsBatch first list each) got in
    record {
      batch = below.batch;
      is_batch = below.is_batch;
      spelled = below.spelled ∙ ap (λ (n : ℕ). batch_record n below.batch) (omega arith);
    }

pub take_suc : (records : List (List ℕ)) (i : ℕ) (one : List ℕ) → slice_get records i ≡ Some one →
    take (suc i) records ≡ take i records ++ one ∷ []
take_suc [] i one got = absurd cc
take_suc (x ∷ records) zero one got =
    let same : x ≡ one = cc in
    ap (λ (y : List ℕ). y ∷ []) same
take_suc (x ∷ records) (suc i) one got =
    ap (λ (l : List (List ℕ)). x ∷ l) (take_suc records i one got)

-- the number that was made
pub made_of : (o : Option ℕ) (P : Type 0) (value number : ℕ) → SomeIff o P value →
    o ≡ Some number → number ≡ value
made_of None P value number made some = absurd cc
made_of (Some it) P value number made some =
    let same : it ≡ number = cc in
    sym same ∙ made.1

-- a record of a batch is shorter than the limit of a log
pub record_fits : (number : ℕ) (batch : BatchContent) → IsBatch batch →
    length (batch_record number batch) ≤ 16777216
record_fits number batch is =
    let short = is.short in
    omega (arith, length-append (to_be_bytes w64 number) (batch_bytes batch), short)

pub spelled_fits : (bytes : List ℕ) (number : ℕ) (batch : BatchContent) →
    bytes ≡ batch_record number batch → IsBatch batch → length bytes ≤ 16777216
spelled_fits bytes number batch is batch_is =
    omega (arith, ap length is, record_fits number batch batch_is)
