-- The records of a store's logs of batches.
use Rattle.std.specs.Prelude.{ℕ, suc, List, [], ◌∷◌, ◌++◌, Option, IsSomeAnd}
use Rattle.std.specs.Int.{w64, to_be_bytes}
use Rattle.kv_types.specs.{BatchContent, batch_bytes}
use Rattle.record_log.specs.{Represents}

-- the record of a batch: its number and its spelling
abbrev pub batch_record : ℕ → BatchContent → List ℕ
batch_record number batch = to_be_bytes w64 number ++ batch_bytes batch

-- the records of batches that are numbered from this one on, without a gap
abbrev pub records_from : ℕ → List BatchContent → List (List ℕ)
records_from number [] = []
records_from number (batch ∷ batches) =
    batch_record number batch ∷ records_from (suc number) batches

-- the file exists, and is a log of these records
abbrev pub IsLog : Option (List ℕ) → List (List ℕ) → Type 0
IsLog file records = IsSomeAnd file (λ bytes. Represents bytes records)
