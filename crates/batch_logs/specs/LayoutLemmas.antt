-- The records of batches that are numbered without a gap: how many they are, and of which batches.
use Rattle.std.proofs.Common.{◌≡◌, ◌∙◌, ℕ, suc, ◌+◌, List, [], ◌∷◌, Option, Some, None, ap, drop}
use Rattle.std.proofs.Common.{length, refl}
use Rattle.std.specs.Prelude.{All}
use Rattle.std.proofs.lemmas.List.{append-nil}
use Rattle.std.proofs.lemmas.List.Elements.{All-head, All-tail}
use Rattle.kv_types.specs.{BatchContent, IsBatch, SpellingsDiffer, batch_bytes}
use Rattle.record_log.specs.{RecordsAreUnique, ends_from}
use Rattle.batch_logs.specs.Layout.{IsLog, batch_record, records_from}

-- a log knows an end for each record
pub length-ends : (at : ℕ) (records : List (List ℕ)) →
    length (ends_from at records) ≡ length records
length-ends at [] = refl
length-ends at (first ∷ others) = ap suc (length-ends (at + 5 + length first) others)

-- each batch has a record
pub length-records : (number : ℕ) (list : List BatchContent) →
    length (records_from number list) ≡ length list
length-records number [] = refl
length-records number (batch ∷ batches) = ap suc (length-records (suc number) batches)

-- the records of a file are one list at most
pub stands_once : RecordsAreUnique → (bytes : Option (List ℕ)) (a b : List (List ℕ)) →
    IsLog bytes a → IsLog bytes b → a ≡ b
stands_once law None a b s t = absurd s
stands_once law (Some it) a b s t = law it a b s t

-- records are those of one list of batches at most
pub same_batches : SpellingsDiffer → (number : ℕ) (a b : List BatchContent) → All IsBatch a →
    All IsBatch b → records_from number a ≡ records_from number b → a ≡ b
same_batches law number [] [] each_a each_b same = refl
same_batches law number [] (y ∷ b) each_a each_b same = absurd cc
same_batches law number (x ∷ a) [] each_a each_b same = absurd cc
same_batches law number (x ∷ a) (y ∷ b) each_a each_b same =
    let first : batch_record number x ≡ batch_record number y = cc in
    let others : records_from (suc number) a ≡ records_from (suc number) b = cc in
    let texts : batch_bytes x ≡ batch_bytes y = ap (drop 8) first in
    let is_x = All-head IsBatch x a each_a in
    let is_y = All-head IsBatch y b each_b in
    let head = (law x y [] is_x is_y (append-nil (batch_bytes x) ∙ texts)).0 in
    let rest_x = All-tail IsBatch x a each_a in
    let rest_y = All-tail IsBatch y b each_b in
    let tails = same_batches law (suc number) a b rest_x rest_y others in
    cc
