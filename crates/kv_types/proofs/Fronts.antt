-- What a reader of the front of bytes returned, in the words of the spelling.
use Rattle.std.proofs.Common.{◌≡◌, ℕ, ◌≤◌, ◌<◌, ◌^◌, List, ◌++◌, length, Some, None}
use Rattle.std.proofs.Common.{ap, ◌∙◌}
use Rattle.kv_types.specs.Content.{BatchContent}
use Rattle.kv_types.specs.Spelling.{batch_bytes, IsBatch}
use Rattle.byte_fields.specs.{text_bytes, text_at}
use Rattle.kv_types.specs.Reading.{batch_at}
use Rattle.byte_fields.specs.TextsLemmas.{text_again}
use Rattle.kv_types.specs.BatchesLemmas.{front_again}

-- where nothing is read, the bytes do not begin so
pub no_text : (limit : ℕ) (bytes : List ℕ) → limit < 2 ^ 16 → text_at limit bytes ≡ None
    → (t rest : List ℕ) → length t ≤ limit → bytes ≡ text_bytes t ++ rest → ⊥
no_text limit bytes lt none t rest short parts =
    let some : text_at limit bytes ≡ Some (t, rest) =
    ap (text_at limit) parts ∙ text_again limit t rest short lt in
    absurd cc

-- where no batch is read, the bytes begin with none
pub no_batch : (bytes : List ℕ) → batch_at bytes ≡ None → (batch : BatchContent) (rest : List ℕ)
    → IsBatch batch → bytes ≡ batch_bytes batch ++ rest → ⊥
no_batch bytes none batch rest is parts =
    let some : batch_at bytes ≡ Some (batch, rest) =
    ap batch_at parts ∙ front_again batch rest is in
    absurd cc
