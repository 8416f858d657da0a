-- Entries that are read are those that were spelled.
use Rattle.std.proofs.Common.{◌≡◌, ℕ, zero, suc, ◌≤◌, List, [], ◌∷◌, ◌++◌, length, Option, Some}
use Rattle.std.proofs.Common.{None}
use Rattle.std.proofs.Common.{IfSome, refl, ap, subst, arith, nat_le, ◌^◌}
use Rattle.std.proofs.lemmas.Bool.{leb-true, le-leb}
use Rattle.byte_fields.specs.{StoredKey}
use Rattle.kv_types.specs.declared.bounds.TheConstants.{MAX_VALUE, MAX_NUMBER}
use Rattle.byte_fields.specs.{◌>>=◌, text_at}
use Rattle.byte_fields.specs.FieldsLemmas.{IsBytes, IsBytes-rest, bind_some, some_is, BeginsWith}
use Rattle.byte_fields.specs.TextsLemmas.{text_begins, text_again}
use Rattle.byte_fields.specs.ReadersLemmas.{Reads, both_reads, made_reads, only_reads, right_reads}
use Rattle.byte_fields.specs.ReadersLemmas.{number_reads, wide64}
use Rattle.kv_types.specs.{Entry}
use Rattle.table_format.specs.Blocks.{IsEntryOf, be64, change_bytes, entry_bytes}
use Rattle.byte_fields.specs.SpelledKeysLemmas.{key_reads_in}
use Rattle.table_format.specs.Reading.{as_entry, change_at, stored_number_at, table_entry_at}
use Rattle.byte_fields.specs.declared.format.Format.{Format}

-- a number is read as it is spelled
pub count_reads : Reads (λ n. n ≤ MAX_NUMBER) be64 stored_number_at
unfolding stored_number_at
count_reads =
    only_reads (λ n. nat_le n MAX_NUMBER) (λ n is t. leb-true n MAX_NUMBER t)
    (λ n is. (omega (arith, is), le-leb n MAX_NUMBER is)) (number_reads _ (2 ^ 64) wide64)

abbrev IsChange : Option (List ℕ) → Type 0
IsChange value = IfSome value (λ v. length v ≤ MAX_VALUE)

put_takes : (bytes : List ℕ) (x : Option (List ℕ) × List ℕ) → IsBytes bytes
    → (text_at MAX_VALUE bytes >>= λ value. Some (Some value.0, value.1)) ≡ Some x
    → BeginsWith (1 ∷ bytes) (change_bytes x.0) x.1 × IsChange x.0
put_takes bytes x fits e =
    let a = bind_some (text_at MAX_VALUE bytes) (λ value. Some (Some value.0, value.1)) x e in
    let t = text_begins MAX_VALUE bytes a.0 fits a.1 in
    let found : Option (List ℕ) × List ℕ = (Some a.0.0, a.0.1) in
    subst (λ (y : Option (List ℕ) × List ℕ). BeginsWith (1 ∷ bytes) (change_bytes y.0) y.1
    × IsChange y.0)
    (some_is found x a.2) (
      record { parts = ap (λ (w : List ℕ). 1 ∷ w) t.0.parts; rest_fits = t.0.rest_fits },
      t.1,
    )

change_takes : (bytes : List ℕ) (x : Option (List ℕ) × List ℕ) → IsBytes bytes
    → change_at bytes ≡ Some x → BeginsWith bytes (change_bytes x.0) x.1 × IsChange x.0
unfolding change_at
change_takes [] x fits e = absurd cc
change_takes (zero ∷ bytes) x fits e = absurd cc
change_takes (suc zero ∷ bytes) x fits e = put_takes bytes x (IsBytes-rest 1 bytes fits) e
change_takes (suc (suc zero) ∷ bytes) x fits e =
    let found : Option (List ℕ) × List ℕ = (None, bytes) in
    subst (λ (y : Option (List ℕ) × List ℕ). BeginsWith (2 ∷ bytes) (change_bytes y.0) y.1
    × IsChange y.0)
    (some_is found x e) (record { parts = refl; rest_fits = IsBytes-rest 2 bytes fits }, tt)
change_takes (suc (suc (suc b)) ∷ bytes) x fits e = absurd cc

change_again : (value : Option (List ℕ)) (rest : List ℕ) → IsChange value
    → change_at (change_bytes value ++ rest) ≡ Some (value, rest)
unfolding change_at
change_again (Some value) rest is = rw (text_again MAX_VALUE value rest is (omega arith)) refl
change_again None rest is = refl

change_reads : Reads IsChange change_bytes change_at
change_reads = record { takes = change_takes; again = change_again }

abbrev as_parts : Entry → StoredKey × (ℕ × Option (List ℕ))
as_parts entry = (entry.key, (entry.number, entry.value))

-- an entry that is read is the one that was spelled
pub entry_reads : (format : Format)
    → Reads (IsEntryOf format) (entry_bytes format) (table_entry_at format)
unfolding table_entry_at
entry_reads format =
    right_reads
    (λ entry is. record {
      limits = record { key = is.0.0; number = is.1.0; value = is.1.1 };
      key = is.0.1;
    })
    (λ entry is. ((is.limits.key, is.key), (is.limits.number, is.limits.value)))
    (made_reads as_entry as_parts (λ entry. refl) (λ x. refl)
    (both_reads (key_reads_in format) (both_reads count_reads change_reads)))
