-- A stored key that is read is the one that was spelled.
use Rattle.std.proofs.Common.{◌≡◌, ℕ, zero, suc, ◌≤◌, List, [], ◌∷◌, ◌++◌, length}
use Rattle.std.proofs.Common.{Some, refl, ap, subst, arith}
use Rattle.byte_fields.specs.Readers.{◌>>=◌}
use Rattle.byte_fields.specs.Texts.{text_at, text_bytes}
use Rattle.byte_fields.specs.FieldsLemmas.{BeginsWith, IsBytes, IsBytes-rest, bind_some, some_is}
use Rattle.byte_fields.specs.ReadersLemmas.{Reads, right_reads}
use Rattle.byte_fields.specs.TextsLemmas.{text_again, text_begins}
use Rattle.byte_fields.specs.declared.format.Format.{Format}
use Rattle.byte_fields.specs.declared.format.Format.TheVariants.{One, Two}
use Rattle.byte_fields.specs.declared.stored_key.TheConstants.{MAX_KEY}
use Rattle.byte_fields.specs.StoredKeys.{IsKeyOf, IsStoredKey, StoredKey, bytes_of, key_at}
use Rattle.byte_fields.specs.StoredKeys.{key_at_in, key_bytes, key_bytes_in, row_key, space_of}

space_takes : (space : ℕ) (bytes : List ℕ) (x : StoredKey × List ℕ) → space ≤ 1 → IsBytes bytes
    → (text_at MAX_KEY bytes >>= λ text. Some (space ∷ text.0, text.1)) ≡ Some x
    → BeginsWith (space ∷ bytes) (key_bytes x.0) x.1 × IsStoredKey x.0
space_takes space bytes x le fits e =
    let a = bind_some (text_at MAX_KEY bytes) (λ text. Some (space ∷ text.0, text.1)) x e in
    let t = text_begins MAX_KEY bytes a.0 fits a.1 in
    let found : StoredKey × List ℕ = (space ∷ a.0.0, a.0.1) in
    subst (λ (y : StoredKey × List ℕ). BeginsWith (space ∷ bytes) (key_bytes y.0) y.1
    × IsStoredKey y.0)
    (some_is found x a.2) (
      record {
        parts = ap (λ (w : List ℕ). space ∷ w) t.0.parts;
        rest_fits = t.0.rest_fits;
      },
      (le, t.1),
    )

key_takes : (bytes : List ℕ) (x : StoredKey × List ℕ) → IsBytes bytes → key_at bytes ≡ Some x
    → BeginsWith bytes (key_bytes x.0) x.1 × IsStoredKey x.0
unfolding key_at
key_takes [] x fits e = absurd cc
key_takes (zero ∷ bytes) x fits e =
    space_takes 0 bytes x (omega arith) (IsBytes-rest 0 bytes fits) e
key_takes (suc zero ∷ bytes) x fits e =
    space_takes 1 bytes x (omega arith) (IsBytes-rest 1 bytes fits) e
key_takes (suc (suc b) ∷ bytes) x fits e = absurd cc

key_again : (key : StoredKey) (rest : List ℕ) → IsStoredKey key
    → key_at (key_bytes key ++ rest) ≡ Some (key, rest)
unfolding key_at
key_again [] rest is = absurd (let le = is.0 in omega (arith, le))
key_again (zero ∷ bytes) rest is =
    rw (text_again MAX_KEY bytes rest is.1 (omega arith)) refl
key_again (suc zero ∷ bytes) rest is =
    rw (text_again MAX_KEY bytes rest is.1 (omega arith)) refl
key_again (suc (suc b) ∷ bytes) rest is = absurd (let le = is.0 in omega (arith, le))

-- a stored key is read as it is spelled
pub key_reads : Reads IsStoredKey key_bytes key_at
key_reads = record { takes = key_takes; again = key_again }

-- a stored key is spelled in at most 1,027 bytes
pub key_bytes-short : (key : StoredKey) → IsStoredKey key → length (key_bytes key) ≤ 1027
key_bytes-short [] is = omega arith
key_bytes-short (space ∷ bytes) is = let le = is.1 in omega (arith, le)

-- ---- formats

-- the key of a row, which a file of format 1 may have
abbrev IsRowKey : StoredKey → Type 0
IsRowKey key = IsStoredKey key × (space_of key ≡ 0)

row_takes : (bytes : List ℕ) (x : StoredKey × List ℕ) → IsBytes bytes
    → (text_at MAX_KEY bytes >>= λ text. Some (row_key text.0, text.1)) ≡ Some x
    → BeginsWith bytes (text_bytes (bytes_of x.0)) x.1 × IsRowKey x.0
row_takes bytes x fits e =
    let a = bind_some (text_at MAX_KEY bytes) (λ text. Some (row_key text.0, text.1)) x e in
    let t = text_begins MAX_KEY bytes a.0 fits a.1 in
    let found : StoredKey × List ℕ = (row_key a.0.0, a.0.1) in
    subst (λ (y : StoredKey × List ℕ). BeginsWith bytes (text_bytes (bytes_of y.0)) y.1
    × IsRowKey y.0)
    (some_is found x a.2) (t.0, ((omega arith, t.1), refl))

row_again : (key : StoredKey) (rest : List ℕ) → IsRowKey key
    → key_at_in One (key_bytes_in One key ++ rest) ≡ Some (key, rest)
unfolding key_at_in
row_again [] rest is = absurd (let e = is.1 in omega (arith, e))
row_again (zero ∷ bytes) rest is =
    rw (text_again MAX_KEY bytes rest is.0.1 (omega arith)) refl
row_again (suc b ∷ bytes) rest is = absurd (let e = is.1 in omega (arith, e))

-- a key is read as a file of the format spells it
pub key_reads_in : (format : Format)
    → Reads (λ key. IsStoredKey key × IsKeyOf format key) (key_bytes_in format) (key_at_in format)
unfolding key_at_in
key_reads_in One = record { takes = row_takes; again = row_again }
key_reads_in Two = right_reads (λ key is. (is, tt)) (λ key is. is.0) key_reads
