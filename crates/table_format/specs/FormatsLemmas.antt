-- The number of a format that is read is the one that was spelled.
use Rattle.std.proofs.Common.{◌≡◌, ℕ, zero, suc, ◌<◌, ◌^◌, List, ◌++◌, length, Some}
use Rattle.std.proofs.Common.{ap, arith, refl, subst}
use Rattle.std.specs.Int.{w32}
use Rattle.std.proofs.lemmas.List.{length-map}
use Rattle.byte_fields.specs.{◌>>=◌, StoredKey, bytes_of, number_at}
use Rattle.byte_fields.specs.FieldsLemmas.{BeginsWith, IsBytes, bind_some, some_is}
use Rattle.byte_fields.specs.ReadersLemmas.{Reads, number_reads, wide32}
use Rattle.byte_fields.specs.declared.format.Format.{Format}
use Rattle.byte_fields.specs.declared.format.Format.TheVariants.{One, Two}
use Rattle.table_format.specs.Blocks.{be32}
use Rattle.table_format.specs.Formats.{filter_keys, format_at, format_number, format_numbered}

-- ---- the number of a format

-- a format has its own number
pub has_its_number : (n : ℕ) (format : Format) → format_numbered n ≡ Some format
    → n ≡ format_number format
has_its_number zero format e = absurd cc
has_its_number (suc zero) format e = ap format_number (some_is One format e)
has_its_number (suc (suc zero)) format e = ap format_number (some_is Two format e)
has_its_number (suc (suc (suc n))) format e = absurd cc

-- formats of one number are one
pub same_number : (a b : Format) → format_number a ≡ format_number b → a ≡ b
same_number One One e = refl
same_number One Two e = absurd (omega (arith, e))
same_number Two One e = absurd (omega (arith, e))
same_number Two Two e = refl

-- the number of a format fits its field
pub number_short : (format : Format) → format_number format < 2 ^ 32
number_short One = omega arith
number_short Two = omega arith

format_takes : (bytes : List ℕ) (x : Format × List ℕ) → IsBytes bytes → format_at bytes ≡ Some x
    → BeginsWith bytes (be32 (format_number x.0)) x.1 × Unit {0}
unfolding format_at
format_takes bytes x fits e =
    let a = bind_some (number_at w32 bytes)
    (λ n. format_numbered n.0 >>= λ format. Some (format, n.1)) x e in
    let b = bind_some (format_numbered a.0.0) (λ format. Some (format, a.0.1)) x a.2 in
    let t = (number_reads w32 (2 ^ 32) wide32).takes bytes a.0 fits a.1 in
    let found : Format × List ℕ = (b.0, a.0.1) in
    subst (λ (y : Format × List ℕ). BeginsWith bytes (be32 (format_number y.0)) y.1 × Unit {0})
    (some_is found x b.2) (
      subst (λ (n : ℕ). BeginsWith bytes (be32 n) a.0.1) (has_its_number a.0.0 b.0 b.1) t.0,
      tt,
    )

format_again : (format : Format) (rest : List ℕ) → Unit {0}
    → format_at (be32 (format_number format) ++ rest) ≡ Some (format, rest)
unfolding format_at
format_again One rest is =
    rw ((number_reads w32 (2 ^ 32) wide32).again 1 rest (omega arith)) refl
format_again Two rest is =
    rw ((number_reads w32 (2 ^ 32) wide32).again 2 rest (omega arith)) refl

-- a format is read by its number as it is spelled
pub format_reads : Reads (λ format. Unit {0}) (λ format. be32 (format_number format)) format_at
format_reads = record { takes = format_takes; again = format_again }

-- ---- filters

-- a filter holds as much for keys as there are keys
pub length-filter_keys : (format : Format) (keys : List StoredKey)
    → length (filter_keys format keys) ≡ length keys
length-filter_keys One keys = length-map keys bytes_of
length-filter_keys Two keys = refl
