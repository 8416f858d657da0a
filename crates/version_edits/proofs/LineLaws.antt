-- The readers of the fields and lines of an edit give what was spelled.
use Rattle.std.proofs.Common.{◌≡◌, ℕ, ◌<◌, ◌≤◌, ◌^◌, Bool, true, false, not}
use Rattle.std.proofs.Common.{List, [], ◌∷◌, ◌++◌, length, Option, Some, None, IfSome, refl}
use Rattle.std.proofs.Common.{sym, ap, subst, arith, nat_le, cond}
use Rattle.std.specs.Prelude.{IsSomeAnd, option_map}
use Rattle.std.specs.Int.{w8, w16, w32, w64, to_be_bytes}
use Rattle.std.specs.Ordering.{is_lt}
use Rattle.std.proofs.lemmas.Bool.{leb-true, le-leb}
use Rattle.byte_fields.specs.{IsKeyOf, IsStoredKey, Reader, StoredKey, both, mapped}
use Rattle.byte_fields.specs.{number_at, only}
use Rattle.byte_fields.specs.ReadersLemmas.{Reads, both_reads, made_reads, only_reads, number_reads}
use Rattle.byte_fields.specs.ReadersLemmas.{counted_reads, wide8, wide16, wide32, wide64}
use Rattle.byte_fields.specs.ReadersLemmas.{right_reads, nothing_read}
use Rattle.configurations.specs.{IsConfig, TestDecidesConfig, is_config, config_text}
use Rattle.byte_fields.specs.Order.{IsBelow}
use Rattle.byte_fields.specs.{stored_cmp}
use Rattle.byte_fields.specs.ByteOrderLemmas.{lt_below}
use Rattle.byte_fields.specs.SpelledKeysLemmas.{key_reads_in}
use Rattle.kv_types.specs.declared.bounds.TheConstants.{MAX_NUMBER}
use Rattle.byte_fields.specs.FieldsLemmas.{IsBytes, IsBytes-rest, BeginsWith, some_is}
use Rattle.byte_fields.specs.declared.format.Format.{Format}
use Rattle.byte_fields.specs.declared.format.Format.TheVariants as formats
use Rattle.version_edits.specs.declared.line.TheConstants.{MAX_NEXT}
use Rattle.version_edits.specs.declared.line.TableName.{TableName}
use Rattle.version_edits.specs.declared.line.TableLine.{TableLine}
use Rattle.version_edits.specs.Edits.{log_line_bytes, table_name_bytes}
use Rattle.version_edits.specs.Edits.{table_head_bytes, table_line_bytes}
use Rattle.version_edits.specs.Edits.{IsTableLine, IsTableLineIn, IsLogLine}
use Rattle.version_edits.specs.Reading.{byte_field, count_field}
use Rattle.version_edits.specs.Reading.{next_field, first_field, epoch_field}
use Rattle.version_edits.specs.Reading.{level_field}
use Rattle.version_edits.specs.Reading.{config_field, as_log, log_line_at, as_name, table_name_at}
use Rattle.version_edits.specs.Reading.{as_table, has_range, table_line_at}

-- ---- tests

pub passed : {A : Type 0} (b : Bool) (x y : A) → cond b (Some x) None ≡ Some y
    → (b ≡ true) × (x ≡ y)
passed true x y e = (refl, cc)
passed false x y e = absurd cc

false_from : (a : Bool) → (a ≡ true → ⊥) → a ≡ false
false_from true h = absurd (h refl)
false_from false h = refl

not_true : (a : Bool) → not a ≡ true → a ≡ false
not_true true e = absurd cc
not_true false e = refl

-- ---- numbers

byte_takes : (bytes : List ℕ) (x : ℕ × List ℕ) → IsBytes bytes → byte_field bytes ≡ Some x
    → BeginsWith bytes (x.0 ∷ []) x.1 × (x.0 < 256)
unfolding byte_field
byte_takes [] x fits e = absurd cc
byte_takes (b ∷ bytes) x fits e =
    let found : ℕ × List ℕ = (b, bytes) in
    subst (λ (y : ℕ × List ℕ). BeginsWith (b ∷ bytes) (y.0 ∷ []) y.1
    × (y.0 < 256)) (some_is found x e)
    (record { parts = refl; rest_fits = IsBytes-rest b bytes fits }, fits 0)

byte_again : (n : ℕ) (rest : List ℕ) → byte_field (n ∷ [] ++ rest) ≡ Some (n, rest)
unfolding byte_field
byte_again n rest = refl

byte_reads : Reads (λ n. n < 256) (λ n. n ∷ []) byte_field
byte_reads = record { takes = byte_takes; again = λ n rest is. byte_again n rest }

u8_reads : Reads (λ n. n < 256) (to_be_bytes w8) (number_at w8)
u8_reads = number_reads w8 256 wide8

pub u16_reads : Reads (λ n. n < 2 ^ 16) (to_be_bytes w16) (number_at w16)
u16_reads = number_reads w16 (2 ^ 16) wide16

u32_reads : Reads (λ n. n < 2 ^ 32) (to_be_bytes w32) (number_at w32)
u32_reads = number_reads w32 (2 ^ 32) wide32

u64_reads : Reads (λ n. n < 2 ^ 64) (to_be_bytes w64) (number_at w64)
u64_reads = number_reads w64 (2 ^ 64) wide64

pub whole_reads : Reads (λ n. n ≤ MAX_NUMBER) (to_be_bytes w64) count_field
unfolding count_field
whole_reads =
    only_reads (λ n. nat_le n MAX_NUMBER) (λ n is t. leb-true n MAX_NUMBER t)
    (λ n is. (omega (arith, is), le-leb n MAX_NUMBER is)) u64_reads

pub next_reads : Reads (λ n. n ≤ MAX_NEXT) (to_be_bytes w64) next_field
unfolding next_field
next_reads =
    only_reads (λ n. nat_le n MAX_NEXT) (λ n is t. leb-true n MAX_NEXT t)
    (λ n is. (omega (arith, is), le-leb n MAX_NEXT is)) u64_reads

first_reads : Reads (λ n. (1 ≤ n) × (n ≤ MAX_NEXT)) (to_be_bytes w64) first_field
unfolding first_field
first_reads =
    only_reads (λ n. nat_le 1 n) (λ n is t. (leb-true 1 n t, is))
    (λ n is. (is.1, le-leb 1 n is.0)) next_reads

pub epoch_reads : Reads (λ n. n ≤ 15) (to_be_bytes w32) epoch_field
unfolding epoch_field
epoch_reads =
    only_reads (λ n. nat_le n 15) (λ n is t. leb-true n 15 t)
    (λ n is. (omega (arith, is), le-leb n 15 is)) u32_reads

level_reads : Reads (λ n. n ≤ 6) (λ n. n ∷ []) level_field
unfolding level_field
level_reads =
    only_reads (λ n. nat_le n 6) (λ n is t. leb-true n 6 t)
    (λ n is. (omega (arith, is), le-leb n 6 is)) byte_reads

-- ---- a configuration

pub config_reads : TestDecidesConfig → Reads IsConfig config_text config_field
unfolding config_field
config_reads decides =
    only_reads is_config (λ ids is t. (decides ids).0 t)
    (λ ids is. let t = (decides ids).1 is in (
      (omega (arith, is.few), λ k d lt. omega (arith, (is.each k d lt).1)),
      t,
    ))
    (counted_reads u8_reads u16_reads)

-- the value that `Config::read_from` found is the value that is read
pub config_front : TestDecidesConfig → {R : Type 0} (now : R → List ℕ) (bytes : List ℕ)
    (found : Option (List ℕ × R)) → IsBytes bytes
    → IfSome found (λ x. (bytes ≡ config_text x.0 ++ now x.1) × IsConfig x.0)
    → ((ids rest : List ℕ) → IsConfig ids → bytes ≡ config_text ids ++ rest
    → IsSomeAnd found (λ x. (x.0 ≡ ids) × (now x.1 ≡ rest)))
    → option_map (λ x. (x.0, now x.1)) found ≡ config_field bytes
config_front decides now bytes (Some x) fits is each =
    rw is.0 (sym ((config_reads decides).again x.0 (now x.1) is.1))
config_front decides now bytes None fits is each =
    sym (nothing_read (config_reads decides) bytes fits each)

-- ---- lines

pub log_reads : Reads IsLogLine log_line_bytes log_line_at
unfolding log_line_at
log_reads =
    made_reads as_log (λ line. (line.file, line.first)) (λ line. refl) (λ x. refl)
    (both_reads whole_reads first_reads)

abbrev pub IsName : TableName → Type 0
IsName one = (one.level ≤ 6) × (one.file ≤ MAX_NUMBER)

pub name_reads : Reads IsName table_name_bytes table_name_at
unfolding table_name_at
name_reads =
    made_reads as_name (λ one. (one.level, one.file)) (λ one. refl) (λ x. refl)
    (both_reads level_reads whole_reads)

proper_true : (line : TableLine) → has_range line ≡ true → IsBelow line.greatest line.least → ⊥
proper_true line t below =
    let h : is_lt (stored_cmp line.greatest line.least) ≡ true =
    (lt_below line.greatest line.least).1 below in
    absurd (cc (h, not_true _ t))

proper_test : (line : TableLine) → (IsBelow line.greatest line.least → ⊥) → has_range line ≡ true
proper_test line proper =
    ap not (false_from (is_lt (stored_cmp line.greatest line.least))
    (λ t. proper ((lt_below line.greatest line.least).0 t)))

-- a table's line whose keys are of this kind
record IsLineOf (IsKey : StoredKey → Type 0) (line : TableLine) : Type 0 where
  pub level : line.level ≤ 6
  pub file : line.file ≤ MAX_NUMBER
  pub bytes : line.length < 2 ^ 63
  pub least : IsKey line.least
  pub greatest : IsKey line.greatest
  pub proper : IsBelow line.greatest line.least → ⊥

-- whose keys are read so
line_reads : {IsKey : StoredKey → Type 0} {spell : StoredKey → List ℕ} {read : Reader StoredKey}
    → Reads IsKey spell read
    → Reads (IsLineOf IsKey)
    (λ (line : TableLine). table_head_bytes line ++ (spell line.least ++ spell line.greatest))
    (only has_range (mapped as_table (both (both level_field (both count_field count_field))
    (both read read))))
line_reads keys =
    only_reads has_range
    (λ line is t. record {
      level = is.0.0;
      file = is.0.1.0;
      bytes = omega (arith, is.0.1.1);
      least = is.1.0;
      greatest = is.1.1;
      proper = proper_true line t;
    })
    (λ line is. (
      ((is.level, (is.file, omega (arith, is.bytes))), (is.least, is.greatest)),
      proper_test line is.proper,
    ))
    (made_reads as_table
    (λ line. ((line.level, (line.file, line.length)), (line.least, line.greatest)))
    (λ line. refl) (λ x. refl)
    (both_reads (both_reads level_reads (both_reads whole_reads whole_reads))
    (both_reads keys keys)))

-- ---- tables

-- the keys of a line that a file of the format may have
abbrev IsKeyIn : Format → StoredKey → Type 0
IsKeyIn format key = IsStoredKey key × IsKeyOf format key

of_parts : (format : Format) (line : TableLine) → IsLineOf (IsKeyIn format) line → IsTableLine line
of_parts format line is = record {
  level = is.level;
  file = is.file;
  bytes = is.bytes;
  least = is.least.0;
  greatest = is.greatest.0;
  proper = is.proper;
}

to_parts : (format : Format) (line : TableLine) → IsTableLine line → IsKeyOf format line.least
    → IsKeyOf format line.greatest → IsLineOf (IsKeyIn format) line
to_parts format line is least greatest = record {
  level = is.level;
  file = is.file;
  bytes = is.bytes;
  least = (is.least, least);
  greatest = (is.greatest, greatest);
  proper = is.proper;
}

-- a table's line is read as a format spells it
pub table_reads : (format : Format)
    → Reads (IsTableLineIn format) (table_line_bytes format) (table_line_at format)
unfolding table_line_at table_line_bytes
table_reads formats.One =
    right_reads
    (λ line is. (of_parts formats.One line is, (is.least.1, is.greatest.1)))
    (λ line is. to_parts formats.One line is.0 is.1.0 is.1.1)
    (line_reads (key_reads_in formats.One))
table_reads formats.Two =
    right_reads
    (λ line is. of_parts formats.Two line is)
    (λ line is. to_parts formats.Two line is tt tt)
    (line_reads (key_reads_in formats.Two))
