-- The reader of each field reads back its spelling.
use Rattle.std.proofs.Common.{◌≡◌, ℕ, zero, suc, ◌<◌, ◌≤◌, ◌^◌, Bool, true, false, ◌&&◌}
use Rattle.std.proofs.Common.{List, ◌++◌, length, Option, Some, None, IfSome, All, refl}
use Rattle.std.proofs.Common.{sym}
use Rattle.std.proofs.Common.{ap, subst, ◌∙◌, arith, nat_le}
use Rattle.std.specs.List.{flat_map, sum_by}
use Rattle.std.specs.Prelude.{IsSomeAnd, option_map}
use Rattle.std.specs.Int.{w8, w16, w32, w64}
use Rattle.std.proofs.lemmas.Bool.{leb-true, le-leb}
use Rattle.configurations.specs.{IsConfig, TestDecidesConfig, is_config, config_text, IsId}
use Rattle.byte_fields.specs.declared.stored_key.TheConstants.{MAX_KEY}
use Rattle.kv_types.specs.declared.bounds.TheConstants.{MAX_VALUE, MAX_ROWS, MAX_PAGE, MAX_NUMBER}
use Rattle.kv_types.specs.{IsBatch, batch_bytes as batch_text, row_size, batch_at}
use Rattle.byte_fields.specs.{text_bytes, ◌>>=◌, text_at, only, number_at}
use Rattle.byte_fields.specs.FieldsLemmas.{IsBytes, bind_some, some_is}
use Rattle.byte_fields.specs.FieldsLemmas.{BeginsWith}
use Rattle.byte_fields.specs.TextsLemmas.{text_begins, text_again}
use Rattle.kv_types.specs.BatchesLemmas.{batch_begins, front_again}
use Rattle.chain_model.specs.declared.Refusal.{Refusal}
use Rattle.chain_model.specs.declared.Refusal.TheVariants as refused
use Rattle.link_messages.specs.Spelling.{u8, u16, u32, u64, optional, at_text}
use Rattle.link_messages.specs.Spelling.{range_text, row_text, page_text, refusal_number, IsEpoch}
use Rattle.link_messages.specs.Spelling.{IsNumber}
use Rattle.link_messages.specs.Spelling.{IsPlace, IsKey, IsValue, IsRange, IsRow, IsSmall}
use Rattle.link_messages.specs.Reading.{epoch_at, id_at}
use Rattle.link_messages.specs.Reading.{count_at, place_at, at_at, found_at, bound_at, limit_at}
use Rattle.link_messages.specs.Reading.{range_at, as_range, row_at, as_row, rows_at, page_at}
use Rattle.link_messages.specs.Reading.{as_page}
use Rattle.link_messages.specs.Reading.{config_at}
use Rattle.link_messages.specs.Reading.{refusal_of, refusal_at}
use Rattle.byte_fields.specs.ReadersLemmas.{Reads, both_reads, made_reads, only_reads, number_reads}
use Rattle.byte_fields.specs.ReadersLemmas.{counted_reads, wide8, wide16}
use Rattle.link_messages.proofs.Readers.{truth_reads, optional_reads}
use Rattle.byte_fields.specs.ReadersLemmas.{wide32, wide64, right_reads, nothing_read}

-- ---- tests

pub both_true : (a b : Bool) → (a && b) ≡ true → (a ≡ true) × (b ≡ true)
both_true true b e = (refl, e)
both_true false b e = absurd cc

is_refusal : (x y : Refusal) → Some x ≡ Some y → x ≡ y
is_refusal x y e = cc

-- ---- numbers

pub u8_reads : Reads (λ n. n < 256) u8 (number_at w8)
u8_reads = number_reads w8 256 wide8

u16_reads : Reads (λ n. n < 2 ^ 16) u16 (number_at w16)
u16_reads = number_reads w16 (2 ^ 16) wide16

u32_reads : Reads (λ n. n < 2 ^ 32) u32 (number_at w32)
u32_reads = number_reads w32 (2 ^ 32) wide32

u64_reads : Reads (λ n. n < 2 ^ 64) u64 (number_at w64)
u64_reads = number_reads w64 (2 ^ 64) wide64

pub epoch_reads : Reads IsEpoch u32 epoch_at
unfolding epoch_at
epoch_reads =
    only_reads (λ n. nat_le n 15) (λ n is t. leb-true n 15 t)
    (λ n is. (omega (arith, is), le-leb n 15 is)) u32_reads

pub id_reads : Reads IsId u16 id_at
unfolding id_at
id_reads =
    only_reads (λ n. nat_le 1 n) (λ n is t. (leb-true 1 n t, omega (arith, is)))
    (λ n is. (omega (arith, is.1), le-leb 1 n is.0)) u16_reads

pub count_reads : Reads IsNumber u64 count_at
unfolding count_at
count_reads =
    only_reads (λ n. nat_le n MAX_NUMBER) (λ n is t. leb-true n MAX_NUMBER t)
    (λ n is. (omega (arith, is), le-leb n MAX_NUMBER is)) u64_reads

pub place_reads : Reads IsPlace u64 place_at
unfolding place_at
place_reads =
    only_reads (λ n. nat_le 1 n) (λ n is t. (leb-true 1 n t, is))
    (λ n is. (is.1, le-leb 1 n is.0)) count_reads

pub at_reads : Reads (λ at. IfSome at IsNumber) at_text at_at
unfolding at_at
at_reads = optional_reads count_reads

-- ---- texts and batches

pub key_reads : Reads IsKey text_bytes (text_at MAX_KEY)
key_reads = record {
  takes = λ bytes x fits e. text_begins MAX_KEY bytes x fits e;
  again = λ key rest is. text_again MAX_KEY key rest is (omega arith);
}

pub value_reads : Reads IsValue text_bytes (text_at MAX_VALUE)
value_reads = record {
  takes = λ bytes x fits e. text_begins MAX_VALUE bytes x fits e;
  again = λ value rest is. text_again MAX_VALUE value rest is (omega arith);
}

pub found_reads : Reads (λ value. IfSome value IsValue) (optional text_bytes) found_at
unfolding found_at
found_reads = optional_reads value_reads

bound_reads : Reads (λ to. IfSome to IsKey) (optional text_bytes) bound_at
unfolding bound_at
bound_reads = optional_reads key_reads

pub batch_reads : Reads IsBatch batch_text batch_at
batch_reads = record { takes = batch_begins; again = front_again }

-- ---- a configuration

pub config_reads : TestDecidesConfig → Reads IsConfig config_text config_at
unfolding config_at
config_reads decides =
    only_reads is_config (λ ids is t. (decides ids).0 t)
    (λ ids is. (
      (omega (arith, is.few), λ k d lt. omega (arith, (is.each k d lt).1)),
      (decides ids).1 is,
    ))
    (counted_reads u8_reads u16_reads)

-- the value that `Config::read_from` found is the value that is read
pub config_front : TestDecidesConfig → {R : Type 0} (now : R → List ℕ) (bytes : List ℕ)
    (found : Option (List ℕ × R)) → IsBytes bytes
    → IfSome found (λ x. (bytes ≡ config_text x.0 ++ now x.1) × IsConfig x.0)
    → ((ids rest : List ℕ) → IsConfig ids → bytes ≡ config_text ids ++ rest
    → IsSomeAnd found (λ x. (x.0 ≡ ids) × (now x.1 ≡ rest)))
    → option_map (λ x. (x.0, now x.1)) found ≡ config_at bytes
config_front decides now bytes (Some x) fits is each =
    rw is.0 (sym ((config_reads decides).again x.0 (now x.1) is.1))
config_front decides now bytes None fits is each =
    sym (nothing_read (config_reads decides) bytes fits each)

-- ---- ranges, rows and pages

limit_reads : Reads (λ n. (1 ≤ n) × (n ≤ MAX_ROWS)) u32 limit_at
unfolding limit_at
limit_reads =
    only_reads (λ n. nat_le 1 n && nat_le n MAX_ROWS)
    (λ n is t. let p = both_true (nat_le 1 n) (nat_le n MAX_ROWS) t in
    (leb-true _ _ p.0, leb-true _ _ p.1))
    (λ n is. (omega (arith, is.1), rw (le-leb _ _ is.0, le-leb _ _ is.1) refl)) u32_reads

pub range_reads : Reads IsRange range_text range_at
unfolding range_at
range_reads =
    right_reads (λ range is. record { from = is.0; to = is.1.0; limit = is.1.1.1 })
    (λ range is. (is.from, (is.to, (tt, is.limit))))
    (made_reads as_range (λ r. (r.from, (r.to, (r.backward, r.limit)))) (λ r. refl) (λ x. refl)
    (both_reads key_reads (both_reads bound_reads (both_reads truth_reads limit_reads))))

pub row_reads : Reads IsRow row_text row_at
unfolding row_at
row_reads =
    made_reads as_row (λ row. (row.key, row.value)) (λ row. refl) (λ x. refl)
    (both_reads key_reads value_reads)

row_count_reads : Reads (λ n. n ≤ MAX_ROWS) u16 (only (λ n. nat_le n MAX_ROWS) (number_at w16))
row_count_reads =
    only_reads (λ n. nat_le n MAX_ROWS) (λ n is t. leb-true n MAX_ROWS t)
    (λ n is. (omega (arith, is), le-leb n MAX_ROWS is)) u16_reads

rows_reads : Reads (λ rows. (length rows ≤ MAX_ROWS) × All IsRow rows)
    (λ rows. u16 (length rows) ++ flat_map row_text rows) rows_at
unfolding rows_at
rows_reads = counted_reads row_count_reads row_reads

pub page_reads : Reads IsSmall page_text page_at
unfolding page_at
page_reads =
    only_reads (λ page. nat_le (sum_by row_size page.rows) MAX_PAGE)
    (λ page is t. record { each = is.1.1; limits = (is.1.0, leb-true _ _ t) })
    (λ page is. ((tt, (is.limits.0, is.each)), le-leb _ _ is.limits.1))
    (made_reads as_page (λ page. (page.more, page.rows)) (λ page. refl) (λ x. refl)
    (both_reads truth_reads rows_reads))

-- ---- refusals

code_of : (n : ℕ) (refusal : Refusal) → refusal_of n ≡ Some refusal → refusal_number refusal ≡ n
code_of zero r e = absurd cc
code_of (suc zero) r e = ap refusal_number (is_refusal _ _ (sym e))
code_of (suc (suc zero)) r e = ap refusal_number (is_refusal _ _ (sym e))
code_of (suc (suc (suc zero))) r e = ap refusal_number (is_refusal _ _ (sym e))
code_of (suc (suc (suc (suc zero)))) r e = ap refusal_number (is_refusal _ _ (sym e))
code_of (suc (suc (suc (suc (suc zero))))) r e = ap refusal_number (is_refusal _ _ (sym e))
code_of (suc (suc (suc (suc (suc (suc zero)))))) r e = ap refusal_number (is_refusal _ _ (sym e))
code_of (suc (suc (suc (suc (suc (suc (suc zero))))))) r e = ap refusal_number
    (is_refusal _ _ (sym e))
code_of (suc (suc (suc (suc (suc (suc (suc (suc zero)))))))) r e =
    ap refusal_number (is_refusal _ _ (sym e))
code_of (suc (suc (suc (suc (suc (suc (suc (suc (suc zero))))))))) r e =
    ap refusal_number (is_refusal _ _ (sym e))
code_of (suc (suc (suc (suc (suc (suc (suc (suc (suc (suc n)))))))))) r e = absurd cc

refusal_of_code : (refusal : Refusal) → refusal_of (refusal_number refusal) ≡ Some refusal
refusal_of_code refused.NotRunning = refl
refusal_of_code refused.NotHead = refl
refusal_of_code refused.TooOld = refl
refusal_of_code refused.NotCommitted = refl
refusal_of_code refused.NoSuchSnapshot = refl
refusal_of_code refused.TooManySnapshots = refl
refusal_of_code refused.Removed = refl
refusal_of_code refused.Exhausted = refl
refusal_of_code refused.OldRequest = refl

small_code : (refusal : Refusal) → refusal_number refusal < 256
small_code refused.NotRunning = omega arith
small_code refused.NotHead = omega arith
small_code refused.TooOld = omega arith
small_code refused.NotCommitted = omega arith
small_code refused.NoSuchSnapshot = omega arith
small_code refused.TooManySnapshots = omega arith
small_code refused.Removed = omega arith
small_code refused.Exhausted = omega arith
small_code refused.OldRequest = omega arith

pub refusal_reads : Reads (λ refusal. Unit {0}) (λ refusal. u8 (refusal_number refusal)) refusal_at
unfolding refusal_at
refusal_reads = record {
  takes = λ bytes x fits e.
      let n = bind_some (number_at w8 bytes)
      (λ refusal_number. refusal_of refusal_number.0 >>= λ refusal. Some
      (refusal, refusal_number.1)) x e in
      let r = bind_some (refusal_of n.0.0) (λ refusal. Some (refusal, n.0.1)) x n.2 in
      let t = u8_reads.takes bytes n.0 fits n.1 in
      let whole : BeginsWith bytes (u8 (refusal_number r.0)) n.0.1 =
      subst (λ (k : ℕ). BeginsWith bytes (u8 k) n.0.1) (sym (code_of n.0.0 r.0 r.1)) t.0 in
      let found : Refusal × List ℕ = (r.0, n.0.1) in
      subst (λ (y : Refusal × List ℕ). BeginsWith bytes (u8 (refusal_number y.0)) y.1 × Unit {0})
      (some_is found x r.2) (whole, tt);
  again = λ refusal rest is.
      ap (λ (o : Option (ℕ × List ℕ)). o >>= λ refusal_number. refusal_of refusal_number.0 >>=
      λ refusal. Some
      (refusal, refusal_number.1))
      (u8_reads.again (refusal_number refusal) rest (small_code refusal))
      ∙ ap (λ (o : Option Refusal). o >>= λ refusal. Some (refusal, rest))
      (refusal_of_code refusal);
}
