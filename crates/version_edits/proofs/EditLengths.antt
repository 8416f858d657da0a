-- How long an edit is.
use Rattle.std.proofs.Common.{◌≡◌, ℕ, ◌+◌, ◌*◌, ◌≤◌, List, [], ◌∷◌, ◌++◌, length, All}
use Rattle.std.proofs.Common.{sym, ap, subst, ◌∙◌, arith}
use Rattle.std.specs.List.{flat_map}
use Rattle.std.specs.Int.{w8, w16, w32, w64, to_be_bytes}
use Rattle.std.proofs.lemmas.List.{length-append}
use Rattle.std.proofs.lemmas.List.Concat.{flat_map-cons}
use Rattle.std.proofs.lemmas.List.Elements.{All-head, All-tail}
use Rattle.std.proofs.lemmas.List.Elements.{All-weaker}
use Rattle.record_log.specs.declared.log.TheConstants.{MAX_RECORD}
use Rattle.byte_fields.specs.declared.format.Format.TheVariants as formats
use Rattle.version_edits.specs.declared.line.TheConstants.{MAX_LINES}
use Rattle.byte_fields.specs.{key_bytes}
use Rattle.byte_fields.specs.SpelledKeysLemmas.{key_bytes-short}
use Rattle.version_edits.specs.declared.line.TableLine.{TableLine}
use Rattle.version_edits.specs.Versions.{StoreVersion, Change, IsFit}
use Rattle.version_edits.specs.Versions.{logs_left, tables_left, log_is_before, table_is_before}
use Rattle.configurations.specs.{config_text}
use Rattle.version_edits.specs.Edits.{IsChange, IsTableLine, change_text, change_text_in}
use Rattle.version_edits.specs.Edits.{log_line_bytes}
use Rattle.version_edits.specs.Edits.{table_name_bytes, table_line_bytes, counted_bytes}
use Rattle.version_edits.specs.Lawful.{IsVersion, full_change}
use Rattle.version_edits.proofs.Placed.{fold_length}
use Rattle.version_edits.specs.Laws.{FitEditsAreShort}
use Rattle.version_edits.proofs.Lawful.{whole_change_is}

flat_bound : {A : Type 0} (k : ℕ) (spell : A → List ℕ) (xs : List A)
    → All (λ x. length (spell x) ≤ k) xs → length (flat_map spell xs) ≤ k * length xs
flat_bound k spell [] all = omega arith
flat_bound {A} k spell (x ∷ xs) all =
    let one : length (spell x) ≤ k = All-head (λ x. length (spell x) ≤ k) x xs all in
    let others = flat_bound k spell xs (All-tail (λ x. length (spell x) ≤ k) x xs all) in
    let parts : length (flat_map spell (x ∷ xs)) ≡ length (spell x) + length (flat_map spell xs) =
    ap length (flat_map-cons spell x xs) ∙ length-append (spell x) (flat_map spell xs) in
    let mult : k * length (x ∷ xs) ≡ k + k * length xs = omega arith in
    omega (arith, one, others, parts, mult)

table_bound : (line : TableLine) → IsTableLine line
    → length (table_line_bytes formats.Two line) ≤ 2071
unfolding table_line_bytes
table_bound line is =
    let a = length-append (key_bytes line.least) (key_bytes line.greatest) in
    omega (
      arith,
      key_bytes-short line.least is.least,
      key_bytes-short line.greatest is.greatest,
      a,
      length-append (to_be_bytes w64 line.file ++ to_be_bytes w64 line.length)
          (key_bytes line.least ++ key_bytes line.greatest),
    )

lengths : (a b c d e f g h i : List ℕ)
    → length (a ++ b ++ c ++ d ++ e ++ f ++ g ++ h ++ i)
    ≡ length a + length b + length c + length d + length e + length f + length g + length h
    + length i
lengths a b c d e f g h i = simp length-append

counted_bound : {A : Type 0} (k : ℕ) (spell : A → List ℕ) (xs : List A)
    → All (λ x. length (spell x) ≤ k) xs → length (counted_bytes spell xs) ≤ 2 + k * length xs
counted_bound k spell xs all =
    let b = flat_bound k spell xs all in
    let a = length-append (to_be_bytes w16 (length xs)) (flat_map spell xs) in
    omega (arith, a, b)

pub change_is_short : (c : Change) → IsChange c → length c.logs_added ≤ MAX_LINES
    → length c.tables_added ≤ MAX_LINES → length (change_text c) ≤ MAX_RECORD
unfolding change_text_in
change_is_short c is few_logs few_tables =
    let n = lengths (to_be_bytes w64 c.next_file) (to_be_bytes w64 c.floor)
    (to_be_bytes w64 c.flushed) (to_be_bytes w32 c.epoch)
    (config_text c.ids)
    (counted_bytes (λ file. to_be_bytes w64 file) c.logs_gone)
    (counted_bytes log_line_bytes c.logs_added)
    (counted_bytes table_name_bytes c.tables_gone)
    (counted_bytes (table_line_bytes formats.Two) c.tables_added) in
    let ids : length (flat_map (λ id. to_be_bytes w16 id) c.ids) ≤ 2 * length c.ids =
    flat_bound 2 (λ id. to_be_bytes w16 id) c.ids (λ k d lt. omega arith) in
    let config : length (config_text c.ids) ≤ 33 =
    omega (
      arith,
      ids,
      is.ids.few,
      length-append (to_be_bytes w8 (length c.ids))
          (flat_map (λ id. to_be_bytes w16 id) c.ids),
    ) in
    let files : length (counted_bytes (λ file. to_be_bytes w64 file) c.logs_gone)
    ≤ 2 + 8 * length c.logs_gone =
    counted_bound 8 (λ file. to_be_bytes w64 file) c.logs_gone (λ k d lt. omega arith) in
    let logs : length (counted_bytes log_line_bytes c.logs_added) ≤ 2 + 16 * length c.logs_added =
    counted_bound 16 log_line_bytes c.logs_added (λ k d lt. omega arith) in
    let names : length (counted_bytes table_name_bytes c.tables_gone) ≤ 2 + 9 * length c.tables_gone
    =
    counted_bound 9 table_name_bytes c.tables_gone (λ k d lt. omega arith) in
    let tables : length (counted_bytes (table_line_bytes formats.Two) c.tables_added)
    ≤ 2 + 2071 * length c.tables_added =
    counted_bound 2071 (table_line_bytes formats.Two) c.tables_added
    (All-weaker IsTableLine (λ line.
    length (table_line_bytes formats.Two line) ≤ 2071) table_bound c.tables_added
    is.tables_added.1) in
    let total : 8 + 8 + 8 + 4 + length (config_text c.ids)
    + length (counted_bytes (λ file. to_be_bytes w64 file) c.logs_gone)
    + length (counted_bytes log_line_bytes c.logs_added) + length
    (counted_bytes table_name_bytes c.tables_gone)
    + length (counted_bytes (table_line_bytes formats.Two) c.tables_added) ≤ MAX_RECORD =
    omega (
      arith,
      config,
      files,
      logs,
      names,
      tables,
      is.logs_gone.0,
      is.tables_gone.0,
      few_logs,
      few_tables,
    ) in
    omega (arith, n, total)

-- the lists of an edit that may be taken
pub few_added : (v : StoreVersion) (c : Change) → IsFit v c
    → (length c.logs_added ≤ MAX_LINES) × (length c.tables_added ≤ MAX_LINES)
few_added v c fit = (
  omega (
    arith,
    fit.lawful.few_logs,
    fold_length log_is_before (logs_left c.logs_gone v.logs) c.logs_added,
  ),
  omega (
    arith,
    fit.lawful.few_tables,
    fold_length table_is_before (tables_left c.tables_gone v.tables) c.tables_added,
  ),
)

-- an edit that a version may take is a record of a log
pub fit_is_short : FitEditsAreShort
fit_is_short version change fit is =
    let few = few_added version change fit in change_is_short change is few.0 few.1

-- and so is the whole edit
pub whole_is_short : (v : StoreVersion) → IsVersion v → (bytes : List ℕ)
    → bytes ≡ change_text (full_change v) → length bytes ≤ MAX_RECORD
whole_is_short v is bytes same =
    subst (λ (t : List ℕ). length t ≤ MAX_RECORD) (sym same)
    (change_is_short (full_change v)
    (whole_change_is v is) is.lawful.few_logs is.lawful.few_tables)
