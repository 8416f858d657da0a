-- The reader of an edit gives what was spelled.
use Rattle.std.proofs.Common.{◌≡◌, ℕ, ◌<◌, ◌≤◌, ◌^◌}
use Rattle.std.proofs.Common.{List, [], ◌++◌, length, Option, Some, None, All, refl}
use Rattle.std.proofs.Common.{sym, ap, subst, ◌∙◌, cond, ◌==◌}
use Rattle.std.proofs.Common.{append_assoc}
use Rattle.std.proofs.lemmas.List.{append-nil, nil_from_length}
use Rattle.std.proofs.lemmas.List.Elements.{All-weaker}
use Rattle.std.specs.Prelude.{Result, Ok, Err, IfOk, IsErrOf}
use Rattle.std.specs.Int.{w32, w64, to_be_bytes}
use Rattle.std.proofs.lemmas.Bool.{eqb-true}
use Rattle.byte_fields.specs.ReadersLemmas.{Reads, both_reads, made_reads}
use Rattle.byte_fields.specs.ReadersLemmas.{counted_reads}
use Rattle.byte_fields.specs.ReadersLemmas.{right_reads}
use Rattle.configurations.specs.{TestDecidesConfig, config_text}
use Rattle.kv_types.specs.declared.bounds.TheConstants.{MAX_NUMBER}
use Rattle.byte_fields.specs.FieldsLemmas.{IsBytes, BeginsWith, bind_some, some_is}
use Rattle.byte_fields.specs.declared.format.Format.{Format}
use Rattle.byte_fields.specs.declared.format.Format.TheVariants as formats
use Rattle.version_edits.specs.declared.error.EditError.{EditError}
use Rattle.version_edits.specs.declared.error.EditError.TheVariants as edit_error
use Rattle.version_edits.specs.Versions.{Change}
use Rattle.version_edits.specs.Edits.{log_line_bytes, table_name_bytes}
use Rattle.version_edits.specs.Edits.{table_line_bytes, change_text_in}
use Rattle.version_edits.specs.Edits.{HasRowKeys, IsTableLine, IsTableLineIn, IsLogLine}
use Rattle.version_edits.specs.Edits.{IsChange, IsChangeIn, ChangesDiffer, counted_bytes}
use Rattle.version_edits.specs.Reading.{files_at, logs_at, names_at}
use Rattle.version_edits.specs.Reading.{tables_at, as_change, change_front, change_of}
use Rattle.version_edits.specs.Reading.{ReadsChange, Fields}
use Rattle.version_edits.proofs.LineLaws.{IsName, config_reads, epoch_reads, log_reads, name_reads}
use Rattle.version_edits.proofs.LineLaws.{next_reads, passed, table_reads, u16_reads, whole_reads}

-- ---- an edit

files_reads : Reads (λ files. (length files < 2 ^ 16) × All (λ file. file ≤ MAX_NUMBER) files)
    (counted_bytes (λ file. to_be_bytes w64 file)) files_at
unfolding files_at
files_reads = counted_reads u16_reads whole_reads

logs_reads : Reads (λ lines. (length lines < 2 ^ 16) × All IsLogLine lines)
    (counted_bytes log_line_bytes) logs_at
unfolding logs_at
logs_reads = counted_reads u16_reads log_reads

names_reads : Reads (λ names. (length names < 2 ^ 16) × All IsName names)
    (counted_bytes table_name_bytes) names_at
unfolding names_at
names_reads = counted_reads u16_reads name_reads

tables_reads : (format : Format)
    → Reads (λ lines. (length lines < 2 ^ 16) × All (IsTableLineIn format) lines)
    (counted_bytes (table_line_bytes format)) (tables_at format)
unfolding tables_at
tables_reads format = counted_reads u16_reads (table_reads format)

-- an edit whose lines a format spells is one that it spells
in_format : (format : Format) (c : Change) → (All IsTableLine c.tables_added → IsChange c)
    → All (IsTableLineIn format) c.tables_added → IsChangeIn format c
in_format formats.One c plain all = (
  plain (All-weaker (IsTableLineIn formats.One) IsTableLine (λ line is. is.0) c.tables_added all),
  All-weaker (IsTableLineIn formats.One) HasRowKeys (λ line is. is.1) c.tables_added all,
)
in_format formats.Two c plain all = plain all

-- and the other way round
of_format : (format : Format) (c : Change) → IsChangeIn format c
    → IsChange c × All (IsTableLineIn format) c.tables_added
of_format formats.One c is =
    (is.0, λ k d lt. (is.0.tables_added.1 k d lt, is.1 k d lt))
of_format formats.Two c is = (is, is.tables_added.1)

-- which is an edit
pub is_change : (format : Format) (c : Change) → IsChangeIn format c → IsChange c
is_change format c is = (of_format format c is).0

-- which are edits
pub all_changes : (format : Format) (changes : List Change) → All (IsChangeIn format) changes
    → All IsChange changes
all_changes format changes each =
    All-weaker (IsChangeIn format) IsChange (is_change format) changes each

abbrev fields_of : Change → Fields
fields_of c = (
  c.next_file,
  (
    c.floor,
    (
      c.flushed,
      (
        c.epoch,
        (
          c.ids,
          (
            c.logs_gone,
            (
              c.logs_added,
              (c.tables_gone, c.tables_added),
            ),
          ),
        ),
      ),
    ),
  ),
)

-- the same text, grouped otherwise
regrouped : (a b c d e f g h i : List ℕ)
    → a ++ (b ++ (c ++ (d ++ (e ++ (f ++ (g ++ (h ++ i)))))))
    ≡ a ++ b ++ c ++ d ++ e ++ f ++ g ++ h ++ i
regrouped a b c d e f g h i = simp append_assoc

grouped : (format : Format) (c : Change)
    → to_be_bytes w64 c.next_file ++ (to_be_bytes w64 c.floor
    ++ (to_be_bytes w64 c.flushed ++ (to_be_bytes w32 c.epoch
    ++ (config_text c.ids
    ++ (counted_bytes (λ file. to_be_bytes w64 file) c.logs_gone
    ++ (counted_bytes log_line_bytes c.logs_added
    ++ (counted_bytes table_name_bytes c.tables_gone
    ++ counted_bytes (table_line_bytes format) c.tables_added)))))))
    ≡ change_text_in format c
unfolding change_text_in
grouped format c =
    regrouped (to_be_bytes w64 c.next_file) (to_be_bytes w64 c.floor) (to_be_bytes w64 c.flushed)
    (to_be_bytes w32 c.epoch) (config_text c.ids)
    (counted_bytes (λ file. to_be_bytes w64 file) c.logs_gone)
    (counted_bytes log_line_bytes c.logs_added)
    (counted_bytes table_name_bytes c.tables_gone)
    (counted_bytes (table_line_bytes format) c.tables_added)

spelled_reads : {A : Type 0} {Is : A → Type 0} {spell : A → List ℕ} {read : List ℕ
    → Option (A × List ℕ)}
    (other : A → List ℕ) → ((a : A) → spell a ≡ other a) → Reads Is spell read
    → Reads Is other read
spelled_reads {A} {Is} {spell} {read} other same r =
    record {
      takes = λ bytes x fits e.
          let t = r.takes bytes x fits e in
          (subst (λ (s : List ℕ). BeginsWith bytes s x.1) (same x.0) t.0, t.1);
      again = λ a rest is. ap (λ (s : List ℕ). read (s ++ rest)) (sym (same a)) ∙ r.again a rest is;
    }

pub change_reads : TestDecidesConfig → (format : Format)
    → Reads (IsChangeIn format) (change_text_in format) (change_front format)
unfolding change_front
change_reads decides format =
    right_reads
    (λ c is. in_format format c (λ lines. record {
      next_file = is.0;
      floor = is.1.0;
      flushed = is.1.1.0;
      epoch = is.1.1.1.0;
      ids = is.1.1.1.1.0;
      logs_gone = is.1.1.1.1.1.0;
      logs_added = is.1.1.1.1.1.1.0;
      tables_gone = is.1.1.1.1.1.1.1.0;
      tables_added = (is.1.1.1.1.1.1.1.1.0, lines);
    }) is.1.1.1.1.1.1.1.1.1)
    (λ c spelled.
    let parts = of_format format c spelled in
    let is = parts.0 in (
      is.next_file,
      (
        is.floor,
        (
          is.flushed,
          (
            is.epoch,
            (
              is.ids,
              (
                is.logs_gone,
                (is.logs_added, (is.tables_gone, (is.tables_added.0, parts.1))),
              ),
            ),
          ),
        ),
      ),
    ))
    (spelled_reads (change_text_in format) (grouped format)
    (made_reads as_change fields_of (λ c. refl) (λ x. refl)
    (both_reads next_reads (both_reads whole_reads (both_reads whole_reads
    (both_reads epoch_reads (both_reads (config_reads decides) (both_reads files_reads
    (both_reads logs_reads (both_reads names_reads (tables_reads format)))))))))))

-- all of the bytes

again_whole : TestDecidesConfig → (format : Format) (change : Change) → IsChangeIn format change
    → change_front format (change_text_in format change) ≡ Some (change, [])
again_whole decides format change is =
    ap (change_front format) (sym (append-nil (change_text_in format change)))
    ∙ (change_reads decides format).again change [] is

pub change_again : TestDecidesConfig → (format : Format) (change : Change)
    → IsChangeIn format change → change_of format (change_text_in format change) ≡ Some change
unfolding change_of
change_again decides format change is = rw (again_whole decides format change is) refl

is_ended : (rest : List ℕ) (change found : Change)
    → (cond (length rest == 0) (Some change) None) ≡ Some found → (rest ≡ []) × (change ≡ found)
is_ended rest change found e =
    let p = passed (length rest == 0) change found e in
    (nil_from_length rest (eqb-true (length rest) 0 p.0), p.1)

pub change_takes : TestDecidesConfig → (format : Format) (bytes : List ℕ) (change : Change)
    → IsBytes bytes → change_of format bytes ≡ Some change
    → (bytes ≡ change_text_in format change) × IsChangeIn format change
unfolding change_of
change_takes decides format bytes change fits e =
    let x = bind_some (change_front format bytes)
    (λ x. cond (length x.1 == 0) (Some x.0) None) change e in
    let t = (change_reads decides format).takes bytes x.0 fits x.1 in
    let z = is_ended x.0.1 x.0.0 change x.2 in
    let whole : bytes ≡ change_text_in format x.0.0 =
    t.0.parts ∙ ap (λ (r : List ℕ). change_text_in format x.0.0 ++ r) z.0
    ∙ append-nil (change_text_in format x.0.0) in
    subst (λ (c : Change). (bytes ≡ change_text_in format c) × IsChangeIn format c) z.1 (whole, t.1)

pub one_spelling : TestDecidesConfig → ChangesDiffer
one_spelling decides format a b is_a is_b same =
    some_is a b (sym (change_again decides format a is_a) ∙ ap (change_of format) same
    ∙ change_again decides format b is_b)

-- ---- what a reader of an edit returns

pub change_found : TestDecidesConfig → (format : Format) (result : Result Change EditError)
    (bytes : List ℕ) → IsBytes bytes
    → ReadsChange result (change_of format bytes)
    → IfOk result (λ change. IsChangeIn format change × (bytes ≡ change_text_in format change))
change_found decides format (Ok change) bytes fits e =
    let t = change_takes decides format bytes change fits e in (t.1, t.0)
change_found decides format (Err e) bytes fits h = tt

-- what it found is an edit
pub change_is : TestDecidesConfig → (format : Format) (result : Result Change EditError)
    (bytes : List ℕ) → IsBytes bytes
    → ReadsChange result (change_of format bytes) → IfOk result IsChange
change_is decides format (Ok change) bytes fits e =
    is_change format change (change_takes decides format bytes change fits e).1
change_is decides format (Err e) bytes fits h = tt

pub change_bad : TestDecidesConfig → (format : Format) (result : Result Change EditError)
    (bytes : List ℕ)
    → ReadsChange result (change_of format bytes) → IsErrOf result edit_error.Damaged
    → (change : Change) → IsChangeIn format change → bytes ≡ change_text_in format change → ⊥
change_bad decides format (Ok found) bytes h e change is same = absurd cc
change_bad decides format (Err edit_error.Damaged) bytes h e change is same =
    let some : change_of format bytes ≡ Some change =
    ap (change_of format) same ∙ change_again decides format change is in
    absurd (cc (h, some))
change_bad decides format (Err edit_error.Memory) bytes h e change is same = absurd cc
