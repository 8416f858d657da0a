-- The edit of a merge, whatever its files are.
use Rattle.std.proofs.Common.{◌≡◌, ℕ, ◌+◌, ◌≤◌, List, [], ◌∷◌, length, map, Bool, All}
use Rattle.std.proofs.Common.{inl, inr, sym, ap, subst, arith, ◌∙◌}
use Rattle.std.proofs.Common.{Result, Ok, Err}
use Rattle.std.specs.Prelude.{IfOk, IsErrAnd, filter}
use Rattle.std.proofs.lemmas.Bool.{cases_Bool, cond-false, cond-true}
use Rattle.std.proofs.lemmas.List.{length-map}
use Rattle.std.proofs.lemmas.List.Elements.{All-filter, All-map, All-nil, All-weaker}
use Rattle.kv_types.specs.declared.bounds.TheConstants.{MAX_NUMBER}
use Rattle.version_edits.specs.declared.TableLine.{TableLine}
use Rattle.version_edits.specs.declared.TableName.{TableName}
use Rattle.version_edits.specs.declared.line.TheConstants.{MAX_LINES, MAX_NEXT}
use Rattle.version_edits.specs.{Change, IsChange, IsLogLine, IsTableLine, IsVersion, StoreVersion}
use Rattle.compaction.specs.Inputs.{line_name}
use Rattle.compaction.specs.Merges.{merge_change}

-- a refusal answers no edit
pub none_shaped : {T E : Type 0} (result : Result T E) (P : T → Type 0) (e : E)
    → IsErrAnd result (λ s. s ≡ e) → IfOk result P
none_shaped (Ok x) P e told = absurd told
none_shaped (Err s) P e told = tt

-- a name of a table is within its limits
abbrev pub IsProperName : TableName → Type 0
IsProperName one = (one.level ≤ 6) × (one.file ≤ MAX_NUMBER)

module _ {A : Type 0} (p : A → Bool) where
  -- no more pass a test than there are
  fewer : (xs : List A) → length (filter p xs) ≤ length xs
  fewer [] = omega arith
  fewer (x ∷ xs) =
      let rest = fewer xs in
      elim (cases_Bool (p x)) [
        | inl passed ↦ subst (λ (l : List A). length l ≤ length (x ∷ xs))
            (sym (cond-true _ _ _ passed)) (omega (arith, rest))
        | inr fails ↦ subst (λ (l : List A). length l ≤ length (x ∷ xs))
            (sym (cond-false _ _ _ fails)) (omega (arith, rest))
      ]

-- the names of some of a version's tables are few, and within their limits
pub names_proper : (version : StoreVersion) (p : TableLine → Bool) (names : List TableName)
    → IsVersion version → names ≡ map line_name (filter p version.tables)
    → (length names ≤ MAX_LINES) × All IsProperName names
names_proper version p names lawful is =
    let few = lawful.lawful.few_tables in
    let less = fewer p version.tables in
    let many = ap length is ∙ length-map (filter p version.tables) line_name in (
      omega (arith, few, less, many),
      subst (λ (l : List TableName). All IsProperName l) (sym is)
          (All-map IsProperName line_name (filter p version.tables)
          (All-filter p (λ line. IsProperName (line_name line)) version.tables
          (All-weaker IsTableLine (λ line. IsProperName (line_name line))
          (λ line it. (it.level, it.file)) version.tables lawful.lines.tables))),
    )

-- the edit of these names and lines has its shape, and is within its limits
pub shaped : (version : StoreVersion) (next_file : ℕ) (gone : List TableName)
    (added : List TableLine) (edit : Change) → IsVersion version → length gone ≤ MAX_LINES
    → All IsProperName gone → All IsTableLine added
    → length version.tables + length added ≤ MAX_LINES + length gone
    → edit ≡ merge_change version next_file gone added
    → (edit ≡ merge_change version next_file gone edit.tables_added)
    × (next_file ≤ MAX_NEXT → IsChange edit)
shaped version next_file gone added edit lawful few named proper room is = (
  is ∙ ap (λ (l : List TableLine). merge_change version next_file gone l)
      (sym (ap (λ (e : Change). e.tables_added) is)),
  λ within. subst IsChange (sym is) (record {
    next_file = within;
    floor = lawful.floor;
    flushed = lawful.flushed;
    epoch = lawful.epoch;
    ids = lawful.ids;
    logs_gone = (omega arith, All-nil (λ file. file ≤ MAX_NUMBER));
    logs_added = (omega arith, All-nil IsLogLine);
    tables_gone = (omega (arith, few), named);
    tables_added = (omega (arith, few, room), proper);
  }),
)
