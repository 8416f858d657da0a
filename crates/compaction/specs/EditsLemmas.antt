-- Items beside tables of the model stay beside them through an edit, and the ends of outputs.
use Rattle.std.proofs.Common.{◌≡◌, inl, inr, ℕ, ◌<◌, List, [], ◌∷◌, Bool, Option, Some, IfSome}
use Rattle.std.proofs.Common.{None, Result, length, sym, subst, ◌∙◌, ap, arith}
use Rattle.std.specs.Prelude.{◌==◌, ◌&&◌, not, MatchOption, MatchResult, ok_or}
use Rattle.std.specs.List.{AllZip, filter, fold, list_any}
use Rattle.std.specs.Option.{option_map}
use Rattle.std.proofs.lemmas.Bool.{cases_Bool}
use Rattle.disk.specs.{State}
use Rattle.kv_types.specs.{Entry}
use Rattle.version_edits.specs.declared.TableLine.{TableLine}
use Rattle.version_edits.specs.declared.TableName.{TableName}
use Rattle.version_edits.specs.Versions.{placed, table_is_before}
use Rattle.version_edits.specs.{IsTableLine}
use Rattle.table_builder.specs.{first_entry}
use Rattle.table_format.specs.RisingLemmas.{last_of_some}
use Rattle.table_format.specs.{last_entry}
use Rattle.store_model.specs.{KeyRange, LevelTable}
use Rattle.compaction.specs.Edits.{items_after, line_of_table, tables_after}
use Rattle.compaction.specs.Merges.{IsOutputTable}
use Rattle.compaction.specs.Plans.{IsLineOf}

-- ---- two lists, side by side

-- what stands so side by side stands so in a weaker sense
pub zip_weaker : {A B : Type 0} (R S : A → B → Type 0) → ((a : A) (b : B) → R a b → S a b)
    → (xs : List A) (ys : List B) → AllZip R xs ys → AllZip S xs ys
zip_weaker R S more [] [] zip = tt
zip_weaker R S more [] (y ∷ ys) zip = absurd zip
zip_weaker R S more (x ∷ xs) [] zip = absurd zip
zip_weaker R S more (x ∷ xs) (y ∷ ys) zip = (more x y zip.0, zip_weaker R S more xs ys zip.1)

module _ {A B : Type 0} (R : A → B → Type 0) where
  -- tests that agree leave lists side by side
  pub zip_filter : (p : A → Bool) (q : B → Bool) → ((a : A) (b : B) → R a b → p a ≡ q b)
      → (xs : List A) (ys : List B) → AllZip R xs ys → AllZip R (filter p xs) (filter q ys)
  zip_filter p q same [] [] zip = tt
  zip_filter p q same [] (y ∷ ys) zip = absurd zip
  zip_filter p q same (x ∷ xs) [] zip = absurd zip
  zip_filter p q same (x ∷ xs) (y ∷ ys) zip =
      let rest = zip_filter p q same xs ys zip.1 in
      let alike = same x y zip.0 in
      elim (cases_Bool (p x)) [
        | inl kept ↦ rw (kept, sym alike ∙ kept) (zip.0, rest)
        | inr out ↦ rw (out, sym alike ∙ out) rest
      ]

  module _ (before : A → A → Bool) (stands : B → B → Bool)
      (same : (a c : A) (b d : B) → R a b → R c d → before a c ≡ stands b d) where
    -- an element is placed in both at one place
    pub zip_placed : (xs : List A) (ys : List B) (x : A) (y : B) → AllZip R xs ys → R x y
        → AllZip R (placed before xs x) (placed stands ys y)
    zip_placed [] [] x y zip r = (r, tt)
    zip_placed [] (d ∷ ys) x y zip r = absurd zip
    zip_placed (c ∷ xs) [] x y zip r = absurd zip
    zip_placed (c ∷ xs) (d ∷ ys) x y zip r =
        let rest = zip_placed xs ys x y zip.1 r in
        let alike = same x c y d r zip.0 in
        elim (cases_Bool (before x c)) [
          | inl first ↦ rw (first, sym alike ∙ first) (r, zip)
          | inr later ↦ rw (later, sym alike ∙ later) (zip.0, rest)
        ]

    -- and so are many
    pub zip_fold : (xs : List A) (ys : List B) (more : List A) (others : List B)
        → AllZip R xs ys → AllZip R more others
        → AllZip R (fold (placed before) xs more) (fold (placed stands) ys others)
    zip_fold xs ys [] [] zip new = zip
    zip_fold xs ys [] (d ∷ others) zip new = absurd new
    zip_fold xs ys (c ∷ more) [] zip new = absurd new
    zip_fold xs ys (c ∷ more) (d ∷ others) zip new =
        zip_fold (placed before xs c) (placed stands ys d) more others
        (zip_placed xs ys c d zip new.0) new.1

-- ---- an edit

-- Items that are those of tables, in order, are so after an edit: those of the same names go, and
-- others are placed alike. Of the lines of a version, `line_of` is the identity.
pub zip_after : {A : Type 0} (line_of : A → TableLine) (R : A → LevelTable → Type 0)
    → ((a : A) (t : LevelTable) → R a t → IsLineOf (line_of a) t) → (gone : List TableName)
    (items : List A) (tables : List LevelTable) (added : List A) (outputs : List LevelTable)
    → AllZip R items tables → AllZip R added outputs
    → AllZip R (items_after line_of gone added items) (tables_after gone outputs tables)
zip_after {A} line_of R lined gone items tables added outputs old new =
    zip_fold R (λ a b. table_is_before (line_of a) (line_of b))
    (λ t u. table_is_before (line_of_table t) (line_of_table u))
    (λ a c t u r s.
    let l = lined a t r in
    let m = lined c u s in
    let l_level = sym l.level in
    let m_level = sym m.level in
    let l_file = sym l.file in
    let m_file = sym m.file in
    let l_least : (line_of a).least ≡ t.range.least =
    sym (ap (λ (r : KeyRange). r.least) l.range) in
    let m_least : (line_of c).least ≡ u.range.least =
    sym (ap (λ (r : KeyRange). r.least) m.range) in
    cc)
    _ _ added outputs
    (zip_filter R _ _ (λ a t r.
    let l = lined a t r in
    ap (λ (n : ℕ). not (list_any
    (λ (one : TableName). one.level == n && one.file == (line_of a).file) gone)) (sym l.level)
    ∙ ap (λ (n : ℕ). not (list_any
    (λ (one : TableName). one.level == t.level && one.file == n) gone)) (sym l.file))
    items tables old) new

-- ---- outputs

-- of a finished table the line is found, where a manifest may have it
pub line_found : {E : Type 0} (P : TableLine → Type 0) (Q : E → Type 0) (line : TableLine)
    (found : Option TableLine) (e : E) (result : Result TableLine E) → result ≡ ok_or found e
    → MatchOption found (IsTableLine line → ⊥) (λ one. (one ≡ line) × IsTableLine one)
    → IsTableLine line → P line → MatchResult result P Q
line_found P Q line (Some one) e result is told proper has =
    subst (λ r. MatchResult r P Q) (sym is) (subst P (sym told.0) has)
line_found P Q line None e result is told proper has = absurd (told proper)

-- an output has entries, and its line's keys are those of the first and of the last
pub output_ends : (disk : State) (level : ℕ) (line : TableLine) (table : LevelTable)
    → IsOutputTable disk level line table
    → (option_map (λ entry. entry.key) (first_entry table.entries) ≡ Some line.least)
    × (option_map (λ entry. entry.key) (last_entry table.entries) ≡ Some line.greatest)
output_ends disk level line table it =
    let some = it.holds.table.represents.some in
    let last = last_of_some table.entries (omega (arith, some)) in
    let end : line.greatest ≡ last.0.key =
    subst (λ (o : Option Entry). IfSome o (λ entry. line.greatest ≡ entry.key)) last.1
    it.holds.greatest in (
      first table.entries (omega (arith, some)) it.holds.least,
      ap (option_map (λ (entry : Entry). entry.key)) last.1 ∙ ap Some (sym end),
    )
  where
    first : (entries : List Entry) → 0 < length entries
        → IfSome (first_entry entries) (λ entry. line.least ≡ entry.key)
        → option_map (λ entry. entry.key) (first_entry entries) ≡ Some line.least
    first [] none is = absurd (omega (arith, none))
    first (x ∷ xs) some is = ap Some (sym is)
