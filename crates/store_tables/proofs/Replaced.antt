-- Tables that are given up and added, each at its place, and their lines alike.
use Rattle.std.proofs.Common.{◌≡◌, ◌+◌, ◌&&◌, ◌==◌, List, [], ◌∷◌, Bool, inl, inr, map}
use Rattle.std.proofs.Common.{refl, sym, ap, suc, arith, not, ◌∙◌}
use Rattle.std.specs.List.{AllZip, filter, fold, insert, list_any, prefix_len}
use Rattle.std.proofs.lemmas.Slice.Zip.{AllZip-map}
use Rattle.disk.specs.{State}
use Rattle.store_model.specs.{LevelTable}
use Rattle.version_edits.specs.declared.TableLine.{TableLine}
use Rattle.version_edits.specs.declared.TableName.{TableName}
use Rattle.version_edits.specs.Versions.{placed, table_is_before}
use Rattle.compaction.specs.{IsLineOf, tables_after}
use Rattle.compaction.specs.EditsLemmas.{zip_after, zip_filter, zip_fold}
use Rattle.store_tables.specs.declared.levels.OpenTable.{OpenTable}
use Rattle.store_tables.specs.LevelTables.{IsTableOf, WasServed}
use Rattle.store_tables.specs.MergeTables.{ReplacedLinesName, open_lines}
use Rattle.store_tables.specs.MergeTables.{replaced_lines}
use Rattle.store_tables.proofs.LevelLemmas.{either}
use Rattle.store_tables.proofs.ZipLemmas.{zip_among, zip_both, zip_mapped}

-- one of these names is that of the line's table
abbrev pub is_gone : List TableName → TableLine → Bool
is_gone gone line = list_any (λ one. one.level == line.level && one.file == line.file) gone

-- the first open table stands before the second, as their lines do
abbrev pub open_is_before : OpenTable → OpenTable → Bool
open_is_before a b = table_is_before a.line b.line

-- the open tables that are left when those of these names are given up
abbrev pub open_left : List TableName → List OpenTable → List OpenTable
open_left gone items = filter (λ it. not (is_gone gone it.line)) items

-- the open tables when those of these names are given up and others are added
abbrev pub open_replaced : List TableName → List OpenTable → List OpenTable → List OpenTable
open_replaced gone added items = fold (placed open_is_before) (open_left gone items) added

-- its place is behind all that it stands before none of
pub place_is : {A : Type 0} (before : A → A → Bool) (xs : List A) (x : A)
    → insert xs (prefix_len (λ y. not (before x y)) xs) x ≡ placed before xs x
place_is before [] x = refl
place_is {A} before (y ∷ ys) x = elim (either (before x y)) [
  | inl t ↦ rw t refl
  | inr f ↦
      let next : 1 + prefix_len (λ z. not (before x z)) ys
      ≡ suc (prefix_len (λ z. not (before x z)) ys) = omega arith in
      rw (f, next) (ap (λ (l : List A). y ∷ l) (place_is before ys x))
]

-- ---- the tables beside their lines

-- the lines of an edited version name the tables that are left and those that were added
pub replaced_lines_name : ReplacedLinesName
replaced_lines_name left gone lines added tables outputs are more =
    zip_after (λ (l : TableLine). l) (IsTableOf left)
    (λ l t is. record { level = is.level; file = is.file; range = is.range }) gone lines tables
    added outputs are more

-- the open tables were meant to serve the tables
pub replaced_served : (disk meant : State) (gone : List TableName) (items added : List OpenTable)
    (tables outputs : List LevelTable) → AllZip IsLineOf (open_lines items) tables
    → AllZip IsLineOf (open_lines added) outputs → AllZip (WasServed disk meant) items tables
    → AllZip (WasServed disk meant) added outputs
    → AllZip (WasServed disk meant) (open_replaced gone added items)
    (tables_after gone outputs tables)
replaced_served disk meant gone items added tables outputs named also served more =
    let line_of = λ (one : OpenTable). one.line in
    let N = λ (one : OpenTable) (t : LevelTable). IsLineOf one.line t in
    let W = WasServed disk meant in
    let B = λ (one : OpenTable) (t : LevelTable). W one t × IsLineOf one.line t in
    zip_among B W (open_replaced gone added items) (tables_after gone outputs tables)
    (λ x y there r. r.0)
    (zip_after line_of B (λ x t r. r.1) gone items tables added outputs
    (zip_both W N items tables served (zip_mapped IsLineOf line_of items tables named))
    (zip_both W N added outputs more (zip_mapped IsLineOf line_of added outputs also)))

-- ---- the lines of the open tables

-- a list stands beside what it is mapped to
beside_own : {A B : Type 0} (f : A → B) (xs : List A) → AllZip (λ x y. y ≡ f x) xs (map f xs)
beside_own f [] = tt
beside_own f (x ∷ xs) = (refl, beside_own f xs)

-- they are those of the version after the edit
pub replaced_lines_are : (gone : List TableName) (items added : List OpenTable)
    → open_lines (open_replaced gone added items)
    ≡ replaced_lines gone (open_lines added) (open_lines items)
replaced_lines_are gone items added =
    let line_of = λ (one : OpenTable). one.line in
    let R = λ (one : OpenTable) (line : TableLine). line ≡ one.line in
    let p = λ (one : OpenTable). not (is_gone gone one.line) in
    let q = λ (line : TableLine). not (is_gone gone line) in
    sym (AllZip-map line_of (open_replaced gone added items)
    (replaced_lines gone (open_lines added) (open_lines items))
    (zip_fold R open_is_before table_is_before
    (λ x z l m r s. ap (λ (a : TableLine). table_is_before a z.line) (sym r)
    ∙ ap (λ (b : TableLine). table_is_before l b) (sym s))
    (filter p items) (filter q (open_lines items)) added (open_lines added)
    (zip_filter R p q (λ x l r. ap q (sym r)) items (open_lines items) (beside_own line_of items))
    (beside_own line_of added)))
