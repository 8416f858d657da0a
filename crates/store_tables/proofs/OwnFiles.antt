-- The tables that the lines of a version name have files of their own.
use Rattle.std.proofs.Common.{◌≡◌, ◌≢◌, inl, inr, ℕ, List, [], ◌∷◌, ◌++◌, map, All, Bool}
use Rattle.std.proofs.Common.{true, false, ◌==◌, sym, ◌∙◌, subst, arith}
use Rattle.std.specs.Prelude.{not, ◌&&◌}
use Rattle.std.specs.List.{list_any}
use Rattle.std.proofs.lemmas.Bool.{eqb-false}
use Rattle.std.proofs.lemmas.List.Elements.{All-cons, All-nil}
use Rattle.std.proofs.lemmas.List.Kept.{AllPairs-cons}
use Rattle.disk.specs.{Contents}
use Rattle.manifest.specs.declared.TableLine.{TableLine}
use Rattle.manifest.specs.declared.LogLine.{LogLine}
use Rattle.manifest.specs.Versions.{are_once}
use Rattle.store_model.specs.{LevelTable}
use Rattle.store_tables.specs.LevelTables.{AreTablesOf}
use Rattle.store_tables.specs.RangeReads.{HaveOwnFiles, VersionsNameOwnFiles}
use Rattle.store_tables.proofs.LevelLemmas.{either}

-- the files of lines
abbrev files : List TableLine → List ℕ
files lines = map (λ line. line.file) lines

-- of both that hold, each does
both_hold : (p q : Bool) → not p && q ≡ true → (p ≡ false) × (q ≡ true)
both_hold true q both = absurd cc
both_hold false q both = (cc, both)

-- a file that no line names is that of no table
none_named : (file : ℕ) (left : Contents) (lines : List TableLine) (tables : List LevelTable)
    → AreTablesOf left lines tables → list_any (λ other. other == file) (files lines) ≡ false
    → All (λ (u : LevelTable). file ≢ u.file) tables
none_named file left [] [] are none = All-nil (λ (u : LevelTable). file ≢ u.file)
none_named file left [] (u ∷ us) are none = absurd are
none_named file left (l ∷ ls) [] are none = absurd are
none_named file left (l ∷ ls) (u ∷ us) are none = elim (either (l.file == file)) [
  | inl same ↦ absurd (let h : true ≡ false = rw same at none in cc)
  | inr other ↦
      let rest : list_any (λ other. other == file) (files ls) ≡ false = rw other at none in
      let differ = eqb-false l.file file other in
      All-cons (λ (v : LevelTable). file ≢ v.file) u us
      (λ is. differ (sym (is ∙ are.0.file))) (none_named file left ls us are.1 rest)
]

-- of numbers that stand once, a part stands once
once_behind : (xs ys : List ℕ) → are_once (xs ++ ys) ≡ true → are_once ys ≡ true
once_behind [] ys once = once
once_behind (x ∷ xs) ys once = once_behind xs ys
    (both_hold (list_any (λ other. other == x) (xs ++ ys)) (are_once (xs ++ ys)) once).1

-- tables whose lines name each file once have files of their own
own_of_once : (left : Contents) (lines : List TableLine) (tables : List LevelTable)
    → AreTablesOf left lines tables → are_once (files lines) ≡ true → HaveOwnFiles tables
own_of_once left [] [] are once = λ i j d lt within. absurd (omega (arith, within))
own_of_once left [] (t ∷ ts) are once = absurd are
own_of_once left (l ∷ ls) [] are once = absurd are
own_of_once left (l ∷ ls) (t ∷ ts) are once =
    let both = both_hold (list_any (λ other. other == l.file) (files ls)) (are_once (files ls))
    once in
    AllPairs-cons (λ (a : LevelTable) (b : LevelTable). a.file ≢ b.file) t ts
    (subst (λ (n : ℕ). All (λ (u : LevelTable). n ≢ u.file) ts) (sym are.0.file)
    (none_named l.file left ls ts are.1 both.0))
    (own_of_once left ls ts are.1 both.1)

pub versions_name_own : VersionsNameOwnFiles
versions_name_own version is left tables are =
    own_of_once left version.tables tables are
    (once_behind (map (λ (line : LogLine). line.file) version.logs) (files version.tables)
    is.lawful.files_once)
