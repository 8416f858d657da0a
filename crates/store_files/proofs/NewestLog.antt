-- The newest of a version's logs.
use Rattle.std.proofs.Common.{◌≡◌, ◌-◌, ℕ, suc, List, [], ◌∷◌, Some, ap, arith, length, subst, sym}
use Rattle.std.specs.Prelude.{slice_get}
use Rattle.manifest.specs.declared.LogLine.{LogLine}
use Rattle.store_files.specs.StoreFiles.{before_newest}

-- the last line's batches come behind so many
pub before_last : (lines : List LogLine) (line : LogLine) →
    slice_get lines (length lines - 1) ≡ Some line → line.first - 1 ≡ before_newest lines
before_last [] line got = absurd cc
before_last (one ∷ []) line got =
    let same : one ≡ line = cc in
    ap (λ (l : LogLine). l.first - 1) (sym same)
before_last (one ∷ next ∷ rest) line got =
    let at : length (one ∷ next ∷ rest) - 1 ≡ suc (length (next ∷ rest) - 1) = omega arith in
    before_last (next ∷ rest) line
    (subst (λ (i : ℕ). slice_get (one ∷ next ∷ rest) i ≡ Some line) at got)
