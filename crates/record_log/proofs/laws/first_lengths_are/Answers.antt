use Rattle.std.proofs.Common.{ℕ, List, ap, arith}
use Rattle.std.specs.Prelude.{slice_index_or}
use Rattle.record_log.proofs.laws.first_lengths_are.Goals as goal

-- it ends its length behind five bytes
pub returns : goal.returns
returns c = λ disk log one others h.
    let end = ap (λ (l : List ℕ). slice_index_or l 0 0) h.ends in
    omega (arith, end)
