-- Rows that are those shown of a set are those shown of a set with the same entries.
use Rattle.std.proofs.Common.{◌≡◌, ℕ, subst}
use Rattle.kv_types.specs.{Entry, IsShown}
use Rattle.merge_iter.specs.{IsAlike}
use Rattle.merge_iter.specs.AlikeViews.{all_shown_alike}

-- at the same number
pub shown_of : (seen at : ℕ) (rows inner outer : Entry → Type 0) → seen ≡ at
    → IsAlike rows (IsShown seen inner) → IsAlike inner outer → IsAlike rows (IsShown at outer)
shown_of seen at rows inner outer same shown alike entry =
    let there = subst (λ n. IsAlike rows (IsShown n inner)) same shown entry in
    let on = all_shown_alike at outer inner alike entry in
    ((λ h. on.0 (there.0 h)), (λ h. there.1 (on.1 h)))
