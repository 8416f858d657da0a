-- What `rest @ ..` is.
use Rattle.std.proofs.Common.{◌≡◌, ◌-◌, ℕ, List, length, take, drop}
use Rattle.std.proofs.Math.Seq.{take-length}
use Rattle.std.proofs.lemmas.List.{length-drop}

-- what `rest @ ..` behind k elements is
pub rest_is : {A : Type 0} (k : ℕ) (xs : List A) → take (length xs - k) (drop k xs) ≡ drop k xs
rest_is k xs = rw (← length-drop k xs) (take-length (drop k xs))
