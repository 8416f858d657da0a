-- The queue of pending requests, as private functions promise it to one another.
use Rattle.std.specs.Prelude.{ℕ, suc, List, [], ◌∷◌, nat_le, if◌then◌else◌}
use Rattle.chain_model.specs.Rules.{is_prior}
use Rattle.chain_core.specs.declared.pending_submit.PendingSubmit.{PendingSubmit}
use Rattle.chain_core.specs.States.{asked}

-- the requests at the front with numbers up to k
abbrev pub front : ℕ → List PendingSubmit → List PendingSubmit
front k [] = []
front k (it ∷ rest) = if nat_le it.number k then it ∷ front k rest else []

-- the requests behind those at the front with numbers up to k
abbrev pub behind : ℕ → List PendingSubmit → List PendingSubmit
behind k [] = []
behind k (it ∷ rest) = if nat_le it.number k then behind k rest else it ∷ rest

-- how many requests at the front go before this one
abbrev pub place_behind : PendingSubmit → List PendingSubmit → ℕ
place_behind it [] = 0
place_behind it (other ∷ rest) =
    if is_prior (asked other) (asked it) then suc (place_behind it rest) else 0
