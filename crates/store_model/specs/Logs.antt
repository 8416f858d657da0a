-- The logs of a store in order, each by how many batches come before its first one.
use Rattle.std.specs.Prelude.{◌≡◌, ℕ, ◌≤◌, List, [], ◌∷◌, if◌then◌else◌, nat_le}
use Rattle.store_model.specs.Stores.{StoreState}

-- where the newest log begins
abbrev pub newest_log : ℕ → List ℕ → ℕ
newest_log first [] = first
newest_log first (next ∷ rest) = newest_log next rest

-- each log begins at or after the one before it
abbrev pub LogsRise : ℕ → List ℕ → Type 0
LogsRise first [] = Unit {0}
LogsRise first (next ∷ rest) = (first ≤ next) × LogsRise next rest

-- the logs of the store: the first begins after `kept` batches, the newest after `current`
pub record AreLogsOf (store : StoreState) (later : List ℕ) : Type 0 where
  pub rise : LogsRise store.kept later
  pub newest : store.current ≡ newest_log store.kept later

-- ---- trimming each log that ends at or below the floor, but for the newest

-- where the first log begins that is left
abbrev pub trimmed_to : ℕ → ℕ → List ℕ → ℕ
trimmed_to floor first [] = first
trimmed_to floor first (next ∷ rest) =
    if nat_le next floor then trimmed_to floor next rest else first

-- where the later logs begin that are left
abbrev pub left_later : ℕ → List ℕ → List ℕ
left_later floor [] = []
left_later floor (next ∷ rest) = if nat_le next floor then left_later floor rest else next ∷ rest
