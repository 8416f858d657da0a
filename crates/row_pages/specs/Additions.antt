-- Adding rows to a page within its limits.
use Rattle.std.specs.Prelude.{◌≡◌, ◌+◌, ◌<◌, ◌≤◌, ℕ, List, [], ◌∷◌, ◌++◌, length, Bool, true, false}
use Rattle.std.specs.Prelude.{IfSome}
use Rattle.std.specs.List.{sum_by}
use Rattle.byte_fields.specs.{bytes_of}
use Rattle.kv_types.specs.{Row}
use Rattle.kv_types.specs.declared.bounds.TheConstants.{MAX_PAGE}
use Rattle.kv_types.specs.{Entry, KeepsLimits, row_size}

-- the page may have one row more, of this size
abbrev pub HasRoom : ℕ → List Row → ℕ → Type 0
HasRoom limit rows size = (length rows < limit) × (sum_by row_size rows + size ≤ MAX_PAGE)

-- the row was added, within the limits; or it would exceed them, and the rows are as they were
abbrev pub AddsRow : ℕ → List Row → Row → List Row → Bool → Type 0
AddsRow limit old row new true =
    (new ≡ old ++ row ∷ []) × KeepsLimits limit MAX_PAGE (old ++ row ∷ [])
AddsRow limit old row new false =
    (new ≡ old) × (KeepsLimits limit MAX_PAGE (old ++ row ∷ []) → ⊥)

-- so was the row of the entry, if it is no deletion
abbrev pub AddsRowOf : ℕ → List Row → Entry → List Row → Bool → Type 0
AddsRowOf limit old entry new added =
    IfSome entry.value
    (λ value. AddsRow limit old (record { key = bytes_of entry.key; value = value }) new added)
