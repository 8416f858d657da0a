-- What is counted of operations, rows and bytes.
use Rattle.std.specs.Prelude.{ℕ, ◌+◌, ◌-◌, ◌/◌, ◌^◌, ◌==◌, max, min, List, [], ◌∷◌, length}
use Rattle.std.specs.Prelude.{Bool, false, not, Option, Some, None, Result, Ok, Err}
use Rattle.std.specs.Prelude.{if◌then◌else◌}
use Rattle.std.specs.List.{fold}
use Rattle.std.specs.Str.{bytes_eq}
use Rattle.kv_types.specs.declared.edit.Edit.{Edit}
use Rattle.kv_types.specs.declared.edit.Edit.TheVariants.{Put, Delete}
use Rattle.kv_types.specs.{Row}
use Rattle.kv_types.specs.{Rows}
use Rattle.benchmarks.specs.declared.count.Count.{Count}

-- a sum, up to 2^64 - 1
abbrev pub capped : ℕ → ℕ → ℕ
capped a b = min (a + b) (2 ^ 64 - 1)

-- nothing was done yet
abbrev pub no_count : Count
no_count = record { operations = 0; rows = 0; bytes = 0; ended = false }

-- how many operations are left of so many
abbrev pub left_of : Count → ℕ → ℕ
left_of count all = if count.ended then 0 else all - count.operations

-- so many operations more
abbrev pub with_operations : Count → ℕ → Count
with_operations count operations =
    record count { operations = capped count.operations operations }

-- one row more, whose key and value have so many bytes
abbrev pub with_row : Count → ℕ → Count
with_row count bytes = record count { rows = capped count.rows 1; bytes = capped count.bytes bytes }

-- these rows more
abbrev pub with_rows : Count → List Row → Count
with_rows count rows = fold (λ c row. with_row c (length row.key + length row.value)) count rows

-- an edit is an operation, and a put writes a row
abbrev pub with_edit : Count → Edit → Count
with_edit count (Put key value) = with_row (with_operations count 1) (length key + length value)
with_edit count (Delete key) = with_operations count 1

-- a read of a key is an operation, and finds a row where the key has a value
abbrev pub with_read : {E : Type 0} → Count → List ℕ → Result (Option (List ℕ)) E → Count
with_read count key (Ok (Some value)) =
    with_row (with_operations count 1) (length key + length value)
with_read count key (Ok None) = with_operations count 1
with_read count key (Err e) = with_operations count 1

-- each row of a page is an operation
abbrev pub with_page : Count → Rows → Count
with_page count page = with_rows (with_operations count (length page.rows)) page.rows

-- of a seek, the rows where the first one has the key
abbrev pub with_found : Count → List Row → List ℕ → Count
with_found count [] key = count
with_found count (row ∷ rows) key =
    if bytes_eq row.key key then with_rows count (row ∷ rows) else count

-- whether another tenth of so many operations is done than before
abbrev pub has_passed_tenth : Count → Count → ℕ → Bool
has_passed_tenth now before all =
    not (now.operations / max (all / 10) 1 == before.operations / max (all / 10) 1)
