-- Ranges and pages as contracts see them.
use Rattle.std.specs.Prelude.{ℕ, List, [], Option, Some, None, Bool}
use Rattle.byte_fields.specs.declared.Space.TheVariants.{Marks}
use Rattle.byte_fields.specs.{StoredKey, row_key, stored_key}

-- a range of keys, with the direction of its walk and the greatest number of rows in an answer
pub record Span : Type 0 where
  pub from : List ℕ
  pub to : Option (List ℕ)
  pub backward : Bool
  pub limit : ℕ

-- the stored key below which all rows below the bound stand, or all rows where there is none
abbrev pub end_of_rows : Option (List ℕ) → StoredKey
end_of_rows (Some to) = row_key to
end_of_rows None = stored_key Marks []

-- the range as one of stored keys, which has rows alone
abbrev pub stored_span : Span → Span
stored_span range = record {
  from = row_key range.from;
  to = Some (end_of_rows range.to);
  backward = range.backward;
  limit = range.limit;
}

-- a key with its value in a map
pub record Row : Type 0 where
  pub key : List ℕ
  pub value : List ℕ

-- the rows of a page in the order of their walk, and whether the range has more behind them
pub record Rows : Type 0 where
  pub rows : List Row
  pub more : Bool
