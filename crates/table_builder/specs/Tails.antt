-- What stands behind the blocks of a table.
use Rattle.std.specs.Prelude.{ℕ, ◌+◌, List, ◌++◌, length}
use Rattle.table_format.specs.{filter_part, footer_part}
use Rattle.byte_fields.specs.declared.format.Format.TheVariants.{Two}

-- filter, index and footer in format 2, where the filter begins at this place
abbrev pub tail_of : List ℕ → List ℕ → ℕ → ℕ → List ℕ
tail_of filter index place entries =
    filter_part filter ++ (index ++ footer_part (record {
      index = place + length (filter_part filter);
      index_len = length index;
      filter = place;
      filter_len = length (filter_part filter);
      entries = entries;
      format = Two;
    }))
