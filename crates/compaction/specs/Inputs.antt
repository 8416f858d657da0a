-- The inputs of a plan as code has them.
use Rattle.byte_fields.specs.{lent_key}
use Rattle.store_model.specs.{KeyRange}
use Rattle.version_edits.specs.declared.TableLine.{TableLine}
use Rattle.version_edits.specs.declared.TableName.{TableName}
use Rattle.compaction.specs.declared.inputs.LentRange.{LentRange}

-- the range of keys that are lent
abbrev pub lent_range : LentRange → KeyRange
lent_range range = record {
  least = lent_key range.least;
  greatest = lent_key range.greatest;
}

-- the name of a table
abbrev pub line_name : TableLine → TableName
line_name line = record { level = line.level; file = line.file }
