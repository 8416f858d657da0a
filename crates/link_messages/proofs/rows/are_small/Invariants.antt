use Rattle.std.proofs.Common.{◌≡◌, ◌+◌, take}
use Rattle.std.specs.List.{sum_by}
use Rattle.kv_types.specs.declared.bounds.TheConstants.{MAX_PAGE}
use Rattle.kv_types.specs.{row_size}
use Rattle.link_messages.proofs.rows.are_small.Given as goal

abbrev pub invariant-loop-row : goal.invariant-loop-row
invariant-loop-row l = l.left + sum_by row_size (take l.row-index l.rows) ≡ MAX_PAGE
