use Rattle.std.proofs.Common.{◌≡◌, sym, ap, ◌∙◌, Some, None}
use Rattle.std.specs.BTreeMap.{is_at}
use Rattle.std.specs.List.{slice_get}
use Rattle.std.specs.Map.{lookup}
use Rattle.byte_fields.specs.{stored_cmp}
use Rattle.memtable.specs.Maps.{entry_version, found}
use Rattle.memtable.specs.Tables.{TableHolds}
use Rattle.memtable.proofs.memtable.Memtable.new.Goals as goal

pub returns-clause-empty : goal.returns-clause-empty
unfolding TableHolds
returns-clause-empty c = λ entry has.
    let none : None ≡ Some (entry_version entry) =
    sym (ap (λ es. slice_get (found (lookup (is_at (stored_cmp entry.key)) es)) has.0)
    c.new.ensures.empty) ∙ has.1 in
    cc
