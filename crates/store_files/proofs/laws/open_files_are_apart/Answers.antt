use Rattle.store_files.proofs.ApartFiles.{log_named, none_free, table_apart, tended_apart}
use Rattle.store_files.proofs.laws.open_files_are_apart.Goals as goal

pub returns : goal.returns
returns c = record {
  tables = table_apart;
  log = log_named;
  tended = tended_apart c.manifest_has_slots.ensures;
  unused = none_free;
}
