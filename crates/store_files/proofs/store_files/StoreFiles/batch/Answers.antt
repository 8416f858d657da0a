use Rattle.std.proofs.Common.{suc}
use Rattle.std.proofs.lemmas.List.Elements.{All-drop}
use Rattle.kv_types.specs.{IsBatch}
use Rattle.std.specs.Prelude.{drop}
use Rattle.store_files.specs.OpenFiles.{trimmed_count}
use Rattle.store_files.proofs.LookUps.{found_behind}
use Rattle.store_files.proofs.Meant.{logs_are_held}
use Rattle.store_files.proofs.store_files.StoreFiles.batch.Goals as goal

-- the batch of the number, of the list from the first log on
pub returns-clause-found : goal.returns-clause-found
returns-clause-found g c = λ list honest w.
    let trimmed = trimmed_count c.args.self.now in
    found_behind list trimmed c.args.number c.batch.result c.requires.there.0
    (c.batch.ensures.found (suc trimmed) (drop trimmed list) honest
    (logs_are_held (g.D.Disk.state c.args.disk.now) c.args.self.now list w)
    (All-drop IsBatch trimmed list w.hold.known.each))
