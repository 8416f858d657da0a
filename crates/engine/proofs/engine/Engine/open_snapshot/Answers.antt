use Rattle.std.proofs.Common.{arith}
use Rattle.std.proofs.lemmas.Grind.{common_steps}
use Rattle.std.proofs.Common.{Err, refl, rules}
use Rattle.store_tables.specs.declared.error.EngineError.TheVariants as error
use Rattle.disk.specs.KeepingLemmas.{same_files}
use Rattle.engine.specs.Engines.{HasEnded, with_opened}
use Rattle.engine.proofs.Engines.{goes_on}
use Rattle.engine.proofs.Unchanged.{failed_as, keeps_on, none_keeps, snapshots_none}
use Rattle.engine.proofs.engine.Engine.open_snapshot.Goals as goal

-- the number may not be read
pub returns-in_err-may_read-clause-changes : goal.returns-in_err-may_read-clause-changes
returns-in_err-may_read-clause-changes g c =
    let it = c.args.self.now in
    let e = c.in_err-may_read.field-0.0 in
    let told = c.from_residual.ensures.1 in
    snapshots_none g.D.Disk it e (λ told. with_opened told c.args.at) c.from_residual.result told
    (none_keeps g.D.Disk it e c.from_residual.result told
    c.in_err-may_read.ensures.lives (failed_as c.in_err-may_read.ensures.closed)
    same_files)

-- too many are open
pub returns-then-is_full-clause-changes : goal.returns-then-is_full-clause-changes
returns-then-is_full-clause-changes g c =
    let it = c.args.self.now in
    let e = error.TooManySnapshots in
    snapshots_none g.D.Disk it e (λ told. with_opened told c.args.at) (Err e) refl
    (none_keeps g.D.Disk it e (Err e) refl (λ end. end)
    (λ is. cc, λ h. let failed = c.in_ok-may_read.ensures.closed.1 h in absurd cc) same_files)

-- the files and the store stay
pub returns-in-Ok-clause-changes : goal.returns-in-Ok-clause-changes
returns-in-Ok-clause-changes g c =
    let works : HasEnded c.args.self.now → ⊥ =
    λ h. let failed = c.in_ok-may_read.ensures.closed.1 h in absurd cc in
    record {
      keeps = keeps_on g.D.Disk c.args.self.now _ tt refl works works;
      told = search rules;
      work = refl;
      kept = λ list.
          goes_on g.D.Disk c.held_files_are_left.ensures c.merges_outlive_calls.ensures
          c.args.self.now _ list _ (record {
            store = refl;
            merge = refl;
            honest = λ honest. honest;
            same = λ honest file. refl;
          }) works;
      disk = refl;
    }

pub returns-in_err-may_read-clause-opened : goal.returns-in_err-may_read-clause-opened
returns-in_err-may_read-clause-opened g c = grind (arith, common_steps)

pub returns-then-is_full-clause-opened : goal.returns-then-is_full-clause-opened
returns-then-is_full-clause-opened g c = grind (arith, common_steps)

pub returns-in-Ok-clause-opened : goal.returns-in-Ok-clause-opened
returns-in-Ok-clause-opened g c = grind (arith, common_steps)

pub returns-in-Err-clause-changes : goal.returns-in-Err-clause-changes
returns-in-Err-clause-changes g c = grind (arith, common_steps)

pub returns-in-Err-clause-opened : goal.returns-in-Err-clause-opened
returns-in-Err-clause-opened g c = grind (arith, common_steps)
