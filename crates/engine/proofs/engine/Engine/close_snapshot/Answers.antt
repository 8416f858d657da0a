use Rattle.std.proofs.Common.{Err, refl, rules, subst, sym}
use Rattle.store_tables.specs.declared.error.EngineError.TheVariants as error
use Rattle.disk.specs.KeepingLemmas.{same_files}
use Rattle.engine.specs.Engines.{HasEnded, with_closed}
use Rattle.engine.specs.Snapshots.{AreReadable}
use Rattle.engine.proofs.Engines.{goes_on}
use Rattle.engine.proofs.Removals.{readable_without}
use Rattle.engine.proofs.Unchanged.{keeps_on, none_keeps, snapshots_none}
use Rattle.engine.proofs.engine.Engine.close_snapshot.Goals as goal

-- those that are left can still be read
pub invariant_of-self : goal.invariant_of-self
invariant_of-self g c =
    let old = c.args.self.now in
    record {
      readable = subst (AreReadable _ _) (sym c.remove.ensures)
          (readable_without _ _ c.args.number old.snapshots old.readable);
      counted = old.counted;
      usable = old.usable;
    }

-- it has ended
pub returns-then-self-clause-changes : goal.returns-then-self-clause-changes
returns-then-self-clause-changes g c =
    let it = c.args.self.now in
    let e = error.Failed in
    snapshots_none g.D.Disk it e (λ told. with_closed told c.args.number) (Err e) refl
    (none_keeps g.D.Disk it e (Err e) refl (λ end. end) (λ _. c.if-self.true, λ _. refl) same_files)

-- the files and the store stay
pub returns-clause-changes : goal.returns-clause-changes
returns-clause-changes g c =
    let works : HasEnded c.args.self.now → ⊥ = λ h. let off = c.if-self.false in absurd cc in
    record {
      keeps = keeps_on g.D.Disk c.args.self.now _ tt refl works works;
      told = search rules;
      work = refl;
      kept = λ list.
          goes_on g.D.Disk c.held_files_are_left.ensures c.merges_outlive_calls.ensures
          c.args.self.now _ list _ (record {
            store = refl;
            merge = refl;
            honest = λ honest. honest;
            same = λ honest file. refl;
          }) works;
      disk = refl;
    }
