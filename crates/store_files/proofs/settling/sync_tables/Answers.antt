use Rattle.std.proofs.Common.{List, refl, subst, sym, rules}
use Rattle.std.specs.Prelude.{IsSome}
use Rattle.std.proofs.lemmas.List.{take_all}
use Rattle.std.proofs.lemmas.List.Elements.{All-get_or}
use Rattle.disk.specs.{IsEnvironmental, seen}
use Rattle.manifest.specs.declared.TableLine.{TableLine}
use Rattle.store_tables.specs.declared.error.EngineError.TheVariants as engine
use Rattle.disk.specs.KeepingLemmas.{kept_as, neither}
use Rattle.store_files.specs.Settling.{AreSynced}
use Rattle.store_tables.specs.RefusalLemmas.{refuses}
use Rattle.store_tables.specs.RefusalLemmas.{done}
use Rattle.store_files.proofs.Settles.{disk_failed, disk_works, none_yet, settled_there}
use Rattle.store_files.proofs.Settles.{still_after, sync_all, sync_then, synced_more, there_machine}
use Rattle.store_files.proofs.settling.sync_tables.Goals as goal

-- none is synced
pub loop-line-init : goal.loop-line-init
loop-line-init g c = record { done = none_yet g.D.Disk c.args.disk.now }

-- the sync of a line's file was refused
pub returns-in_err-sync-clause-reads : goal.returns-in_err-sync-clause-reads
returns-in_err-sync-clause-reads g c = record {
  kept = sync_then g.D.Disk c.args.disk.now c.loop-line.disk c.loop-line.invariant.done
      c.sync.result
      c.line-item.result.file
      (kept_as g.D.Disk (disk_failed c.sync.result c.in_err-sync.field-0.0 c.from_residual.result
      c.in_err-sync.was c.from_residual.ensures.1) (λ a b same. same) c.sync.ensures.kept.disk)
      c.sync.ensures.syncs;
  causes = search rules;
  still = still_after g.D.Disk c.args.disk.now c.loop-line.disk c.loop-line.invariant.done
      c.sync.result
      c.line-item.result.file c.sync.ensures.syncs
      (λ honest. (c.sync.ensures.passes honest).moment);
}

pub returns-in_err-sync-clause-there : goal.returns-in_err-sync-clause-there
returns-in_err-sync-clause-there g c = λ honest there.
    let s0 = g.D.Disk.state c.args.disk.now in
    let s1 = g.D.Disk.state c.loop-line.disk in
    let line = c.line-item.result in
    let before = c.loop-line.invariant.done in
    let is_there : TableLine → Type 0 = λ one. IsSome (seen (s0 one.file)) in
    let was : is_there line = subst is_there (sym c.line-item.is)
    (All-get_or is_there c.args.lines.now c.loop-line.line-index line c.loop-line-test.true there)
    in
    refuses c.from_residual.result _
    (IsEnvironmental engine.Disk engine.Memory) c.from_residual.ensures.1
    (there_machine c.in_err-sync.field-0.0 s1 line.file
    (settled_there s0 s1 line.file ((before.synced honest).each line.file) was)
    (c.in_err-sync.ensures.syncs (before.kept.honest.1 honest)).1)

-- one file more is synced
pub loop-line-preserved : goal.loop-line-preserved
loop-line-preserved g c =
    let before = c.loop-line.invariant.done in
    let file = c.line-item.result.file in
    record {
      done = record {
        kept = sync_then g.D.Disk c.args.disk.now c.loop-line.disk before c.sync.result file
            (kept_as g.D.Disk (neither (disk_works c.in_ok-sync.was) (λ fails. fails))
            (λ a b same. same) c.sync.ensures.kept.disk) c.sync.ensures.syncs;
        still = still_after g.D.Disk c.args.disk.now c.loop-line.disk before c.sync.result file
            c.sync.ensures.syncs (λ honest. (c.sync.ensures.passes honest).moment);
        synced = λ honest.
            let changed = c.in_ok-sync.ensures.syncs (before.kept.honest.1 honest) in
            synced_more (g.D.Disk.state c.loop-line.disk) (g.D.Disk.state c.sync.new.self) file
            changed.0 changed.1 (g.D.Disk.state c.args.disk.now) c.args.lines.now
            c.loop-line.line-index c.line-item.result refl c.loop-line-test.true c.line-item.is
            (before.synced honest);
      };
    }

-- all lines were passed
pub returns-clause-reads : goal.returns-clause-reads
returns-clause-reads g c = record {
  kept = sync_all g.D.Disk c.args.disk.now c.loop-line.disk c.loop-line.invariant.done done;
  causes = search rules;
  still = c.loop-line.invariant.done.still;
}

pub returns-clause-synced : goal.returns-clause-synced
returns-clause-synced g c = λ honest.
    subst (λ (lines : List TableLine). AreSynced (g.D.Disk.state c.args.disk.now)
    (g.D.Disk.state c.loop-line.disk) lines)
    (take_all c.loop-line.line-index c.args.lines.now c.loop-line-test.false)
    (c.loop-line.invariant.done.synced honest)
