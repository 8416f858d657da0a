use Rattle.std.proofs.Common.{◌≡◌, subst, sym}
use Rattle.std.specs.Prelude.{IsErrAnd}
use Rattle.disk.specs.{IsEnvironmental, KeepsDisk, contents}
use Rattle.node.specs.declared.stop.Stop.TheVariants as stop
use Rattle.node.specs.Outputs.{AlwaysRefines}
use Rattle.node.specs.Steps.{facts_for}
use Rattle.engine.specs.{IsOwned, SparesFound, engine_disk}
use Rattle.disk.specs.KeepingLemmas.{kept_as, neither}
use Rattle.node.proofs.Causes.{device_told, env_of}
use Rattle.node.proofs.Starts.{never_for_disk, never_for_files, spares_as, started_from}
use Rattle.node.proofs.Starts.{started_or_memory}
use Rattle.node.proofs.node.Node.start.Goals as goal

-- the machine that the files represent runs
pub returns-in-Ok-clause-started : goal.returns-in-Ok-clause-started
returns-in-Ok-clause-started g c = λ x n honest read.
    let opened = (c.in-Ok.ensures.opened (facts_for x n) n.list honest).whole read in
    started_or_memory g.D.Disk c.in-Ok.engine c.run_opened.result x n opened.holds opened.facts
    c.run_opened.ensures.opened c.run_opened.ensures.memory

pub returns-in-Err-clause-started : goal.returns-in-Err-clause-started
returns-in-Err-clause-started g c = λ x n honest read.
    subst (IsEnvironmental stop.Disk stop.Memory) (sym c.from.ensures) (env_of c.in-Err.e
    ((c.in-Err.ensures.opened (facts_for x n) n.list honest).whole read))

-- a refused opening leaves at every moment what the disk left before
pub returns-in-Err-clause-any_moment : goal.returns-in-Err-clause-any_moment
returns-in-Err-clause-any_moment g c = λ x n m honest rests.
    (c.in-Err.ensures.any_moment (facts_for x n) n.list (facts_for x m) m.list honest).whole rests

-- what the opening leaves, the start does
pub returns-in-Err-clause-still : goal.returns-in-Err-clause-still
returns-in-Err-clause-still g c =
    spares_as g.D.Disk c.args.disk c.in-Err.disk c.in-Err.ensures.still (λ other machine.
    other (subst (IsEnvironmental stop.Disk stop.Memory) (sym c.from.ensures)
    (env_of c.in-Err.e machine)))

pub returns-in-Ok-clause-still : goal.returns-in-Ok-clause-still
returns-in-Ok-clause-still g c =
    let for_files = IsErrAnd c.run_opened.result
    (λ refused. IsEnvironmental stop.Disk stop.Memory refused.0 → ⊥) in
    subst (λ d. SparesFound g.D.Disk c.args.disk d for_files) (sym c.run_opened.ensures.disk)
    (spares_as g.D.Disk c.args.disk (engine_disk c.in-Ok.engine) c.in-Ok.ensures.still
    (never_for_files g.D.Disk c.run_opened.result c.run_opened.ensures.memory))

-- the node's store tells what was opened
pub returns-in-Ok-clause-told : goal.returns-in-Ok-clause-told
returns-in-Ok-clause-told g c = λ honest.
    started_from g.D.Disk c.run_opened.result (contents (g.D.Disk.state c.args.disk)) c.in-Ok.engine
    (c.in-Ok.ensures.told honest) c.run_opened.ensures.opened c.run_opened.ensures.memory

-- what the opened engine's disk leaves, the returned one does
pub returns-in-Ok-clause-any_moment : goal.returns-in-Ok-clause-any_moment
returns-in-Ok-clause-any_moment g c = λ x n m honest rests.
    subst (λ d. AlwaysRefines g.D.Disk c.args.disk d x n m) (sym c.run_opened.ensures.disk)
    ((c.in-Ok.ensures.any_moment (facts_for x n) n.list (facts_for x m) m.list honest).whole rests)

-- what the engine keeps of its disk, a refusal does
pub returns-in-Err-clause-kept : goal.returns-in-Err-clause-kept
returns-in-Err-clause-kept g c =
    kept_as g.D.Disk (device_told c.in-Err.e c.from.result c.from.ensures) (λ a b kept. kept)
    c.in-Err.ensures.kept

-- so does what runs it, which wants memory alone
pub returns-in-Ok-clause-kept : goal.returns-in-Ok-clause-kept
returns-in-Ok-clause-kept g c =
    let for_disk = IsErrAnd c.run_opened.result (λ refused. refused.0 ≡ stop.Disk) in
    subst (λ d. KeepsDisk g.D.Disk c.args.disk d for_disk ⊥ IsOwned) (sym c.run_opened.ensures.disk)
    (kept_as g.D.Disk (neither (λ fails. fails)
    (never_for_disk g.D.Disk c.run_opened.result c.run_opened.ensures.memory)) (λ a b kept. kept)
    c.in-Ok.ensures.kept)
