use Rattle.engine.proofs.Begins.{picked_behind}
use Rattle.engine.proofs.BegunParts.{begun_did, keeps_begun, not_raised}
use Rattle.engine.proofs.merging.begin.Goals as goal

-- the floor did not rise
pub returns-in_err-raise_floor-clause-kept : goal.returns-in_err-raise_floor-clause-kept
returns-in_err-raise_floor-clause-kept g c =
    not_raised g.D.Disk c.args.plan c.args.floor c.args.files.now c.raise_floor.new.disk
    c.args.store.now c.raise_floor.new.self c.in_err-raise_floor.field-0.0 c.from_residual.result
    c.in_err-raise_floor.ensures.raises c.from_residual.ensures.1

-- the plan is the same behind the rise
pub begin_raised-requires-clause-picked : goal.begin_raised-requires-clause-picked
begin_raised-requires-clause-picked g c =
    picked_behind c.args.floor c.args.store.now c.raise_floor.new.self c.args.plan
    c.in_ok-raise_floor.ensures.raises.did c.requires.picked

-- the merge began behind it
pub returns-clause-kept : goal.returns-clause-kept
returns-clause-kept g c =
    keeps_begun g.D.Disk c.open_files_are_apart.ensures c.args.floor c.args.plan c.args.files.now
    c.raise_floor.new.disk c.begin_raised.new.files c.args.store.now c.raise_floor.new.self
    c.in_ok-raise_floor.field-0 c.in_ok-raise_floor.ensures.raises c.begin_raised.result
    c.begin_raised.ensures.writes c.begin_raised.ensures.begins c.begin_raised.ensures.refused

pub returns-clause-did : goal.returns-clause-did
returns-clause-did g c =
    begun_did g.D.Disk c.open_files_are_apart.ensures c.args.floor c.args.plan c.args.files.now
    c.raise_floor.new.disk c.begin_raised.new.files c.args.store.now c.raise_floor.new.self
    c.in_ok-raise_floor.field-0 c.in_ok-raise_floor.ensures.raises c.begin_raised.result
    c.begin_raised.ensures.writes c.begin_raised.ensures.begins c.in_ok-raise_floor.ensures.gone
    c.begin_raised.ensures.first
