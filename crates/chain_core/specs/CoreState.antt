-- The numbers of a node as contracts see them.
use Rattle.chain_core.specs.declared.state.CoreState.TheInside.{Inside}
use Rattle.chain_core.specs.States.{Core}

-- the numbers in the fields of a `CoreState`
abbrev pub core_value : Inside → Core
core_value state = record {
  id = state.id;
  epoch = state.epoch;
  ids = state.config;
  count = state.count;
  committed = state.committed;
  floor = state.floor;
  kept = state.kept;
  successor_has = state.successor_has;
  snapshots = state.snapshots.items;
  pending = state.pending.items;
}
