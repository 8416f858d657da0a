-- The node's report of the errors of its store, and the causes for which a created node ends.
use Rattle.std.specs.Prelude.{◌≡◌}
use Rattle.engine.specs.EngineError.{EngineError}
use Rattle.engine.specs.EngineError.TheVariants as engine
use Rattle.node.specs.declared.stop.Stop.{Stop}
use Rattle.node.specs.declared.stop.Stop.TheVariants as stop

-- a node asks its engine only for what that has, so the last six are not met
abbrev pub engine_stop : EngineError → Stop
engine_stop engine.Disk = stop.Disk
engine_stop engine.Damaged = stop.Damaged
engine_stop engine.Memory = stop.Memory
engine_stop engine.NotCreated = stop.NotCreated
engine_stop engine.OldFormat = stop.OldFormat
engine_stop engine.Failed = stop.Damaged
engine_stop engine.TooOld = stop.Damaged
engine_stop engine.NotCommitted = stop.Damaged
engine_stop engine.NoSuchSnapshot = stop.Damaged
engine_stop engine.TooManySnapshots = stop.Damaged
engine_stop engine.Exhausted = stop.Damaged

-- a cause for which a node ends that was created or started: neither `NotCreated` nor `OldFormat`
abbrev pub EndsCreated : Stop → Type 0
EndsCreated cause = (cause ≡ stop.NotCreated → ⊥) × (cause ≡ stop.OldFormat → ⊥)
