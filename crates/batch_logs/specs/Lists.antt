-- What a call that changes files makes of the list that they represent.
use Rattle.std.specs.Prelude.{MatchResult, Result}
use Rattle.disk.specs.declared.Disk.{Ghosts}
use Rattle.disk.specs.{AlwaysLeaves, Contents, IsEnvironmental, State}
use Rattle.store_tables.specs.declared.error.EngineError.TheVariants as engine
use Rattle.store_tables.specs.declared.error.EngineError.{EngineError}

-- An answer leaves a disk that holds what it is to, and a refusal is external. A crash at any
-- moment since the call began, whatever it answers, leaves files that represent what they are to.
pub record ListFollowsOn {D T : Type 0} (g : Ghosts D) (Holds : T → State → Type 0)
    (Represent : Contents → Type 0) (old new : D) (result : Result T EngineError) : Type 0 where
  pub list : MatchResult result (λ answer. Holds answer (g.state new))
      (IsEnvironmental engine.Disk engine.Memory)
  pub any_moment : AlwaysLeaves g old new Represent
