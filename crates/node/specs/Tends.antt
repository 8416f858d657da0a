-- A tend of a node: what has risen by the facts that its store tells, and the machine's answer.
use Rattle.std.specs.Prelude.{ℕ, Bool, true, Result, MatchResult, nat_lt, ◌||◌}
use Rattle.kv_types.specs.{Edits}
use Rattle.disk.specs.declared.Disk.{Ghosts}
use Rattle.chain_model.specs.{Answer}
use Rattle.chain_model.specs.Rules.{tend}
use Rattle.chain_core.specs.{Machine}
use Rattle.engine.specs.Tended.{Tended}
use Rattle.engine.specs.{Facts, IsTendAnswer, IsTendOf, RaisesFactsAtMost, facts_of}
use Rattle.engine.specs.{raised_facts}
use Rattle.node.specs.declared.node.Node.{Node}
use Rattle.node.specs.declared.stop.Stop.{Stop}
use Rattle.node.specs.Outputs.{CallRefines}
use Rattle.node.specs.Steps.{NodeRefines, engine_of, facts_for}
use Rattle.node.specs.Stops.{EndsCreated}

-- whether the floor or the kept number of the later facts is greater
abbrev pub has_risen : Facts → Facts → Bool
has_risen old new = nat_lt old.floor new.floor || nat_lt old.kept new.kept

-- The answer of machine n of node x to a tend, after which the store tells these facts: if they
-- have risen the machine raises its floor, and gives up what they say.
abbrev pub answer_to_tend : ℕ → Machine → Facts → Answer Edits
answer_to_tend x n facts = tend n (has_risen (facts_for x n) facts) facts.kept

-- A node that was machine n tends as that does, by the facts that it tells then. Its store did the
-- first that was due. A crash at any moment leaves the disk of n, or of the machine whose floor a
-- merge has raised.
abbrev pub TendRefines : {D : Type 0} (g : Ghosts D) → (old new : Node D g) → ℕ → Machine →
    Result Tended Stop → Type 0
TendRefines g old new x n result =
    CallRefines g old new x n (tend n true (raised_facts (engine_of old)).kept)
    (λ tended. NodeRefines g.is_honest g.state new x
    (answer_to_tend x n (facts_of (engine_of new))).node
    × IsTendAnswer (engine_of old) (engine_of new) tended) result

-- Of any disk the store did what is answered, and beside the facts, which may be raised, it tells
-- the same; no stop says that none was created.
pub record TendsOwnStore {D : Type 0} {g : Ghosts D} (old new : Node D g)
    (result : Result Tended Stop) : Type 0 where
  pub done : MatchResult result (IsTendOf (engine_of old) (engine_of new)) EndsCreated
  pub told : RaisesFactsAtMost (engine_of old) (engine_of new)
