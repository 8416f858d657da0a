-- The answers of the calls that receive a disk: a node, or a refusal.
use Rattle.std.specs.Prelude.{◌≡◌, ◌≤◌, ℕ, List, Result, Ok, Err, IsErrAnd, MatchResult}
use Rattle.disk.specs.{Contents, IsEnvironmental, KeepsDisk}
use Rattle.kv_types.specs.declared.Limits.{Limits}
use Rattle.disk.specs.declared.Disk.{Ghosts}
use Rattle.chain_model.specs.{started}
use Rattle.chain_core.specs.{Core, CoreRefines, IsAtStart, Machine}
use Rattle.engine.specs.declared.Engine.{Engine}
use Rattle.engine.specs.{LookUps}
use Rattle.engine.specs.{EngineHolds, IsDamaged, IsNotCreated, IsOldStore, IsOpened, IsOwned}
use Rattle.engine.specs.{facts_of, look_ups}
use Rattle.node.specs.declared.node.Node.{Node}
use Rattle.node.specs.declared.stop.Stop.{Stop}
use Rattle.node.specs.declared.stop.Stop.TheVariants as stop
use Rattle.node.specs.Steps.{HasNumbersOf, IsReady, NodeRefines, disk_of, engine_of, facts_for}
use Rattle.node.specs.Steps.{node_core, node_limits}

-- the disk's files open as what the started node's store tells
abbrev pub IsStarted : {D : Type 0} {g : Ghosts D} → Contents → Node D g → Type 0
IsStarted left node = IsOpened left (engine_of node)

-- why no node was started from a disk, by its content
abbrev pub StartRefusal : Stop → Contents → Type 0
StartRefusal stop.Disk left = Unit {0}
StartRefusal stop.Damaged left = IsDamaged left
StartRefusal stop.Memory left = Unit {0}
StartRefusal stop.NotCreated left = IsNotCreated left
StartRefusal stop.OldFormat left = IsOldStore left

-- The state that a node starts with has just begun with the numbers of its store and this
-- configuration. It refines, as started, each machine that has these numbers and this
-- configuration.
pub record CoreStartsFrom (told : LookUps) (config : List ℕ) (core : Core) : Type 0 where
  pub id : core.id ≡ told.facts.id
  pub is : (n : Machine) → HasNumbersOf told n → n.ids ≡ config →
      CoreRefines core (started told.facts.id n)
  pub epoch : core.epoch ≡ told.facts.epoch
  pub ids : core.ids ≡ config
  pub count : core.count ≡ told.count
  pub floor : core.floor ≡ told.facts.floor
  pub kept : core.kept ≡ told.facts.kept
  pub begins : IsAtStart core
  pub rises : told.facts.floor ≤ core.committed

-- A node that began with an opened engine has its facts, count and limits, is ready and has just
-- begun. It refines each machine that the engine represents, as started.
pub record RunsOpened {D : Type 0} (g : Ghosts D) (engine : Engine D g) (node : Node D g) :
    Type 0 where
  pub runs : (x : ℕ) (n : Machine) → EngineHolds g engine n.list →
      facts_of engine ≡ facts_for x n → NodeRefines g.is_honest g.state node x (started x n)
  pub facts : facts_of (engine_of node) ≡ facts_of engine
  pub count : (look_ups (engine_of node)).count ≡ (look_ups engine).count
  pub limits : node_limits node ≡ (look_ups engine).limits
  pub works : IsReady node
  pub begins : IsAtStart (node_core node)

module _ {D : Type 0} {g : Ghosts D} where
  -- a node that works by these limits, and whose state has just begun
  pub record HasBegunWith (given : Limits) (node : Node D g) : Type 0 where
    pub limits : node_limits node ≡ given
    pub state : IsAtStart (node_core node)

  -- the disk that a call received: the node has it, or the refusal returns it
  abbrev pub disk_behind : Result (Node D g) (Stop × D) → D
  disk_behind (Ok node) = disk_of node
  disk_behind (Err refused) = refused.1

  -- the call keeps the disk that it received, which failed exactly where it refuses for the disk
  abbrev pub KeepsReceived : D → Result (Node D g) (Stop × D) → Type 0
  KeepsReceived disk result = KeepsDisk g disk (disk_behind result)
      (IsErrAnd result (λ refused. refused.0 ≡ stop.Disk)) ⊥ IsOwned

  -- the node refines this machine, or the call is refused for a cause of the environment
  abbrev pub BeginsAs : ℕ → Machine → Result (Node D g) (Stop × D) → Type 0
  BeginsAs x n result = MatchResult result (λ node. NodeRefines g.is_honest g.state node x n)
      (λ refused. IsEnvironmental stop.Disk stop.Memory refused.0)

  -- the disk's content is what the node was started from, or explains the refusal
  abbrev pub ExplainsStart : Contents → Result (Node D g) (Stop × D) → Type 0
  ExplainsStart left result =
      MatchResult result (IsStarted left) (λ refused. StartRefusal refused.0 left)
