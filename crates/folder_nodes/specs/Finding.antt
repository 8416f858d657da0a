-- The node of a disk: the one that it represents, or one that is created there.
use Rattle.std.specs.Prelude.{◌≡◌, ◌⊎◌, ◌↔◌, ◌<◌, ℕ, Bool, List, IsTrue, length, map}
use Rattle.std.specs.Prelude.{Result, Ok, Err, IfErr, IsErrAnd, MatchResult}
use Rattle.disk.specs.{Contents, IsEnvironmental, IsStill, KeepsDisk, State, contents}
use Rattle.disk.specs.declared.Disk.{Ghosts}
use Rattle.configurations.specs.{at_epoch, Configurations}
use Rattle.chain_model.specs.{created, started}
use Rattle.chain_core.specs.{Machine}
use Rattle.engine.specs.{AreShut, SparesNamed}
use Rattle.manifest.specs.{HasOnlyCreationFiles, IsNotCreated, IsOldStore, ManifestRepresents}
use Rattle.manifest.specs.{NodeVersion, SlotsRead, WasCutShort}
use Rattle.node.specs.declared.node.Node.{Node}
use Rattle.node.specs.declared.stop.Stop.TheVariants as stop
use Rattle.node.specs.Starts.{IsStarted, StartRefusal}
use Rattle.node.specs.{IsOwned, NodeRefines, disk_of}
use Rattle.lab.specs.declared.SimNode.{SimNode}
use Rattle.folder_nodes.specs.declared.fault.FolderError.{FolderError}
use Rattle.folder_nodes.specs.declared.fault.FolderError.TheVariants.{OtherNode, Stopped}

-- ---- the node

-- a version is of the node with this id, in a configuration of the list
pub record IsOwnVersion (configs : Configurations) (id : ℕ) (named : NodeVersion) : Type 0 where
  pub same : named.id ≡ id
  pub within : named.version.epoch < length configs
  pub ids : named.version.ids ≡ at_epoch configs named.version.epoch

-- the machine of node x is of the node with this id, in a configuration of the list
pub record IsOwn (configs : Configurations) (id x : ℕ) (n : Machine) : Type 0 where
  pub same : x ≡ id
  pub within : n.epoch < length configs
  pub ids : n.ids ≡ at_epoch configs n.epoch

-- A disk with this content has a version, and this is whether it is the own one. The slots read as
-- before.
pub record NamesOwn (configs : Configurations) (id : ℕ) (own : Bool) (left : Contents)
    (new : State) : Type 0 where
  pub named : NodeVersion
  pub represents : ManifestRepresents named left
  pub read : SlotsRead new left
  pub decides : IsTrue own ↔ IsOwnVersion configs id named

-- a disk with this content has the version of the own node
abbrev pub HasOwnVersion : Configurations → ℕ → Contents → Type 0
HasOwnVersion configs id left =
    (named : NodeVersion) × ManifestRepresents named left × IsOwnVersion configs id named

-- a disk with this content has the version of another node, or of another configuration
abbrev pub HasOtherVersion : Configurations → ℕ → Contents → Type 0
HasOtherVersion configs id left =
    (named : NodeVersion) × ManifestRepresents named left × (IsOwnVersion configs id named → ⊥)

-- why the node of a disk with this content was not started
abbrev pub StartFailure : Contents → FolderError → Type 0
StartFailure left (Stopped cause) = StartRefusal cause left
StartFailure left OtherNode = ⊥

-- why a disk with this content has no node for a run
abbrev pub FindingRefusal : Configurations → ℕ → Contents → FolderError → Type 0
FindingRefusal configs id left OtherNode = HasOtherVersion configs id left
FindingRefusal configs id left (Stopped stop.Disk) = Unit {0}
FindingRefusal configs id left (Stopped stop.Memory) = Unit {0}
FindingRefusal configs id left (Stopped stop.Damaged) = StartRefusal stop.Damaged left
FindingRefusal configs id left (Stopped stop.NotCreated) =
    IsNotCreated left × (HasOnlyCreationFiles left → ⊥)
FindingRefusal configs id left (Stopped stop.OldFormat) = IsOldStore left

-- refused for the device or for want of memory
abbrev pub IsForEnvironment : FolderError → Type 0
IsForEnvironment = IsEnvironmental (Stopped stop.Disk) (Stopped stop.Memory)

module _ {D : Type 0} {g : Ghosts D} where
  -- the ids of simulated nodes, in order
  abbrev pub sim_ids : List (SimNode D g) → List ℕ
  sim_ids nodes = map (λ sim. sim.id) nodes

  -- the disk that a call received: the node has it, or the refusal returns it
  abbrev pub disk_left : Result (Node D g) (FolderError × D) → D
  disk_left (Ok node) = disk_of node
  disk_left (Err refused) = refused.1

  -- the node with this id as it is created in the first configuration
  abbrev pub IsCreatedIn : Configurations → ℕ → Node D g → Type 0
  IsCreatedIn configs id node =
      NodeRefines g.is_honest g.state node id (created (at_epoch configs 0))

  -- the node is created, or refused for a cause of the environment
  abbrev pub CreatesIn : Configurations → ℕ → Result (Node D g) (FolderError × D) → Type 0
  CreatesIn configs id result =
      MatchResult result (IsCreatedIn configs id) (λ refused. IsForEnvironment refused.0)

  -- the node is created where there is nothing but what a creation may have left
  abbrev pub CreatesAgain : Configurations → ℕ → Contents → Result (Node D g) (FolderError × D) →
      Type 0
  CreatesAgain configs id left result =
      MatchResult result (λ node. HasOnlyCreationFiles left × IsCreatedIn configs id node)
      (λ refused. IsForEnvironment refused.0
      ⊎ ((refused.0 ≡ Stopped stop.NotCreated) × (HasOnlyCreationFiles left → ⊥)))

  -- the node is started with what the files of its disk open as, or the content explains why not
  abbrev pub StartsFrom : Contents → Result (Node D g) (FolderError × D) → Type 0
  StartsFrom left result =
      MatchResult result (IsStarted left) (λ refused. StartFailure left refused.0)

  -- a node that was found on a disk with this content: the own one, with what the files open as; or
  -- a new one, where there was no more than a creation may have left that was cut short
  abbrev pub IsFoundOn : Configurations → ℕ → Contents → Node D g → Type 0
  IsFoundOn configs id left node =
      (HasOwnVersion configs id left × IsStarted left node)
      ⊎ (WasCutShort left × IsCreatedIn configs id node)

  -- a node was found on a disk with this content, or the content explains the refusal
  abbrev pub ExplainsFinding : Configurations → ℕ → Contents →
      Result (Node D g) (FolderError × D) → Type 0
  ExplainsFinding configs id left result =
      MatchResult result (IsFoundOn configs id left)
      (λ refused. FindingRefusal configs id left refused.0)

  -- node x with this machine is started, or refused for a cause of the environment
  abbrev pub StartsAs : ℕ → Machine → Result (Node D g) (FolderError × D) → Type 0
  StartsAs x n result =
      MatchResult result (λ node. NodeRefines g.is_honest g.state node x (started x n))
      (λ refused. IsForEnvironment refused.0)

  -- node x with this machine is started if it is the own one, and refused if it is not
  abbrev pub FindsOwn : Configurations → ℕ → ℕ → Machine → Result (Node D g) (FolderError × D) →
      Type 0
  FindsOwn configs id x n result =
      MatchResult result
      (λ node. IsOwn configs id x n × NodeRefines g.is_honest g.state node x (started x n))
      (λ refused. IsForEnvironment refused.0
      ⊎ ((refused.0 ≡ OtherNode) × (IsOwn configs id x n → ⊥)))

module _ {D : Type 0} (g : Ghosts D) where
  -- What a search for the node leaves of the files: those that the version of the slots names,
  -- whatever it answers; and all of them, where it is refused for what the disk has, or where they
  -- open as no store, unless a creation may have left them that was cut short.
  pub record KeepsFoundFiles (disk : D) (result : Result (Node D g) (FolderError × D)) : Type 0
    where
      pub named : SparesNamed g disk (disk_left result)
      pub refused : IfErr result (λ refused. (IsForEnvironment refused.0 → ⊥) →
          IsStill g disk refused.1)
      pub shut : AreShut (contents (g.state disk)) → (WasCutShort (contents (g.state disk)) → ⊥) →
          IsStill g disk (disk_left result)

  -- the device is kept, which failed exactly where the refusal is for it
  abbrev pub KeepsFoundDisk : D → Result (Node D g) (FolderError × D) → Type 0
  KeepsFoundDisk disk result = KeepsDisk g disk (disk_left result)
      (IsErrAnd result (λ refused. refused.0 ≡ Stopped stop.Disk)) ⊥ IsOwned
