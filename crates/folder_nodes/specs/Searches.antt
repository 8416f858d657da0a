-- The search for nodes, each on the disk that is made for its id.
use Rattle.std.specs.Prelude.{◌≡◌, ◌⊎◌, ◌++◌, ◌∷◌, [], ℕ, List, IfOk, Option, Some, None}
use Rattle.std.specs.Prelude.{Result, Ok, Err}
use Rattle.std.specs.Global.{Box}
use Rattle.disk.specs.{contents}
use Rattle.disk.specs.declared.Disk.{Ghosts}
use Rattle.configurations.specs.{at_epoch, Configurations}
use Rattle.kv_types.specs.declared.Limits.{Limits}
use Rattle.chain_core.specs.{Machine}
use Rattle.node.specs.declared.node.Node.{Node}
use Rattle.node.specs.declared.stop.Stop.TheVariants.{Memory}
use Rattle.node.specs.{DiskRefines, DiskRefinesOneOf, IsReady, node_core, node_limits}
use Rattle.node.specs.Outputs.{AlwaysRefines}
use Rattle.lab.specs.declared.SimNode.{SimNode}
use Rattle.lab.specs.declared.node_state.NodeState.TheVariants.{Up}
use Rattle.folder_nodes.specs.Finding.{ExplainsFinding, FindsOwn, KeepsFoundDisk, KeepsFoundFiles}
use Rattle.folder_nodes.specs.Finding.{disk_left, sim_ids}
use Rattle.folder_nodes.specs.declared.fault.EndedSearch.{EndedSearch}
use Rattle.folder_nodes.specs.declared.fault.FolderError.{FolderError}
use Rattle.folder_nodes.specs.declared.fault.FolderError.TheVariants.{OtherNode, Stopped}

-- ---- on one disk

module _ {D : Type 0} (g : Ghosts D) (configs : Configurations) (limits : Limits) (id : ℕ) where
  -- how the search for the node with this id ends on a disk: all that `node_over` promises
  pub record SearchEnds (disk : D) (result : Result (Node D g) (FolderError × D)) : Type 0 where
    pub kept : KeepsFoundDisk g disk result
    pub started : (x : ℕ) (n : Machine) → g.is_honest disk →
        DiskRefines (contents (g.state disk)) x n → FindsOwn configs id x n result
    pub told : g.is_honest disk → ExplainsFinding configs id (contents (g.state disk)) result
    pub works : IfOk result IsReady
    pub limits_are : IfOk result (λ node. node_limits node ≡ limits)
    pub any_moment : (x : ℕ) (n m : Machine) → g.is_honest disk →
        DiskRefinesOneOf (g.state disk) x n m → AlwaysRefines g disk (disk_left result) x n m
    pub files : KeepsFoundFiles g disk result

  -- a search that ended so has this fault: a node has another id, or there is no memory to keep it
  abbrev pub IsFaultOf : FolderError → Result (Node D g) (FolderError × D) → Type 0
  IsFaultOf error (Ok node) =
      (error ≡ Stopped Memory) ⊎ ((error ≡ OtherNode) × ((node_core node).id ≡ id → ⊥))
  IsFaultOf error (Err refused) = error ≡ refused.0

  -- the search on a disk ends with this fault, and leaves this disk
  pub record SearchFails (disk : D) (error : FolderError) (left : D) : Type 0 where
    pub result : Result (Node D g) (FolderError × D)
    pub ends : SearchEnds disk result
    pub why : IsFaultOf error result
    pub is_left : left ≡ disk_left result

-- ---- on the disks of all nodes, each of which one call makes

module _ {D S : Type 0} (g : Ghosts D) (makes : S → ℕ → Result D FolderError → S → Type 0)
    (configs : Configurations) (limits : Limits) where
  -- a simulated node is up, has its id in its own state too, and was found by a search on this disk
  pub record IsFoundOver (disk : D) (sim : SimNode D g) : Type 0 where
    pub node : Box (Node D g)
    pub up : sim.state ≡ Up node
    pub own : (node_core node.value).id ≡ sim.id
    pub ends : SearchEnds g configs limits sim.id disk (Ok node.value)

  -- one call made a disk for each of these nodes, in their order, and there was no other call; each
  -- node was found on its disk
  abbrev pub AreFound : List (SimNode D g) → (old new : S) → Type 0
  AreFound [] old new = new ≡ old
  AreFound (sim ∷ sims) old new = (disk : D) × (mid : S) × makes old sim.id (Ok disk) mid
      × IsFoundOver disk sim × AreFound sims mid new

  -- one call was made for the disk of the node with this id, which has this fault: it was refused,
  -- or a search on its disk left this one
  abbrev pub FaultLeaves : ℕ → FolderError → Option D → (old new : S) → Type 0
  FaultLeaves id error None old new = makes old id (Err error) new
  FaultLeaves id error (Some left) old new =
      (disk : D) × makes old id (Ok disk) new × SearchFails g configs limits id disk error left

  -- the search ended at the node behind those that it found
  pub record IsEndOfSearch (old new : S) (ended : EndedSearch D g) : Type 0 where
    pub rest : List ℕ
    pub order : at_epoch configs 0 ≡ sim_ids ended.found.items ++ ended.fault.id ∷ rest
    pub mid : S
    pub found : AreFound ended.found.items old mid
    pub leaves : FaultLeaves ended.fault.id ended.fault.error ended.disk mid new
