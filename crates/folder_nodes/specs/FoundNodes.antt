-- Nodes that were found in folders.
use Rattle.std.specs.Prelude.{◌≡◌, ◌≢◌, ℕ, List, [], ◌∷◌, ◌++◌, MatchResult, Result}
use Rattle.std.specs.Global.{Box}
use Rattle.disk.specs.declared.Disk.{Ghosts}
use Rattle.dir_disk.specs.declared.folder.DirDisk.{DirDisk}
use Rattle.dir_disk.specs.Disks.{IsLockedFolder}
use Rattle.dir_disk.specs.Names.{file_path}
use Rattle.kv_types.specs.declared.Limits.{Limits}
use Rattle.node.specs.declared.node.Node.{Node}
use Rattle.node.specs.{disk_of, node_core, node_limits}
use Rattle.lab.specs.declared.SimNode.{SimNode}
use Rattle.lab.specs.declared.node_state.NodeState.TheVariants.{Up}
use Rattle.folder_nodes.specs.declared.fault.FolderError.{FolderError}
use Rattle.folder_nodes.specs.Finding.{IsForEnvironment}

-- these nodes, and behind them one with this id, which is up
pub record AddsNode {D : Type 0} {g : Ghosts D} (id : ℕ) (node : Node D g)
    (old new : List (SimNode D g)) : Type 0 where
  pub sim : SimNode D g
  pub more : new ≡ old ++ sim ∷ []
  pub named : sim.id ≡ id
  pub up : (box : Box (Node D g)) × (sim.state ≡ Up box) × (box.value ≡ node)

-- the disk of the folder behind this path that has the id for its name, with its lock, where the
-- path is not empty; or a refusal for the device or for want of memory
abbrev pub FolderAnswers : {R : Type 0} → List ℕ → ℕ → Result (DirDisk R) FolderError → Type 0
FolderAnswers path id result = MatchResult result
    (λ disk. (path ≢ []) × IsLockedFolder (file_path path id) disk) IsForEnvironment

module _ {R : Type 0} {g : Ghosts (DirDisk R)} where
  -- the node's disk is the folder behind this path that has the id for its name, with its lock
  abbrev pub IsNodeIn : List ℕ → ℕ → Node (DirDisk R) g → Type 0
  IsNodeIn path id node = IsLockedFolder (file_path path id) (disk_of node)

  -- a simulated node is up, was found in its folder behind this path, which is not empty, has the
  -- id of this folder, and these limits
  pub record IsFoundIn (path : List ℕ) (limits : Limits) (sim : SimNode (DirDisk R) g) : Type 0
    where
      pub path_is : path ≢ []
      pub node : Box (Node (DirDisk R) g)
      pub up : sim.state ≡ Up node
      pub own : (node_core node.value).id ≡ sim.id
      pub limits_are : node_limits node.value ≡ limits
      pub found : IsNodeIn path sim.id node.value
