-- Growth of the persistent state. Definitions without a source are this store's profile.
use Rattle.std.specs.Prelude.{◌≡◌, ℕ, ◌≤◌, List, ◌++◌, Bool}
use Rattle.configurations.specs.{Configurations}
use Rattle.kv_types.specs.{IsPrefix}
use Rattle.chain_model.specs.Messages.{Message}
use Rattle.chain_model.specs.Requests.{Request}
use Rattle.chain_model.specs.Machine.{MachineState, Answer}
use Rattle.chain_model.specs.Rules.{ask, receive, notice, tick, tend}
use Rattle.chain_model.specs.System.{SystemEvent, reached, node_of}

-- m is node n later: its list extends n's, and its epoch, floor and kept number are no smaller
pub record Grows {A : Type 0} (n m : MachineState A) : Type 0 where
  pub list : IsPrefix n.list m.list
  pub epoch : n.epoch ≤ m.epoch
  pub floor : n.floor ≤ m.floor
  pub kept : n.kept ≤ m.kept

-- an answer of node n leaves it running, in a later state
pub record StaysRunning {A : Type 0} (n : MachineState A) (a : Answer A) : Type 0 where
  pub grows : Grows n a.node
  pub running : a.node.running ≡ n.running

-- the answer of each rule has this property
pub record StepsStayRunning (A : Type 0) : Type 0 where
  pub asked : (x i : ℕ) (n : MachineState A) (request : Request A)
      → StaysRunning n (ask x n i request)
  pub received : (x : ℕ) (n : MachineState A) (frame : Message A)
      → StaysRunning n (receive x n frame)
  pub noticed : (x e : ℕ) (n : MachineState A) (ids : List ℕ) → StaysRunning n (notice x n e ids)
  pub ticked : (x : ℕ) (n : MachineState A) → StaysRunning n (tick x n)
  pub tended : (n : MachineState A) (rises : Bool) (gives_up : ℕ)
      → StaysRunning n (tend n rises gives_up)

-- A longer run has all that a shorter run led to: its frames and replies, and its nodes later on.
pub record OnlyGrows {A : Type 0} (cs : Configurations) (events later : List (SystemEvent A)) : Type
    0
  where
    pub nodes : (x : ℕ) → Grows (node_of cs events x) (node_of cs (events ++ later) x)
    pub frames : IsPrefix (reached cs events).frames (reached cs (events ++ later)).frames
    pub replies : IsPrefix (reached cs events).replies (reached cs (events ++ later)).replies
