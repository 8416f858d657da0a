-- The report of a run, and the run of the model that it refines.
use Rattle.std.specs.Prelude.{◌≡◌, ℕ, List, Option, Some, None, true, false, All}
use Rattle.configurations.specs.{Configurations}
use Rattle.disk.specs.{Slots}
use Rattle.chain_model.specs as model
use Rattle.chain_core.specs.{Machine}
use Rattle.node.specs.declared.Numbers.{Numbers}
use Rattle.node.specs.{NumbersRefine}
use Rattle.events.specs.declared.EventContent.{EventContent}
use Rattle.lab.specs.declared.report.NodeReport.{NodeReport}
use Rattle.lab.specs.declared.report.Report.{Report}
use Rattle.lab.specs.Disks.{HaveDisks, StaysReliable}
use Rattle.lab.specs.Freshness.{NodesKeepEnough, ReadsAreFresh}
use Rattle.lab.specs.SimNodes.{Arrives, Choice, IsUnarmed, in_memory}
use Rattle.lab.specs.Traces.{modelled_from, IsTrace}

-- a running machine has its numbers in a report, and one that is down has none
abbrev pub RunningRefines : Option Numbers → Machine → Type 0
RunningRefines None n = n.running ≡ false
RunningRefines (Some numbers) n = (n.running ≡ true) × NumbersRefine n numbers

-- the numbers of node x after these events, in each of which was chosen so: none if it is down
abbrev pub AreNumbersOf : Configurations → List EventContent → List Choice → ℕ → Option Numbers
    → Type 0
AreNumbersOf cs events choices x told =
    RunningRefines told (model.node_of cs (modelled_from 1 events choices) x)

-- The report is a run of the model over exactly these events, by a carrier that may lose something
-- or not: how each step went and what was lost was chosen so, and then each event has the lines of
-- its outcome, and each node is the one behind the run. Its disk is the one that the events left,
-- represents its machine's whole list, and has no fault. Reads at the last tail are fresh, and no
-- node gives up what another one may lack.
pub record IsRunOver (loses : Type 0) (cs : Configurations) (events : List EventContent)
    (choices : List Choice) (report : Report) : Type 0 where
  pub trace : IsTrace cs events choices report.steps.items
  -- nothing was lost by a carrier that loses nothing
  pub arrives : Arrives loses choices
  pub disks : HaveDisks in_memory (λ (node : NodeReport). node.id)
      (λ (node : NodeReport). node.disk) cs events choices report.nodes.items
  -- so a call of these disks failed only as its fault struck, or as a file was long
  pub reliable : (disk : Slots) → StaysReliable in_memory disk
  pub unarmed : All (λ node. IsUnarmed in_memory node.disk) report.nodes.items
  pub numbers : All (λ node. AreNumbersOf cs events choices node.id node.running)
      report.nodes.items
  pub fresh : ReadsAreFresh cs events choices report.steps.items
  pub enough : NodesKeepEnough cs events choices

-- .. in which nothing was lost
abbrev pub IsRun : Configurations → List EventContent → List Choice → Report → Type 0
IsRun cs events choices report = IsRunOver ⊥ cs events choices report
