-- Events: the nodes that they name, and what they deliver.
use Rattle.std.specs.Prelude.{◌≡◌, ℕ, All, IfSome, List, Option, Some, None, true}
use Rattle.kv_types.specs.{has}
use Rattle.disk.specs.declared.Fault.TheVariants as fault
use Rattle.configurations.specs.{Configurations, at_epoch}
use Rattle.events.specs.declared.content.EventContent.{EventContent}
use Rattle.events.specs.declared.kind.EventKind.{EventKind}
use Rattle.events.specs.declared.kind.EventKind.TheVariants.{Submit, Get, Rows, Open, Close}
use Rattle.events.specs.declared.kind.EventKind.TheVariants.{Deliver, Notice, Tick, Tend, Start}
use Rattle.events.specs.declared.kind.EventKind.TheVariants.{Stop}

-- the node that an event names; a frame goes to its addressee
abbrev pub node_in : EventKind → Option ℕ
node_in (Submit node batch) = Some node
node_in (Get node key at) = Some node
node_in (Rows node range at) = Some node
node_in (Open node at) = Some node
node_in (Close node number) = Some node
node_in (Deliver place) = None
node_in (Notice node epoch) = Some node
node_in (Tick node) = Some node
node_in (Tend node) = Some node
node_in (Start node) = Some node
node_in (Stop node junk) = Some node

-- an event names a node of configuration 0, if it names one
abbrev pub NamesNode : Configurations → EventKind → Type 0
NamesNode cs kind = IfSome (node_in kind) (λ x. has (at_epoch cs 0) x ≡ true)

-- each of these events does, if it names one
abbrev pub NamesNodes : Configurations → List EventContent → Type 0
NamesNodes cs events = All (λ event. NamesNode cs event.kind) events

-- the epoch of a notice
abbrev pub epoch_in : EventKind → Option ℕ
epoch_in (Notice node epoch) = Some epoch
epoch_in kind = None

-- something happens without a fault of the disk
abbrev pub faultless : EventKind → EventContent
faultless kind = record { kind = kind; fault = fault.None }

-- the place of the frame that an event delivers
abbrev pub delivered_place : EventKind → Option ℕ
delivered_place (Deliver place) = Some place
delivered_place (Submit node batch) = None
delivered_place (Get node key at) = None
delivered_place (Rows node range at) = None
delivered_place (Open node at) = None
delivered_place (Close node number) = None
delivered_place (Notice node epoch) = None
delivered_place (Tick node) = None
delivered_place (Tend node) = None
delivered_place (Start node) = None
delivered_place (Stop node junk) = None
