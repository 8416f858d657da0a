-- The spelling of an event: the words of its kind, and behind them those of its fault.
use Rattle.std.specs.Prelude.{◌≡◌, ℕ, Bool, true, false, List, ◌++◌}
use Rattle.events.specs.declared.EventContent.{EventContent}
use Rattle.events.specs.declared.EventKind.{EventKind}
use Rattle.events.specs.declared.EventKind.TheVariants.{Submit, Get, Deliver, Tick}
use Rattle.events.specs.declared.EventKind.TheVariants.{Tend, Start, Stop}
use Rattle.events.specs.declared.EventKind.TheVariants.{Rows, Open, Close, Notice}
use Rattle.scripts.specs.Statements.{CanBeSaid, IsSpelled}
use Rattle.script_words.specs.FaultWords.{FaultCanBeSaid, IsFault}
use Rattle.disk.specs.declared.Fault.TheVariants as disk

-- a stop bears no fault
abbrev pub bears_fault : EventKind → Bool
bears_fault (Submit node batch) = true
bears_fault (Get node key at) = true
bears_fault (Rows node range at) = true
bears_fault (Open node at) = true
bears_fault (Close node number) = true
bears_fault (Deliver place) = true
bears_fault (Notice node epoch) = true
bears_fault (Tick node) = true
bears_fault (Tend node) = true
bears_fault (Start node) = true
bears_fault (Stop node junk) = false

-- words spell an event: first those of its kind, then those of its fault
pub record SpellsEvent (words : List (List ℕ)) (event : EventContent) : Type 0 where
  pub first : List (List ℕ)
  pub behind : List (List ℕ)
  pub parts : words ≡ first ++ behind
  pub kind_said : CanBeSaid event.kind
  pub kind : IsSpelled event.kind first
  pub fault_said : FaultCanBeSaid event.fault
  pub fault : IsFault event.fault behind
  pub none : bears_fault event.kind ≡ false → event.fault ≡ disk.None
