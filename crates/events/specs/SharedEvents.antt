-- Events whose clones share their memory.
use Rattle.events.specs.declared.content.EventContent.{EventContent}
use Rattle.events.specs.declared.kind.EventKind.{EventKind}
use Rattle.events.specs.declared.kind.EventKind.TheVariants as event_kind
use Rattle.events.specs.Events.{faultless}
use Rattle.events.specs.declared.event.EventForm.{EventForm}
use Rattle.events.specs.declared.event.EventForm.TheVariants as form
use Rattle.events.specs.declared.lent.LentKind.{LentKind}
use Rattle.events.specs.declared.lent.LentKind.TheVariants as shared

-- the event that is kept in this form
abbrev pub shared_event : EventForm → EventContent
shared_event (form.Deliver place) = faultless (event_kind.Deliver place)
shared_event (form.Submit node batch) = faultless (event_kind.Submit node batch)
shared_event (form.Get node lookup) =
    faultless (event_kind.Get node lookup.value.key lookup.value.at)
shared_event (form.Faultless kind) = faultless kind.value
shared_event (form.Faulty event) = event.value

-- the kind of an event that is kept
abbrev pub shared_kind : LentKind → EventKind
shared_kind (shared.Deliver place) = event_kind.Deliver place
shared_kind (shared.Submit node batch) = event_kind.Submit node batch.now
shared_kind (shared.Get node key at) = event_kind.Get node key.now at
shared_kind (shared.Kept kind) = kind.now
