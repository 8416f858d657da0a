-- What was carried, one after another, and all that an event asks of the carrier.
use Rattle.std.proofs.Common.{◌≡◌, ℕ, Bool, List, [], ◌++◌, length, Option, Some, None}
use Rattle.std.proofs.Common.{sym, ap, ap₂, subst, ◌∙◌, append_assoc, append-nil}
use Rattle.kv_types.specs.{Edits}
use Rattle.chain_model.specs.{Outcome}
use Rattle.chain_core.specs.{Machine}
use Rattle.std.proofs.lemmas.List.Elements.{All-append, All-nil}
use Rattle.carriers.specs.declared.Carrier.{Ghosts as Carriers}
use Rattle.carriers.specs.{HasCarried, IsUnaltered, Transmission, unless_lost}
use Rattle.lab.specs.declared.delivery.Posted.{Posted}
use Rattle.events.specs.declared.EventContent.{EventContent}
use Rattle.lab.specs.declared.report.Line.{Line}
use Rattle.lab.specs.Events.{lines_of_event}
use Rattle.lab.specs.SimNodes.{Choice}
use Rattle.lab.specs.Transmissions.{frame_sent, replies_from, replies_sent, transmissions_of}

module _ {C : Type 0} (h : Carriers C) where
  -- a carrier that was not asked has carried nothing more
  pub carried_none : (it : C) → HasCarried h it it []
  carried_none it = record {
    faithful = (λ is. is, λ is. is);
    asked = λ earlier was. subst (h.has_carried it) (sym (append-nil earlier)) was;
    unaltered = λ _. All-nil IsUnaltered;
    lost = All-nil (λ (t : Transmission). t.got ≡ None → h.loses);
  }

  -- a carrier was asked, and then again
  pub carried_both : (old mid new : C) (first second : List Transmission) →
      HasCarried h old mid first → HasCarried h mid new second →
      HasCarried h old new (first ++ second)
  carried_both old mid new first second one two = record {
    faithful = (
      λ is. one.faithful.0 (two.faithful.0 is),
      λ is. two.faithful.1 (one.faithful.1 is),
    );
    asked = λ earlier was. subst (h.has_carried new) (append_assoc earlier first second)
        (two.asked (earlier ++ first) (one.asked earlier was));
    unaltered = λ is. All-append IsUnaltered first second (one.unaltered is)
        (two.unaltered (one.faithful.1 is));
    lost = All-append (λ (t : Transmission). t.got ≡ None → h.loses) first second one.lost
        two.lost;
  }

module _ (posted : List Posted) (i : ℕ) (event : EventContent) (choice : Choice)
    (o : Outcome Edits) where
  -- where a node gave these lines, of which these were told
  pub sent_by_both : (x : ℕ) (n : Machine) (lost : Bool) (heard : List Bool) (given : List Line) →
      choice.lost ≡ lost → o.acted_on ≡ Some (x, n) → choice.told ≡ heard →
      given ≡ lines_of_event (length posted) event choice o →
      transmissions_of posted i event choice o
      ≡ frame_sent posted i event.kind (unless_lost lost) ++ replies_sent x heard given
  sent_by_both x n lost heard given lost_so acted told gives =
      ap₂ (λ (b : Bool) (l : List Transmission). frame_sent posted i event.kind (unless_lost b) ++
      l) lost_so
      (ap₂ (λ (a : Option (ℕ × Machine)) (t : List Bool). replies_from a t
      (lines_of_event (length posted) event choice o)) acted told
      ∙ ap (λ (l : List Line). replies_sent x heard l) (sym gives))

  -- where no node acted
  pub sent_alone : o.acted_on ≡ None → transmissions_of posted i event choice o
      ≡ frame_sent posted i event.kind (unless_lost choice.lost)
  sent_alone none =
      ap (λ (a : Option (ℕ × Machine)). frame_sent posted i event.kind (unless_lost choice.lost)
      ++ replies_from a choice.told (lines_of_event (length posted) event choice o)) none
      ∙ append-nil (frame_sent posted i event.kind (unless_lost choice.lost))
