-- A notice: its words, its epoch, and the node that it is for.
use Rattle.std.proofs.Common.{◌≡◌, ◌∙◌, ◌<◌, ◌^◌, ℕ, List, [], ◌∷◌, length, ap, arith, codes, refl}
use Rattle.std.proofs.Common.{Err, None, Ok, Option, Some, inr, subst, sym, true}
use Rattle.std.specs.Prelude.{nat_lt, Bool}
use Rattle.std.specs.Fmt.{decimal}
use Rattle.std.specs.Option.{option_map_or}
use Rattle.std.proofs.lemmas.Bool.Decides.{nat_tests}
use Rattle.configurations.specs.NodeLists.{Configurations}
use Rattle.disk.specs.declared.Fault.{Fault}
use Rattle.events.specs.declared.EventKind.TheVariants.{Notice}
use Rattle.script_words.specs.declared.error.ScriptError.{ScriptError}
use Rattle.scripts.specs.declared.statement.ParserState.{ParserState}
use Rattle.scripts.specs.declared.statement.Action.TheVariants.{Event}
use Rattle.script_words.specs.Words.{before_fault, from_fault}
use Rattle.scripts.specs.Statements.{IsSpelled}
use Rattle.scripts.specs.Faults.{epoch_fault, node_fault, place_fault}
use Rattle.scripts.specs.Reading.{HasEpoch, Places}
use Rattle.script_words.specs.FaultWords.{ReadsFaultAs}
use Rattle.scripts.proofs.Placing.{IsRead, is_of_place, is_read, stands}
use Rattle.scripts.proofs.ReadBack.{event_read}
use Rattle.events.specs.declared.EventContent.{EventContent}

abbrev noticing : ℕ → ℕ → Fault → EventContent
noticing node epoch fault = record { kind = Notice node epoch; fault = fault }

pub read_notice : (faults : Bool) (args cut behind : List (List ℕ)) (node epoch : ℕ) (fault : Fault)
    → cut ≡ before_fault args → behind ≡ from_fault args → node < 2 ^ 63 → epoch < 2 ^ 63
    → cut ≡ decimal node ∷ decimal epoch ∷ [] → ReadsFaultAs faults (codes "notice") behind fault
    → IsRead faults (codes "notice") args (noticing node epoch fault)
read_notice faults args cut behind node epoch fault first others small low is reads =
    let spelled : IsSpelled (Notice node epoch) (codes "notice" ∷ cut) = rw is refl in
    is_read faults (codes "notice") args cut behind (noticing node epoch fault) first others
    (event_read (Notice node epoch) (codes "notice" ∷ cut) (small, low) spelled) refl
    (small, low) spelled reads

pub known_epoch : (cs : Configurations) (epoch : ℕ) → epoch < length cs
    → epoch_fault (Some epoch) (Some cs) ≡ None
known_epoch cs epoch within =
    let is : nat_lt epoch (length cs) ≡ true = grind (arith, nat_tests) in rw is refl

-- where its epoch is one of a configuration, its fault is that of its node
of_known : (configs : Option Configurations) (epoch : ℕ) (named : Option ℕ)
    → HasEpoch configs epoch
    → place_fault (Some epoch) configs named ≡ node_fault configs named
of_known configs epoch named (cs, at, within) = rw (at, known_epoch cs epoch within) refl

pub notices : (before : ParserState) (args : List (List ℕ)) (node epoch : ℕ) (fault : Fault)
    → IsRead before.faults (codes "notice") args (noticing node epoch fault)
    → HasEpoch before.configs epoch → node_fault before.configs (Some node) ≡ None
    → Places before (codes "notice") args (Ok (Event (noticing node epoch fault)))
notices before args node epoch fault r has_epoch free =
    let found = stands before.configs node free in
    let both : Some has_epoch.0 ≡ Some found.0 = sym has_epoch.1 ∙ found.1 in
    let same : has_epoch.0 ≡ found.0 = ap (λ o. option_map_or (λ x. x) o []) both in
    let within : epoch < length found.0 =
    subst (λ (cs : Configurations). epoch < length cs) same has_epoch.2 in (
      is_of_place before (codes "notice") args (Notice node epoch) r.good r.said r.spelled
          ∙ (of_known before.configs epoch (Some node) has_epoch ∙ free),
      (
        found.0,
        found.1,
        inr (noticing node epoch fault, r.spells, found.2, within, refl),
      ),
    )

pub unnoticed : (before : ParserState) (args : List (List ℕ)) (node epoch : ℕ) (fault : Fault)
    (e : ScriptError) → IsRead before.faults (codes "notice") args (noticing node epoch fault)
    → place_fault (Some epoch) before.configs (Some node) ≡ Some e
    → Places before (codes "notice") args (Err e)
unnoticed before args node epoch fault e r faulty =
    λ _. is_of_place before (codes "notice") args (Notice node epoch) r.good r.said r.spelled
    ∙ faulty

pub unnoticed_node : (before : ParserState) (args : List (List ℕ)) (node epoch : ℕ)
    (fault : Fault) (e : ScriptError)
    → IsRead before.faults (codes "notice") args (noticing node epoch fault)
    → HasEpoch before.configs epoch → node_fault before.configs (Some node) ≡ Some e
    → Places before (codes "notice") args (Err e)
unnoticed_node before args node epoch fault e r has_epoch faulty =
    unnoticed before args node epoch fault e r
    (of_known before.configs epoch (Some node) has_epoch ∙ faulty)
