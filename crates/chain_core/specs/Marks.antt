-- The mark that a list holds for the client of a batch that is submitted.
use Rattle.std.specs.Prelude.{◌≡◌, ◌==◌, ℕ, nat_lt, List, Option, Some, None, IfSome, option_map}
use Rattle.std.specs.Prelude.{if◌then◌else◌}
use Rattle.kv_types.specs.declared.mark.HeldMark.{HeldMark}
use Rattle.kv_types.specs.declared.mark.Mark.{Mark}
use Rattle.kv_types.specs.{BatchContent, held_as, mark_held, mark_of}
use Rattle.chain_core.specs.declared.input.Input.{Input}
use Rattle.chain_core.specs.declared.input.Input.TheVariants as input
use Rattle.chain_core.specs.declared.deciding.RequestOrder.{RequestOrder}
use Rattle.chain_core.specs.declared.deciding.RequestOrder.TheVariants as orders

-- the client of the mark of the batch that an input submits, if there is one
abbrev pub client_of : Input → Option ℕ
client_of (input.Submit request batch) = option_map (λ (mark : Mark). mark.client) (mark_of batch)
client_of _ = None

-- the list holds this mark for the client of the input, if it has one
abbrev pub IsHeldFor : Input → List BatchContent → Option HeldMark → Type 0
IsHeldFor input list held = IfSome (client_of input)
    (λ client. mark_held list client ≡ held_as held)

-- what a batch with this mark is among those of its client, for which this mark is held
abbrev pub request_order : Option Mark → Option HeldMark → RequestOrder
request_order None held = orders.Next
request_order (Some mark) None = orders.Next
request_order (Some mark) (Some held) =
    if nat_lt held.request mark.request then orders.Next
    else if held.request == mark.request then orders.Again held.number
    else orders.Old
