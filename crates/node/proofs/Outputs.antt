-- What a step sends and replies.
use Rattle.std.proofs.Common.{◌≡◌, ℕ, ◌+◌, ◌<◌, ◌≤◌, suc, List, [], ◌∷◌, ◌++◌, get_or, length, take}
use Rattle.std.proofs.Math.Seq.{take-suc}
use Rattle.std.proofs.Common.{map, Option, Some, None, Result, Ok, Err, refl, sym, ap}
use Rattle.std.proofs.Common.{subst, ◌∙◌, arith}
use Rattle.std.specs.Prelude.{SomeIff, IfOk, nat_lt}
use Rattle.std.specs.Ordering.{is_gt, nat_cmp}
use Rattle.std.specs.declared.alloc.AllocError.{AllocError}
use Rattle.std.proofs.lemmas.Bool.Decides.{nat_tests}
use Rattle.std.proofs.lemmas.List.{map-append, map_push}
use Rattle.kv_types.specs.{BatchContent, Edits, Span}
use Rattle.chain_model.specs.{Message, Answer, reply_read}
use Rattle.chain_core.specs.declared.Done.{Done}
use Rattle.chain_core.specs.declared.Input.{Input}
use Rattle.chain_core.specs.declared.Input.TheVariants as asked
use Rattle.chain_core.specs.declared.Decision.TheVariants as decision
use Rattle.chain_core.specs.declared.Sent.{Sent}
use Rattle.chain_core.specs.declared.PendingSubmit.{PendingSubmit}
use Rattle.chain_core.specs.{Machine, AreFrames, IsReadOf, frame_as, StepLeaves, frames_after}
use Rattle.chain_core.specs as core
use Rattle.node.specs.declared.output.Output.{Output}
use Rattle.node.specs.declared.output.Reply.{Reply}
use Rattle.node.specs.Outputs.{OutputHas, OutputRefines, committed_reply}
use Rattle.node.specs.Steps.{replies_of}

-- frames one behind another
pub both_sent : (a b : List Sent) (f g : List (Message Edits)) → AreFrames a f →
    AreFrames b g → AreFrames (a ++ b) (f ++ g)
both_sent a b f g of_a of_b =
    let as_model : Sent → Option (Message Edits) = λ it. frame_as it.to it.frame in
    let some : Message Edits → Option (Message Edits) = λ it. Some it in
    map-append as_model a b ∙ ap (λ l. l ++ map as_model b) of_a
    ∙ ap (λ l. map some f ++ l) of_b ∙ sym (map-append some f g)

-- the number that was made
pub made_of : (o : Option ℕ) (P : Type 0) (value number : ℕ) → SomeIff o P value →
    o ≡ Some number → number ≡ value
made_of None P value number made some = absurd cc
made_of (Some it) P value number made some =
    let same : it ≡ number = cc in
    sym same ∙ made.1

-- the replies to due requests are the replies of the machine
pub replies_due : (input : Input) (due : List PendingSubmit) →
    map committed_reply due ≡ replies_of input (core.committed_responses due)
replies_due input [] = refl
replies_due input (it ∷ due) = ap (λ l. committed_reply it ∷ l) (replies_due input due)

pub one_reply_more : (due : List PendingSubmit) (i : ℕ) (it : PendingSubmit)
    (before new : List Reply) → i < length due → it ≡ get_or due i it →
    before ≡ map committed_reply (take i due) → new ≡ before ++ committed_reply it ∷ [] →
    new ≡ map committed_reply (take (i + 1) due)
one_reply_more due i it before new within is was more =
    let next : take (suc i) due ≡ take i due ++ it ∷ [] =
    take-suc due i it within ∙ ap (λ (x : PendingSubmit). take i due ++ x ∷ []) (sym is) in
    let one : suc i ≡ i + 1 = omega arith in
    more ∙ ap (λ (l : List Reply). l ++ committed_reply it ∷ []) was
    ∙ sym (map_push committed_reply (take i due) it) ∙ ap (map committed_reply) (sym next)
    ∙ ap (λ (n : ℕ). map committed_reply (take n due)) one

-- the output after the store's part is the answer of the rule
pub tells_rule : (x : ℕ) (n : Machine) (input : Input) (batch : BatchContent) (d : Done)
    (a : Answer Edits) (due : List PendingSubmit) (sent : List (Message Edits))
    (result : Result Output AllocError) → StepLeaves x n batch d a →
    a.replies ≡ core.committed_responses due →
    sent ≡ frames_after x n d a.node → IfOk result (OutputHas None sent (map committed_reply due)) →
    IfOk result (OutputRefines input a)
tells_rule x n input batch d a due sent (Ok output) leaves replied frames says = record {
  dropped = says.dropped ∙ sym leaves.dropped;
  frames = subst (λ (f : List (Message Edits)). AreFrames output.frames f)
      (frames ∙ sym leaves.frames) says.frames;
  replied = says.replied ∙ replies_due input due ∙ ap (replies_of input) (sym replied);
}
tells_rule x n input batch d a due sent (Err e) leaves replied frames says = tt

-- greater, as code compares and as the rule tests
pub greater : (a b : ℕ) → is_gt (nat_cmp a b) ≡ nat_lt b a
greater a b = grind (arith, nat_tests)

-- the output of a read is the output for the input that requested it
pub tells_read : (n : Machine) (input : Input) (request at : ℕ) (key : List ℕ)
    (result : Result Output AllocError) → IsReadOf n input (decision.Read request key at) →
    ((number : Option ℕ) →
    IfOk result (OutputRefines (asked.Get request key number) (reply_read n request at))) →
    IfOk result (OutputRefines input (reply_read n request at))
tells_read n (asked.Get other asked_key number) request at key result read tells =
    subst (λ (k : List ℕ). IfOk result
    (OutputRefines (asked.Get request k number) (reply_read n request at)))
    read.0 (tells number)
tells_read n _ request at key result read tells = absurd read

-- so is the output of a read of rows
pub tells_rows : (n : Machine) (input : Input) (request at : ℕ) (range : Span)
    (result : Result Output AllocError) → IsReadOf n input (decision.ReadRows request range at) →
    ((number : Option ℕ) →
    IfOk result (OutputRefines (asked.Rows request range number) (reply_read n request at))) →
    IfOk result (OutputRefines input (reply_read n request at))
tells_rows n (asked.Rows other asked_range number) request at range result read tells =
    subst (λ (it : Span). IfOk result
    (OutputRefines (asked.Rows request it number) (reply_read n request at)))
    read.0 (tells number)
tells_rows n _ request at range result read tells = absurd read

-- a read is at a number from the floor to the committed number
pub readable : (n : Machine) (input : Input) (request at : ℕ) (key : List ℕ) →
    IsReadOf n input (decision.Read request key at) → (n.floor ≤ at) × (at ≤ n.committed)
readable n (asked.Get other asked_key number) request at key read = (read.1, read.2)
readable n _ request at key read = absurd read

-- so is a read of rows
pub rows_readable : (n : Machine) (input : Input) (request at : ℕ) (range : Span) →
    IsReadOf n input (decision.ReadRows request range at) → (n.floor ≤ at) × (at ≤ n.committed)
rows_readable n (asked.Rows other asked_range number) request at range read = (read.1, read.2)
rows_readable n _ request at range read = absurd read
