use Rattle.std.proofs.Common.{◌≡◌, ◌≤◌, ◌<◌, List, sym, ap, subst, arith, rules}
use Rattle.std.specs.List.{insert}
use Rattle.chain_model.specs.Rules.{repeat}
use Rattle.chain_model.specs.RulesLemmas.{prior_least}
use Rattle.chain_core.specs.declared.pending_submit.PendingSubmit.{PendingSubmit}
use Rattle.chain_core.specs.States.{Core, IsInOrder, committed_responses}
use Rattle.chain_core.specs.Queues.{place_behind}
use Rattle.chain_core.specs.Decisions.{CoreFollows}
use Rattle.chain_core.proofs.Queues.{inserted_at, place_within, queue_in_order}
use Rattle.chain_core.specs.CoreState.{core_value}
use Rattle.chain_core.proofs.Orders.{ordered_queued}
use Rattle.chain_core.proofs.After.{follows_queued}
use Rattle.chain_core.proofs.state.CoreState.repeat.Goals as goal

-- the place is in the queue, or right behind it
pub insert-requires : goal.insert-requires
insert-requires c =
    let asked : PendingSubmit = record { number = c.args.number; request = c.args.request } in
    let pending = c.self.inside.pending in
    omega (arith, c.place_behind-place.ensures, place_within asked pending.items, pending.ok.0)

-- the requests stay in order
pub invariant_of-self-2 : goal.invariant_of-self-2
invariant_of-self-2 c =
    let asked : PendingSubmit = record { number = c.args.number; request = c.args.request } in
    let inside = c.self.inside in
    let old = inside.pending.items in
    let put : c.insert.new.self.items ≡ insert old (place_behind asked old) asked =
    inserted_at old c.insert.new.self.items asked c.place_behind-place.result
    (place_behind asked old) c.in_ok-insert.ensures.items c.place_behind-place.ensures in
    let most : c.args.number ≤ inside.count =
    omega (arith, c.requires, ap (λ (v : Core). v.count) c.self.view_is) in
    let above : inside.committed < c.args.number = grind (arith, c.le.ensures, c.if-le.false) in
    let first = prior_least (c.args.number, c.args.request) (omega (arith, above)) in
    ordered_queued (core_value inside) c.self.invariant c.insert.new.self.items
    (subst (λ (l : List PendingSubmit). IsInOrder (1, 0) inside.count l) (sym put)
    (queue_in_order (1, 0) inside.count asked old first most c.self.invariant.pending))

-- the request waits in its place
pub returns : goal.returns
returns c = record {
  after = λ n batch is.
      let now = c.args.self.now in
      let i = c.args.request in
      let k = c.args.number in
      let asked : PendingSubmit = record { number = k; request = i } in
      let inside = c.self.inside in
      let pending = c.insert.new.self.items in
      let same = c.self.view_is in
      let above : inside.committed < k = grind (arith, c.le.ensures, c.if-le.false) in
      let more : now.committed < k =
      omega (arith, above, ap (λ (v : Core). v.committed) same) in
      let there : pending ≡ insert inside.pending.items (place_behind asked inside.pending.items)
      asked =
      inserted_at inside.pending.items pending asked c.place_behind-place.result
      (place_behind asked inside.pending.items) c.in_ok-insert.ensures.items
      c.place_behind-place.ensures in
      let put : pending ≡ insert now.pending (place_behind asked now.pending) asked =
      subst (λ (v : Core). pending ≡ insert v.pending (place_behind asked v.pending) asked) same
      there in
      let new : Core → Core = λ v. record v { pending = pending } in
      subst (λ (v : Core). CoreFollows v (repeat n i k) (committed_responses c.new.result))
      (sym (ap new same))
      (subst (λ (l : List PendingSubmit). CoreFollows (new now) (repeat n i k)
      (committed_responses l)) (sym c.new.ensures) (follows_queued now n is i k more pending put));
  rises = search rules;
  same = search rules;
  memory = search rules;
}
