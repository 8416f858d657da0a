use Rattle.std.proofs.Common.{◌≡◌, ◌≤◌, sym, ap, subst, ◌∙◌, max, arith, rules}
use Rattle.chain_model.specs.{on_ack}
use Rattle.chain_core.specs.States.{Core, IsInOrder, committed_responses}
use Rattle.chain_core.specs.Queues.{front, behind}
use Rattle.chain_core.specs.Decisions.{CoreFollows}
use Rattle.chain_core.proofs.Queues.{behind_in_order}
use Rattle.chain_core.specs.CoreState.{core_value}
use Rattle.chain_core.proofs.Orders.{ordered_told}
use Rattle.chain_core.proofs.After.{follows_told}
use Rattle.chain_core.proofs.state.CoreState.apply_ack.Goals as goal

pub invariant_of-self : goal.invariant_of-self
invariant_of-self c =
    let inside = c.self.inside in
    let committed = c.greater-committed.result in
    let pending = c.forget_due.new.pending.items in
    let waits : IsInOrder (1, 0) inside.count pending = rw c.forget_due.ensures
    (behind_in_order (1, 0) inside.count committed inside.pending.items c.self.invariant.pending) in
    let there : c.args.have ≤ inside.count =
    omega (arith, c.requires.there, ap (λ (v : Core). v.count) c.self.view_is) in
    ordered_told (core_value inside) c.self.invariant c.args.committed c.args.have committed
    c.greater-self-inside.result pending c.greater-committed.ensures c.greater-self-inside.ensures
    c.requires.has there waits

pub returns : goal.returns
returns c = record {
  after = λ n batch is.
      let now = c.args.self.now in
      let told = c.args.committed in
      let have = c.args.have in
      let more = c.greater-committed.result in
      let has = c.greater-self-inside.result in
      let pending = c.forget_due.new.pending.items in
      let due = c.in_ok-due.due in
      let same = c.self.view_is in
      let ordered = subst (λ (v : Core). IsInOrder (1, 0) v.count v.pending) same
      c.self.invariant.pending in
      let out : due ≡ front more now.pending =
      c.in_ok-due.ensures ∙ ap (λ (v : Core). front more v.pending) same in
      let left : pending ≡ behind more now.pending =
      c.forget_due.ensures ∙ ap (λ (v : Core). behind more v.pending) same in
      let new : Core → Core = λ v. record v {
        committed = more;
        successor_has = has;
        pending = pending;
      } in
      let replies = committed_responses due in
      subst (λ (v : Core). CoreFollows v (on_ack now.id n told have) replies) (sym (ap new same))
      (follows_told now n is told have more has pending due
      (c.greater-committed.ensures ∙ ap (λ (v : Core). max v.committed told) same)
      (c.greater-self-inside.ensures ∙ ap (λ (v : Core). max v.successor_has have) same)
      ordered left out);
  rises = search rules;
  same = search rules;
  memory = search rules;
}
