use Rattle.std.proofs.Common.{◌≡◌, ◌∷◌, [], ◌++◌, List, suc, refl, sym, ap, subst, ◌∙◌}
use Rattle.std.proofs.Common.{arith, rules}
use Rattle.std.specs.Prelude.{if◌then◌else◌}
use Rattle.configurations.specs.{is_tail}
use Rattle.chain_model.specs.{accept}
use Rattle.chain_model.specs.RulesLemmas.{prior_least}
use Rattle.chain_core.specs.declared.pending_submit.PendingSubmit.{PendingSubmit}
use Rattle.chain_core.specs.States.{Core, IsInOrder, committed_responses}
use Rattle.chain_core.specs.Queues.{front, behind}
use Rattle.chain_core.specs.Decisions.{CoreFollows}
use Rattle.chain_core.proofs.Queues.{behind_in_order, push_in_order}
use Rattle.chain_core.specs.CoreState.{core_value}
use Rattle.chain_core.proofs.Orders.{ordered_longer}
use Rattle.chain_core.proofs.After.{follows_accept, next_of}
use Rattle.chain_core.proofs.state.CoreState.add_submit.Goals as goal

pub invariant_of-self-2 : goal.invariant_of-self-2
invariant_of-self-2 c =
    let old = c.self.inside.count in
    let number = c.unwrap-number.result in
    let asked : PendingSubmit = record { number = number; request = c.args.request } in
    let pending = c.self.inside.pending.items in
    let next : number ≡ suc old =
    next_of c.next.result _ old old number c.next.ensures c.unwrap-number.ensures refl in
    let rises = push_in_order (1, 0) old pending asked c.self.invariant.pending
    (prior_least (number, c.args.request) (omega (arith, next))) next in
    let waits : IsInOrder (1, 0) number c.forget_due.new.pending.items =
    rw (c.forget_due.ensures, c.in_ok-push_back.ensures.items)
    (behind_in_order (1, 0) number c.committed_with-committed.result (pending ++ asked ∷ []) rises)
    in
    let commits : c.committed_with-committed.result
    ≡ (if is_tail c.self.inside.config c.self.inside.id then number
    else c.self.inside.committed) =
    c.committed_with-committed.ensures
    ∙ ap (λ (v : Core). if is_tail v.ids v.id then number else v.committed) (sym c.self.view_is) in
    ordered_longer (core_value c.self.inside) c.self.invariant number
    c.committed_with-committed.result c.forget_due.new.pending.items next commits waits

pub returns : goal.returns
returns c = record {
  after = λ n batch is.
      let now = c.args.self.now in
      let i = c.args.request in
      let number = c.unwrap-number.result in
      let asked : PendingSubmit = record { number = number; request = i } in
      let committed = c.committed_with-committed.result in
      let pending = c.forget_due.new.pending.items in
      let due = c.in-Ok.due in
      let same = c.self.view_is in
      let ordered = subst (λ (v : Core). IsInOrder (1, 0) v.count v.pending) same
      c.self.invariant.pending in
      let next : number ≡ suc now.count =
      next_of c.next.result _ c.self.inside.count now.count number c.next.ensures
      c.unwrap-number.ensures (ap (λ (v : Core). v.count) same) in
      let all : c.push_back.new.self.items ≡ now.pending ++ asked ∷ [] =
      ◌∙◌ {A = List PendingSubmit} c.in_ok-push_back.ensures.items
      (ap (λ (v : Core). v.pending ++ asked ∷ []) same) in
      let out : due ≡ front committed (now.pending ++ asked ∷ []) =
      c.in-Ok.ensures ∙ ap (front committed) all in
      let left : pending ≡ behind committed (now.pending ++ asked ∷ []) =
      c.forget_due.ensures ∙ ap (behind committed) all in
      let new : Core → Core = λ v. record v {
        count = number;
        committed = committed;
        pending = pending;
      } in
      let replies = committed_responses due in
      subst (λ (v : Core). CoreFollows v (accept now.id n i batch) replies) (sym (ap new same))
      (follows_accept now n is i batch number committed next ordered
      c.committed_with-committed.ensures pending due left out);
  rises = search rules;
  same = search rules;
  memory = search rules;
}
