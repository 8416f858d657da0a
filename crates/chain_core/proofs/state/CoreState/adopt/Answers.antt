use Rattle.std.proofs.Common.{◌≡◌, [], Bool, not, sym, ap, subst, ◌∙◌, rules}
use Rattle.std.proofs.Common.{refl}
use Rattle.std.specs.Prelude.{if◌then◌else◌}
use Rattle.configurations.specs.{is_tail}
use Rattle.kv_types.specs.{has}
use Rattle.chain_model.specs.Rules.{adopt}
use Rattle.chain_core.specs.States.{Core, IsInOrder, committed_responses}
use Rattle.chain_core.specs.Queues.{front, behind}
use Rattle.chain_core.specs.Decisions.{CoreFollows}
use Rattle.chain_core.proofs.Queues.{behind_in_order, kept_where, where_in_order}
use Rattle.chain_core.specs.CoreState.{core_value}
use Rattle.chain_core.proofs.Orders.{ordered_adopted}
use Rattle.chain_core.proofs.After.{follows_adopt}
use Rattle.chain_core.proofs.state.CoreState.adopt.Goals as goal

pub invariant_of-self : goal.invariant_of-self
invariant_of-self c =
    let inside = c.self.inside in
    let committed = c.committed_under-committed.result in
    let stays = has c.args.config inside.id in
    let old = inside.pending.items in
    let left = c.forget_where.ensures
    ∙ ap (λ (b : Bool). if b then [] else old) (ap not c.has-stays.ensures)
    ∙ kept_where stays old in
    let rises = where_in_order stays inside.count old c.self.invariant.pending in
    let waits : IsInOrder (1, 0) inside.count c.forget_due.new.pending.items =
    rw (c.forget_due.ensures, left)
    (behind_in_order (1, 0) inside.count committed (if stays then old else []) rises) in
    ordered_adopted (core_value inside) c.self.invariant c.args.epoch committed c.args.config
    c.forget_due.new.pending.items
    (c.committed_under-committed.ensures
    ∙ ap (λ (v : Core). if is_tail c.args.config v.id then v.count else v.committed)
    (sym c.self.view_is)) waits

pub returns : goal.returns
returns c = record {
  after = λ n batch is.
      let now = c.args.self.now in
      let epoch = c.args.epoch in
      let ids = c.args.config in
      let committed = c.committed_under-committed.result in
      let pending = c.forget_due.new.pending.items in
      let due = c.in_ok-due.due in
      let same = c.self.view_is in
      let ordered = subst (λ (v : Core). IsInOrder (1, 0) v.count v.pending) same
      c.self.invariant.pending in
      let stays = has ids now.id in
      let waits = if stays then now.pending else [] in
      let left : c.forget_where.new.pending.items ≡ waits =
      c.forget_where.ensures
      ∙ ap (λ (b : Bool). if b then [] else c.self.inside.pending.items)
      (ap not c.has-stays.ensures)
      ∙ kept_where (has ids c.self.inside.id) c.self.inside.pending.items
      ∙ ap (λ (v : Core). if has ids v.id then v.pending else []) same in
      let out : due ≡ front committed waits =
      c.in_ok-due.ensures ∙ ap (λ (b : Bool). front committed
      (if b then c.self.inside.pending.items else [])) c.has-stays.ensures
      ∙ ap (λ (v : Core). front committed (if has ids v.id then v.pending else [])) same in
      let rest : pending ≡ behind committed waits =
      c.forget_due.ensures ∙ ap (behind committed) left in
      let new : Core → Core = λ v. record v {
        epoch = epoch;
        ids = ids;
        committed = committed;
        successor_has = committed;
        pending = pending;
      } in
      let replies = committed_responses due in
      subst (λ (v : Core). CoreFollows v (adopt now.id n epoch ids) replies) (sym (ap new same))
      (follows_adopt now n is epoch ids committed waits pending due
      c.committed_under-committed.ensures refl (where_in_order stays now.count now.pending ordered)
      rest out);
  rises = search rules;
  same = search rules;
  memory = search rules;
}
