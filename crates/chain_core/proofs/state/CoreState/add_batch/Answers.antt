use Rattle.std.proofs.Common.{◌≡◌, suc, length, refl, sym, ap, subst, ◌∙◌, arith}
use Rattle.std.specs.Prelude.{if◌then◌else◌}
use Rattle.configurations.specs.{is_tail}
use Rattle.chain_model.specs.{append}
use Rattle.chain_core.specs.States.{Core, CoreRefines}
use Rattle.chain_core.proofs.Queues.{raise}
use Rattle.chain_core.specs.CoreState.{core_value}
use Rattle.chain_core.proofs.Orders.{ordered_longer}
use Rattle.chain_core.proofs.After.{follows_append, next_of}
use Rattle.chain_core.proofs.state.CoreState.add_batch.Goals as goal

pub invariant_of-self : goal.invariant_of-self
invariant_of-self c =
    let old = c.self.inside.count in
    let number = c.unwrap-number.result in
    let next : number ≡ suc old =
    next_of c.next.result _ old old number c.next.ensures c.unwrap-number.ensures refl in
    let pending = c.self.inside.pending.items in
    ordered_longer (core_value c.self.inside) c.self.invariant number
    c.committed_with-self-inside.result pending next
    (c.committed_with-self-inside.ensures
    ∙ ap (λ (v : Core). if is_tail v.ids v.id then number else v.committed) (sym c.self.view_is))
    (raise (1, 0) old number pending c.self.invariant.pending (omega (arith, next)))

pub returns-clause-after : goal.returns-clause-after
returns-clause-after c = λ n batch is.
    let now = c.args.self.now in
    let number = c.unwrap-number.result in
    let committed = c.committed_with-self-inside.result in
    let next : number ≡ suc now.count =
    next_of c.next.result _ c.self.inside.count now.count number c.next.ensures
    c.unwrap-number.ensures (ap (λ (v : Core). v.count) c.self.view_is) in
    let new : Core → Core = λ v. record v { count = number; committed = committed } in
    subst (λ (v : Core). CoreRefines v (append now.id n (suc (length n.list)) batch).node)
    (sym (ap new c.self.view_is))
    (follows_append now n is batch number committed next c.committed_with-self-inside.ensures)
