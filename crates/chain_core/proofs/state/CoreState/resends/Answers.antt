use Rattle.std.proofs.Common.{◌≡◌, ◌+◌, ◌-◌, None, length, min, refl, sym, ap, ◌∙◌}
use Rattle.std.proofs.Common.{not, arith}
use Rattle.std.specs.Option.{is_some}
use Rattle.configurations.specs.{successor}
use Rattle.chain_core.proofs.Ends.{no_tail_before}
use Rattle.chain_core.proofs.Resends.{sent_to_count, none_sent, not_some}
use Rattle.chain_core.proofs.state.CoreState.resends.Goals as goal

-- there is no successor
pub returns-then-is_none-clause-all : goal.returns-then-is_none-clause-all
returns-then-is_none-clause-all c = λ n is.
    let x = c.args.self.now.id in
    let no_more : (c.get-has.result + 1) - (c.get-has.result + 1) ≡ 0 = omega arith in
    let none : successor n.ids x ≡ None =
    ap (λ ids. successor ids x) is.ids
    ∙ not_some (successor c.args.self.now.ids x) c.successor.result c.is_none.result
    c.successor.ensures c.is_none.ensures c.if-is_none.true in
    rw no_more (none_sent x n 16 n.successor_has none)

-- what the successor is not known to have, at most 16 batches
pub returns-clause-all : goal.returns-clause-all
returns-clause-all c = λ n is.
    let has = c.get-has.result in
    let m = c.min-more.result in
    let more : (has + 1 + m) - (has + 1) ≡ m = omega arith in
    let from : has ≡ n.successor_has =
    c.get-has.ensures.same ∙ (c.successor_has.ensures ∙ sym is.successor_has) in
    let count : c.get.result ≡ length n.list =
    c.get.ensures.same ∙ (c.count.ensures ∙ sym is.count) in
    let least : m ≡ min (length n.list - n.successor_has) 16 =
    c.min-more.ensures ∙ ap (λ d. min d 16) (c.saturating_sub.ensures ∙ rw (from, count) refl) in
    rw more (sent_to_count c.args.self.now.id n 16 m n.successor_has (omega (arith, least))
    (λ l. omega (arith, least, l)))

-- what it cannot send again its successor is known to have
pub returns-clause-kept : goal.returns-clause-kept
returns-clause-kept c = λ more.
    let now = c.args.self.now in
    let o = c.committed.ensures.ordered in
    let some = ap is_some (sym c.successor.ensures) ∙ c.is_none.ensures
    ∙ ap not c.if-is_none.false in
    let is = rw c.config.ensures at c.ids.ensures.is in
    let no_tail = no_tail_before now.ids now.id is.different some in
    omega (
      arith,
      o.kept,
      o.floor,
      o.successor_has no_tail,
      c.get-has.ensures.same,
      c.successor_has.ensures,
    )
