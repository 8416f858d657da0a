use Rattle.std.proofs.Common.{◌≡◌, ◌∙◌, ◌<◌, ◌≤◌, sym, subst, ap, [], refl, true, false, length}
use Rattle.std.proofs.Common.{nat_lt}
use Rattle.configurations.specs.NodeLists.{at_epoch}
use Rattle.configurations.specs.Configs.{IsConfig}
use Rattle.configurations.specs.Checks.{each_later, is_smaller, is_in_order}
use Rattle.configurations.specs.Refusals.{ListHas, IsLeast}
use Rattle.configurations.specs.declared.error.ConfigError.TheVariants as fault
use Rattle.configurations.proofs.Later.{least_smaller, least_in_order, least_many, lawful_of}
use Rattle.configurations.proofs.Later.{epoch_get}
use Rattle.configurations.proofs.configs.Configs.new.Goals as goal

-- some configuration is not smaller
pub returns-then-not-all_smaller-clause-refused : goal.returns-then-not-all_smaller-clause-refused
returns-then-not-all_smaller-clause-refused c =
    let cs = c.deref-2.result.now in
    let test = sym c.all_smaller.ensures.smaller ∙ c.if-not-all_smaller.true in
    subst (λ l. IsLeast (λ e. ListHas e l) fault.NotSmaller) c.deref-2.ensures.value
    (least_smaller cs test)

-- all are smaller, and some is not in order
pub returns-then-not-all_in_order-clause-refused :
    goal.returns-then-not-all_in_order-clause-refused
returns-then-not-all_in_order-clause-refused c =
    let cs = c.args.configs.items in
    let smaller = subst (λ l. each_later is_smaller l ≡ true) c.deref-2.ensures.value
    (sym c.all_smaller.ensures.smaller ∙ c.if-not-all_smaller.false) in
    let test = subst (λ l. each_later is_in_order l ≡ false) c.deref-3.ensures.value
    (sym c.all_in_order.ensures ∙ c.if-not-all_in_order.true) in
    least_in_order c.is_part_decides.ensures cs smaller test

-- all are in order, and there are too many
pub returns-then-len-gt-MAX_CONFIGS-clause-refused :
    goal.returns-then-len-gt-MAX_CONFIGS-clause-refused
returns-then-len-gt-MAX_CONFIGS-clause-refused c =
    let cs = c.args.configs.items in
    let smaller = subst (λ l. each_later is_smaller l ≡ true) c.deref-2.ensures.value
    (sym c.all_smaller.ensures.smaller ∙ c.if-not-all_smaller.false) in
    let ordered = subst (λ l. each_later is_in_order l ≡ true) c.deref-3.ensures.value
    (sym c.all_in_order.ensures ∙ c.if-not-all_in_order.false) in
    let len = c.len.ensures ∙ sym c.deref-2.ensures.len ∙ ap length c.deref-2.ensures.value in
    let many = subst (λ n. 16 < n) len c.if-len-gt-MAX_CONFIGS.true in
    least_many c.is_part_decides.ensures cs smaller ordered many

-- nothing was found
pub invariant_of-result : goal.invariant_of-result
invariant_of-result c =
    let cs = c.args.configs.items in
    let len = c.len.ensures ∙ sym c.deref-2.ensures.len ∙ ap length c.deref-2.ensures.value in
    let first = c.in-Some.ensures.item.3 in
    let some : 1 ≤ length cs = subst (λ l. 0 < length l) c.deref.ensures.value first.0 in
    let at = subst (λ l. c.in-Some.first.now ≡ at_epoch l 0) c.deref.ensures.value
    (first.1 [] ∙ epoch_get c.deref.result.now 0) in
    let config = subst IsConfig at c.ids-ids.ensures.is in
    let smaller = subst (λ l. each_later is_smaller l ≡ true) c.deref-2.ensures.value
    (sym c.all_smaller.ensures.smaller ∙ c.if-not-all_smaller.false) in
    let ordered = subst (λ l. each_later is_in_order l ≡ true) c.deref-3.ensures.value
    (sym c.all_in_order.ensures ∙ c.if-not-all_in_order.false) in
    let nodes = subst (λ l. each_later (λ _ d. nat_lt 0 (length d)) l ≡ true)
    c.deref-2.ensures.value (c.all_smaller.ensures.some c.if-not-all_smaller.false) in
    let few = subst (λ n. n ≤ 16) len c.if-len-gt-MAX_CONFIGS.false in
    lawful_of c.is_part_decides.ensures cs some few config smaller nodes ordered

-- the list is lawful
pub returns-clause-made : goal.returns-clause-made
returns-clause-made c = (refl, invariant_of-result c)
