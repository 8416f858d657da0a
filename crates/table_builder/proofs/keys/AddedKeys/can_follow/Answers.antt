use Rattle.std.proofs.Common.{◌<◌, ℕ, length, ap, sym, ◌∙◌, arith}
use Rattle.byte_fields.specs.{StoredKey, lent_key}
use Rattle.merge_iter.specs.{entry_cmp, spot}
use Rattle.table_builder.proofs.KeysLemmas.{follows_by}
use Rattle.table_builder.proofs.keys.AddedKeys.can_follow.Goals as goal

pub returns-else-self-eq0 : goal.returns-else-self-eq0
returns-else-self-eq0 c = λ entries entry knows key number.
    let keys = c.args.self.now in
    let count = knows.count in
    let some : 0 < length entries = omega (arith, count, c.if-self-eq0.false) in
    let ordered = c.order.ensures
    ∙ ap (λ (k : StoredKey). entry_cmp (spot k keys.number)
    (spot (lent_key c.args.key) c.args.number)) c.lent.ensures
    ∙ ap (λ (k : StoredKey). entry_cmp (spot keys.last keys.number) (spot k c.args.number))
    (sym key)
    ∙ ap (λ (n : ℕ). entry_cmp (spot keys.last keys.number) (spot entry.key n)) (sym number) in
    follows_by keys entries entry c.order.result c.is_lt.result knows some ordered c.is_lt.ensures
