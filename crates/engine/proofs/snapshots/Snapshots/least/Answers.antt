use Rattle.std.proofs.Common.{◌∙◌, ap, sym}
use Rattle.std.specs.VecDeque.Iter.{deque_iter_rest}
use Rattle.kv_types.specs.Snapshots.{least}
use Rattle.engine.proofs.snapshots.Snapshots.least.Goals as goal

-- before the first all snapshots are left
pub loop-open-init : goal.loop-open-init
loop-open-init c =
    ap (least c.args.number)
    (sym c.self.view_is ∙ sym c.iter-open-items.ensures.rest
    ∙ sym (ap deque_iter_rest c.into_iter-open-iterator.ensures.into_iter_gives))
