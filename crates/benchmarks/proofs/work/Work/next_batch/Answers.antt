use Rattle.std.proofs.Common.{rules}
use Rattle.benchmarks.proofs.Puts.{are_next, is_behind, size_drawn}
use Rattle.benchmarks.proofs.work.Work.next_batch.Goals as goal

pub loop-preserved : goal.loop-preserved
loop-preserved c =
    let work = c.args.self.now in
    let drawn = c.next_number.ensures in
    let stretch = c.in_ok-next.ensures in (
      are_next c.loop.counter work c.loop.self c.next_number.new.self c.loop.edits.items
          c.push.new.self.items c.next_number.result c.in_ok-key.key c.in_ok-next.field-0
          c.loop.invariant.1 c.loop.invariant.0 drawn.behind drawn.number c.in_ok-key.ensures.key
          stretch.value c.in_ok-push.ensures.items,
      is_behind c.loop.counter work c.loop.self c.next_number.new.self c.next.new.self
          c.loop.invariant.1 drawn.behind stretch.behind,
    )

-- the values have the length that they had at first
pub returns-in_err-next-clause-refused : goal.returns-in_err-next-clause-refused
returns-in_err-next-clause-refused c =
    let size = size_drawn c.loop.counter c.args.self.now c.loop.self c.next_number.new.self
    c.loop.invariant.1 c.next_number.ensures.behind in
    let refused = rw size at c.in_err-next.ensures.refused in
    search rules
