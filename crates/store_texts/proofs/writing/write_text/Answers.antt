use Rattle.std.proofs.Common.{arith}
use Rattle.std.proofs.lemmas.Grind.{common_steps}
use Rattle.store_texts.proofs.Written.{writes_more}
use Rattle.store_texts.proofs.writing.write_text.Goals as goal

pub loop-preserved : goal.loop-preserved
loop-preserved g c =
    let fits = c.in_ok-count.ensures.bound in record {
      within = omega arith;
      wrote = writes_more _ (g.W.Write.contents c.loop.out) _ c.args.bytes.now c.loop.written
          c.in_ok-count.count c.loop.invariant.within (omega arith) c.loop.invariant.wrote
          c.in_ok-count.ensures.some;
    }

pub returns-then-written-bytes-clause-whole : goal.returns-then-written-bytes-clause-whole
returns-then-written-bytes-clause-whole g c = grind (arith, common_steps)
