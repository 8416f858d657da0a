use Rattle.std.proofs.Common.{arith}
use Rattle.std.specs.Vec.{vec_len}
use Rattle.merge_iter.proofs.Merges.{placed, settled_off}
use Rattle.merge_iter.proofs.Nearest.{second_of}
use Rattle.merge_iter.proofs.children.settle.Goals as goal

pub returns-in-Some-clause-settles : goal.returns-in-Some-clause-settles
returns-in-Some-clause-settles g c meant start source first =
    placed (λ d. (g.C.Cursor.holds meant) d source) g.C.Cursor.position c.args.way start
    c.args.children.now.items c.len.result (vec_len c.args.children.now) c.in-Some.k
    c.nearest-in-Some.result (search (arith, c.len.ensures)) (search arith) first c.in-Some.ensures
    (second_of g.C.Cursor.position c.args.way c.args.children.now.items c.in-Some.k
    (vec_len c.args.children.now) c.nearest-in-Some.result (search arith)
    c.nearest-in-Some.ensures)

pub returns-in-None-clause-settles : goal.returns-in-None-clause-settles
returns-in-None-clause-settles g c meant start source first = (
  settled_off (λ d. (g.C.Cursor.holds meant) d source) g.C.Cursor.position c.args.way start
      c.args.children.now.items c.len.result (vec_len c.args.children.now)
      (search (arith, c.len.ensures)) (search arith) first c.in-None.ensures,
  tt,
)
