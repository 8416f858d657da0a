use Rattle.std.proofs.Common.{IsTrue, None, arith, length, refl}
use Rattle.std.proofs.lemmas.Option.{slice_get_read}
use Rattle.merge_iter.proofs.Merges.{placed, settled_off}
use Rattle.merge_iter.proofs.Nearest.{alone_best, none_of_all, unbroken_at}
use Rattle.merge_iter.proofs.children.alone.Goals as goal

pub returns-then-valid-clause-settles : goal.returns-then-valid-clause-settles
returns-then-valid-clause-settles g c meant start source none first =
    let xs = c.args.children.now.items in
    let at = slice_get_read xs (length xs) c.args.k c.index.result.now refl
    (search (arith, c.requires.room)) c.index.ensures in
    placed (λ d. (g.C.Cursor.holds meant) d source) g.C.Cursor.position c.args.way start xs
    (length xs) (length xs) c.args.k None (omega arith) (omega arith) first
    (alone_best g.C.Cursor.position c.args.way xs (length xs) (length xs) c.args.k
    c.index.result.now (omega arith) at (c.valid.ensures.0 c.if-valid.true) none) none

pub returns-then-valid-clause-unbroken : goal.returns-then-valid-clause-unbroken
returns-then-valid-clause-unbroken g c =
    let xs = c.args.children.now.items in
    let at = slice_get_read xs (length xs) c.args.k c.index.result.now refl
    (search (arith, c.requires.room)) c.index.ensures in
    unbroken_at g.C.Cursor.position xs c.args.k c.index.result.now at
    (c.valid.ensures.0 c.if-valid.true)

pub returns-else-valid-clause-settles : goal.returns-else-valid-clause-settles
returns-else-valid-clause-settles g c meant start source none first =
    let xs = c.args.children.now.items in
    let at = slice_get_read xs (length xs) c.args.k c.index.result.now refl
    (search (arith, c.requires.room)) c.index.ensures in (
      settled_off (λ d. (g.C.Cursor.holds meant) d source) g.C.Cursor.position c.args.way start xs
          (length xs) (length xs) (omega arith) (omega arith) first
          (none_of_all g.C.Cursor.position c.args.way xs (length xs) (length xs) c.args.k
          c.index.result.now at
          (λ on. let t : IsTrue c.valid.result = c.valid.ensures.1 on in
          let f = c.if-valid.false in cc) none),
      tt,
    )
