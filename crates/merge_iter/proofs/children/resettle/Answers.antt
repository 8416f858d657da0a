use Rattle.std.proofs.Common.{◌≡◌, ◌∙◌, ◌↔◌, IsTrue, Some, arith, length, refl, subst, sym, ap}
use Rattle.std.proofs.lemmas.Grind.{common_steps}
use Rattle.std.specs.Vec.{vec_len}
use Rattle.std.proofs.lemmas.Option.{slice_get_read}
use Rattle.merge_iter.specs.Order.{EntryPrecedes}
use Rattle.merge_iter.specs.Positions.{IsOn}
use Rattle.merge_iter.specs.Merging.{IsBest, IsSecond}
use Rattle.merge_iter.proofs.Merges.{if_on, placed}
use Rattle.merge_iter.proofs.Nearest.{other_best, second_of, stays_best, unbroken_at}
use Rattle.merge_iter.proofs.children.resettle.Goals as goal
use Rattle.merge_iter.proofs.children.resettle.Goals.{else-valid-via-then-valid+else-precedes}
use Rattle.merge_iter.proofs.children.resettle.Goals.{else-valid-via-else-valid}

pub returns-then-precedes-clause-settles : goal.returns-then-precedes-clause-settles
returns-then-precedes-clause-settles g c meant start source next first =
    let xs = c.args.children.now.items in
    let at = slice_get_read xs (length xs) c.args.k c.index-child.result.now refl
    (search (arith, c.requires.room)) c.index-child.ensures in
    let b : IsBest g.C.Cursor.position c.args.way xs c.args.k (length xs) c.in-Some.other_place =
    subst (λ s. IsSecond g.C.Cursor.position c.args.way xs c.args.k s) c.in-Some.is
    (next (c.if-not-is_same.ensures.same.0 refl)) in
    let there = slice_get_read xs (length xs) c.in-Some.other_place c.index-other.result.now refl
    (search (arith, c.if-other_place-len.false, c.len.ensures)) c.index-other.ensures in
    let same : Some c.index-other.result.now ≡ Some b.child = sym there ∙ b.found in
    let alike : c.index-other.result.now ≡ b.child = cc in
    let on = ap g.C.Cursor.position alike ∙ b.on in
    placed (λ d. (g.C.Cursor.holds meant) d source) g.C.Cursor.position c.args.way start xs
    (length xs) (length xs) c.args.k (Some c.in-Some.other_place) (omega arith) (omega arith) first
    (stays_best g.C.Cursor.position c.args.way xs (length xs) (length xs) c.args.k
    c.in-Some.other_place c.index-child.result.now (omega arith) at
    (c.valid-2.ensures.0 c.if-valid.true) b
    (λ q is. (if_on _ _ (λ x y. IsTrue c.precedes.result ↔ EntryPrecedes c.args.way x y) q b.entry
    is on c.precedes.ensures).0 c.if-precedes.true)) b

pub returns-then-precedes-clause-unbroken : goal.returns-then-precedes-clause-unbroken
returns-then-precedes-clause-unbroken g c =
    let xs = c.args.children.now.items in
    let at = slice_get_read xs (length xs) c.args.k c.index-child.result.now refl
    (search (arith, c.requires.room)) c.index-child.ensures in
    unbroken_at g.C.Cursor.position xs c.args.k c.index-child.result.now at
    (c.valid-2.ensures.0 c.if-valid.true)

pub returns-else-valid-clause-settles : goal.returns-else-valid-clause-settles
returns-else-valid-clause-settles g c meant start source next first =
    let xs = c.args.children.now.items in
    let at = slice_get_read xs (length xs) c.args.k c.index-child.result.now refl
    (search (arith, c.requires.room)) c.index-child.ensures in
    let b : IsBest g.C.Cursor.position c.args.way xs c.args.k (length xs) c.in-Some.other_place =
    subst (λ s. IsSecond g.C.Cursor.position c.args.way xs c.args.k s) c.in-Some.is
    (next (c.if-not-is_same.ensures.same.0 refl)) in
    let there = slice_get_read xs (length xs) c.in-Some.other_place c.index-other.result.now refl
    (search (arith, c.if-other_place-len.false, c.len.ensures)) c.index-other.ensures in
    let same : Some c.index-other.result.now ≡ Some b.child = sym there ∙ b.found in
    let alike : c.index-other.result.now ≡ b.child = cc in
    let on = ap g.C.Cursor.position alike ∙ b.on in
    placed (λ d. (g.C.Cursor.holds meant) d source) g.C.Cursor.position c.args.way start xs
    (length xs) (length xs) c.in-Some.other_place c.nearest.result (omega arith) (omega arith) first
    (other_best g.C.Cursor.position c.args.way xs (length xs) (length xs) c.args.k
    c.in-Some.other_place c.index-child.result.now (omega arith) at b
    (λ q is precedes. elim c.else-valid.branch [
      | else-valid-via-then-valid+else-precedes w ↦
          let f = w.if-precedes.false in
          let t : IsTrue w.precedes.result =
          (if_on _ _ (λ x y. IsTrue w.precedes.result ↔ EntryPrecedes c.args.way x y) q b.entry is
          on w.precedes.ensures).1 precedes in
          cc
      | else-valid-via-else-valid w ↦
          let f = w.if-valid.false in
          let t : IsTrue c.valid-2.result = c.valid-2.ensures.1 (subst IsOn (sym is) tt) in
          cc
    ]))
    (second_of g.C.Cursor.position c.args.way xs c.in-Some.other_place
    (vec_len c.args.children.now) c.nearest.result (search arith) c.nearest.ensures)

pub returns-else-valid-clause-unbroken : goal.returns-else-valid-clause-unbroken
returns-else-valid-clause-unbroken g c =
    let xs = c.args.children.now.items in
    let there = slice_get_read xs (length xs) c.in-Some.other_place c.index-other.result.now refl
    (search (arith, c.if-other_place-len.false, c.len.ensures)) c.index-other.ensures in
    unbroken_at g.C.Cursor.position xs c.in-Some.other_place c.index-other.result.now there
    (c.valid.ensures.0 c.if-not-valid.false)

pub returns-then-not-is_same-clause-settles : goal.returns-then-not-is_same-clause-settles
returns-then-not-is_same-clause-settles g c =
    λ meant start at next first. c.settle.ensures.settles meant start at first

pub returns-then-not-is_same-clause-left : goal.returns-then-not-is_same-clause-left
returns-then-not-is_same-clause-left g c = c.settle.ensures.left

pub returns-then-not-is_same-clause-unbroken : goal.returns-then-not-is_same-clause-unbroken
returns-then-not-is_same-clause-unbroken g c = c.settle.ensures.unbroken

pub returns-in_default-clause-settles : goal.returns-in_default-clause-settles
returns-in_default-clause-settles g c = grind (arith, common_steps)

pub returns-in_default-clause-left : goal.returns-in_default-clause-left
returns-in_default-clause-left g c = c.alone.ensures.left

pub returns-in_default-clause-unbroken : goal.returns-in_default-clause-unbroken
returns-in_default-clause-unbroken g c = c.alone.ensures.unbroken

pub returns-then-other_place-len-clause-settles : goal.returns-then-other_place-len-clause-settles
returns-then-other_place-len-clause-settles g c =
    λ meant start at next first. c.settle-then-other_place-len.ensures.settles meant start at first

pub returns-then-other_place-len-clause-left : goal.returns-then-other_place-len-clause-left
returns-then-other_place-len-clause-left g c = c.settle-then-other_place-len.ensures.left

pub returns-then-other_place-len-clause-unbroken : goal.returns-then-other_place-len-clause-unbroken
returns-then-other_place-len-clause-unbroken g c = c.settle-then-other_place-len.ensures.unbroken

pub returns-then-not-valid-clause-settles : goal.returns-then-not-valid-clause-settles
returns-then-not-valid-clause-settles g c =
    λ meant start at next first. c.settle-then-not-valid.ensures.settles meant start at first

pub returns-then-not-valid-clause-left : goal.returns-then-not-valid-clause-left
returns-then-not-valid-clause-left g c = c.settle-then-not-valid.ensures.left

pub returns-then-not-valid-clause-unbroken : goal.returns-then-not-valid-clause-unbroken
returns-then-not-valid-clause-unbroken g c = c.settle-then-not-valid.ensures.unbroken

pub returns-then-precedes-clause-left : goal.returns-then-precedes-clause-left
returns-then-precedes-clause-left g c = grind (arith, common_steps)

pub returns-else-valid-clause-left : goal.returns-else-valid-clause-left
returns-else-valid-clause-left g c = grind (arith, common_steps)
