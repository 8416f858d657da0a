use Rattle.std.proofs.Common.{◌≡◌, ◌∙◌, Some, false, ◌↔◌, IsTrue, length, refl, subst, sym, arith}
use Rattle.std.proofs.lemmas.Option.{slice_get_read}
use Rattle.merge_iter.specs.Order.{EntryPrecedes}
use Rattle.merge_iter.specs.Positions.{IsOn}
use Rattle.merge_iter.specs.Merging.{IsNearest}
use Rattle.merge_iter.proofs.Merges.{if_on}
use Rattle.merge_iter.proofs.Nearest.{best_child, keeps, passes_by, takes_first, takes_over}
use Rattle.merge_iter.proofs.children.nearer.Goals as goal

pub returns-in_default : goal.returns-in_default
returns-in_default g c =
    let at = slice_get_read c.args.children.now.items (length c.args.children.now.items) c.args.i
    c.index-child.result.now refl (search (arith, c.requires.room)) c.index-child.ensures in
    takes_first g.C.Cursor.position c.args.way c.args.children.now.items c.args.but c.args.i
    c.index-child.result.now at c.if-i-but.false (c.valid.ensures.0 c.if-not-valid.false)
    (subst (λ f. IsNearest g.C.Cursor.position c.args.way c.args.children.now.items c.args.but
    c.args.i f)
    c.in_default.is c.requires.so_far)

pub precedes-requires-clause-other_on : goal.precedes-requires-clause-other_on
precedes-requires-clause-other_on g c =
    let b = subst (λ f. IsNearest g.C.Cursor.position c.args.way c.args.children.now.items
    c.args.but c.args.i f) c.in-Some.is c.requires.so_far in
    subst IsOn (sym (best_child g.C.Cursor.position c.args.way c.args.children.now.items c.args.but
    c.args.i c.in-Some.k b c.index-other.result.now c.index-other.ensures)) tt

pub returns-then-precedes : goal.returns-then-precedes
returns-then-precedes g c =
    let b = subst (λ f. IsNearest g.C.Cursor.position c.args.way c.args.children.now.items
    c.args.but c.args.i f) c.in-Some.is c.requires.so_far in
    let at = slice_get_read c.args.children.now.items (length c.args.children.now.items) c.args.i
    c.index-child.result.now refl (search (arith, c.requires.room)) c.index-child.ensures in
    let on = best_child g.C.Cursor.position c.args.way c.args.children.now.items c.args.but
    c.args.i c.in-Some.k b c.index-other.result.now c.index-other.ensures in
    takes_over g.C.Cursor.position c.args.way c.args.children.now.items c.args.but c.args.i
    c.in-Some.k c.index-child.result.now at c.if-i-but.false
    (c.valid.ensures.0 c.if-not-valid.false) b
    (λ q is. (if_on _ _ (λ x y. IsTrue c.precedes.result ↔ EntryPrecedes c.args.way x y) q b.entry
    is on c.precedes.ensures).0 c.if-precedes.true)

pub returns-else-precedes : goal.returns-else-precedes
returns-else-precedes g c =
    let b = subst (λ f. IsNearest g.C.Cursor.position c.args.way c.args.children.now.items
    c.args.but c.args.i f) c.in-Some.is c.requires.so_far in
    let at = slice_get_read c.args.children.now.items (length c.args.children.now.items) c.args.i
    c.index-child.result.now refl (search (arith, c.requires.room)) c.index-child.ensures in
    let on = best_child g.C.Cursor.position c.args.way c.args.children.now.items c.args.but
    c.args.i c.in-Some.k b c.index-other.result.now c.index-other.ensures in
    keeps g.C.Cursor.position c.args.way c.args.children.now.items c.args.but c.args.i
    c.in-Some.k c.index-child.result.now at b
    (λ q is precedes. let t : IsTrue c.precedes.result =
    (if_on _ _ (λ x y. IsTrue c.precedes.result ↔ EntryPrecedes c.args.way x y) q b.entry is on
    c.precedes.ensures).1 precedes in cc)

pub returns-then-i-but : goal.returns-then-i-but
returns-then-i-but g c =
    passes_by g.C.Cursor.position c.args.way c.args.children.now.items c.args.but c.args.i
    c.args.found (λ d out is on. out c.if-i-but.true) c.requires.so_far

pub returns-then-not-valid : goal.returns-then-not-valid
returns-then-not-valid g c =
    let at = slice_get_read c.args.children.now.items (length c.args.children.now.items) c.args.i
    c.index-child.result.now refl (search (arith, c.requires.room)) c.index-child.ensures in
    passes_by g.C.Cursor.position c.args.way c.args.children.now.items c.args.but c.args.i
    c.args.found (λ d out is on.
    let same : Some d ≡ Some c.index-child.result.now = sym is ∙ at in
    let alike : d ≡ c.index-child.result.now = cc in
    let t : IsTrue false = c.if-not-valid.ensures.1 (subst (λ x. IsOn (g.C.Cursor.position x)) alike
    on) in
    cc) c.requires.so_far
