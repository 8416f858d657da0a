use Rattle.std.proofs.Common.{◌≡◌, ◌<◌, Err, Result, arith, length, slice_set, subst, sym}
use Rattle.std.proofs.lemmas.Result.{err_from_is_err_and}
use Rattle.merge_iter.specs.{IsOn}
use Rattle.merge_iter.specs.declared.CursorError.{CursorError}
use Rattle.store_cursors.specs.Concatenation.{EntersChildren, walk_way}
use Rattle.store_cursors.specs.declared.child_place.ChildPlace.{ChildPlace}
use Rattle.store_cursors.proofs.Entering.{Enters, child_there, ends_off, fails, lands, passes}
use Rattle.store_cursors.proofs.Entering.{read_there, starts}
use Rattle.store_cursors.proofs.in_turn.enter_from.Goals as goal

pub loop-behind-init : goal.loop-behind-init
loop-behind-init g c = starts g.C.Cursor g.met.C.Cursor.laws c.args.start c.args.skipped
    c.args.children.now.items c.args.source.now

pub returns-in_err-enter : goal.returns-in_err-enter
returns-in_err-enter g c =
    let i = c.loop-behind.invariant in
    let old = c.args.children.now.items in
    let before = c.args.source.now in
    let xs = c.loop-behind.children.items in
    let way = walk_way c.args.start in
    let lt : c.loop-behind.behind < length old =
    search (arith, c.loop-behind-test.true, c.len-behind-end.ensures) in
    let len : c.len.result ≡ length xs = search (arith, c.len.ensures) in
    let it = child_there way c.way.result (length old) c.len.result c.loop-behind.behind
    c.rank-k.result xs c.index_mut.result.now (i.moved (g.C.Cursor.as_is before)).len
    c.way.ensures len lt c.rank-k.ensures c.index_mut.ensures.value in
    let p = err_from_is_err_and c.from_residual.result c.from_residual.ensures.1 in
    let told : Err c.in_err-enter.field-0.0 ≡ c.from_residual.result = cc (p.1, p.2) in
    subst (λ (r : Result ChildPlace CursorError). EntersChildren g.C.Cursor c.args.start
    c.args.skipped old before
    (slice_set xs c.rank-k.result c.enter.new.cursor) c.enter.new.source r) told
    (fails g.C.Cursor g.met.C.Cursor.laws c.args.start c.args.skipped old before
    c.loop-behind.behind xs c.loop-behind.source i lt c.rank-k.result it.0 c.index_mut.result.now
    c.enter.new.cursor c.enter.new.source it.1 c.in_err-enter.field-0.0
    (subst (λ (r : Result (Unit {0}) CursorError). Enters g.C.Cursor c.args.start
    c.index_mut.result.now c.loop-behind.source c.enter.new.cursor c.enter.new.source r)
    c.in_err-enter.was c.enter.ensures))

pub returns-then-valid : goal.returns-then-valid
returns-then-valid g c =
    let i = c.loop-behind.invariant in
    let old = c.args.children.now.items in
    let before = c.args.source.now in
    let xs = c.loop-behind.children.items in
    let way = walk_way c.args.start in
    let lt : c.loop-behind.behind < length old =
    search (arith, c.loop-behind-test.true, c.len-behind-end.ensures) in
    let len : c.len.result ≡ length xs = search (arith, c.len.ensures) in
    let it = child_there way c.way.result (length old) c.len.result c.loop-behind.behind
    c.rank-k.result xs c.index_mut.result.now (i.moved (g.C.Cursor.as_is before)).len
    c.way.ensures len lt c.rank-k.ensures c.index_mut.ensures.value in
    let is = read_there xs c.rank-k.result c.index_mut.result.now c.enter.new.cursor
    c.index.result.now it.1 c.index.ensures in
    lands g.C.Cursor g.met.C.Cursor.laws c.args.start c.args.skipped old before
    c.loop-behind.behind xs c.loop-behind.source i lt c.rank-k.result it.0 c.index_mut.result.now
    c.enter.new.cursor c.enter.new.source it.1
    (subst (λ (r : Result (Unit {0}) CursorError). Enters g.C.Cursor c.args.start
    c.index_mut.result.now c.loop-behind.source c.enter.new.cursor c.enter.new.source r)
    c.in_ok-enter.was c.enter.ensures)
    (subst (λ (y : _). IsOn (g.C.Cursor.position y)) is (c.valid.ensures.0 c.if-valid.true))

pub loop-behind-preserved : goal.loop-behind-preserved
loop-behind-preserved g c =
    let i = c.loop-behind.invariant in
    let old = c.args.children.now.items in
    let before = c.args.source.now in
    let xs = c.loop-behind.children.items in
    let way = walk_way c.args.start in
    let lt : c.loop-behind.behind < length old =
    search (arith, c.loop-behind-test.true, c.len-behind-end.ensures) in
    let len : c.len.result ≡ length xs = search (arith, c.len.ensures) in
    let it = child_there way c.way.result (length old) c.len.result c.loop-behind.behind
    c.rank-k.result xs c.index_mut.result.now (i.moved (g.C.Cursor.as_is before)).len
    c.way.ensures len lt c.rank-k.ensures c.index_mut.ensures.value in
    let is = read_there xs c.rank-k.result c.index_mut.result.now c.enter.new.cursor
    c.index.result.now it.1 c.index.ensures in
    passes g.C.Cursor g.met.C.Cursor.laws c.args.start c.args.skipped old before
    c.loop-behind.behind xs c.loop-behind.source i lt c.rank-k.result it.0 c.index_mut.result.now
    c.enter.new.cursor c.enter.new.source it.1
    (subst (λ (r : Result (Unit {0}) CursorError). Enters g.C.Cursor c.args.start
    c.index_mut.result.now c.loop-behind.source c.enter.new.cursor c.enter.new.source r)
    c.in_ok-enter.was c.enter.ensures)
    (λ on. let here = c.valid.ensures.1
    (subst (λ (y : _). IsOn (g.C.Cursor.position y)) (sym is) on) in
    let none = c.if-valid.false in cc)

pub returns : goal.returns
returns g c =
    let i = c.loop-behind.invariant in
    ends_off g.C.Cursor g.met.C.Cursor.laws c.args.start c.args.skipped c.args.children.now.items
    c.args.source.now c.loop-behind.behind c.loop-behind.children.items c.loop-behind.source i
    (search (arith, c.loop-behind-test.false, c.len-behind-end.ensures))
