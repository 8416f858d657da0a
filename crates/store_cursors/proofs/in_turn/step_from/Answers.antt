use Rattle.std.proofs.Common.{◌≡◌, ◌+◌, ◌∙◌, ap, Err, Ok, Result, arith, length, refl, subst, sym}
use Rattle.std.proofs.Common.{slice_set, length-set}
use Rattle.std.proofs.lemmas.Option.{slice_get_read}
use Rattle.std.proofs.lemmas.Result.{err_from_is_err_and}
use Rattle.merge_iter.specs.{IsOn}
use Rattle.merge_iter.specs.declared.CursorError.{CursorError}
use Rattle.merge_iter.specs.declared.Direction.{Direction}
use Rattle.store_cursors.specs.Concatenation.{EntersChildren, StepsFrom, start_at_end, rank}
use Rattle.store_cursors.specs.Concatenation.{walk_way}
use Rattle.store_cursors.specs.declared.child_place.ChildPlace.{ChildPlace}
use Rattle.store_cursors.specs.declared.start.Start.{Start}
use Rattle.store_cursors.proofs.Entering.{read_there}
use Rattle.store_cursors.proofs.Stepping.{Steps, step_enters, step_fails, step_lands}
use Rattle.store_cursors.proofs.Stepping.{end_meets, end_steps, end_way}
use Rattle.store_cursors.proofs.in_turn.step_from.Goals as goal

pub returns-in_err-step : goal.returns-in_err-step
returns-in_err-step g c =
    let old = c.args.children.now.items in
    let at = slice_get_read old (length old) c.args.k c.index_mut.result.now refl
    (search (arith, c.requires.room)) c.index_mut.ensures.value in
    let p = err_from_is_err_and c.from_residual.result c.from_residual.ensures.1 in
    let told : Err c.in_err-step.field-0.0 ≡ c.from_residual.result = cc (p.1, p.2) in
    subst (λ (r : Result ChildPlace CursorError). StepsFrom g.C.Cursor c.args.way c.args.k old
    c.args.source.now (slice_set old c.args.k c.step.new.child) c.step.new.source r) told
    (step_fails g.C.Cursor g.met.C.Cursor.laws c.args.way c.args.k old c.args.source.now
    c.index_mut.result.now c.step.new.child c.step.new.source at c.in_err-step.field-0.0
    (subst (λ (r : Result (Unit {0}) CursorError). Steps g.C.Cursor c.args.way
    c.index_mut.result.now c.args.source.now c.step.new.child c.step.new.source r)
    c.in_err-step.was c.step.ensures))

pub returns-then-valid : goal.returns-then-valid
returns-then-valid g c =
    let old = c.args.children.now.items in
    let at = slice_get_read old (length old) c.args.k c.index_mut.result.now refl
    (search (arith, c.requires.room)) c.index_mut.ensures.value in
    let is = read_there old c.args.k c.index_mut.result.now c.step.new.child c.index.result.now at
    c.index.ensures in
    step_lands g.C.Cursor g.met.C.Cursor.laws c.args.way c.args.k old c.args.source.now
    c.index_mut.result.now c.step.new.child c.step.new.source at
    (subst (λ (r : Result (Unit {0}) CursorError). Steps g.C.Cursor c.args.way
    c.index_mut.result.now c.args.source.now c.step.new.child c.step.new.source r)
    c.in_ok-step.was c.step.ensures)
    (subst (λ (y : _). IsOn (g.C.Cursor.position y)) is (c.valid.ensures.0 c.if-valid.true))

pub returns : goal.returns
returns g c =
    let old = c.args.children.now.items in
    let k = c.args.k in
    let way = c.args.way in
    let at = slice_get_read old (length old) k c.index_mut.result.now refl
    (search (arith, c.requires.room)) c.index_mut.ensures.value in
    let is = read_there old k c.index_mut.result.now c.step.new.child c.index.result.now at
    c.index.ensures in
    let mid = slice_set old k c.step.new.child in
    let begins = start_at_end way in
    let len : c.len.result ≡ length mid =
    search (arith, c.len.ensures, length-set old k c.step.new.child) in
    let skipped : c.rank-skipped.result + 1 ≡ rank (walk_way begins) (length mid) k + 1 =
    ap (λ n. n + 1) (c.rank-skipped.ensures ∙ ap (λ n. rank way n k) len
    ∙ ap (λ w. rank w (length mid) k) (sym (end_way way))) in
    subst (λ (w : Direction). StepsFrom g.C.Cursor w k old c.args.source.now
    c.enter_from.new.children.items c.enter_from.new.source c.enter_from.result) (end_way way)
    (step_enters g.C.Cursor g.met.C.Cursor.laws begins k old c.args.source.now
    c.index_mut.result.now c.step.new.child c.step.new.source at
    (subst (λ (w : Direction). Steps g.C.Cursor w c.index_mut.result.now c.args.source.now
    c.step.new.child c.step.new.source (Ok tt)) (sym (end_way way))
    (subst (λ (r : Result (Unit {0}) CursorError). Steps g.C.Cursor way c.index_mut.result.now
    c.args.source.now c.step.new.child c.step.new.source r) c.in_ok-step.was c.step.ensures))
    (λ on. let here = c.valid.ensures.1
    (subst (λ (y : _). IsOn (g.C.Cursor.position y)) (sym is) on) in
    let none = c.if-valid.false in cc)
    (end_meets way) (end_steps g.C.Cursor way) (c.rank-skipped.result + 1)
    c.enter_from.new.children.items c.enter_from.new.source c.enter_from.result skipped
    (subst (λ (b : Start). EntersChildren g.C.Cursor b (c.rank-skipped.result + 1) mid
    c.step.new.source c.enter_from.new.children.items c.enter_from.new.source
    c.enter_from.result) c.at_end.ensures c.enter_from.ensures))
