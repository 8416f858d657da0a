use Rattle.std.proofs.Common.{◌≡◌, Err, Result, arith, refl, subst}
use Rattle.std.proofs.lemmas.Result.{err_from_is_err_and}
use Rattle.merge_iter.specs.declared.CursorError.{CursorError}
use Rattle.store_cursors.specs.Concatenation.{EntersChildren}
use Rattle.store_cursors.specs.declared.child_place.ChildPlace.{ChildPlace}
use Rattle.store_cursors.specs.declared.start.Start.TheVariants as start
use Rattle.store_cursors.proofs.Concatenating.{entered, not_entered}
use Rattle.store_cursors.proofs.concatenated.ConcatenatedCursor.last.Goals as goal

pub returns-in_err-self : goal.returns-in_err-self
returns-in_err-self g c =
    let p = err_from_is_err_and c.from_residual.result c.from_residual.ensures.1 in
    let told : c.from_residual.result ≡ Err c.in_err-self.field-0.0 = cc (p.1, p.2) in
    rw told (not_entered g.C.Cursor (λ m. m.children.items) (λ m. m.place) start.Last
    0 c.args.self.now _ c.args.source.now c.enter_from.new.source c.in_err-self.field-0.0
    refl (subst (λ (r : Result ChildPlace CursorError). EntersChildren g.C.Cursor start.Last
    0 c.args.self.now.children.items c.args.source.now c.enter_from.new.children.items
    c.enter_from.new.source r) c.in_err-self.was c.enter_from.ensures))

pub returns : goal.returns
returns g c = entered g.C.Cursor (λ m. m.children.items) (λ m. m.place) start.Last
    0 c.args.self.now _ c.args.source.now c.enter_from.new.source
    (λ meant whole i d entry is lt. absurd (omega (arith, lt)))
    (subst (λ (r : Result ChildPlace CursorError). EntersChildren g.C.Cursor start.Last
    0 c.args.self.now.children.items c.args.source.now c.enter_from.new.children.items
    c.enter_from.new.source r) c.in_ok-self.was c.enter_from.ensures)
