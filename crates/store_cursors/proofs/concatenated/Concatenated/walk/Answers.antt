use Rattle.std.proofs.Common.{◌≡◌, Err, Result, refl, subst}
use Rattle.std.proofs.lemmas.Result.{err_from_is_err_and}
use Rattle.merge_iter.specs.declared.CursorError.{CursorError}
use Rattle.store_cursors.specs.Concatenation.{StepsFrom}
use Rattle.store_cursors.specs.declared.child_place.ChildPlace.{ChildPlace}
use Rattle.store_cursors.proofs.Concatenating.{not_stepped, stepped}
use Rattle.store_cursors.proofs.concatenated.Concatenated.walk.Goals as goal

pub returns-in_err-self : goal.returns-in_err-self
returns-in_err-self g c =
    let p = err_from_is_err_and c.from_residual.result c.from_residual.ensures.1 in
    let told : c.from_residual.result ≡ Err c.in_err-self.field-0.0 = cc (p.1, p.2) in
    rw told (not_stepped g.C.Cursor (λ m. m.children.items) (λ m. m.place) c.args.way c.in-On.k
    c.args.self.now _ c.args.source.now c.step_from.new.source c.in-On.is
    c.in_err-self.field-0.0 refl
    (subst (λ (r : Result ChildPlace CursorError). StepsFrom g.C.Cursor c.args.way c.in-On.k
    c.args.self.now.children.items c.args.source.now c.step_from.new.children.items
    c.step_from.new.source r) c.in_err-self.was c.step_from.ensures))

pub returns : goal.returns
returns g c = stepped g.C.Cursor (λ m. m.children.items) (λ m. m.place) c.args.way c.in-On.k
    c.args.self.now _ c.args.source.now c.step_from.new.source c.in-On.is
    (subst (λ (r : Result ChildPlace CursorError). StepsFrom g.C.Cursor c.args.way c.in-On.k
    c.args.self.now.children.items c.args.source.now c.step_from.new.children.items
    c.step_from.new.source r) c.in_ok-self.was c.step_from.ensures) c.requires
