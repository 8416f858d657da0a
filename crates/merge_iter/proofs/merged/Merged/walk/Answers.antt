use Rattle.std.proofs.lemmas.Grind.{common_steps}
use Rattle.std.proofs.Common.{◌≡◌, subst, sym, Ok, Err, rules, arith}
use Rattle.std.proofs.lemmas.Option.{slice_get_within}
use Rattle.std.proofs.lemmas.Result.{err_from_is_err_and}
use Rattle.merge_iter.specs.declared.place.Place.TheVariants as place
use Rattle.merge_iter.specs.Positions.{Position, On, IsOn, IsBroken, IfOn, After}
use Rattle.merge_iter.specs.Moves.{all_moves, ErrorCauses, MoveFinds}
use Rattle.merge_iter.specs.Merging.{UnionHolds, IsPlaced, IsSecond, union_position}
use Rattle.merge_iter.specs.Merging.{child_position}
use Rattle.merge_iter.specs.LentCursors.{AreIntact, IsIntactUnion}
use Rattle.merge_iter.proofs.MergedMoves.{tells_merged, child_at, merge_after, finds_after}
use Rattle.merge_iter.proofs.Nearest.{second_stays}
use Rattle.merge_iter.proofs.MergedMoves.{union_moves}
use Rattle.merge_iter.proofs.merged.Merged.walk.Goals as goal

pub returns-in_err-advance : goal.returns-in_err-advance
returns-in_err-advance g c = record {
  moves = all_moves (g.C.Cursor.as_is c.args.source.now) (λ meant.
      union_moves (g.C.Cursor.holds meant) (g.C.Cursor.is_sound meant) g.C.Cursor.suits
      g.C.Cursor.keeps g.C.Cursor.most g.C.Cursor.position (λ m. m.children.items)
      (λ m. m.place) _ _
      c.args.source.now c.advance.new.source (c.advance.ensures.steps.moved.moves meant)
      (λ m. merge_after (g.C.Cursor.holds meant) (g.C.Cursor.is_sound meant) g.C.Cursor.suits
      g.C.Cursor.keeps g.C.Cursor.most g.C.Cursor.position c.args.self.now.children.items
      c.advance.new.children.items c.args.source.now c.advance.new.source c.args.self.now.place
      place.Broken (c.advance.ensures.steps.moved.moves meant) tt m));
  device = search rules;
  causes =
      let p = err_from_is_err_and c.from_residual.result c.from_residual.ensures.1 in
      let was : c.advance.result ≡ Err c.in_err-advance.field-0.0 = c.in_err-advance.was in
      let told : c.advance.result ≡ c.from_residual.result = cc (p.1, p.2) in
      let here = child_at g.C.Cursor.position c.args.self.now.children.items c.args.self.now.place
      c.in-On.was c.in-On.k c.in-On.second c.index.result.now c.in-On.is c.requires
      c.index.ensures in
      let on : IsOn (union_position g.C.Cursor.position c.args.self.now.children.items
      c.args.self.now.place) = subst IsOn (sym here.1) (c.valid.ensures.0 c.if-not-valid.false) in
      let merge = IsIntactUnion g.C.Cursor c.args.self.now.children.items c.args.self.now.place
      c.args.source.now in
      subst (λ r. ErrorCauses merge
      (IsBroken (union_position g.C.Cursor.position c.args.self.now.children.items
      c.args.self.now.place)) g.C.Cursor.steps_allocate (g.C.Cursor.failures c.args.source.now)
      (g.C.Cursor.failures c.advance.new.source) r) told
      (tells_merged (AreIntact g.C.Cursor c.args.self.now.children.items c.args.source.now) merge
      (union_position g.C.Cursor.position
      c.args.self.now.children.items c.args.self.now.place) _ _ c.advance.result on
      (λ m. (m.0, m.1.each, m.2))
      c.advance.ensures.steps.moved.causes);
  broken = search rules;
  ends = search rules;
  finds = search rules;
}

pub returns : goal.returns
returns g c = record {
  moves = all_moves (g.C.Cursor.as_is c.args.source.now) (λ meant.
      union_moves (g.C.Cursor.holds meant) (g.C.Cursor.is_sound meant) g.C.Cursor.suits
      g.C.Cursor.keeps g.C.Cursor.most g.C.Cursor.position (λ m. m.children.items)
      (λ m. m.place) _ _
      c.args.source.now c.advance.new.source (c.advance.ensures.steps.moved.moves meant)
      (λ m.
      let p = subst (λ q. IsPlaced (λ d.
      (g.C.Cursor.holds meant) d c.args.source.now) g.C.Cursor.position
      c.args.self.now.children.items q) c.in-On.is m.placed in
      let f = c.in_ok-advance.ensures.steps.ahead meant p.0 p.1 p.2 p.3 m.apart m.each p.4 in
      merge_after (g.C.Cursor.holds meant) (g.C.Cursor.is_sound meant) g.C.Cursor.suits
      g.C.Cursor.keeps g.C.Cursor.most g.C.Cursor.position c.args.self.now.children.items
      c.advance.new.children.items c.args.source.now c.advance.new.source c.args.self.now.place
      c.resettle-self.result (c.advance.ensures.steps.moved.moves meant)
      (c.resettle-self.ensures.settles meant (After p.1) c.advance.new.source
      (λ same. subst (λ w. IsSecond g.C.Cursor.position w c.advance.new.children.items c.in-On.k
      c.in-On.second) same
      (second_stays g.C.Cursor.position c.in-On.was c.args.self.now.children.items
      c.advance.new.children.items c.in-On.k c.in-On.second
      (c.advance.ensures.steps.moved.moves meant).len (c.advance.ensures.others same) p.5)) f).1
      m));
  device = search rules;
  causes =
      let here = child_at g.C.Cursor.position c.args.self.now.children.items c.args.self.now.place
      c.in-On.was c.in-On.k c.in-On.second c.index.result.now c.in-On.is c.requires
      c.index.ensures in
      let on : IsOn (union_position g.C.Cursor.position c.args.self.now.children.items
      c.args.self.now.place) = subst IsOn (sym here.1) (c.valid.ensures.0 c.if-not-valid.false) in
      let merge = IsIntactUnion g.C.Cursor c.args.self.now.children.items c.args.self.now.place
      c.args.source.now in
      let was : c.advance.result ≡ Ok tt = c.in_ok-advance.was in
      subst (λ r. ErrorCauses merge
      (IsBroken (union_position g.C.Cursor.position c.args.self.now.children.items
      c.args.self.now.place)) g.C.Cursor.steps_allocate (g.C.Cursor.failures c.args.source.now)
      (g.C.Cursor.failures c.advance.new.source) r) was
      (tells_merged (AreIntact g.C.Cursor c.args.self.now.children.items c.args.source.now) merge
      (union_position g.C.Cursor.position
      c.args.self.now.children.items c.args.self.now.place) _ _ c.advance.result on
      (λ m. (m.0, m.1.each, m.2))
      c.advance.ensures.steps.moved.causes);
  broken = search rules;
  ends = search rules;
  finds = λ meant m.
      let p = subst (λ q. IsPlaced (λ d.
      (g.C.Cursor.holds meant) d c.args.source.now) g.C.Cursor.position
      c.args.self.now.children.items q) c.in-On.is m.placed in
      let f = c.in_ok-advance.ensures.steps.ahead meant p.0 p.1 p.2 p.3 m.apart m.each p.4 in
      let here = child_at g.C.Cursor.position c.args.self.now.children.items c.args.self.now.place
      c.in-On.was c.in-On.k c.in-On.second c.index.result.now c.in-On.is c.requires
      c.index.ensures in
      let new : Position = union_position g.C.Cursor.position c.advance.new.children.items
      c.resettle-self.result in
      let was : union_position g.C.Cursor.position c.args.self.now.children.items
      c.args.self.now.place ≡ On p.1 =
      subst (λ q. union_position g.C.Cursor.position c.args.self.now.children.items q ≡ On p.1)
      (sym c.in-On.is) (subst (λ o. child_position g.C.Cursor.position o ≡ On p.1) (sym p.2) p.3)
      in
      subst (λ s. IfOn s (λ entry. MoveFinds {R = Unit {0}} c.args.way (After entry)
      (UnionHolds (λ d. (g.C.Cursor.holds meant) d c.args.source.now)
      c.args.self.now.children.items)
      (Ok tt) new)) (sym was)
      (finds_after (g.C.Cursor.holds meant)
      (g.C.Cursor.is_sound meant) g.C.Cursor.suits g.C.Cursor.keeps g.C.Cursor.most
      g.C.Cursor.position c.args.self.now.children.items c.advance.new.children.items
      c.args.source.now c.advance.new.source (c.advance.ensures.steps.moved.moves meant) m.each
      c.args.way (After p.1)
      new ((c.resettle-self.ensures.settles meant) (After p.1) c.advance.new.source
      (λ same. subst (λ w. IsSecond g.C.Cursor.position w c.advance.new.children.items c.in-On.k
      c.in-On.second) same
      (second_stays g.C.Cursor.position c.in-On.was c.args.self.now.children.items
      c.advance.new.children.items c.in-On.k c.in-On.second
      (c.advance.ensures.steps.moved.moves meant).len (c.advance.ensures.others same) p.5)) f).0);
}

pub resettle-self-requires : goal.resettle-self-requires
resettle-self-requires g c =
    let here = child_at g.C.Cursor.position c.args.self.now.children.items c.args.self.now.place
    c.in-On.was c.in-On.k c.in-On.second c.index.result.now c.in-On.is c.requires
    c.index.ensures in
    let w = slice_get_within c.args.self.now.children.items c.in-On.k c.index.result.now here.0 in
    let l = (c.advance.ensures.steps.moved.moves (g.C.Cursor.as_is c.args.source.now)).len in
    search (arith, w, l)

pub returns-in_default : goal.returns-in_default
returns-in_default g c = grind (arith, common_steps)
