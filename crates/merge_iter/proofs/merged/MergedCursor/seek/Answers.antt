use Rattle.std.proofs.Common.{rules}
use Rattle.merge_iter.specs.Moves.{all_moves}
use Rattle.byte_fields.specs.{lent_key}
use Rattle.merge_iter.specs.declared.direction.Direction.TheVariants.{Forward}
use Rattle.merge_iter.specs.declared.place.Place.TheVariants as place
use Rattle.merge_iter.specs.Order.{spot}
use Rattle.merge_iter.specs.Positions.{At}
use Rattle.merge_iter.specs.Merging.{union_position}
use Rattle.merge_iter.proofs.MergedMoves.{union_moves, merge_after, finds_after}
use Rattle.merge_iter.proofs.merged.MergedCursor.seek.Goals as goal

pub returns-in_err-seek_all : goal.returns-in_err-seek_all
returns-in_err-seek_all g c = record {
  moves = all_moves (g.C.Cursor.as_is c.args.source.now) (λ meant.
      union_moves (g.C.Cursor.holds meant) (g.C.Cursor.is_sound meant) g.C.Cursor.suits
      g.C.Cursor.keeps g.C.Cursor.most g.C.Cursor.position (λ m. m.children.items)
      (λ m. m.place) _ _
      c.args.source.now c.seek_all.new.source (c.seek_all.ensures.moved.moves meant)
      (λ m. merge_after (g.C.Cursor.holds meant) (g.C.Cursor.is_sound meant) g.C.Cursor.suits
      g.C.Cursor.keeps g.C.Cursor.most g.C.Cursor.position c.args.self.now.children.items
      c.seek_all.new.children.items c.args.source.now c.seek_all.new.source c.args.self.now.place
      place.Broken (c.seek_all.ensures.moved.moves meant) tt m));
  device = search rules;
  causes = search rules;
  broken = search rules;
  finds = search rules;
}

pub returns : goal.returns
returns g c = record {
  moves = all_moves (g.C.Cursor.as_is c.args.source.now) (λ meant.
      union_moves (g.C.Cursor.holds meant) (g.C.Cursor.is_sound meant) g.C.Cursor.suits
      g.C.Cursor.keeps g.C.Cursor.most g.C.Cursor.position (λ m. m.children.items)
      (λ m. m.place) _ _
      c.args.source.now c.seek_all.new.source (c.seek_all.ensures.moved.moves meant)
      (λ m. merge_after (g.C.Cursor.holds meant) (g.C.Cursor.is_sound meant) g.C.Cursor.suits
      g.C.Cursor.keeps g.C.Cursor.most g.C.Cursor.position c.args.self.now.children.items
      c.seek_all.new.children.items c.args.source.now c.seek_all.new.source c.args.self.now.place
      c.settle-self.result (c.seek_all.ensures.moved.moves meant)
      (c.settle-self.ensures.settles meant (At (spot
      (lent_key c.args.key) c.args.number)) c.seek_all.new.source
      (c.in_ok-seek_all.ensures.finds meant m.each)).1 m));
  device = search rules;
  causes = search rules;
  broken = search rules;
  finds = λ meant m. finds_after (g.C.Cursor.holds meant)
      (g.C.Cursor.is_sound meant) g.C.Cursor.suits
      g.C.Cursor.keeps g.C.Cursor.most g.C.Cursor.position c.args.self.now.children.items
      c.seek_all.new.children.items c.args.source.now c.seek_all.new.source
      (c.seek_all.ensures.moved.moves meant) m.each
      Forward (At (spot (lent_key c.args.key) c.args.number))
      (union_position g.C.Cursor.position c.seek_all.new.children.items c.settle-self.result)
      (c.settle-self.ensures.settles meant (At (spot
      (lent_key c.args.key) c.args.number)) c.seek_all.new.source
      (c.in_ok-seek_all.ensures.finds meant m.each)).0;
}
