use Rattle.std.proofs.Common.{refl, length, arith}
use Rattle.std.proofs.lemmas.Option.{slice_get_read}
use Rattle.merge_iter.specs.Moves.{law_at, one_move}
use Rattle.merge_iter.specs.LentCursors.{AreIntact, IsIntact}
use Rattle.merge_iter.proofs.Nearest.{others_stay}
use Rattle.merge_iter.proofs.Loops.{fewer, none_moved, move_one, stepped, tells_on}
use Rattle.merge_iter.proofs.children.step_at.Goals as goal

pub returns-clause-steps : goal.returns-clause-steps
returns-clause-steps g c =
    let at = slice_get_read c.args.children.now.items (length c.args.children.now.items) c.args.k
    c.index_mut.result.now refl (search (arith, c.requires.room)) c.index_mut.ensures.value in
    record {
      moved = record {
        moves = λ meant. move_one (g.C.Cursor.holds meant)
            (g.C.Cursor.is_sound meant) g.C.Cursor.suits g.C.Cursor.keeps g.C.Cursor.left
            g.C.Cursor.most (law_at g.met.C.Cursor.laws meant) c.args.children.now.items
            c.args.children.now.items c.args.source.now c.args.source.now c.step.new.source c.args.k
            c.index_mut.result.now c.step.new.child at
            (none_moved (g.C.Cursor.holds meant) (g.C.Cursor.is_sound meant) g.C.Cursor.suits
            g.C.Cursor.keeps g.C.Cursor.left g.C.Cursor.most (law_at g.met.C.Cursor.laws meant)
            c.args.children.now.items c.args.source.now) (one_move c.step.ensures.moves meant);
        device = c.step.ensures.device;
        causes = tells_on (IsIntact g.C.Cursor c.index_mut.result.now c.args.source.now)
            (AreIntact g.C.Cursor c.args.children.now.items c.args.source.now)
            (g.C.Cursor.position c.index_mut.result.now) _ _ _
            (c.requires.on c.index_mut.result.now at)
            (λ all. (all.0, all.1 c.args.k c.index_mut.result.now at, all.2)) c.step.ensures.causes;
      };
      ends = fewer g.C.Cursor.left g.C.Cursor.most c.args.way c.args.children.now.items c.args.k
          c.index_mut.result.now c.step.new.child c.step.result at c.step.ensures.ends;
      ahead = λ meant x entry atx on apart all first.
          stepped (g.C.Cursor.holds meant) (g.C.Cursor.is_sound meant) g.C.Cursor.suits
          g.C.Cursor.keeps g.C.Cursor.left g.C.Cursor.most g.C.Cursor.position
          (law_at g.met.C.Cursor.laws meant) c.args.way c.args.children.now.items c.args.source.now
          c.step.new.source c.args.k x c.index_mut.result.now c.step.new.child entry c.step.result
          at atx on apart all first (one_move c.step.ensures.moves meant)
          (c.step.ensures.finds meant (all c.args.k c.index_mut.result.now at));
    }

pub returns-clause-others : goal.returns-clause-others
returns-clause-others g c =
    others_stay c.args.children.now.items c.args.k c.step.new.child
