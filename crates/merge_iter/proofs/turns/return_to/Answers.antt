use Rattle.std.proofs.Common.{◌≡◌, subst}
use Rattle.byte_fields.specs.{lent_key}
use Rattle.merge_iter.specs.Positions.{On}
use Rattle.merge_iter.specs.KeptEntries.{kept_entry}
use Rattle.merge_iter.specs.Moves.{law_at}
use Rattle.merge_iter.proofs.Walked.{returned}
use Rattle.merge_iter.specs.ShownEntries.{IsSettled, view_position}
use Rattle.merge_iter.proofs.turns.return_to.Goals as goal

pub returns-in-Kept-clause-returns : goal.returns-in-Kept-clause-returns
returns-in-Kept-clause-returns g c meant at entry s settled on =
    let w = kept_entry c.args.kept.now in
    let here = subst (λ m. IsSettled at
    ((g.C.Cursor.holds meant) c.args.inner.now c.args.source.now) m
    (g.C.Cursor.position c.args.inner.now) w) c.in-Kept.is settled in
    let is : On w ≡ On entry = subst (λ m. view_position m (g.C.Cursor.position c.args.inner.now) w
    ≡ On entry) c.in-Kept.is on in
    returned ((g.C.Cursor.holds meant) c.args.inner.now c.args.source.now)
    ((law_at g.met.C.Cursor.laws meant).apart c.args.inner.now c.args.source.now s) w entry
    (lent_key c.lent.result) (g.C.Cursor.position c.seek.new.self) c.seek.result
    c.lent.ensures here.0.newest.seen.0 is ((c.seek.ensures.finds meant) s)
