use Rattle.store_cursors.proofs.Shown.{shown_of}
use Rattle.store_cursors.proofs.rows.rows_at.Goals as goal

pub returns-clause-sound : goal.returns-clause-sound
returns-clause-sound g c = λ meant files each apart.
    c.new-2.ensures.sound meant files (c.new.ensures.sound meant files each apart)

pub returns-clause-entries : goal.returns-clause-entries
returns-clause-entries g c = λ meant files.
    shown_of c.get.result c.args.at _ _ _ c.get.ensures.same
    (c.new-2.ensures.entries meant files) (c.new.ensures.entries meant files)
