use Rattle.compaction.proofs.walking.are_lawful.Goals as goal

pub returns : goal.returns
returns g c = g.met.C.Cursor.laws
