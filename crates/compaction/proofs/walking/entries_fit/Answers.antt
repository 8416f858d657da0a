use Rattle.compaction.proofs.walking.entries_fit.Goals as goal

pub returns : goal.returns
returns g c = g.met.C.Cursor.fits c.args.cursor.now
