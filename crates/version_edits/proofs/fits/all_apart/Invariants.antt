use Rattle.std.proofs.Common.{◌≡◌, length}
use Rattle.version_edits.specs.Versions.{all_apart}
use Rattle.version_edits.proofs.fits.all_apart.Given as goal

-- the tables that are left decide
abbrev pub invariant-loop-rest : goal.invariant-loop-rest
invariant-loop-rest l = all_apart l.rest ≡ all_apart l.tables

abbrev pub decreases-loop-rest : goal.decreases-loop-rest
decreases-loop-rest l = length l.rest
