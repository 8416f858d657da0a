use Rattle.std.proofs.Common.{◌≡◌, length}
use Rattle.version_edits.specs.Versions.{are_once}
use Rattle.version_edits.proofs.fits.are_once.Given as goal

-- the numbers that are left decide
abbrev pub invariant-loop-rest : goal.invariant-loop-rest
invariant-loop-rest l = are_once l.rest ≡ are_once l.numbers

abbrev pub decreases-loop-rest : goal.decreases-loop-rest
decreases-loop-rest l = length l.rest
