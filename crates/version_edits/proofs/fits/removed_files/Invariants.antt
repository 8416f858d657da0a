use Rattle.std.proofs.Common.{◌≡◌, take, map}
use Rattle.version_edits.proofs.fits.removed_files.Given as goal

-- the files that the loop has passed
abbrev pub invariant-loop-one : goal.invariant-loop-one
invariant-loop-one l = l.files.items ≡ map (λ one. one.file) (take l.one-index l.gone)
