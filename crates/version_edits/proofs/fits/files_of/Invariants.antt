use Rattle.std.proofs.Common.{◌≡◌, ◌++◌, take, map}
use Rattle.version_edits.proofs.fits.files_of.Given as goal

-- the files of the logs that the loop has passed
abbrev pub invariant-loop-line : goal.invariant-loop-line
invariant-loop-line l = l.files.items ≡ map (λ line. line.file) (take l.line-index l.logs)

-- and those of the tables
abbrev pub invariant-loop-line-2 : goal.invariant-loop-line-2
invariant-loop-line-2 l =
    l.files.items ≡ map (λ line. line.file) l.logs ++ map (λ line. line.file)
    (take l.line-index l.tables)
