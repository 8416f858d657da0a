use Rattle.std.proofs.Common.{◌≡◌, ◌&&◌, ◌==◌, take, false}
use Rattle.std.specs.List.{list_any}
use Rattle.version_edits.proofs.changed.is_removed.Given as goal

-- none that the loop has passed names it
abbrev pub invariant-loop-one : goal.invariant-loop-one
invariant-loop-one l =
    list_any (λ one. one.level == l.line.level && one.file == l.line.file)
    (take l.one-index l.gone) ≡ false
