use Rattle.std.proofs.Common.{◌≡◌, false, arith}
use Rattle.std.proofs.lemmas.Bool.{lt-ltb, le-ltb}
use Rattle.std.proofs.lemmas.List.Elements.{All-more}
use Rattle.version_edits.specs.declared.line.LogLine.{LogLine}
use Rattle.version_edits.specs.Versions.{log_is_before}
use Rattle.version_edits.proofs.Placed.{placed_here}
use Rattle.version_edits.proofs.changed.log_place.Goals as goal

pub returns-then-line-logs-clause-place : goal.returns-then-line-logs-clause-place
returns-then-line-logs-clause-place c =
    placed_here log_is_before c.args.logs.now c.args.line c.loop-at.at _ c.loop-at-test.true
    c.loop-at.invariant.1 (lt-ltb _ _ c.if-line-logs.true)

pub loop-at-preserved : goal.loop-at-preserved
loop-at-preserved c = (
  omega (arith, c.loop-at-test.true),
  All-more (λ (y : LogLine). log_is_before c.args.line y ≡ false) c.args.logs.now c.loop-at.at _
      c.loop-at-test.true c.loop-at.invariant.1 (le-ltb _ _ c.if-line-logs.false),
)
