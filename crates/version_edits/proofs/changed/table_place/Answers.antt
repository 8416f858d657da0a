use Rattle.std.proofs.Common.{◌≡◌, ◌∙◌, false, arith, sym, subst}
use Rattle.std.proofs.lemmas.List.Elements.{All-more}
use Rattle.version_edits.specs.declared.line.TableLine.{TableLine}
use Rattle.version_edits.specs.Versions.{table_is_before}
use Rattle.version_edits.proofs.changed.table_place.Goals as goal

pub loop-at-preserved : goal.loop-at-preserved
loop-at-preserved c = (
  omega (arith, c.loop-at-test.true),
  All-more (λ (y : TableLine). table_is_before c.args.line.now y ≡ false) c.args.tables.now
      c.loop-at.at _ c.loop-at-test.true c.loop-at.invariant.1
      (subst (λ (y : TableLine). table_is_before c.args.line.now y ≡ false)
      c.index-tables-at.is
      (sym c.table_is_before.ensures ∙ c.if-table_is_before.false)),
)
