use Rattle.std.proofs.Common.{ap, inl, inr, subst, sym, take, ◌∙◌}
use Rattle.kv_types.specs.Pages.{page_of}
use Rattle.kv_types.specs.Spans.{Rows}
use Rattle.engine.specs.{look_ups}
use Rattle.dumps.specs.Dumped.{IsOfOpened}
use Rattle.dumps.proofs.DeviceLemmas.{read_of_opened}
use Rattle.dumps.proofs.row_walk.page_from.Goals as goal

-- the engine's page is that of this range
pub returns-in-Ok-rows-clause-page : goal.returns-in-Ok-rows-clause-page
returns-in-Ok-rows-clause-page g c = λ list shows.
    let same = ap (page_of (take c.args.at list)) c.in-Ok.ensures.made.2 in
    elim shows [
      | inl reads ↦ c.in-Ok-rows.ensures.found.reads list reads ∙ same
      | inr meant ↦ c.in-Ok-rows.ensures.found.meant list meant ∙ same
    ]

-- and the engine shows the same lists
pub returns-in-Ok-rows-clause-shows : goal.returns-in-Ok-rows-clause-shows
returns-in-Ok-rows-clause-shows g c = λ list. record {
  reads = (c.in-Ok-rows.ensures.reads.kept list).reads;
  meant = (c.in-Ok-rows.ensures.reads.kept list).meant;
}

-- a read says nothing of a creation
pub returns-clause-created : goal.returns-clause-created
returns-clause-created g c =
    subst IsOfOpened (sym c.from.ensures)
    (read_of_opened Rows (look_ups c.args.engine.now) c.args.at c.in-Err.e
    c.in-Err.ensures.readable)
