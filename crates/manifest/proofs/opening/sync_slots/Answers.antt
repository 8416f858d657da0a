use Rattle.std.proofs.Common.{rules}
use Rattle.disk.specs.StillLemmas.{still_more}
use Rattle.manifest.proofs.opening.sync_slots.Goals as goal

-- two syncs leave nothing new
pub returns-clause-reads : goal.returns-clause-reads
returns-clause-reads g c = record {
  kept = search rules;
  causes = search rules;
  still = λ honest.
      still_more (c.sync_slot.ensures.reads.still honest)
      (c.sync_slot-2.ensures.reads.still (c.sync_slot.ensures.reads.kept.honest.1 honest));
}
