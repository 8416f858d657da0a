use Rattle.std.proofs.Common.{rules}
use Rattle.disk.specs.StillLemmas.{still}
use Rattle.manifest.proofs.Counting.{is_old}
use Rattle.manifest.proofs.Opened.{opened_two}
use Rattle.manifest.proofs.opening.opened_by.Goals as goal

-- no call was made
pub returns-in_default-clause-reads : goal.returns-in_default-clause-reads
returns-in_default-clause-reads g c = record {
  kept = search rules;
  causes = search rules;
  still = λ honest.
      still (g.D.Disk.state c.args.disk.now) (g.D.Disk.past c.args.disk.now);
}

-- the slot that counts is of format 1
pub returns-in_default-clause-told : goal.returns-in_default-clause-told
returns-in_default-clause-told g c = λ left honest kept counts.
    is_old c.args.it left counts c.in_default.is

-- it is of format 2
pub returns-clause-told : goal.returns-clause-told
returns-clause-told g c = λ left honest kept counts.
    opened_two c.args.it left counts c.in-Two.is (g.D.Disk.state c.read_slots.new.disk)
    c.read_slots.result (c.read_slots.ensures.told left honest kept counts)
