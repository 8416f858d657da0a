use Rattle.std.proofs.Common.{rules}
use Rattle.std.proofs.lemmas.Result.{err_from_is_err_and}
use Rattle.disk.specs.{contents}
use Rattle.disk.specs.StillLemmas.{still_more}
use Rattle.manifest.proofs.Opened.{kept_so, none_upgraded}
use Rattle.manifest.proofs.opening.open_either.Goals as goal

-- each part leaves nothing new
pub returns-in_err-it-clause-reads : goal.returns-in_err-it-clause-reads
returns-in_err-it-clause-reads g c = record {
  kept = search rules;
  causes = search rules;
  still = λ honest.
      still_more (c.sync_slots.ensures.reads.still honest)
      (c.counting_slot.ensures.reads.still (c.sync_slots.ensures.reads.kept.honest.1 honest));
}

pub returns-in_err-slots-clause-reads : goal.returns-in_err-slots-clause-reads
returns-in_err-slots-clause-reads g c = record {
  kept = search rules;
  causes = search rules;
  still = λ honest.
      let honest' = c.sync_slots.ensures.reads.kept.honest.1 honest in
      still_more (still_more (c.sync_slots.ensures.reads.still honest)
      (c.counting_slot.ensures.reads.still honest'))
      (c.read_slots.ensures.reads.still (c.counting_slot.ensures.reads.kept.honest.1 honest'));
}

pub returns-clause-reads : goal.returns-clause-reads
returns-clause-reads g c = record {
  kept = search rules;
  causes = search rules;
  still = λ honest.
      let honest' = c.sync_slots.ensures.reads.kept.honest.1 honest in
      still_more (still_more (c.sync_slots.ensures.reads.still honest)
      (c.counting_slot.ensures.reads.still honest'))
      (c.read_slots.ensures.reads.still (c.counting_slot.ensures.reads.kept.honest.1 honest'));
}

-- no slot counts
pub returns-in_err-it-clause-told : goal.returns-in_err-it-clause-told
returns-in_err-it-clause-told g c = λ honest.
    let p = err_from_is_err_and c.from_residual-in_err-it.result
    c.from_residual-in_err-it.ensures.1 in
    let e = c.in_err-it.field-0.0 in
    let left = contents (g.D.Disk.state c.args.disk.now) in
    let kept = c.in_ok-sync_slots.ensures.synced honest in
    rw (p.1, p.2) (none_upgraded e left
    (c.in_err-it.ensures.counts left (c.sync_slots.ensures.reads.kept.honest.1 honest) kept.read))

-- one counts, and reads kept both as they were
pub returns-in_err-slots-clause-told : goal.returns-in_err-slots-clause-told
returns-in_err-slots-clause-told g c = λ honest.
    let p = err_from_is_err_and c.from_residual-in_err-slots.result
    c.from_residual-in_err-slots.ensures.1 in
    let left = contents (g.D.Disk.state c.args.disk.now) in
    let kept = c.in_ok-sync_slots.ensures.synced honest in
    let honest' = c.sync_slots.ensures.reads.kept.honest.1 honest in
    let same = c.counting_slot.ensures.reads.kept.files honest' in
    rw (p.1, p.2) (c.in_err-slots.ensures.told left
    (c.counting_slot.ensures.reads.kept.honest.1 honest') (kept_so _ _ left same kept)
    (c.in_ok-it.ensures.counts left honest' kept.read))

pub returns-clause-told : goal.returns-clause-told
returns-clause-told g c = λ honest.
    let left = contents (g.D.Disk.state c.args.disk.now) in
    let kept = c.in_ok-sync_slots.ensures.synced honest in
    let honest' = c.sync_slots.ensures.reads.kept.honest.1 honest in
    let same = c.counting_slot.ensures.reads.kept.files honest' in
    c.in_ok-slots.ensures.told left (c.counting_slot.ensures.reads.kept.honest.1 honest')
    (kept_so _ _ left same kept) (c.in_ok-it.ensures.counts left honest' kept.read)
