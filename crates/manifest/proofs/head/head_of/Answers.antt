use Rattle.std.proofs.Common.{Bool, rules, subst}
use Rattle.disk.specs.{seen}
use Rattle.disk.specs.StillLemmas.{still_more}
use Rattle.manifest.specs.Heads.{IsFilled}
use Rattle.manifest.proofs.Heads.{head_of_13}
use Rattle.manifest.proofs.head.head_of.Goals as goal

-- two reads leave nothing new
pub returns-in_err-fills-2-clause-reads : goal.returns-in_err-fills-2-clause-reads
returns-in_err-fills-2-clause-reads g c = record {
  kept = search rules;
  causes = search rules;
  still = λ honest.
      still_more (c.fills.ensures.reads.still honest)
      (c.fills-2.ensures.reads.still (c.fills.ensures.reads.kept.honest.1 honest));
}

pub returns-then-not-branch-clause-reads : goal.returns-then-not-branch-clause-reads
returns-then-not-branch-clause-reads g c = record {
  kept = search rules;
  causes = search rules;
  still = λ honest.
      still_more (c.fills.ensures.reads.still honest)
      (c.fills-2.ensures.reads.still (c.fills.ensures.reads.kept.honest.1 honest));
}

pub returns-then-gate-ne1-clause-reads : goal.returns-then-gate-ne1-clause-reads
returns-then-gate-ne1-clause-reads g c = record {
  kept = search rules;
  causes = search rules;
  still = λ honest.
      still_more (c.fills.ensures.reads.still honest)
      (c.fills-2.ensures.reads.still (c.fills.ensures.reads.kept.honest.1 honest));
}

-- nor does a third
pub returns-in_err-fills-3-clause-reads : goal.returns-in_err-fills-3-clause-reads
returns-in_err-fills-3-clause-reads g c = record {
  kept = search rules;
  causes = search rules;
  still = λ honest.
      let honest' = c.fills.ensures.reads.kept.honest.1 honest in
      still_more (still_more (c.fills.ensures.reads.still honest)
      (c.fills-2.ensures.reads.still honest'))
      (c.fills-3.ensures.reads.still (c.fills-2.ensures.reads.kept.honest.1 honest'));
}

pub returns-then-not-branch-2-clause-reads : goal.returns-then-not-branch-2-clause-reads
returns-then-not-branch-2-clause-reads g c = record {
  kept = search rules;
  causes = search rules;
  still = λ honest.
      let honest' = c.fills.ensures.reads.kept.honest.1 honest in
      still_more (still_more (c.fills.ensures.reads.still honest)
      (c.fills-2.ensures.reads.still honest'))
      (c.fills-3.ensures.reads.still (c.fills-2.ensures.reads.kept.honest.1 honest'));
}

pub returns-clause-reads : goal.returns-clause-reads
returns-clause-reads g c = record {
  kept = search rules;
  causes = search rules;
  still = λ honest.
      let honest' = c.fills.ensures.reads.kept.honest.1 honest in
      still_more (still_more (c.fills.ensures.reads.still honest)
      (c.fills-2.ensures.reads.still honest'))
      (c.fills-3.ensures.reads.still (c.fills-2.ensures.reads.kept.honest.1 honest'));
}

-- the head is in the first 13 bytes
pub returns-then-branch-clause-is : goal.returns-then-branch-clause-is
returns-then-branch-clause-is g c = λ honest.
    head_of_13 c.head_in.result (seen (g.D.Disk.state c.args.disk.now c.args.file))
    c.fills.new.into c.in_ok-fills.ensures.len
    (subst (λ (full : Bool). IsFilled full (seen (g.D.Disk.state c.args.disk.now c.args.file))
    c.fills.new.into) c.if-branch.true (c.in_ok-fills.ensures.filled honest)) c.head_in.ensures
