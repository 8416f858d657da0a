use Rattle.std.proofs.Common.{Option, List, ℕ, ap, inl, refl, subst, ◌∙◌, inr, rules}
use Rattle.std.proofs.lemmas.Result.{err_from_is_err_and}
use Rattle.disk.specs.{seen}
use Rattle.disk.specs.StillLemmas.{still_more}
use Rattle.manifest.specs.Heads.{HeadIs}
use Rattle.manifest.proofs.Causes.{environment_causes, heads_cause}
use Rattle.manifest.proofs.Heads.{counted_by}
use Rattle.manifest.proofs.head.counting_slot.Goals as goal

-- reads leave nothing new
pub returns-in_err-second-clause-reads : goal.returns-in_err-second-clause-reads
returns-in_err-second-clause-reads g c = record {
  kept = search rules;
  causes = search rules;
  still = λ honest.
      still_more (c.head_of.ensures.reads.still honest)
      (c.head_of-2.ensures.reads.still (c.head_of.ensures.reads.kept.honest.1 honest));
}

pub returns-clause-reads : goal.returns-clause-reads
returns-clause-reads g c = record {
  kept = search rules;
  causes = search rules;
  still = λ honest.
      still_more (c.head_of.ensures.reads.still honest)
      (c.head_of-2.ensures.reads.still (c.head_of.ensures.reads.kept.honest.1 honest));
}

-- which slot counts by the heads, of which the second is that of the disk before the first was read
pub returns-clause-counts : goal.returns-clause-counts
returns-clause-counts g c = λ left honest read.
    let first = subst (λ (file : Option (List ℕ)). HeadIs c.in_ok-first.first file)
    (read 1 (inl refl)) (c.in_ok-first.ensures.is honest) in
    let second = subst (λ (file : Option (List ℕ)). HeadIs c.in_ok-second.second file)
    (ap seen (c.head_of.ensures.reads.kept.files honest 2) ∙ read 2 (inr refl))
    (c.in_ok-second.ensures.is (c.head_of.ensures.reads.kept.honest.1 honest)) in
    counted_by left c.in_ok-first.first c.in_ok-second.second first second c.counting.result
    c.counting.ensures

-- why none counts, of any disk
pub returns-in_err-first-clause-causes : goal.returns-in_err-first-clause-causes
returns-in_err-first-clause-causes g c =
    let p = err_from_is_err_and c.from_residual.result c.from_residual.ensures.1 in
    rw (p.1, p.2) (environment_causes c.in_err-first.field-0.0 c.in_err-first.ensures.is)

pub returns-in_err-second-clause-causes : goal.returns-in_err-second-clause-causes
returns-in_err-second-clause-causes g c =
    let p = err_from_is_err_and c.from_residual-in_err-second.result
    c.from_residual-in_err-second.ensures.1 in
    rw (p.1, p.2) (environment_causes c.in_err-second.field-0.0 c.in_err-second.ensures.is)

pub returns-clause-causes : goal.returns-clause-causes
returns-clause-causes g c =
    heads_cause c.in_ok-first.first c.in_ok-second.second c.counting.result c.counting.ensures
