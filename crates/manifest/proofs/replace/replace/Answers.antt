use Rattle.std.proofs.Common.{rules}
use Rattle.std.proofs.lemmas.Result.{err_from_is_err_and}
use Rattle.disk.specs.BesideLemmas.{at_join}
use Rattle.manifest.proofs.Kept.{kept_before, kept_last}
use Rattle.manifest.proofs.Replaces.{OnTheWay}
use Rattle.manifest.proofs.replace.replace.Goals as goal

-- the gate is shut
pub returns-in_err-shut : goal.returns-in_err-shut
returns-in_err-shut g c = record {
  -- no other file changes
  kept = let p = err_from_is_err_and c.from_residual.result c.from_residual.ensures.1 in
      rw (p.1, p.2) (kept_last g.D.Disk c.args.file _ _ _ _ _ c.in_err-shut.ensures.kept
      (λ never. absurd never));
  done = λ was honest at.
      let p = err_from_is_err_and c.from_residual.result c.from_residual.ensures.1 in
      rw (p.1, p.2) (c.in_err-shut.ensures.refused was honest at.0);
  any_moment = λ was honest at.
      c.shut.ensures.any_moment was honest at.0 at.1 c.args.behind.now;
  calls = search rules;
}

-- and then the file is filled
pub returns : goal.returns
returns g c = record {
  kept = kept_before g.D.Disk c.args.file _ _ _ _ _ _ _ c.in_ok-shut.ensures.kept (λ f. absurd cc)
      c.fill.ensures.kept;
  done = λ was honest at. c.fill.ensures.done was (c.shut.ensures.kept.honest.1 honest)
      (c.in_ok-shut.ensures.done was honest at.0 at.1);
  any_moment = λ was honest at.
      let state = g.D.Disk.state in
      let past = g.D.Disk.past in
      at_join (OnTheWay was c.args.behind.now) c.args.file (state c.args.disk.now)
      (state c.shut.new.disk) (state c.fill.new.disk) (past c.args.disk.now)
      (past c.shut.new.disk) (past c.fill.new.disk)
      (c.shut.ensures.any_moment was honest at.0 at.1 c.args.behind.now)
      (c.shut.ensures.kept.files honest)
      (c.fill.ensures.any_moment was (c.shut.ensures.kept.honest.1 honest)
      (c.in_ok-shut.ensures.done was honest at.0 at.1));
  calls = search rules;
}
