-- The cut, and the write behind the gate that it leaves.
use Rattle.std.proofs.Common.{◌∷◌, rules}
use Rattle.manifest.proofs.Replaces.{after_cut, after_fill, fill_gated}
use Rattle.manifest.proofs.replace.fill.Goals as goal

-- the cut
pub returns-in_err-cut : goal.returns-in_err-cut
returns-in_err-cut g c = record {
  kept = search rules;
  done = search rules;
  any_moment = λ was honest shut.
      after_cut g.D.Disk.state g.D.Disk.past was c.args.behind.now c.args.file c.args.disk.now shut
      c.cut.new.self c.cut.result (c.cut.ensures.cuts honest)
      (c.cut.ensures.kept.disk.files honest) (c.cut.ensures.passes honest).moment;
  calls = search rules;
}

-- the write behind the gate
pub returns : goal.returns
returns g c = record {
  kept = search rules;
  -- the file has the bytes behind an open gate, or the device or memory refused
  done = λ was honest shut.
      c.write_gated.ensures.done (shut.closed.0 ∷ c.args.behind.now)
      (c.cut.ensures.kept.disk.honest.1 honest)
      (fill_gated c.args.behind.now c.args.behind.now (g.D.Disk.state c.args.disk.now) c.args.file
      shut (g.D.Disk.state c.cut.new.self) (c.in_ok-cut.ensures.cuts honest).1.here
      c.requires.some);
  any_moment = λ was honest shut.
      let is1 = (c.in_ok-cut.ensures.cuts honest).1.here in
      after_fill g.D.Disk.state g.D.Disk.past was c.args.behind.now c.args.file c.args.disk.now shut
      c.cut.new.self c.cut.result (c.cut.ensures.cuts honest)
      (c.cut.ensures.kept.disk.files honest) (c.cut.ensures.passes honest).moment
      c.write_gated.new.disk is1
      (c.write_gated.ensures.any_moment (shut.closed.0 ∷ c.args.behind.now)
      (c.cut.ensures.kept.disk.honest.1 honest)
      (fill_gated c.args.behind.now c.args.behind.now (g.D.Disk.state c.args.disk.now) c.args.file
      shut (g.D.Disk.state c.cut.new.self) is1 c.requires.some));
  calls = search rules;
}
