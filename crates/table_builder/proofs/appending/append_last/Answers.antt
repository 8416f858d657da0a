use Rattle.std.proofs.Common.{ap, arith, rules, ◌∙◌}
use Rattle.std.proofs.lemmas.Grind.{common_steps}
use Rattle.disk.specs.{synced}
use Rattle.disk.specs.BesideLemmas.{same_but_join}
use Rattle.table_builder.proofs.FreshLemmas.{fresh_synced, spared, spared_more}
use Rattle.table_builder.proofs.appending.append_last.Goals as goal

pub returns-in_err-write_at : goal.returns-in_err-write_at
returns-in_err-write_at g c = record {
  device = record {
    kept = first_of (search rules, grind (arith, common_steps));
    any_moment = λ honest.
        spared_more g.D.Disk.state g.D.Disk.past c.args.file c.args.disk.now c.args.disk.now
        c.write_at.new.self (spared g.D.Disk.state g.D.Disk.past c.args.file c.args.disk.now)
        (c.write_at.ensures.passes honest).moment (c.write_at.ensures.kept.disk.files honest);
  };
  appended = first_of (search rules, grind (arith, common_steps));
}

pub returns-in_err-sync : goal.returns-in_err-sync
returns-in_err-sync g c = record {
  device = record {
    kept = first_of (search rules, grind (arith, common_steps));
    any_moment = λ honest.
        let state = g.D.Disk.state in
        let past = g.D.Disk.past in
        let d0 = c.args.disk.now in
        let d1 = c.write_at.new.self in
        let honest' = c.write_at.ensures.kept.disk.honest.1 honest in
        let first = c.write_at.ensures.kept.disk.files honest in
        spared_more state past c.args.file d0 d1 c.sync.new.self
        (spared_more state past c.args.file d0 d0 d1 (spared state past c.args.file d0)
        (c.write_at.ensures.passes honest).moment first)
        (c.sync.ensures.passes honest').moment
        (same_but_join c.args.file (state d0) (state d1) (state c.sync.new.self) first
        (c.sync.ensures.kept.disk.files honest'));
  };
  appended = first_of (search rules, grind (arith, common_steps));
}

pub returns : goal.returns
returns g c = record {
  device = record {
    kept = first_of (search rules, grind (arith, common_steps));
    any_moment = λ honest.
        let state = g.D.Disk.state in
        let past = g.D.Disk.past in
        let d0 = c.args.disk.now in
        let d1 = c.write_at.new.self in
        let honest' = c.write_at.ensures.kept.disk.honest.1 honest in
        let first = c.write_at.ensures.kept.disk.files honest in
        spared_more state past c.args.file d0 d1 c.sync.new.self
        (spared_more state past c.args.file d0 d0 d1 (spared state past c.args.file d0)
        (c.write_at.ensures.passes honest).moment first)
        (c.sync.ensures.passes honest').moment
        (same_but_join c.args.file (state d0) (state d1) (state c.sync.new.self) first
        (c.sync.ensures.kept.disk.files honest'));
  };
  appended = λ there honest fresh end.
      let state = g.D.Disk.state in
      let bytes = c.args.bytes.now in
      let honest' = c.write_at.ensures.kept.disk.honest.1 honest in
      (c.in_ok-sync.ensures.syncs honest').1.here
      ∙ ap synced (c.in_ok-write_at.ensures.writes honest).2.here
      ∙ fresh_synced (state c.args.disk.now c.args.file) there bytes c.args.at fresh end;
}
