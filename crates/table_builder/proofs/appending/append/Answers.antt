use Rattle.std.proofs.Common.{◌++◌, arith, rules, sym, subst}
use Rattle.std.proofs.lemmas.Grind.{common_steps}
use Rattle.disk.specs.{Slot}
use Rattle.table_builder.specs.Fresh.{IsFresh}
use Rattle.table_builder.proofs.FreshLemmas.{fresh_written, spared, spared_more}
use Rattle.table_builder.proofs.appending.append.Goals as goal

pub returns-in_err-write_at : goal.returns-in_err-write_at
returns-in_err-write_at g c = record {
  device = record {
    kept = first_of (search rules, grind (arith, common_steps));
    any_moment = λ honest.
        spared_more g.D.Disk.state g.D.Disk.past c.args.file c.args.disk.now c.args.disk.now
        c.write_at.new.self (spared g.D.Disk.state g.D.Disk.past c.args.file c.args.disk.now)
        (c.write_at.ensures.passes honest).moment (c.write_at.ensures.kept.disk.files honest);
  };
  appended = first_of (search rules, grind (arith, common_steps));
}

pub returns : goal.returns
returns g c = record {
  device = record {
    kept = first_of (search rules, grind (arith, common_steps));
    any_moment = λ honest.
        spared_more g.D.Disk.state g.D.Disk.past c.args.file c.args.disk.now c.args.disk.now
        c.write_at.new.self (spared g.D.Disk.state g.D.Disk.past c.args.file c.args.disk.now)
        (c.write_at.ensures.passes honest).moment (c.write_at.ensures.kept.disk.files honest);
  };
  appended = λ there honest fresh end.
      let state = g.D.Disk.state in
      let bytes = c.args.bytes.now in
      subst (λ (slot : Slot). IsFresh slot (there ++ bytes))
      (sym (c.in_ok-write_at.ensures.writes honest).2.here)
      (fresh_written (state c.args.disk.now c.args.file) there bytes c.args.at fresh end);
}
