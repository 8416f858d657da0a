-- Calls that only read leave nothing new.
use Rattle.std.proofs.Common.{arith, length, rules}
use Rattle.disk.specs.StillLemmas.{still, still_same}
use Rattle.table_files.specs.LentFiles.{one_call}
use Rattle.sorted_table.proofs.OpenTails.{some_of}
use Rattle.sorted_table.proofs.tail.read_footer.Goals as goal

pub returns-in_err-length-clause-device : goal.returns-in_err-length-clause-device
returns-in_err-length-clause-device g c = record {
  kept = search rules;
  still = λ honest.
      still_same (still (g.D.Disk.state c.args.disk.now) (g.D.Disk.past c.args.disk.now))
      (c.length.ensures.passes honest).moment (c.length.ensures.kept.disk.files honest);
}

pub returns-then-length-clause-device : goal.returns-then-length-clause-device
returns-then-length-clause-device g c = record {
  kept = search rules;
  still = λ honest.
      still_same (still (g.D.Disk.state c.args.disk.now) (g.D.Disk.past c.args.disk.now))
      (c.length.ensures.passes honest).moment (c.length.ensures.kept.disk.files honest);
}

pub returns-in_err-read-clause-device : goal.returns-in_err-read-clause-device
returns-in_err-read-clause-device g c = record {
  kept = search rules;
  still = λ honest.
      let honest' = c.length.ensures.kept.disk.honest.1 honest in
      still_same (still_same (still (g.D.Disk.state c.args.disk.now)
      (g.D.Disk.past c.args.disk.now))
      (c.length.ensures.passes honest).moment (c.length.ensures.kept.disk.files honest))
      (c.read.ensures.passes honest').moment (c.read.ensures.kept.disk.files honest');
}

pub returns-clause-device : goal.returns-clause-device
returns-clause-device g c = record {
  kept = search rules;
  still = λ honest.
      let honest' = c.length.ensures.kept.disk.honest.1 honest in
      still_same (still_same (still (g.D.Disk.state c.args.disk.now)
      (g.D.Disk.past c.args.disk.now))
      (c.length.ensures.passes honest).moment (c.length.ensures.kept.disk.files honest))
      (c.read.ensures.passes honest').moment (c.read.ensures.kept.disk.files honest');
}

-- a file with a length is there
pub returns-clause-present : goal.returns-clause-present
returns-clause-present g c = λ honest. some_of _ _ (c.in_ok-length.ensures.length honest)

-- and are one or two
pub returns-in_err-length-clause-calls : goal.returns-in_err-length-clause-calls
returns-in_err-length-clause-calls g c = λ honest.
    let first = one_call c.length.result (length (g.D.Disk.past c.args.disk.now))
    (length (g.D.Disk.past c.length.new.self)) (c.length.ensures.passes honest).counts in
    omega (arith, first)

pub returns-then-length-clause-calls : goal.returns-then-length-clause-calls
returns-then-length-clause-calls g c = λ honest.
    let first = one_call c.length.result (length (g.D.Disk.past c.args.disk.now))
    (length (g.D.Disk.past c.length.new.self)) (c.length.ensures.passes honest).counts in
    omega (arith, first)

pub returns-in_err-read-clause-calls : goal.returns-in_err-read-clause-calls
returns-in_err-read-clause-calls g c = λ honest.
    let first = one_call c.length.result (length (g.D.Disk.past c.args.disk.now))
    (length (g.D.Disk.past c.length.new.self)) (c.length.ensures.passes honest).counts in
    let then = one_call c.read.result (length (g.D.Disk.past c.length.new.self))
    (length (g.D.Disk.past c.read.new.self))
    (c.read.ensures.passes (c.length.ensures.kept.disk.honest.1 honest)).counts in
    omega (arith, first, then)

pub returns-clause-calls : goal.returns-clause-calls
returns-clause-calls g c = λ honest.
    let first = one_call c.length.result (length (g.D.Disk.past c.args.disk.now))
    (length (g.D.Disk.past c.length.new.self)) (c.length.ensures.passes honest).counts in
    let then = one_call c.read.result (length (g.D.Disk.past c.length.new.self))
    (length (g.D.Disk.past c.read.new.self))
    (c.read.ensures.passes (c.length.ensures.kept.disk.honest.1 honest)).counts in
    omega (arith, first, then)
