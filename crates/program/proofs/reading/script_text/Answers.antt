use Rattle.std.proofs.Common.{arith, rules, take}
use Rattle.std.proofs.lemmas.List.{length-take}
use Rattle.program.proofs.Beginnings.{fault_read, one_more, read_more, read_no_more, whole_read}
use Rattle.program.specs.Readings.EndsInTime.{Unread}
use Rattle.program.proofs.reading.script_text.Goals as goal

-- nothing was read
pub loop-init : goal.loop-init
loop-init g c = record {
  read = search rules;
  extent = rw c.new-text.ensures.items c.new-extent.ensures.extent;
  within = c.new-extent.ensures.within;
  in_time = rw c.new-text.ensures.items Unread;
}

pub returns-in_default-clause-read : goal.returns-in_default-clause-read
returns-in_default-clause-read g c =
    let read = rw c.in_default.is at c.in_ok-count.ensures.read in
    whole_read (g.R.Read.remaining c.args.input.now) (g.R.Read.remaining c.read_some.new.input)
    c.loop.text.items
    (read_no_more (g.R.Read.remaining c.args.input.now) (g.R.Read.remaining c.loop.input)
    (g.R.Read.remaining c.read_some.new.input) c.loop.text.items c.loop.invariant.read read.0)
    read.1

pub returns-in_default-clause-end : goal.returns-in_default-clause-end
returns-in_default-clause-end g c =
    let read = rw c.in_default.is at c.in_ok-count.ensures.read in (
      c.loop.invariant.in_time,
      read_no_more (g.R.Read.remaining c.args.input.now) (g.R.Read.remaining c.loop.input)
          (g.R.Read.remaining c.read_some.new.input) c.loop.text.items c.loop.invariant.read
          read.0,
    )

pub returns-in-None-clause-read : goal.returns-in-None-clause-read
returns-in-None-clause-read g c =
    let items = c.in_ok-extend_from_slice.ensures.items in
    let read = rw c.in-Some.is at c.in_ok-count.ensures.read in
    fault_read (g.R.Read.remaining c.args.input.now) (g.R.Read.remaining c.read_some.new.input)
    c.extend_from_slice.new.self.items
    (read_more (g.R.Read.remaining c.args.input.now) (g.R.Read.remaining c.loop.input)
    (g.R.Read.remaining c.read_some.new.input) c.loop.text.items
    (take c.in-Some.count c.read_some.new.chunk) c.extend_from_slice.new.self.items items
    c.loop.invariant.read read.1)
    (rw items (c.in-None.ensures.extent c.loop.text.items c.loop.invariant.extent))

pub returns-in-None-clause-end : goal.returns-in-None-clause-end
returns-in-None-clause-end g c =
    let items = c.in_ok-extend_from_slice.ensures.items in
    let read = rw c.in-Some.is at c.in_ok-count.ensures.read in
    let last = take c.in-Some.count c.read_some.new.chunk in (
      one_more c.loop.text.items last c.extend_from_slice.new.self.items c.loop.extent items
          c.loop.invariant.in_time c.loop.invariant.extent c.loop.invariant.within
          (rw (length-take c.in-Some.count c.read_some.new.chunk) (omega arith)),
      read_more (g.R.Read.remaining c.args.input.now) (g.R.Read.remaining c.loop.input)
          (g.R.Read.remaining c.read_some.new.input) c.loop.text.items last
          c.extend_from_slice.new.self.items items c.loop.invariant.read read.1,
    )

pub loop-preserved : goal.loop-preserved
loop-preserved g c =
    let items = c.in_ok-extend_from_slice.ensures.items in
    let read = rw c.in-Some.is at c.in_ok-count.ensures.read in record {
      read = read_more (g.R.Read.remaining c.args.input.now) (g.R.Read.remaining c.loop.input)
          (g.R.Read.remaining c.read_some.new.input) c.loop.text.items
          (take c.in-Some.count c.read_some.new.chunk) c.extend_from_slice.new.self.items items
          c.loop.invariant.read read.1;
      extent = rw items (c.in-Some-after.ensures.extent c.loop.text.items c.loop.invariant.extent);
      within = c.in-Some-after.ensures.within c.loop.invariant.within;
      in_time = one_more c.loop.text.items (take c.in-Some.count c.read_some.new.chunk)
          c.extend_from_slice.new.self.items c.loop.extent items c.loop.invariant.in_time
          c.loop.invariant.extent c.loop.invariant.within
          (rw (length-take c.in-Some.count c.read_some.new.chunk) (omega arith));
    }
