use Rattle.std.proofs.Common.{length, subst, sym, arith, ap}
use Rattle.table_format.specs.{lent_entry}
use Rattle.table_files.proofs.StartWalks.{StartsWalked, all_read, are_read, block_begins}
use Rattle.table_files.proofs.StartWalks.{no_entry, rest_within, walk_begins, walk_goes_on}
use Rattle.table_files.proofs.block.starts_in.Goals as goal

pub loop-done-init : goal.loop-done-init
loop-done-init c = record {
  walked = subst (StartsWalked c.args.format c.args.block.now c.in-Some.entries.now
      c.in-Some.entries.now)
      (sym c.new-starts.ensures.items)
      (walk_begins c.args.format c.args.block.now c.in-Some.entries.now c.in-Some.count
      (λ i. omega (arith, c.type_inv.block i)) c.in-Some.ensures);
  number = ap length c.new-starts.ensures.items;
}

pub returns-in_default-entry_of-clause-entries : goal.returns-in_default-entry_of-clause-entries
returns-in_default-entry_of-clause-entries c = λ entries b.
    let block = c.args.block.now in
    let first = c.in-Some.entries.now in
    let number = c.loop-done.invariant.number in
    let below = c.loop-done-test.true in
    absurd (no_entry c.args.format block first c.loop-done.rest.now c.loop-done.starts.items
    c.in-Some.count
    entries c.loop-done.invariant.walked
    (block_begins c.args.format block first c.in-Some.count entries c.in-Some.ensures b) b.each
    (omega (arith, number, below)) c.in_default-entry_of.ensures)

pub overflow_sub-block : goal.overflow_sub-block
overflow_sub-block c =
    let within = rest_within c.args.format c.args.block.now c.in-Some.entries.now
    c.loop-done.rest.now
    c.loop-done.starts.items c.loop-done.invariant.walked in
    omega (arith, within)

pub loop-done-preserved : goal.loop-done-preserved
loop-done-preserved c = record {
  walked = subst (StartsWalked c.args.format c.args.block.now c.in-Some.entries.now
      c.in-Some-entry_of.after.now)
      (sym c.in_ok-push.ensures.items)
      (walk_goes_on c.args.format c.args.block.now c.in-Some.entries.now c.loop-done.rest.now
      c.loop-done.starts.items (lent_entry c.in-Some-entry_of._entry) c.in-Some-entry_of.after.now
      c.loop-done.invariant.walked c.in-Some-entry_of.ensures);
  number = let number = c.loop-done.invariant.number in let len = c.in_ok-push.ensures.len in
      omega (arith, number, len);
}

pub returns-clause-read : goal.returns-clause-read
returns-clause-read c =
    let w = c.loop-done.invariant.walked in
    are_read c.args.format c.args.block.now c.loop-done.starts.items w.entries w.again w.passed.each

pub returns-clause-few : goal.returns-clause-few
returns-clause-few c =
    let within = rest_within c.args.format c.args.block.now c.in-Some.entries.now
    c.loop-done.rest.now
    c.loop-done.starts.items c.loop-done.invariant.walked in
    omega (arith, within)

pub returns-clause-entries : goal.returns-clause-entries
returns-clause-entries c = λ entries b.
    let block = c.args.block.now in
    let first = c.in-Some.entries.now in
    let number = c.loop-done.invariant.number in
    let end = c.loop-done-test.false in
    let within = c.loop-done.auto._done-end in
    all_read c.args.format block first c.loop-done.rest.now c.loop-done.starts.items c.in-Some.count
    entries
    c.loop-done.invariant.walked
    (block_begins c.args.format block first c.in-Some.count entries c.in-Some.ensures b) b.each
    (omega (arith, number, end, within))
