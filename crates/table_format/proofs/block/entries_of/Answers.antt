use Rattle.std.proofs.Common.{◌≡◌, length, arith, Bool, IsTrue, false}
use Rattle.table_format.specs.BlockLoopLemmas.{block_spells, entries_all, entries_begin}
use Rattle.table_format.specs.BlockLoopLemmas.{entries_next}
use Rattle.table_format.specs.BlockLoopLemmas.{entry_shorter, is_block, next_entry, no_entry}
use Rattle.table_format.specs.CasesLemmas.{is_nothing, not_empty}
use Rattle.table_format.specs.PartsLemmas.{content_fits, text_fits, text_none}
use Rattle.table_format.specs.Reading.{lent_entry}
use Rattle.table_format.proofs.block.entries_of.Goals as goal
use Rattle.table_format.proofs.block.entries_of.Goals.{then-seen-count-via-then-seen-count}
use Rattle.table_format.proofs.block.entries_of.Goals.{
  then-seen-count-via-else-seen-count+then-not-follows,
}
use Rattle.table_format.proofs.block.entries_of.Goals.{then-seen-count-2-via-then-seen-count-2}
use Rattle.table_format.proofs.block.entries_of.Goals.{
  then-seen-count-2-via-else-seen-count-2+then-count-eq0,
}

pub returns-in_err-count-clause-one : goal.returns-in_err-count-clause-one
returns-in_err-count-clause-one c = λ entries b.
    absurd (text_none c.args.part.now c.in_ok-content.content.now (length entries) _
    c.in_ok-content.ensures.sealed c.in_err-count.ensures b.spelled b.few)

pub loop-last-init : goal.loop-last-init
loop-last-init c = record {
  read = entries_begin c.args.format c.in_ok-count.entries.now
      (text_fits c.in_ok-content.content.now _ _
      (content_fits c.args.part.now c.in_ok-content.content.now
      (λ i. omega (arith, c.type_inv.part i)) c.in_ok-content.ensures.sealed)
      c.in_ok-count.ensures);
  within = omega arith;
}

pub returns-in_err-entry-clause-one : goal.returns-in_err-entry-clause-one
returns-in_err-entry-clause-one c = λ entries b.
    let w = block_spells c.args.format c.args.part.now c.in_ok-content.content.now _ _
    c.in_ok-content.ensures.sealed c.in_ok-count.ensures entries b in
    let rest = c.loop-last.rest.now in
    let some = not_empty (length rest) c.is_empty.result c.is_empty.ensures c.loop-last-test.true in
    absurd (no_entry c.args.format c.in_ok-count.entries.now rest _ _ _ c.args.part.now entries
    c.loop-last.invariant.read w b some c.in_err-entry.ensures)

off : (r : Bool) → r ≡ false → IsTrue r → ⊥
off r e h = absurd cc

pub returns-then-seen-count-clause-one : goal.returns-then-seen-count-clause-one
returns-then-seen-count-clause-one c = λ entries b.
    let w = block_spells c.args.format c.args.part.now c.in_ok-content.content.now _ _
    c.in_ok-content.ensures.sealed c.in_ok-count.ensures entries b in
    let rest = c.loop-last.rest.now in
    let some = not_empty (length rest) c.is_empty.result c.is_empty.ensures c.loop-last-test.true in
    let n = next_entry c.args.format c.in_ok-count.entries.now rest _ _ _ c.args.part.now entries
    (lent_entry c.in_ok-entry.entry)
    c.in_ok-entry.after.now c.loop-last.invariant.read w b some c.in_ok-entry.ensures in
    let below = n.0 in
    elim c.then-seen-count.branch [
      | then-seen-count-via-then-seen-count v ↦ let e = v.if-seen-count.true in
          absurd (omega (arith, below, e))
      | then-seen-count-via-else-seen-count+then-not-follows v ↦ off v.follows.result
          v.if-not-follows.true (v.follows.ensures.1 n.1)
    ]

pub loop-last-smaller : goal.loop-last-smaller
loop-last-smaller c =
    entry_shorter c.args.format c.loop-last.rest.now
    (lent_entry c.in_ok-entry.entry) c.in_ok-entry.after.now
    c.loop-last.invariant.read.passed.fits c.in_ok-entry.ensures

pub loop-last-preserved : goal.loop-last-preserved
loop-last-preserved c = record {
  read = entries_next c.args.format c.in_ok-count.entries.now c.loop-last.rest.now c.loop-last.seen
      _
      (lent_entry c.in_ok-entry.entry)
      c.in_ok-entry.after.now c.loop-last.invariant.read c.in_ok-entry.ensures
      (c.follows.ensures.0 c.if-not-follows.false);
  within = let within = c.loop-last.invariant.within in let other = c.if-seen-count.false in
      omega (arith, within, other);
}

pub returns-then-seen-count-2-clause-one : goal.returns-then-seen-count-2-clause-one
returns-then-seen-count-2-clause-one c = λ entries b.
    let w = block_spells c.args.format c.args.part.now c.in_ok-content.content.now _ _
    c.in_ok-content.ensures.sealed c.in_ok-count.ensures entries b in
    let rest = c.loop-last.rest.now in
    let none = is_nothing (length rest) c.is_empty.result c.is_empty.ensures c.loop-last-test.false
    in
    let all = entries_all c.args.format c.in_ok-count.entries.now rest _ _ _ c.args.part.now entries
    c.loop-last.invariant.read w b none in
    elim c.then-seen-count-2.branch [
      | then-seen-count-2-via-then-seen-count-2 v ↦ absurd (v.if-seen-count-2.true all)
      | then-seen-count-2-via-else-seen-count-2+then-count-eq0 v ↦
          let e = v.if-count-eq0.true in
          let some = b.some in
          let size = w.size in
          absurd (omega (arith, e, some, size))
    ]

pub returns-clause-right : goal.returns-clause-right
returns-clause-right c =
    let part = c.args.part.now in
    let content = c.in_ok-content.content.now in
    let is = c.in_ok-content.ensures.sealed in
    let rest = c.loop-last.rest.now in
    let none = is_nothing (length rest) c.is_empty.result c.is_empty.ensures c.loop-last-test.false
    in
    let other = c.if-count-eq0.false in
    is_block c.args.format part content c.in_ok-count.entries.now rest c.loop-last.seen
    c.in_ok-count.count _ is
    (content_fits part content (λ i. omega (arith, c.type_inv.part i)) is)
    c.in_ok-count.ensures
    c.loop-last.invariant.read none c.if-seen-count-2.false (omega (arith, other))

pub returns-clause-one : goal.returns-clause-one
returns-clause-one c = λ entries b.
    (block_spells c.args.format c.args.part.now c.in_ok-content.content.now _ _
    c.in_ok-content.ensures.sealed
    c.in_ok-count.ensures entries b).spelled
