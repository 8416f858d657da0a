use Rattle.std.proofs.Common.{arith, inl, inr, subst, sym, ◌∙◌, length}
use Rattle.std.proofs.Math.Nat.{min-eq_left}
use Rattle.std.proofs.lemmas.Bool.{cases_lt}
use Rattle.std.specs.Rc.{rc_slice_items}
use Rattle.byte_fields.specs.{lent_key}
use Rattle.merge_iter.specs.{spot}
use Rattle.sorted_table.specs.EntrySplits.{SplitsEntries}
use Rattle.table_files.specs.EntryReadsLemmas.{count_read}
use Rattle.sorted_table.proofs.BlockEnds.{lent_reads}
use Rattle.sorted_table.proofs.block_place.BlockPlace.seek.Goals as goal

-- not all entries come before the place, so the count is one of them
pub returns-clause-found : goal.returns-clause-found
returns-clause-found c = λ entries rising reads some.
    let old = c.args.self.now in
    let bytes = rc_slice_items old.block.bytes in
    let starts = rc_slice_items old.block.starts in
    let place = spot (lent_key c.args.key) c.args.number in
    let split = c.count_before-at.ensures.splits entries rising
    (lent_reads old.block.format entries bytes starts c.deref.result.now c.deref-2.result.now
    c.deref.ensures.value c.deref-2.ensures.value reads) in
    let len = count_read old.block.format bytes starts entries reads in
    elim (cases_lt c.count_before-at.result (length entries)) [
      | inl early ↦ subst (SplitsEntries entries place)
          (sym (c.move_to.ensures.at_number ∙ c.min-at.ensures
          ∙ min-eq_left (omega (arith, early, len, c.len.ensures)))) split
      | inr late ↦ absurd (some (subst (SplitsEntries entries place)
          (omega (arith, late, split.within)) split))
    ]
