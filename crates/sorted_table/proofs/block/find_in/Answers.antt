use Rattle.std.proofs.Common.{◌≡◌, ◌∙◌, ap, sym, true, false}
use Rattle.std.specs.Rc.{rc_slice_items}
use Rattle.byte_fields.specs.{lent_key}
use Rattle.merge_iter.specs.{spot}
use Rattle.table_files.specs.{entry_read}
use Rattle.table_format.specs.{lent_entry}
use Rattle.sorted_table.proofs.BlockEnds.{all_before, first_read, lent_end, lent_place, lent_reads}
use Rattle.sorted_table.proofs.LookupsLemmas.{found_by, newest_there, unseen_all, unseen_there}
use Rattle.sorted_table.proofs.block.find_in.Goals as goal

-- all entries of the block come before the key and number
pub returns-in_default : goal.returns-in_default
returns-in_default c = λ entries b.
    let block = c.args.block.now in
    let bytes = rc_slice_items block.bytes in
    let starts = rc_slice_items block.starts in
    let reads = block.all entries b in
    let place = spot (lent_key c.args.key) c.args.at in
    let n = c.count_before-earlier.result in
    let split = c.count_before-earlier.ensures.splits entries b.rising
    (lent_reads block.format entries bytes starts c.deref.result.now c.deref-2.result.now
    c.deref.ensures.value c.deref-2.ensures.value reads) in
    unseen_all entries (lent_key c.args.key) c.args.at
    (all_before block.format bytes starts entries place n reads split
    (lent_end starts c.deref-3.result.now n c.deref-3.ensures.value c.in_default.ensures.lookup.3))

-- the first late entry has another key
pub returns-then-not-is_same : goal.returns-then-not-is_same
returns-then-not-is_same c = λ entries b.
    let block = c.args.block.now in
    let bytes = rc_slice_items block.bytes in
    let starts = rc_slice_items block.starts in
    let reads = block.all entries b in
    let place = spot (lent_key c.args.key) c.args.at in
    let n = c.count_before-earlier.result in
    let split = c.count_before-earlier.ensures.splits entries b.rising
    (lent_reads block.format entries bytes starts c.deref.result.now c.deref-2.result.now
    c.deref.ensures.value c.deref-2.ensures.value reads) in
    let start = c.in-Some.start.now in
    let entry = lent_entry c.in-Some-entry_from.entry in
    let first = first_read block.format bytes starts entries place n reads split start entry
    (lent_place starts c.deref-3.result.now n start c.deref-3.ensures.value
    c.in-Some.ensures.lookup.1 c.in-Some.ensures.lookup.3.0)
    (ap (λ l. entry_read block.format l start) (sym c.deref-4.ensures.value)
    ∙ sym c.in-Some-entry_from.ensures) in
    unseen_there entries entry (lent_key c.args.key) c.args.at b.rising first
    (λ same. let apart : false ≡ true = sym c.if-not-is_same.true ∙ c.is_same.ensures.1 same in cc)

-- the first late entry has the key
pub returns : goal.returns
returns c = λ entries b.
    let block = c.args.block.now in
    let bytes = rc_slice_items block.bytes in
    let starts = rc_slice_items block.starts in
    let reads = block.all entries b in
    let place = spot (lent_key c.args.key) c.args.at in
    let n = c.count_before-earlier.result in
    let split = c.count_before-earlier.ensures.splits entries b.rising
    (lent_reads block.format entries bytes starts c.deref.result.now c.deref-2.result.now
    c.deref.ensures.value c.deref-2.ensures.value reads) in
    let start = c.in-Some.start.now in
    let entry = lent_entry c.in-Some-entry_from.entry in
    let first = first_read block.format bytes starts entries place n reads split start entry
    (lent_place starts c.deref-3.result.now n start c.deref-3.ensures.value
    c.in-Some.ensures.lookup.1 c.in-Some.ensures.lookup.3.0)
    (ap (λ l. entry_read block.format l start) (sym c.deref-4.ensures.value)
    ∙ sym c.in-Some-entry_from.ensures) in
    let same : entry.key ≡ lent_key c.args.key = c.is_same.ensures.0 c.if-not-is_same.false in
    found_by entries entry (lent_key c.args.key) c.args.at c.in_ok-version_of.field-0 same
    c.in_ok-version_of.ensures
    (newest_there entries entry (lent_key c.args.key) c.args.at b.rising first same)
