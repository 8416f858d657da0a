use Rattle.std.proofs.Common.{◌∙◌, ◌-◌, ap, length, slice_get, sym}
use Rattle.std.specs.Rc.{rc_slice_items}
use Rattle.table_files.specs.{entry_read}
use Rattle.table_format.specs.{lent_entry}
use Rattle.sorted_table.proofs.BlockEnds.{read_last, read_there}
use Rattle.sorted_table.proofs.line_block.ends_of.Goals as goal

pub returns : goal.returns
returns c = λ entries is.
    let block = c.args.block.now in
    let bytes = rc_slice_items block.bytes in
    let starts = rc_slice_items block.starts in
    let reads = block.all entries is in
    let first = c.in_ok-first.field-0.now in
    let last = c.in_ok-last.field-0.now in (
      read_there block.format bytes starts entries reads 0 first (lent_entry c.in_ok-first-2.first)
          (ap (λ l. slice_get l 0) (sym c.deref-2.ensures.value) ∙ sym c.in_ok-first.ensures.value)
          (ap (λ l. entry_read block.format l first) (sym c.deref.ensures.value)
          ∙ sym c.in_ok-first-2.ensures),
      read_last block.format bytes starts entries reads last (lent_entry c.in_ok-last-2.last)
          (ap (λ l. slice_get l (length l - 1)) (sym c.deref-4.ensures.value)
          ∙ sym c.in_ok-last.ensures.value)
          (ap (λ l. entry_read block.format l last) (sym c.deref-3.ensures.value)
          ∙ sym c.in_ok-last-2.ensures),
    )
