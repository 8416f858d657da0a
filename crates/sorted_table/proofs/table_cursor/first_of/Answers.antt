use Rattle.std.proofs.Common.{◌≡◌, Err, Ok, Some, subst, sym, ◌∙◌}
use Rattle.std.specs.Rc.{rc_slice_items}
use Rattle.std.specs.List.{slice_get}
use Rattle.std.proofs.lemmas.Result.{err_from_is_err_and}
use Rattle.table_format.specs.{block_entries}
use Rattle.table_format.specs.declared.FileError.TheVariants as reading
use Rattle.disk.specs.{State}
use Rattle.sorted_table.specs.BlockPlaces.{PlaceReads}
use Rattle.sorted_table.specs.Meant.{IsBlockAtLine, LineBlockAnswer}
use Rattle.sorted_table.proofs.BlockNumbers.{some_of}
use Rattle.sorted_table.proofs.FirstBlocks.{block_answer, block_of_line}
use Rattle.sorted_table.proofs.FirstBlocks.{first_place, place_in, places_are_right}
use Rattle.sorted_table.proofs.MeantLemmas.{line_read, never_damaged}
use Rattle.sorted_table.proofs.table_cursor.first_of.Goals as goal

pub returns-in_err-block-clause-damaged : goal.returns-in_err-block-clause-damaged
returns-in_err-block-clause-damaged g c = λ is honest t.
    let disk = g.D.Disk.state c.args.files.now.disk in
    let lines = rc_slice_items c.args.lines.now in
    let n = c.args.line in
    let at = some_of lines n c.requires in
    let p = err_from_is_err_and c.from_residual.result c.from_residual.ensures.1 in
    let e = c.in_err-block.field-0.0 in
    let damaged : e ≡ reading.Damaged = cc (p.1, p.2) in
    never_damaged c.args.format (disk c.args.file) lines t n at.0 e
    (block_of_line c.args.format disk c.args.file lines n at.0 t c.requires at.1) at.1
    (subst (λ l. LineBlockAnswer c.args.format l n (disk c.args.file) (Err e)) c.deref.ensures.value
    (c.in_err-block.ensures.answers honest)) damaged

pub returns-clause-first : goal.returns-clause-first
returns-clause-first g c =
    let lines = rc_slice_items c.args.lines.now in
    let n = c.args.line in
    let at = some_of lines n c.requires in
    rw c.ok_or.ensures.value (first_place lines n at.0 _ at.1 (c.in_ok-block.ensures.len at.0
    (subst (λ l. slice_get l n ≡ Some at.0) (sym c.deref.ensures.value) at.1))
    c.new.result c.new.ensures.first c.new.ensures.few)

pub returns-clause-reads : goal.returns-clause-reads
returns-clause-reads g c = λ m honest agree t.
    let disk : State = λ file. m in
    let lines = rc_slice_items c.args.lines.now in
    let n = c.args.line in
    let at = some_of lines n c.requires in
    let b = block_of_line c.args.format disk c.args.file lines n at.0 t c.requires at.1 in
    let read = subst (λ l. IsBlockAtLine c.args.format l n
    (g.D.Disk.state c.args.files.now.disk c.args.file)
    (rc_slice_items c.in_ok-block.block.bytes)) c.deref.ensures.value
    (c.in_ok-block.ensures.answers honest) in
    let right = block_answer c.args.format disk c.args.file lines n at.0 t b
    (Ok c.in_ok-block.block)
    (line_read c.args.format disk c.args.file lines n at.0 c.in_ok-block.block
    c.in_ok-block.ensures.read_in at.1
    (agree n (rc_slice_items c.in_ok-block.block.bytes) read)) in
    rw c.ok_or.ensures.value (place_in c.args.format disk c.args.file lines n at.0 t b c.new.result
    c.new.ensures.first (c.new.ensures.entries (block_entries b.block) right))

pub returns-clause-damaged : goal.returns-clause-damaged
returns-clause-damaged g c = λ is honest t.
    let disk = g.D.Disk.state c.args.files.now.disk in
    let lines = rc_slice_items c.args.lines.now in
    let n = c.args.line in
    let at = some_of lines n c.requires in
    let b = block_of_line c.args.format disk c.args.file lines n at.0 t c.requires at.1 in
    let read = subst (λ l. IsBlockAtLine c.args.format l n (disk c.args.file)
    (rc_slice_items c.in_ok-block.block.bytes)) c.deref.ensures.value
    (c.in_ok-block.ensures.answers honest) in
    let right = block_answer c.args.format disk c.args.file lines n at.0 t b
    (Ok c.in_ok-block.block)
    (line_read c.args.format disk c.args.file lines n at.0 c.in_ok-block.block
    c.in_ok-block.ensures.read_in at.1 read) in
    places_are_right (λ place. PlaceReads place (block_entries b.block)) c.new.result
    (sym c.ok_or.ensures.value ∙ is) (c.new.ensures.entries (block_entries b.block) right)
