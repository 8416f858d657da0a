use Rattle.std.proofs.Common.{arith}
use Rattle.std.proofs.lemmas.Grind.{common_steps}
use Rattle.std.proofs.Common.{◌∙◌, ap, length, refl, rules, sym}
use Rattle.std.proofs.lemmas.Option.{slice_get_read}
use Rattle.std.proofs.lemmas.Result.{err_from_is_err_and}
use Rattle.byte_fields.specs.FieldsLemmas.{some_is}
use Rattle.table_format.specs.declared.IndexLine.{IndexLine}
use Rattle.table_format.specs.declared.FileError.TheVariants as reading
use Rattle.sorted_table.proofs.KeptDisk.{kept_alike}
use Rattle.sorted_table.proofs.MeantLemmas.{misplaced, placed, unread_line}
use Rattle.sorted_table.proofs.line_block.block_of_line.Goals as goal

pub returns-in_err-block-clause-answers : goal.returns-in_err-block-clause-answers
returns-in_err-block-clause-answers g c = λ honest.
    let lines = c.args.lines.now in
    let line = c.index-lines-number.result in
    let at = slice_get_read lines (length lines) c.args.number line refl c.requires
    c.index-lines-number.is in
    let why = unread_line c.args.format (g.D.Disk.state c.args.files.now.disk) c.args.file lines
    c.args.number
    line
    c.in_err-block.field-0.0 at (c.in_err-block.ensures.answers honest) in
    let p = err_from_is_err_and c.from_residual.result c.from_residual.ensures.1 in
    rw (p.1, p.2) why

pub returns-then-not-is_at_line-clause-device : goal.returns-then-not-is_at_line-clause-device
returns-then-not-is_at_line-clause-device g c = record {
  kept = kept_alike _ _ (λ e. cc) (λ e. cc) c.in_ok-block.ensures.kept;
  still = search rules;
}

pub returns-then-not-is_at_line-clause-answers : goal.returns-then-not-is_at_line-clause-answers
returns-then-not-is_at_line-clause-answers g c = λ honest.
    let lines = c.args.lines.now in
    let line = c.index-lines-number.result in
    let at = slice_get_read lines (length lines) c.args.number line refl c.requires
    c.index-lines-number.is in
    misplaced c.args.format (g.D.Disk.state c.args.files.now.disk) c.args.file lines c.args.number
    line
    c.in_ok-block.block at (c.in_ok-block.ensures.answers honest)
    (λ entries is lies.
    let yes = (c.is_at_line.ensures entries is).1 lies in
    absurd cc) reading.Damaged

pub returns-clause-answers : goal.returns-clause-answers
returns-clause-answers g c = λ honest.
    let lines = c.args.lines.now in
    let line = c.index-lines-number.result in
    let at = slice_get_read lines (length lines) c.args.number line refl c.requires
    c.index-lines-number.is in
    placed c.args.format (g.D.Disk.state c.args.files.now.disk) c.args.file lines c.args.number line
    c.in_ok-block.block at (c.in_ok-block.ensures.answers honest)
    (λ entries is. (c.is_at_line.ensures entries is).0 (search rules))

pub returns-in_err-block-clause-device : goal.returns-in_err-block-clause-device
returns-in_err-block-clause-device g c = grind (arith, common_steps)

pub returns-in_err-block-clause-calls : goal.returns-in_err-block-clause-calls
returns-in_err-block-clause-calls g c = grind (arith, common_steps)

pub returns-in_err-block-clause-len : goal.returns-in_err-block-clause-len
returns-in_err-block-clause-len g c = grind (arith, common_steps)

pub returns-then-not-is_at_line-clause-calls : goal.returns-then-not-is_at_line-clause-calls
returns-then-not-is_at_line-clause-calls g c = grind (arith, common_steps)

pub returns-then-not-is_at_line-clause-len : goal.returns-then-not-is_at_line-clause-len
returns-then-not-is_at_line-clause-len g c = grind (arith, common_steps)

pub returns-clause-device : goal.returns-clause-device
returns-clause-device g c = grind (arith, common_steps)

pub returns-clause-calls : goal.returns-clause-calls
returns-clause-calls g c = grind (arith, common_steps)

pub returns-clause-len : goal.returns-clause-len
returns-clause-len g c = λ line here.
    let lines = c.args.lines.now in
    let at = slice_get_read lines (length lines) c.args.number c.index-lines-number.result refl
    c.requires c.index-lines-number.is in
    c.in_ok-block.ensures.len.0
    ∙ ap (λ (l : IndexLine). l.len) (some_is c.index-lines-number.result line (sym at ∙ here))

pub returns-in_err-block-clause-read_in : goal.returns-in_err-block-clause-read_in
returns-in_err-block-clause-read_in g c = grind (arith, common_steps)

pub returns-then-not-is_at_line-clause-read_in : goal.returns-then-not-is_at_line-clause-read_in
returns-then-not-is_at_line-clause-read_in g c = grind (arith, common_steps)

pub returns-clause-read_in : goal.returns-clause-read_in
returns-clause-read_in g c = c.in_ok-block.ensures.len.1
