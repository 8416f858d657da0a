-- The rows of one page after another are written.
use Rattle.std.proofs.Common.{◌≡◌, ◌∙◌, ◌+◌, inl, List, drop, false, length, refl, rules}
use Rattle.std.proofs.Common.{subst, sym, take}
use Rattle.std.specs.List.{flat_map}
use Rattle.std.specs.Io.KnownBytes.{Appends}
use Rattle.kv_types.specs.{BatchContent}
use Rattle.kv_types.specs.Pages.{page_of}
use Rattle.engine.specs.{IsReadable, LookUps}
use Rattle.node.specs.declared.stop.Stop.TheVariants as stop
use Rattle.store_texts.specs.Writing.{AppendsPart}
use Rattle.dumps.specs.declared.dump_error.DumpError.TheVariants.{Store, Write}
use Rattle.dumps.specs.Dumped.{AreWritten, ShowsList, row_line}
use Rattle.dumps.specs.Walks.{all_from}
use Rattle.dumps.proofs.DeviceLemmas.{answers, read_as_passed, read_as_told, read_more, read_then}
use Rattle.dumps.proofs.DeviceLemmas.{last_of_opened, not_of_device, of_last_row}
use Rattle.dumps.proofs.DeviceLemmas.{opened_as_passed, other_not_of_device}
use Rattle.dumps.proofs.DeviceLemmas.{refused_as_passed, refused_so, untouched}
use Rattle.dumps.proofs.PageRowsLemmas.{has_row}
use Rattle.dumps.proofs.RowWalkLemmas.{all_written, begun_none, begun_so_far, begun_with_all}
use Rattle.dumps.proofs.RowWalkLemmas.{begun_with_page, more_written, none_written, shown_still}
use Rattle.dumps.proofs.RowWalkLemmas.{shows_on, shows_same}
use Rattle.dumps.proofs.row_walk.write_rows.Goals as goal

pub loop-init : goal.loop-init
loop-init g c =
    let out = g.W.Write.contents c.args.out.now in
    let IsShown = ShowsList g.D.Disk c.args.engine.now in (
      record { looks = refl; read = untouched g.D.Disk _ (λ f. f) },
      shows_same c.args.engine.now,
      subst (λ key. AreWritten IsShown c.args.at key 0 0 out out) (sym c.in_ok-from.ensures.key)
          (none_written IsShown c.args.at c.pages_agree.ensures.agree out),
    )

-- nothing was written
pub returns-in_err-from-clause-rows : goal.returns-in_err-from-clause-rows
returns-in_err-from-clause-rows g c =
    let begun = begun_none (ShowsList g.D.Disk c.args.engine.now) c.args.at
    c.pages_agree.ensures.agree (g.W.Write.contents c.args.out.now) c.in_err-from.field-0.0 in
    refused_so _ _ c.from_residual.result c.in_err-from.field-0.0 c.from_residual.ensures.1 begun

pub returns-in_err-from-clause-device : goal.returns-in_err-from-clause-device
returns-in_err-from-clause-device g c =
    let memory = c.in_err-from.ensures.refused in
    untouched g.D.Disk _
    (other_not_of_device c.from_residual.result c.in_err-from.field-0.0 c.from_residual.ensures.1
    (λ is. cc))

-- the next page was refused
pub returns-in_err-page-clause-rows : goal.returns-in_err-page-clause-rows
returns-in_err-page-clause-rows g c =
    let begun = begun_so_far (ShowsList g.D.Disk c.args.engine.now) c.args.at c.loop.from
    c.loop.known c.loop.count (g.W.Write.contents c.args.out.now) (g.W.Write.contents c.loop.out)
    c.in_err-page.field-0.0 c.loop.invariant.2 in
    refused_so _ _ c.from_residual-in_err-page.result c.in_err-page.field-0.0
    c.from_residual-in_err-page.ensures.1 begun

pub returns-in_err-page-clause-refused : goal.returns-in_err-page-clause-refused
returns-in_err-page-clause-refused g c = λ list reads may.
    let cause = c.in_err-page.ensures.refused list ((c.loop.invariant.1 list).reads reads)
    (subst (λ (l : LookUps). IsReadable l.facts.floor l.committed c.args.at)
    (sym c.loop.invariant.0.looks) may) in
    search (rules, cause)

pub returns-in_err-page-clause-device : goal.returns-in_err-page-clause-device
returns-in_err-page-clause-device g c =
    read_as_passed g.D.Disk c.from_residual-in_err-page.result c.in_err-page.field-0.0
    c.from_residual-in_err-page.ensures.1
    (read_then g.D.Disk c.loop.invariant.0.read c.in_err-page.ensures.device)

pub returns-in_err-page-clause-created : goal.returns-in_err-page-clause-created
returns-in_err-page-clause-created g c =
    opened_as_passed c.from_residual-in_err-page.result c.in_err-page.field-0.0
    c.from_residual-in_err-page.ensures.1 c.in_err-page.ensures.created

-- memory was wanted for its text
pub returns-in_err-make_text-clause-rows : goal.returns-in_err-make_text-clause-rows
returns-in_err-make_text-clause-rows g c =
    let begun = begun_so_far (ShowsList g.D.Disk c.args.engine.now) c.args.at c.loop.from
    c.loop.known c.loop.count (g.W.Write.contents c.args.out.now) (g.W.Write.contents c.loop.out)
    (Store stop.Memory) c.loop.invariant.2 in
    refused_so _ _ c.from_residual-in_err-make_text.result (Store stop.Memory)
    c.from_residual-in_err-make_text.ensures.1 begun

pub returns-in_err-make_text-clause-device : goal.returns-in_err-make_text-clause-device
returns-in_err-make_text-clause-device g c =
    read_as_told g.D.Disk
    (read_more g.D.Disk c.loop.invariant.0.read c.in_ok-page.ensures.device answers)
    (other_not_of_device c.from_residual-in_err-make_text.result (Store stop.Memory)
    c.from_residual-in_err-make_text.ensures.1 (λ is. cc))

-- a beginning of its text was written
pub returns-in_err-print-clause-rows : goal.returns-in_err-print-clause-rows
returns-in_err-print-clause-rows g c =
    let before = c.loop.invariant.2 in
    let mid = g.W.Write.contents c.loop.out in
    let new = g.W.Write.contents c.print.new.out in
    let page = c.in_ok-page.page in
    let part : AppendsPart mid new (flat_map row_line (drop c.loop.known page.rows)) =
    rw (
      c.as_bytes.ensures.value,
      c.in_ok-make_text.ensures,
      c.behind-rows.ensures,
      c.rows.ensures,
    ) at c.in_err-print.ensures.part in
    let is : (list : List BatchContent) → ShowsList g.D.Disk c.args.engine.now list →
    page ≡ page_of (take c.args.at list) (all_from c.loop.from) =
    λ list shows. c.in_ok-page.ensures.page list
    (shown_still c.args.engine.now c.loop.engine list (c.loop.invariant.1 list) shows) in
    let begun = begun_with_page (ShowsList g.D.Disk c.args.engine.now) c.args.at
    c.byte_order_is_strict.ensures.strict c.pages_agree.ensures.agree c.loop.from c.loop.known
    c.loop.count (g.W.Write.contents c.args.out.now) mid new page before is Write part
    (λ other. absurd (other refl)) in
    refused_so _ _ c.from_residual-in_err-print.result Write
    c.from_residual-in_err-print.ensures.1 begun

pub returns-in_err-print-clause-device : goal.returns-in_err-print-clause-device
returns-in_err-print-clause-device g c =
    read_as_told g.D.Disk
    (read_more g.D.Disk c.loop.invariant.0.read c.in_ok-page.ensures.device answers)
    (other_not_of_device c.from_residual-in_err-print.result Write
    c.from_residual-in_err-print.ensures.1 (λ is. cc))

-- the rows cannot be counted
pub returns-in_default-clause-rows : goal.returns-in_default-clause-rows
returns-in_default-clause-rows g c =
    let before = c.loop.invariant.2 in
    let mid = g.W.Write.contents c.loop.out in
    let new = g.W.Write.contents c.print.new.out in
    let page = c.in_ok-page.page in
    let wrote : Appends mid new (flat_map row_line (drop c.loop.known page.rows)) =
    rw (
      c.as_bytes.ensures.value,
      c.in_ok-make_text.ensures,
      c.behind-rows.ensures,
      c.rows.ensures,
    ) at c.in_ok-print.ensures.whole in
    let is : (list : List BatchContent) → ShowsList g.D.Disk c.args.engine.now list →
    page ≡ page_of (take c.args.at list) (all_from c.loop.from) =
    λ list shows. c.in_ok-page.ensures.page list
    (shown_still c.args.engine.now c.loop.engine list (c.loop.invariant.1 list) shows) in
    begun_with_all (ShowsList g.D.Disk c.args.engine.now) c.args.at
    c.byte_order_is_strict.ensures.strict c.pages_agree.ensures.agree c.loop.from c.loop.known
    c.loop.count (g.W.Write.contents c.args.out.now) mid new page before is (Store stop.Memory)
    wrote

pub returns-in_default-clause-device : goal.returns-in_default-clause-device
returns-in_default-clause-device g c =
    read_as_told g.D.Disk
    (read_more g.D.Disk c.loop.invariant.0.read c.in_ok-page.ensures.device answers)
    (λ fails. cc)

pub returns-then-not-has_more-clause-rows : goal.returns-then-not-has_more-clause-rows
returns-then-not-has_more-clause-rows g c =
    let before = c.loop.invariant.2 in
    let mid = g.W.Write.contents c.loop.out in
    let new = g.W.Write.contents c.print.new.out in
    let page = c.in_ok-page.page in
    let wrote : Appends mid new (flat_map row_line (drop c.loop.known page.rows)) =
    rw (
      c.as_bytes.ensures.value,
      c.in_ok-make_text.ensures,
      c.behind-rows.ensures,
      c.rows.ensures,
    ) at c.in_ok-print.ensures.whole in
    let counted : c.in-Some.more ≡ c.loop.count + length (drop c.loop.known page.rows) =
    rw (c.behind-rows.ensures, c.rows.ensures) at c.in-Some.ensures.1 in
    let over : page.more ≡ false = sym c.has_more.ensures ∙ c.if-not-has_more.true in
    let is : (list : List BatchContent) → ShowsList g.D.Disk c.args.engine.now list →
    page ≡ page_of (take c.args.at list) (all_from c.loop.from) =
    λ list shows. c.in_ok-page.ensures.page list
    (shown_still c.args.engine.now c.loop.engine list (c.loop.invariant.1 list) shows) in
    all_written (ShowsList g.D.Disk c.args.engine.now) c.args.at
    c.byte_order_is_strict.ensures.strict c.pages_agree.ensures.agree c.loop.from c.loop.known
    c.loop.count (g.W.Write.contents c.args.out.now) mid new page before is c.in-Some.more wrote
    counted over

pub returns-then-not-has_more-clause-device : goal.returns-then-not-has_more-clause-device
returns-then-not-has_more-clause-device g c =
    read_as_told g.D.Disk
    (read_more g.D.Disk c.loop.invariant.0.read c.in_ok-page.ensures.device answers) answers

-- a page behind which rows are left has a last one
pub returns-in_err-from-2-clause-rows : goal.returns-in_err-from-2-clause-rows
returns-in_err-from-2-clause-rows g c =
    let before = c.loop.invariant.2 in
    let mid = g.W.Write.contents c.loop.out in
    let new = g.W.Write.contents c.print.new.out in
    let page = c.in_ok-page.page in
    let wrote : Appends mid new (flat_map row_line (drop c.loop.known page.rows)) =
    rw (
      c.as_bytes.ensures.value,
      c.in_ok-make_text.ensures,
      c.behind-rows.ensures,
      c.rows.ensures,
    ) at c.in_ok-print.ensures.whole in
    let is : (list : List BatchContent) → ShowsList g.D.Disk c.args.engine.now list →
    page ≡ page_of (take c.args.at list) (all_from c.loop.from) =
    λ list shows. c.in_ok-page.ensures.page list
    (shown_still c.args.engine.now c.loop.engine list (c.loop.invariant.1 list) shows) in
    let begun = begun_with_all (ShowsList g.D.Disk c.args.engine.now) c.args.at
    c.byte_order_is_strict.ensures.strict c.pages_agree.ensures.agree c.loop.from c.loop.known
    c.loop.count (g.W.Write.contents c.args.out.now) mid new page before is
    c.in_err-from-2.field-0.0 wrote in
    refused_so _ _ c.from_residual-in_err-from-2.result c.in_err-from-2.field-0.0
    c.from_residual-in_err-from-2.ensures.1 begun

pub returns-in_err-from-2-clause-refused : goal.returns-in_err-from-2-clause-refused
returns-in_err-from-2-clause-refused g c = λ list reads may.
    let now = (c.loop.invariant.1 list).reads reads in
    let page = c.in_ok-page.page in
    let cause = of_last_row c.in_err-from-2.field-0.0
    (rw c.rows-in-loop.ensures at c.in_err-from-2.ensures.refused)
    (has_row c.maps_agree.ensures c.pages_agree.ensures.agree list c.args.at c.loop.from page
    now.represents.each (c.in_ok-page.ensures.page list (inl now))
    (sym c.has_more.ensures ∙ c.if-not-has_more.false)) in
    refused_as_passed c.from_residual-in_err-from-2.result c.in_err-from-2.field-0.0
    c.from_residual-in_err-from-2.ensures.1 cause

pub returns-in_err-from-2-clause-device : goal.returns-in_err-from-2-clause-device
returns-in_err-from-2-clause-device g c =
    read_as_told g.D.Disk
    (read_more g.D.Disk c.loop.invariant.0.read c.in_ok-page.ensures.device answers)
    (not_of_device c.from_residual-in_err-from-2.result c.in_err-from-2.field-0.0
    c.from_residual-in_err-from-2.ensures.1 c.in_err-from-2.ensures.refused)

pub returns-in_err-from-2-clause-created : goal.returns-in_err-from-2-clause-created
returns-in_err-from-2-clause-created g c =
    opened_as_passed c.from_residual-in_err-from-2.result c.in_err-from-2.field-0.0
    c.from_residual-in_err-from-2.ensures.1
    (last_of_opened c.in_err-from-2.field-0.0 c.in_err-from-2.ensures.refused)

pub loop-preserved : goal.loop-preserved
loop-preserved g c =
    let before = c.loop.invariant.2 in
    let mid = g.W.Write.contents c.loop.out in
    let new = g.W.Write.contents c.print.new.out in
    let page = c.in_ok-page.page in
    let last = c.in_ok-from-2.ensures.key in
    let wrote : Appends mid new (flat_map row_line (drop c.loop.known page.rows)) =
    rw (
      c.as_bytes.ensures.value,
      c.in_ok-make_text.ensures,
      c.behind-rows.ensures,
      c.rows.ensures,
    ) at c.in_ok-print.ensures.whole in
    let counted : c.in-Some.more ≡ c.loop.count + length (drop c.loop.known page.rows) =
    rw (c.behind-rows.ensures, c.rows.ensures) at c.in-Some.ensures.1 in
    let is : (list : List BatchContent) → ShowsList g.D.Disk c.args.engine.now list →
    page ≡ page_of (take c.args.at list) (all_from c.loop.from) =
    λ list shows. c.in_ok-page.ensures.page list
    (shown_still c.args.engine.now c.loop.engine list (c.loop.invariant.1 list) shows) in (
      record {
        looks = c.in_ok-page.ensures.looks ∙ c.loop.invariant.0.looks;
        read = read_more g.D.Disk c.loop.invariant.0.read c.in_ok-page.ensures.device answers;
      },
      λ list. shows_on c.args.engine.now c.loop.engine c.page_from.new.engine list
          (c.loop.invariant.1 list) (c.in_ok-page.ensures.shows list),
      subst (λ key. AreWritten (ShowsList g.D.Disk c.args.engine.now) c.args.at key 1 c.in-Some.more
          (g.W.Write.contents c.args.out.now) new) (sym last.3)
          (more_written (ShowsList g.D.Disk c.args.engine.now) c.args.at
          c.byte_order_is_strict.ensures.strict c.pages_agree.ensures.agree c.loop.from
          c.loop.known c.loop.count (g.W.Write.contents c.args.out.now) mid new page before is
          c.in-Some.more wrote counted last.0 last.1
          (rw c.rows-in-loop.ensures at last.2)),
    )

-- the pages cannot be counted
pub returns-clause-rows : goal.returns-clause-rows
returns-clause-rows g c =
    begun_so_far (ShowsList g.D.Disk c.args.engine.now) c.args.at c.loop.from c.loop.known
    c.loop.count (g.W.Write.contents c.args.out.now) (g.W.Write.contents c.loop.out)
    (Store stop.Memory) c.loop.invariant.2

-- more rows or pages than can be counted
pub returns-clause-device : goal.returns-clause-device
returns-clause-device g c =
    read_as_told g.D.Disk c.loop.invariant.0.read (λ fails. cc)
