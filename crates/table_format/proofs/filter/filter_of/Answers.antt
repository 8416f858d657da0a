use Rattle.std.proofs.Common.{sym, arith, subst, Option, List, ℕ, Bor}
use Rattle.table_format.specs.PartsLemmas.{content_fits, filter_none, filter_right, filter_same}
use Rattle.table_format.specs.Parts.{IsFilterPart, ReadsPart}
use Rattle.table_format.proofs.filter.filter_of.Goals as goal

pub returns-in_err-len : goal.returns-in_err-len
returns-in_err-len c =
    subst (λ (r : Option (Bor (List ℕ))). ReadsPart (IsFilterPart c.args.part.now) (λ f. f.now) r)
    (sym c.from_residual-in_err-len.ensures)
    (filter_none c.args.part.now c.in_ok-content.content.now c.in_ok-content.ensures.sealed
    c.in_err-len.ensures)

pub returns-then-len-filter : goal.returns-then-len-filter
returns-then-len-filter c = λ filter f.
    c.if-len-filter.true (filter_same c.args.part.now c.in_ok-content.content.now _ _
    c.in_ok-content.ensures.sealed c.in_ok-len.ensures filter f).1

pub returns : goal.returns
returns c =
    let part = c.args.part.now in
    let content = c.in_ok-content.content.now in
    let is = c.in_ok-content.ensures.sealed in (
      filter_right part content c.in_ok-len.len c.in_ok-len.filter.now is
          (content_fits part content (λ i. omega (arith, c.type_inv.part i)) is)
          c.in_ok-len.ensures c.if-len-filter.false,
      λ filter f. (filter_same part content _ _ is c.in_ok-len.ensures filter f).0,
    )
