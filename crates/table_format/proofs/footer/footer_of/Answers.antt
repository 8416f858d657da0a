use Rattle.std.proofs.Common.{◌≡◌, ◌∙◌, sym, nat_eq, arith, subst, Option}
use Rattle.std.specs.Cmp.Lexicographic.{pointwise}
use Rattle.std.proofs.lemmas.Slice.Eq.{bytes_eq-Decides}
use Rattle.table_format.specs.CasesLemmas.{off, on}
use Rattle.table_format.specs.PartsLemmas.{content_fits, footer_none, footer_right, footer_same}
use Rattle.table_format.specs.Tables.{magic}
use Rattle.table_format.specs.Parts.{IsFooter, ReadsPart}
use Rattle.table_format.specs.declared.footer.Footer.{Footer}
use Rattle.table_format.proofs.footer.footer_of.Goals as goal

pub returns-in_err-footer : goal.returns-in_err-footer
returns-in_err-footer c =
    subst (λ (r : Option Footer). ReadsPart (IsFooter c.args.part.now) (λ it. it) r)
    (sym c.from_residual-in_err-footer.ensures)
    (footer_none c.args.part.now c.in_ok-content.content.now c.in_ok-content.ensures.sealed
    c.in_err-footer.ensures)

pub returns-then-ne : goal.returns-then-ne
returns-then-ne c = λ it f.
    let rest = c.in_ok-footer.rest.now in
    let end : rest ≡ magic = (footer_same c.args.part.now c.in_ok-content.content.now _ rest
    c.in_ok-content.ensures.sealed c.in_ok-footer.ensures it f).1 in
    off (pointwise nat_eq rest c.as_slice.result.now) (sym c.if-ne.true ∙ c.ne.ensures)
    ((bytes_eq-Decides rest c.as_slice.result.now).1 (end ∙ sym c.as_slice.ensures))

pub returns : goal.returns
returns c =
    let part = c.args.part.now in
    let content = c.in_ok-content.content.now in
    let is = c.in_ok-content.ensures.sealed in
    let rest = c.in_ok-footer.rest.now in
    let it = c.in_ok-footer.footer in
    let end : rest ≡ magic = (bytes_eq-Decides rest c.as_slice.result.now).0
    (on (pointwise nat_eq rest c.as_slice.result.now) (sym c.if-ne.false ∙ c.ne.ensures))
    ∙ c.as_slice.ensures in (
      footer_right part content it rest is
          (content_fits part content (λ i. omega (arith, c.type_inv.part i)) is)
          c.in_ok-footer.ensures end,
      λ other f. (footer_same part content it rest is c.in_ok-footer.ensures other f).0,
    )
