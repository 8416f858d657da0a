use Rattle.std.proofs.Common.{Result, Ok, Err, ap, refl}
use Rattle.std.specs.declared.alloc.AllocError.{AllocError}
use Rattle.chain_core.specs.{IsReadOf}
use Rattle.chain_core.specs.declared.Decision.TheVariants as decision
use Rattle.node.specs.declared.output.Output.{Output}
use Rattle.node.proofs.Causes.{still_works}
use Rattle.node.proofs.Outputs.{rows_readable, tells_rows}
use Rattle.node.proofs.ReadSteps.{read_answered, read_refused}
use Rattle.node.proofs.node.Node.read_rows.Goals as goal

-- the page could not be read
pub returns-in_err-page : goal.returns-in_err-page
returns-in_err-page g c =
    let known = c.in_err-page.ensures in
    let request = c.args.request in
    let at = c.args.at in
    read_refused g.D.Disk c.args.self.now c.rows.new.self c.rows.result c.requires
    c.rows.ensures.reads.keeps c.rows.ensures.reads.told c.rows.ensures.reads.still
    (λ n input. IsReadOf n input (decision.ReadRows request c.args.range at)) request at
    c.in_err-page.field-0.0 c.from_residual.result c.in_err-page.was c.from_residual.ensures.1
    known.readable (λ is. c.requires.works (known.reads.keeps.closed.0 (ap (λ d. Err d) is)))
    (λ list reads is. known.intact list reads (ap (λ d. Err d) is))
    (λ n input read. rows_readable n input request at c.args.range read)

-- the page of the range is shown
pub returns : goal.returns
returns g c =
    let known = c.in_ok-page.ensures in
    let request = c.args.request in
    let at = c.args.at in
    let made : Result Output AllocError = Ok c.page_output.result in
    read_answered g.D.Disk c.args.self.now c.rows.new.self c.rows.result c.requires
    c.rows.ensures.reads.keeps c.rows.ensures.reads.told c.rows.ensures.reads.still
    (λ n input. IsReadOf n input (decision.ReadRows request c.args.range at)) request at
    c.in_ok-page.page made (Ok c.page_output.result) c.in_ok-page.was
    (λ ended. still_works known.reads.keeps.ends c.requires.works ended)
    (λ list. (known.reads.kept list).holds)
    (λ n input read reads. tells_rows n input request at c.args.range made read
    (λ number. c.page_output.ensures n c.args.range number
    (rw c.as_range.ensures at known.found.reads n.list reads)))
    refl
