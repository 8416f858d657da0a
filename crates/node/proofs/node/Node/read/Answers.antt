use Rattle.std.proofs.Common.{Result, Ok, Err, ap, refl}
use Rattle.std.specs.declared.alloc.AllocError.{AllocError}
use Rattle.chain_core.specs.{IsReadOf}
use Rattle.chain_core.specs.declared.Decision.TheVariants as decision
use Rattle.node.specs.declared.output.Output.{Output}
use Rattle.node.proofs.Causes.{still_works}
use Rattle.node.proofs.Outputs.{readable, tells_read}
use Rattle.node.proofs.ReadSteps.{read_answered, read_refused}
use Rattle.node.proofs.node.Node.read.Goals as goal

-- the value could not be had
pub returns-in_err-value : goal.returns-in_err-value
returns-in_err-value g c =
    let known = c.in_err-value.ensures in
    let request = c.args.request in
    let at = c.args.at in
    read_refused g.D.Disk c.args.self.now c.get.new.self c.get.result c.requires
    c.get.ensures.reads.keeps c.get.ensures.reads.told c.get.ensures.reads.still
    (λ n input. IsReadOf n input (decision.Read request c.args.key at)) request at
    c.in_err-value.field-0.0 c.from_residual.result c.in_err-value.was c.from_residual.ensures.1
    known.readable (λ is. c.requires.works (known.reads.keeps.closed.0 (ap (λ d. Err d) is)))
    (λ list reads is. known.intact list reads (ap (λ d. Err d) is))
    (λ n input read. readable n input request at c.args.key read)

-- the value of the key is shown
pub returns : goal.returns
returns g c =
    let known = c.in_ok-value.ensures in
    let request = c.args.request in
    let at = c.args.at in
    let made : Result Output AllocError = Ok c.value_output.result in
    read_answered g.D.Disk c.args.self.now c.get.new.self c.get.result c.requires
    c.get.ensures.reads.keeps c.get.ensures.reads.told c.get.ensures.reads.still
    (λ n input. IsReadOf n input (decision.Read request c.args.key at)) request at
    c.in_ok-value.value made (Ok c.value_output.result) c.in_ok-value.was
    (λ ended. still_works known.reads.keeps.ends c.requires.works ended)
    (λ list. (known.reads.kept list).holds)
    (λ n input read reads. tells_read n input request at c.args.key made read
    (λ number. c.value_output.ensures n c.args.key number (known.found.reads n.list reads)))
    refl
