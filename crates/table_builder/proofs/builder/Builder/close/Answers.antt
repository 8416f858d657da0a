use Rattle.std.proofs.Common.{◌≡◌, length, ap, ◌∙◌, arith}
use Rattle.table_format.specs.{block_bytes}
use Rattle.byte_fields.specs.declared.format.Format.TheVariants.{Two}
use Rattle.disk.specs.WritesLemmas.{writes_as}
use Rattle.table_builder.proofs.DeviceLemmas.{passed_on, wants_memory}
use Rattle.table_builder.proofs.builder.Builder.close.Goals as goal

pub returns-in_err-seal-clause-device : goal.returns-in_err-seal-clause-device
returns-in_err-seal-clause-device g c =
    wants_memory g.D.Disk c.args.self.now.file c.args.disk.now c.from_residual.result
    c.from_residual.ensures.1

pub returns-in_err-append-clause-device : goal.returns-in_err-append-clause-device
returns-in_err-append-clause-device g c =
    let called = c.append.result in
    let e = c.in_err-append.field-0.0 in
    let result = c.from_residual-in_err-append.result in
    let reported = c.from_residual-in_err-append.ensures.1 in
    let device = c.append.ensures.device in
    writes_as g.D.Disk c.args.self.now.file (passed_on called e result c.in_err-append.was reported)
    (λ out blocks one can.
    let is : c.deref.result.now ≡ block_bytes Two one =
    c.deref.ensures.value ∙ (c.in_ok-seal.ensures.sealed blocks one can).bytes in
    let small = can.small in
    let room = can.room in
    absurd (omega (arith, out, ap length is, small, room, can.closed.written)))
    device
