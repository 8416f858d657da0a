use Rattle.std.proofs.Common.{◌≡◌, ◌++◌, ℕ, List, length, ap, sym, subst, ◌∙◌, arith, length-append}
use Rattle.std.proofs.Common.{IfSome}
use Rattle.table_format.specs.{TableRepresentsIn, data_bytes, last_entry}
use Rattle.byte_fields.specs.declared.format.Format.TheVariants.{Two}
use Rattle.table_builder.specs.Keys.{first_entry}
use Rattle.table_builder.proofs.ClosingLemmas.{last_key}
use Rattle.disk.specs.WritesLemmas.{writes_as}
use Rattle.table_builder.proofs.DeviceLemmas.{passed_on, wants_memory}
use Rattle.table_builder.proofs.builder.Builder.end.Goals as goal

pub returns-in_err-tail-clause-device : goal.returns-in_err-tail-clause-device
returns-in_err-tail-clause-device g c =
    wants_memory g.D.Disk c.args.self.file c.args.disk.now c.from_residual.result
    c.from_residual.ensures.1

pub returns-in_err-append_last-clause-device : goal.returns-in_err-append_last-clause-device
returns-in_err-append_last-clause-device g c =
    let called = c.append_last.result in
    let e = c.in_err-append_last.field-0.0 in
    let result = c.from_residual-in_err-append_last.result in
    let reported = c.from_residual-in_err-append_last.ensures.1 in
    let device = c.append_last.ensures.device in
    writes_as g.D.Disk c.args.self.file
    (passed_on called e result c.in_err-append_last.was reported)
    (λ out blocks entries can.
    let t = (c.in_ok-tail.ensures.tail blocks entries can).1 in
    let size = can.size in
    absurd (omega (arith, out, t, size, can.closed.written, ap length c.deref.ensures.value)))
    device

-- the file is durable, and represents the entries
pub returns-clause-ended : goal.returns-clause-ended
returns-clause-ended g c = λ blocks entries can honest fresh.
    let it = c.args.self in
    let tail = c.deref.result.now in
    let value = c.deref.ensures.value in
    let t = c.in_ok-tail.ensures.tail blocks entries can in
    let table = subst (λ (b : List ℕ). (holds : TableRepresentsIn Two
    (data_bytes Two blocks ++ b) entries) × (holds.blocks ≡ blocks)) (sym value) t.0 in
    let keys = c.in_ok-tail.ensures.keys in
    let size = can.size in
    let least = c.into_stored.ensures ∙ ap (λ k. k.least) keys in
    let greatest = c.into_stored-2.ensures ∙ ap (λ k. k.last) keys in
    record {
      holds = record {
        bytes = data_bytes Two blocks ++ tail;
        durable = c.in_ok-append_last.ensures.appended
            (data_bytes Two blocks) honest fresh can.closed.written;
        represents = table.0;
      };
      blocks = table.1 ∙ can.are;
      len = omega (
        arith,
        c.saturating_add.ensures,
        c.len.ensures,
        c.in_ok-tail.tail.ok.0,
        t.1,
        size,
        can.closed.written,
        ap length value,
        length-append (data_bytes Two blocks) tail,
      );
      least = subst (λ (b : List ℕ). IfSome (first_entry entries) (λ entry. b ≡ entry.key))
          (sym least)
          can.keys.least;
      greatest = last_key (last_entry entries) it.keys.last c.into_stored-2.result it.keys.number
          greatest can.keys.last;
    }
