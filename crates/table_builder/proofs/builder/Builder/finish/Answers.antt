use Rattle.std.proofs.Common.{ℕ, List, rules, sym, subst, arith}
use Rattle.std.proofs.lemmas.Result.{err_from_is_err_and}
use Rattle.disk.specs.WritesLemmas.{writes_as, writes_done}
use Rattle.disk.specs.{Slot}
use Rattle.kv_types.specs.{Entry}
use Rattle.table_format.specs.{data_bytes}
use Rattle.byte_fields.specs.declared.format.Format.TheVariants.{Two}
use Rattle.table_builder.specs.Builders.{Builds}
use Rattle.table_builder.specs.Closing.{CanEnd}
use Rattle.table_builder.specs.Divisions.{division, finished_blocks}
use Rattle.table_builder.specs.Fresh.{IsFresh}
use Rattle.table_builder.proofs.DeviceLemmas.{environmental, finishes, no_refusal, passed_up, works}
use Rattle.table_builder.proofs.FreshLemmas.{spared}
use Rattle.table_builder.proofs.builder.Builder.finish.Goals as goal

-- before any call
pub returns-then-self : goal.returns-then-self
returns-then-self g c = record {
  kept = search rules;
  status = search rules;
  finished = search rules;
  any_moment = λ honest.
      spared g.D.Disk.state g.D.Disk.past c.args.self.file c.args.disk.now;
}

-- what stands behind the last block was refused
pub returns-in_err-end : goal.returns-in_err-end
returns-in_err-end g c =
    let it = c.args.self in
    let rest = c.close_rest.new.self in
    let called = c.end.result in
    let e = c.in_err-end.field-0.0 in
    let result = c.from_residual-in_err-end.result in
    let told = c.from_residual-in_err-end.ensures.1 in
    let some = c.requires in
    let can : (slot : Slot) (entries : List Entry) → Builds slot it entries →
    CanEnd rest (finished_blocks (division entries)) entries = λ slot entries b.
    let count = b.holds.keys.count in
    c.in_ok-close_rest.ensures.closed entries b.holds (omega (arith, some, count)) in
    let both = finishes g.D.Disk it rest c.close_rest.result c.in_ok-close_rest.was
    c.close_rest.ensures.file can c.close_rest.ensures.device
    (writes_as g.D.Disk rest.file (passed_up called e result c.in_err-end.was told)
    (λ none. none) c.end.ensures.device) in
    record {
      kept = both.kept;
      status = search rules;
      finished = λ entries honest b.
          let fresh = subst (λ (f : ℕ). IsFresh (g.D.Disk.state c.close_rest.new.disk f)
          (data_bytes Two (finished_blocks (division entries)))) (sym c.close_rest.ensures.file)
          (c.in_ok-close_rest.ensures.written entries b.holds honest b.file) in
          let why = c.in_err-end.ensures.ended (finished_blocks (division entries)) entries
          (can _ entries b) (c.close_rest.ensures.device.kept.honest.1 honest) fresh in
          let p = err_from_is_err_and result told in
          rw (p.1, p.2) (environmental e why);
      any_moment = both.any_moment;
    }

-- the last block, and what stands behind it
pub returns : goal.returns
returns g c =
    let it = c.args.self in
    let rest = c.close_rest.new.self in
    let some = c.requires in
    let can : (slot : Slot) (entries : List Entry) → Builds slot it entries →
    CanEnd rest (finished_blocks (division entries)) entries = λ slot entries b.
    let count = b.holds.keys.count in
    c.in_ok-close_rest.ensures.closed entries b.holds (omega (arith, some, count)) in
    let both = finishes g.D.Disk it rest c.close_rest.result c.in_ok-close_rest.was
    c.close_rest.ensures.file can c.close_rest.ensures.device
    (writes_done g.D.Disk rest.file (works c.end.result c.in_ok-end.was) no_refusal
    c.end.ensures.device) in
    record {
      kept = both.kept;
      status = search rules;
      finished = λ entries honest b.
          let fresh = subst (λ (f : ℕ). IsFresh (g.D.Disk.state c.close_rest.new.disk f)
          (data_bytes Two (finished_blocks (division entries)))) (sym c.close_rest.ensures.file)
          (c.in_ok-close_rest.ensures.written entries b.holds honest b.file) in
          rw (← c.close_rest.ensures.file) (c.in_ok-end.ensures.ended
          (finished_blocks (division entries)) entries
          (can _ entries b) (c.close_rest.ensures.device.kept.honest.1 honest) fresh);
      any_moment = both.any_moment;
    }
