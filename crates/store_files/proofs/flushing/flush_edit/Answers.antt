use Rattle.std.proofs.Common.{rules, ◌≡◌, ◌≤◌, ◌+◌, arith, subst, sym}
use Rattle.kv_types.specs.declared.bounds.TheConstants.{MAX_NUMBER}
use Rattle.manifest.specs.{Change, IsChange, IsFit, IsVersion, NodeVersion}
use Rattle.store_files.specs.StoreFiles.{flush_change}
use Rattle.store_files.proofs.FlushEdits.{flush_change_is, flush_fit}
use Rattle.store_files.proofs.flushing.flush_edit.Goals as goal

-- the version may take it
pub returns-clause-fit : goal.returns-clause-fit
returns-clause-fit c =
    let v = c.args.version.now.version in
    let is = subst (λ (n : NodeVersion). IsVersion n.version) c.version.view_is
    c.version.invariant in
    let place = c.requires.place in
    let few : c.args.count ≤ MAX_NUMBER = omega (arith, c.get-2.ensures) in
    let same : ◌≡◌ {A = Change} (record {
      next_file = c.args.free + 2;
      floor = c.version.inside.floor;
      flushed = c.get-2.result;
      epoch = c.version.inside.epoch;
      ids = c.in_ok-clone.field-0;
      logs_gone = c.new.result.items;
      logs_added = c.push.new.self.items;
      tables_gone = c.new-2.result.items;
      tables_added = c.push-2.new.self.items;
    }) (flush_change v c.args.free c.args.count c.args.line) = search rules in
    subst (λ (e : Change). IsFit v e × IsChange e) (sym same) (
      flush_fit v is c.args.free c.requires.free c.args.count c.args.line place few
          c.requires.flushed c.requires.next,
      flush_change_is v is c.args.free c.requires.free c.args.count c.args.line place few
          c.requires.flushed c.requires.next,
    )
