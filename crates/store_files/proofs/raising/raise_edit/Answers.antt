use Rattle.std.proofs.Common.{◌≡◌, ◌≤◌, rules, subst, sym}
use Rattle.kv_types.specs.declared.bounds.TheConstants.{MAX_NUMBER}
use Rattle.manifest.specs.{Change, IsChange, IsFit, IsVersion, NodeVersion}
use Rattle.store_files.specs.Raising.{raise_change}
use Rattle.store_files.proofs.RaiseEdits.{raise_change_is, raise_fit}
use Rattle.store_files.proofs.raising.raise_edit.Goals as goal

-- the version may take the edit
pub returns-clause-fit : goal.returns-clause-fit
returns-clause-fit c =
    let v = c.args.version.now.version in
    let is = subst (λ (n : NodeVersion). IsVersion n.version) c.version.view_is
    c.version.invariant in
    let few : c.args.floor ≤ MAX_NUMBER = c.get.ensures.limit in
    let same : ◌≡◌ {A = Change} (record {
      next_file = c.version.inside.next_file;
      floor = c.get.result;
      flushed = c.version.inside.flushed;
      epoch = c.version.inside.epoch;
      ids = c.in_ok-clone.field-0;
      logs_gone = c.in_ok-logs_up_to.field-0.items;
      logs_added = c.new.result.items;
      tables_gone = c.new-2.result.items;
      tables_added = c.new-3.result.items;
    }) (raise_change v c.args.floor) = search rules in
    subst (λ (e : Change). IsFit v e × IsChange e) (sym same) (
      raise_fit v is c.args.floor c.requires,
      raise_change_is v is c.args.floor c.requires few,
    )
