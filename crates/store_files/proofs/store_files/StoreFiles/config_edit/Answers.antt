use Rattle.std.proofs.Common.{◌≡◌, ◌≤◌, refl, rules, subst, sym}
use Rattle.manifest.specs.{Change}
use Rattle.store_files.specs.Adopting.{IsConfigEdit, config_change}
use Rattle.store_files.specs.OpenFiles.{known_version}
use Rattle.store_files.proofs.Adoptions.{config_change_is, config_fit}
use Rattle.store_files.proofs.store_files.StoreFiles.config_edit.Goals as goal

-- the version may take the edit
pub returns : goal.returns
returns c =
    let files = c.args.self.now in
    let v = (known_version files).version in
    let epoch = c.args.epoch in
    let ids = c.args.config.now in
    let lawful = c.requires.usable.version in
    let few : epoch ≤ 15 = c.get.ensures.limit in
    let same : ◌≡◌ {A = Change} (record {
      next_file = c.version.inside.next_file;
      floor = c.version.inside.floor;
      flushed = c.version.inside.flushed;
      epoch = c.get.result;
      ids = c.in_ok-clone.field-0;
      logs_gone = c.new.result.items;
      logs_added = c.new-2.result.items;
      tables_gone = c.new-3.result.items;
      tables_added = c.new-4.result.items;
    }) (config_change v epoch ids) = search rules in
    subst (IsConfigEdit files epoch ids) (sym same) (record {
      is = refl;
      fit = config_fit v epoch ids lawful c.requires.later.later c.requires.later.fewer;
      within = config_change_is v epoch ids lawful few c.ids-ids.ensures.is;
    })
