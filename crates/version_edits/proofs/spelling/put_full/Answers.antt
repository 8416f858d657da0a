use Rattle.std.proofs.Common.{◌≡◌, ◌++◌, subst, OnOk}
use Rattle.version_edits.specs.Versions.{StoreVersion, NodeVersion}
use Rattle.version_edits.specs.Lawful.{full_change}
use Rattle.version_edits.specs.Edits.{change_text}
use Rattle.version_edits.proofs.Spelled.{is_spelled}
use Rattle.version_edits.proofs.spelling.put_full.Goals as goal

-- the parts in their order
pub returns : goal.returns
returns c =
    let version : StoreVersion = record {
      next_file = c.version.inside.next_file;
      floor = c.version.inside.floor;
      flushed = c.version.inside.flushed;
      epoch = c.version.inside.epoch;
      ids = c.version.inside.config;
      logs = c.version.inside.logs.items;
      tables = c.version.inside.tables.items;
    } in
    let names = c.put_names.new.out.items in
    let all = c.put_tables.new.out.items in
    subst (λ (v : NodeVersion). OnOk c.put_tables.result
    (all ≡ c.args.out.now.items ++ change_text (full_change v.version))) c.version.view_is
    (is_spelled (full_change version) c.args.out.now.items c.put_numbers.new.out.items
    c.spell_into.new.out.items c.put_files.new.out.items c.put_logs.new.out.items names all
    c.put_tables.result c.in_ok-put_numbers.ensures c.in_ok-spell_into.ensures.spelled
    c.in_ok-put_files.ensures
    (rw c.deref.ensures.value at c.in_ok-put_logs.ensures)
    c.in_ok-put_names.ensures
    (rw c.deref-2.ensures.value at c.put_tables.ensures))
