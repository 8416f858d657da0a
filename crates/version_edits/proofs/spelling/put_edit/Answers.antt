use Rattle.std.proofs.Common.{◌≡◌, List, ℕ, ◌++◌, subst, OnOk}
use Rattle.std.specs.Int.{w64, to_be_bytes}
use Rattle.version_edits.specs.Versions.{Change}
use Rattle.version_edits.specs.Edits.{change_text, counted_bytes}
use Rattle.version_edits.proofs.Spelled.{is_spelled}
use Rattle.version_edits.proofs.spelling.put_edit.Goals as goal

-- the parts in their order
pub returns : goal.returns
returns c =
    let edit : Change = record {
      next_file = c.edit.inside.next_file;
      floor = c.edit.inside.floor;
      flushed = c.edit.inside.flushed;
      epoch = c.edit.inside.epoch;
      ids = c.edit.inside.config;
      logs_gone = c.edit.inside.logs_gone.items;
      logs_added = c.edit.inside.logs_added.items;
      tables_gone = c.edit.inside.tables_gone.items;
      tables_added = c.edit.inside.tables_added.items;
    } in
    let names = c.put_names.new.out.items in
    let all = c.put_tables.new.out.items in
    subst (λ (e : Change). OnOk c.put_tables.result (all ≡ c.args.out.now.items ++ change_text e))
    c.edit.view_is
    (is_spelled edit c.args.out.now.items c.put_numbers.new.out.items c.spell_into.new.out.items
    c.put_files.new.out.items c.put_logs.new.out.items names all c.put_tables.result
    c.in_ok-put_numbers.ensures c.in_ok-spell_into.ensures.spelled
    (subst (λ (l : List ℕ). c.put_files.new.out.items ≡ c.spell_into.new.out.items
    ++ counted_bytes (λ file. to_be_bytes w64 file) l) c.deref.ensures.value
    c.in_ok-put_files.ensures)
    (rw c.deref-2.ensures.value at c.in_ok-put_logs.ensures)
    (rw c.deref-3.ensures.value at c.in_ok-put_names.ensures)
    (rw c.deref-4.ensures.value at c.put_tables.ensures))
