use Rattle.std.proofs.Common.{◌≡◌, List, ap, sym, ◌∙◌}
use Rattle.version_edits.specs.declared.line.LogLine.{LogLine}
use Rattle.version_edits.specs.declared.line.TableLine.{TableLine}
use Rattle.std.specs.List.{fold}
use Rattle.version_edits.specs.Versions.{Change, with_log, with_table, logs_left, tables_left}
use Rattle.version_edits.proofs.Lawful.{version_made}
use Rattle.version_edits.proofs.changed.version_after.Goals as goal

pub invariant_of-result : goal.invariant_of-result
invariant_of-result c =
    let lines = c.in_ok-logs.ensures in
    let edit = c.args.edit.now in
    let logs : c.in_ok-logs.logs.items
    ≡ fold with_log (logs_left c.edit.inside.logs_gone.items c.version.inside.logs.items)
    c.edit.inside.logs_added.items =
    lines.0
    ∙ ap (λ (l : List LogLine). fold with_log (logs_left edit.logs_gone l) edit.logs_added)
    c.deref.ensures.value
    ∙ ap (λ (e : Change). fold with_log (logs_left e.logs_gone c.version.inside.logs.items)
    e.logs_added) (sym c.edit.view_is) in
    let tables : c.in_ok-logs.tables.items
    ≡ fold with_table (tables_left c.edit.inside.tables_gone.items c.version.inside.tables.items)
    c.edit.inside.tables_added.items =
    lines.1
    ∙ ap (λ (t : List TableLine). fold with_table (tables_left edit.tables_gone t)
    edit.tables_added) c.deref-2.ensures.value
    ∙ ap (λ (e : Change). fold with_table (tables_left e.tables_gone
    c.version.inside.tables.items) e.tables_added) (sym c.edit.view_is) in
    version_made c.args.version.now _ c.args.edit.now _ c.in_ok-config.config
    c.in_ok-logs.logs.items c.in_ok-logs.tables.items (sym c.version.view_is) (sym c.edit.view_is)
    c.version.invariant c.requires.0 c.requires.1 c.in_ok-config.ensures logs tables
