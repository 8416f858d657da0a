use Rattle.std.proofs.Common.{◌≡◌, ◌↔◌, IsTrue, Bool, Option, IfSome, subst, sym, ap, ◌∙◌}
use Rattle.std.specs.Ordering.{is_lt, ordering_then, nat_cmp}
use Rattle.merge_iter.specs.OrderLemmas.{less_iff}
use Rattle.merge_iter.specs.{EntryPrecedes, entry_cmp}
use Rattle.merge_iter.specs.declared.Direction.TheVariants.{Forward}
use Rattle.byte_fields.specs.{StoredKey, stored_cmp}
use Rattle.kv_types.specs.{Entry}
use Rattle.table_format.proofs.IndexLoops.{last_line}
use Rattle.table_format.specs.Parts.{end_spot}
use Rattle.table_format.specs.Reading.{lent_line}
use Rattle.table_format.proofs.index.rises.Goals as goal

pub returns-in-Some : goal.returns-in-Some
returns-in-Some c =
    let last = end_spot c.in-Some.last.now in
    let entry = end_spot (lent_line c.args.line) in
    let order : c.order.result ≡ entry_cmp last entry =
    c.order.ensures ∙ ap (λ (k : StoredKey). ordering_then (stored_cmp k entry.key)
    (nat_cmp entry.number last.number)) c.lent.ensures.key in
    let one : IsTrue c.is_lt.result ↔ EntryPrecedes Forward last entry =
    subst (λ (b : Bool). IsTrue b ↔ EntryPrecedes Forward last entry)
    (sym (c.is_lt.ensures ∙ ap is_lt order)) (less_iff (entry_cmp last entry)) in
    let there = last_line c.args.lines.now c.in-Some.last.now (sym c.in-Some.ensures.value) in
    subst (λ (o : Option Entry). IsTrue c.is_lt.result
    ↔ IfSome o (λ r. EntryPrecedes Forward r entry)) (sym there) one
