use Rattle.std.proofs.Common.{List, ℕ, map, subst, sym, ap, arith, ◌∙◌}
use Rattle.std.specs.List.{AllZip, insert}
use Rattle.std.proofs.lemmas.List.Sums.{prefix_len-le-length}
use Rattle.store_tables.specs.declared.levels.OpenTable.{OpenTable}
use Rattle.store_tables.specs.LevelTables.{WasServed, is_flushed, with_flushed}
use Rattle.store_tables.proofs.LevelLemmas.{lines_with}
use Rattle.store_tables.proofs.LevelLemmas.{served_with}
use Rattle.store_tables.proofs.levels.LevelTables.add.Goals as goal

-- it stands behind the tables of level 0
pub returns-clause-added : goal.returns-clause-added
returns-clause-added c = λ disk meant tables table served is.
    let items = c.args.self.now.tables.items in
    let one = c.args.opened in
    subst (λ (l : List OpenTable). AllZip (WasServed disk meant) l (with_flushed tables table))
    (sym (c.in_ok-insert.ensures.items
    ∙ ap (λ (n : ℕ). insert items n one) c.flushed-place.ensures))
    (served_with disk meant one table is items tables served)

-- and so its line among theirs
pub returns-clause-lines : goal.returns-clause-lines
returns-clause-lines c =
    let items = c.args.self.now.tables.items in
    ap (λ (l : List OpenTable). map (λ one. one.line) l) (c.in_ok-insert.ensures.items
    ∙ ap (λ (n : ℕ). insert items n c.args.opened) c.flushed-place.ensures)
    ∙ lines_with items c.args.opened

-- that place is in the list, or right behind it
pub insert-requires : goal.insert-requires
insert-requires c =
    let tables = c.args.self.now.tables in
    let within = prefix_len-le-length is_flushed tables.items in
    let long = tables.ok.0 in
    omega (arith, c.flushed-place.ensures)
