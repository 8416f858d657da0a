use Rattle.std.proofs.Common.{◌++◌, ◌∷◌, [], arith}
use Rattle.table_format.specs.{lent_entry}
use Rattle.table_format.specs.FrontsLemmas.{length-block_content, length-block_part}
use Rattle.byte_fields.specs.declared.format.Format.TheVariants.{Two}
use Rattle.table_builder.specs.Divisions.{division}
use Rattle.table_builder.proofs.BuildersLemmas.{bounds}
use Rattle.table_builder.proofs.DivisionsLemmas.{entry_short, length-entries_push, size_push}
use Rattle.table_builder.proofs.builder.Builder.size_with.Goals as goal

-- what is in the file, in memory, and the entry
pub returns : goal.returns
returns c = λ entries h.
    let entry = lent_entry c.args.entry in
    let opened = (division entries).opened in
    let m = bounds c.args.self.now entries h in
    let content = c.len.ensures opened h.parts.block in
    omega (
      arith,
      m.written,
      m.content,
      c.saturating_add.ensures,
      c.saturating_add-open.ensures,
      content,
      c.entry_len.ensures,
      h.parts.closed.written,
      size_push entries entry,
      entry_short entry c.requires,
      length-entries_push opened entry,
      length-block_content Two opened,
      length-block_part Two (opened ++ entry ∷ []),
    )
