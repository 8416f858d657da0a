use Rattle.std.proofs.Common.{◌<◌, length, arith}
use Rattle.table_builder.specs.Divisions.{division}
use Rattle.table_builder.proofs.BuildersLemmas.{bounds, size_some}
use Rattle.table_builder.proofs.DivisionsLemmas.{length-finished}
use Rattle.table_builder.proofs.builder.Builder.data_size.Goals as goal

-- the open block counts with its head and digest
pub returns : goal.returns
returns c = λ slot entries b.
    let h = b.holds in
    let m = bounds c.args.self.now entries h in
    let count = h.parts.block.count in
    let some : 0 < length (division entries).opened = omega (arith, count, c.if-self-eq0.false) in
    let content = c.len.ensures (division entries).opened h.parts.block in
    omega (
      arith,
      m.written,
      m.content,
      c.saturating_add.ensures,
      c.saturating_add-open.ensures,
      content,
      h.parts.closed.written,
      size_some (division entries).opened some,
      length-finished (division entries),
    )
