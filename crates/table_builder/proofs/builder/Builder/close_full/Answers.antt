use Rattle.std.proofs.Common.{◌≤◌, ◌++◌, ◌∷◌, [], length, sym, subst, arith, MatchResult}
use Rattle.disk.specs.{IsEnvironmental}
use Rattle.table_format.specs.declared.FileError.TheVariants as reading
use Rattle.table_format.specs.declared.sizes.TheConstants.{BLOCK_SIZE}
use Rattle.table_format.specs.{block_content, data_bytes}
use Rattle.byte_fields.specs.declared.format.Format.TheVariants.{Two}
use Rattle.table_builder.specs.Builders.{HoldsDivision}
use Rattle.table_builder.specs.Divisions.{Division}
use Rattle.table_builder.specs.Fresh.{IsFresh}
use Rattle.table_builder.proofs.ClosingLemmas.{on_ok_map}
use Rattle.disk.specs.WritesLemmas.{writes_nothing}
use Rattle.table_builder.proofs.DivisionsLemmas.{with_entry_full}
use Rattle.table_builder.proofs.builder.Builder.close_full.Goals as goal

pub returns-then-len-lt-BLOCK_SIZE-clause-device : goal.returns-then-len-lt-BLOCK_SIZE-clause-device
returns-then-len-lt-BLOCK_SIZE-clause-device g c =
    writes_nothing g.D.Disk c.args.self.now.file c.args.disk.now (λ fails. absurd cc)

-- the entry filled its block
pub returns-clause-closed : goal.returns-clause-closed
returns-clause-closed g c = λ parts entry can.
    let full : BLOCK_SIZE ≤ length (block_content Two (parts.opened ++ entry ∷ [])) =
    omega (
      arith,
      c.len.ensures (parts.opened ++ entry ∷ []) can.entries,
      c.if-len-lt-BLOCK_SIZE.false,
    ) in
    on_ok_map c.close.result
    (λ closed. subst (HoldsDivision c.close.new.self) (sym (with_entry_full parts entry full))
    (record { closed = closed.closed; block = closed.empty }))
    (c.close.ensures.closed parts.closed (record { front = parts.opened; last = entry }) can)

pub returns-clause-written : goal.returns-clause-written
returns-clause-written g c = λ parts entry can honest fresh.
    let full : BLOCK_SIZE ≤ length (block_content Two (parts.opened ++ entry ∷ [])) =
    omega (
      arith,
      c.len.ensures (parts.opened ++ entry ∷ []) can.entries,
      c.if-len-lt-BLOCK_SIZE.false,
    ) in
    subst (λ (it : Division). MatchResult c.close.result
    (λ _. IsFresh (g.D.Disk.state c.close.new.disk c.args.self.now.file) (data_bytes Two it.closed))
    (IsEnvironmental reading.Disk reading.Memory)) (sym (with_entry_full parts entry full))
    (c.close.ensures.written parts.closed (record { front = parts.opened; last = entry }) can honest
    fresh)

pub returns-clause-quiet : goal.returns-clause-quiet
returns-clause-quiet g c = λ opened has part.
    absurd (omega (arith, c.len.ensures opened has, c.if-len-lt-BLOCK_SIZE.false, part))
