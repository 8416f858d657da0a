use Rattle.std.proofs.Common.{◌≡◌, ◌<◌, List, length, refl, sym, subst, arith, MatchResult}
use Rattle.disk.specs.{IsEnvironmental}
use Rattle.table_format.specs.declared.FileError.TheVariants as reading
use Rattle.table_format.specs.{Block, data_bytes}
use Rattle.byte_fields.specs.declared.format.Format.TheVariants.{Two}
use Rattle.table_builder.specs.Builders.{HoldsBlocks}
use Rattle.table_builder.specs.Divisions.{block_from, division}
use Rattle.table_builder.specs.Fresh.{IsFresh}
use Rattle.table_builder.proofs.ClosingLemmas.{can_close_last, can_end, finished_none}
use Rattle.table_builder.proofs.ClosingLemmas.{finished_some}
use Rattle.table_builder.proofs.ClosingLemmas.{on_ok_map}
use Rattle.table_builder.proofs.ClosingLemmas.{opened_some}
use Rattle.disk.specs.WritesLemmas.{writes_as, writes_nothing}
use Rattle.table_builder.proofs.builder.Builder.close_rest.Goals as goal

-- no block is open
pub returns-then-self-eq0-clause-device : goal.returns-then-self-eq0-clause-device
returns-then-self-eq0-clause-device g c =
    writes_nothing g.D.Disk c.args.self.now.file c.args.disk.now (λ fails. absurd cc)

pub returns-then-self-eq0-clause-closed : goal.returns-then-self-eq0-clause-closed
returns-then-self-eq0-clause-closed g c = λ entries h some.
    let it = c.args.self.now in
    let opened = h.parts.block.count in
    let none : length (division entries).opened ≡ 0 = omega (arith, opened, c.if-self-eq0.true) in
    can_end it entries h some it refl
    (subst (HoldsBlocks it) (sym (finished_none (division entries) none)) h.parts.closed)

-- the open block is closed
pub returns-clause-device : goal.returns-clause-device
returns-clause-device g c =
    writes_as g.D.Disk c.args.self.now.file (λ fails. fails, λ fails. fails)
    (λ none entries h.
    let opened = h.parts.block.count in
    let some : 0 < length (division entries).opened = omega (arith, opened, c.if-self-eq0.false) in
    let o = opened_some (division entries).opened some in
    none (division entries).closed (block_from o.0 o.1)
    (can_close_last c.args.self.now entries o.0 o.1 h o.2))
    c.close.ensures.device

pub returns-clause-closed : goal.returns-clause-closed
returns-clause-closed g c = λ entries h more.
    let it = c.args.self.now in
    let parts = division entries in
    let opened = h.parts.block.count in
    let some : 0 < length parts.opened = omega (arith, opened, c.if-self-eq0.false) in
    let o = opened_some parts.opened some in
    let all = finished_some parts o.0 o.1 o.2 in
    on_ok_map c.close.result
    (λ closed. can_end it entries h more c.close.new.self c.close.ensures.keys.keys
    (subst (HoldsBlocks c.close.new.self) (sym all) closed.closed))
    (c.close.ensures.closed parts.closed (block_from o.0 o.1)
    (can_close_last it entries o.0 o.1 h o.2))

pub returns-clause-written : goal.returns-clause-written
returns-clause-written g c = λ entries h honest fresh.
    let it = c.args.self.now in
    let parts = division entries in
    let opened = h.parts.block.count in
    let some : 0 < length parts.opened = omega (arith, opened, c.if-self-eq0.false) in
    let o = opened_some parts.opened some in
    let all = finished_some parts o.0 o.1 o.2 in
    subst (λ (blocks : List Block). MatchResult c.close.result
    (λ _. IsFresh (g.D.Disk.state c.close.new.disk it.file) (data_bytes Two blocks))
    (IsEnvironmental reading.Disk reading.Memory))
    (sym all)
    (c.close.ensures.written parts.closed (block_from o.0 o.1)
    (can_close_last it entries o.0 o.1 h o.2) honest fresh)
