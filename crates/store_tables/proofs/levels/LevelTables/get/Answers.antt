use Rattle.std.proofs.Common.{◌+◌, ◌≡◌, ◌⊎◌, ℕ, List, [], None, inl, inr, drop}
use Rattle.disk.specs.{IsEnvironmental, Slot}
use Rattle.std.proofs.Common.{◌≤◌, Contains, arith, length, refl, rules, subst, sym, take, ◌∙◌}
use Rattle.std.specs.List.{AllZip}
use Rattle.store_model.specs.{LevelTable}
use Rattle.store_model.specs.PlacesLemmas.{contains_none}
use Rattle.store_tables.specs.declared.error.EngineError.TheVariants as engine
use Rattle.store_tables.specs.declared.levels.OpenTable.{OpenTable}
use Rattle.disk.specs.KeepingLemmas.{answered}
use Rattle.store_tables.specs.LevelTables.{IsServed, LesserLack, TablesFind, WasServed}
use Rattle.store_tables.specs.RefusalLemmas.{if_refuses, passed_cause}
use Rattle.store_tables.specs.TableReads.{LacksBlock}
use Rattle.store_tables.proofs.LevelLemmas.{Walked, all_walked, found_left, lesser_lack}
use Rattle.store_tables.proofs.LevelLemmas.{none_found}
use Rattle.store_tables.proofs.LevelLemmas.{none_walked, one_walked}
use Rattle.store_tables.proofs.OpenTables.{files_ghosts, none_read, read_more, served_same}
use Rattle.store_tables.proofs.OpenTables.{still_then}
use Rattle.store_tables.proofs.OpenTables.{was_same}
use Rattle.store_tables.proofs.SideBySide.{all_taken, beside, none_left}
use Rattle.store_tables.proofs.levels.LevelTables.get.Goals as goal
use Rattle.store_tables.proofs.levels.LevelTables.get.Goals.{else-is_some-via-else-is_some}
use Rattle.store_tables.proofs.levels.LevelTables.get.Goals.{
  else-is_some-via-then-is_some+else-open-level,
}

-- there is no table
pub returns-then-is_empty-clause-reads : goal.returns-then-is_empty-clause-reads
returns-then-is_empty-clause-reads g c =
    let disk = c.args.files.now in
    record {
      kept = record {
        honest = (λ honest. honest, λ honest. honest);
        failed = λ fails. absurd cc;
        count = λ works. refl;
        only = λ reliable spared fails. absurd cc;
        reliable = λ reliable works. reliable;
        files = λ honest file. refl;
        fault = refl;
        spared = λ spared works. spared;
      };
      causes = tt;
      still = (none_read (files_ghosts g.D.Disk) disk).still;
    }

pub returns-then-is_empty-clause-found : goal.returns-then-is_empty-clause-found
returns-then-is_empty-clause-found g c = λ meant tables flushed honest served leveled rise.
    let s0 = g.D.Disk.state c.args.files.now.disk in
    let items = c.args.self.now.tables.items in
    let none : length items ≤ 0 = grind (arith, c.is_empty.ensures, c.if-is_empty.true) in
    let taken : [] ≡ tables = all_taken (WasServed s0 meant) items tables 0 served none in
    λ t has. absurd (contains_none t (subst (λ (l : List LevelTable). Contains l t) (sym taken)
    has))

-- no table was passed
pub loop-open-init : goal.loop-open-init
loop-open-init g c = record {
  read = none_read (files_ghosts g.D.Disk) c.args.files.now;
  walked = λ meant tables flushed honest served leveled rise.
      none_walked c.args.at c.args.key.now tables rise;
}

-- a deeper level begins
pub returns-then-open-level-clause-found : goal.returns-then-open-level-clause-found
returns-then-open-level-clause-found g c = λ meant tables flushed honest served leveled rise.
    let s0 = g.D.Disk.state c.args.files.now.disk in
    let i = c.loop-open.open-index in
    let one = c.open-item.result in
    let best = c.loop-open.best in
    let level = c.loop-open.level in
    let at = c.args.at in
    let key = c.args.key.now in
    let items = c.deref-open-items.result.now in
    let zip = subst (λ (l : List OpenTable). AllZip (WasServed s0 meant) l tables)
    (sym c.deref-open-items.ensures.value) served in
    let b = beside (WasServed s0 meant) items tables i one zip c.loop-open-test.true
    c.open-item.is in
    let walked = subst (λ (l : List LevelTable). Walked at key (take i tables) l level best) b.left
    (c.loop-open.invariant.walked meant tables flushed honest served leveled rise) in
    let another : b.other.level ≡ level → ⊥ =
    λ is. c.if-open-level.true (sym b.related.serves.level ∙ is) in
    subst (λ (l : List LevelTable). TablesFind at l key best) b.whole
    (found_left at key (take i tables) level b.other (drop (i + 1) tables) best
    (sym c.is_some.ensures ∙ c.if-is_some.true) walked another)

-- one table more was passed
pub loop-open-preserved : goal.loop-open-preserved
loop-open-preserved g c =
    let first = c.args.files.now in
    let mid = c.loop-open.files in
    let s0 = g.D.Disk.state first.disk in
    let s1 = g.D.Disk.state mid.disk in
    let i = c.loop-open.open-index in
    let one = c.open-item.result in
    let best = c.loop-open.best in
    let level = c.loop-open.level in
    let at = c.args.at in
    let key = c.args.key.now in
    let items = c.deref-open-items.result.now in
    let now = c.newer_of-best.result in
    let before = c.loop-open.invariant in
    record {
      read = read_more (files_ghosts g.D.Disk) first mid before.read c.get.ensures.reads.kept
          (answered c.get.result c.in_ok-found.was) c.get.ensures.reads.still;
      walked = λ meant tables flushed honest served leveled rise.
          let zip = subst (λ (l : List OpenTable). AllZip (WasServed s0 meant) l tables)
          (sym c.deref-open-items.ensures.value) served in
          let b = beside (WasServed s0 meant) items tables i one zip c.loop-open-test.true
          c.open-item.is in
          let passed = take i tables in
          let rest = drop (i + 1) tables in
          let walked = subst (λ (l : List LevelTable). Walked at key passed l level best) b.left
          (before.walked meant tables flushed honest served leveled rise) in
          let here = c.in_ok-found.ensures.found meant b.other (before.read.kept.honest.1 honest)
          (was_same s0 s1 meant one b.other (before.read.kept.files honest) b.related)
          (leveled.ranges b.other b.there) in
          let goes_on : (best ≡ None) ⊎ (b.other.level ≡ level) =
          elim c.else-is_some.branch [
            | else-is_some-via-then-is_some+else-open-level w ↦
                inr (b.related.serves.level ∙ w.if-open-level.false)
            | else-is_some-via-else-is_some w ↦
                inl (none_found best (sym c.is_some.ensures ∙ w.if-is_some.false))
          ] in
          let more = one_walked at key passed level b.other rest best now walked goes_on
          (λ ready. c.newer_of-best.ensures at key passed b.other ready here) in
          subst (λ (n : ℕ). Walked at key (take (i + 1) tables) rest n now) b.related.serves.level
          (subst (λ (l : List LevelTable). Walked at key l rest b.other.level now) (sym b.taken)
          more);
    }

-- the table was not read
pub returns-in_err-found-clause-intact : goal.returns-in_err-found-clause-intact
returns-in_err-found-clause-intact g c = λ tables honest served.
    let s0 = g.D.Disk.state c.args.files.now.disk in
    let s1 = g.D.Disk.state c.loop-open.files.disk in
    let one = c.open-item.result in
    let before = c.loop-open.invariant.read.kept in
    let zip = subst (λ (l : List OpenTable). AllZip (IsServed s0) l tables)
    (sym c.deref-open-items.ensures.value) served in
    let b = beside (IsServed s0) c.deref-open-items.result.now tables c.loop-open.open-index one zip
    c.loop-open-test.true c.open-item.is in
    if_refuses c.from_residual.result
    (IsEnvironmental engine.Disk engine.Memory) c.from_residual.ensures.1
    (c.in_err-found.ensures.intact b.other (before.honest.1 honest)
    (served_same s0 s1 one b.other (before.files honest) b.related))

-- the table lacks the block of the key
pub returns-in_err-found-clause-damaged : goal.returns-in_err-found-clause-damaged
returns-in_err-found-clause-damaged g c = λ meant tables honest served refused.
    let s0 = g.D.Disk.state c.args.files.now.disk in
    let s1 = g.D.Disk.state c.loop-open.files.disk in
    let i = c.loop-open.open-index in
    let one = c.open-item.result in
    let best = c.loop-open.best in
    let level = c.loop-open.level in
    let at = c.args.at in
    let key = c.args.key.now in
    let before = c.loop-open.invariant.read.kept in
    let zip = subst (λ (l : List OpenTable). AllZip (WasServed s0 meant) l tables)
    (sym c.deref-open-items.ensures.value) served in
    let b = beside (WasServed s0 meant) c.deref-open-items.result.now tables i one zip
    c.loop-open-test.true c.open-item.is in
    let lacks = c.in_err-found.ensures.damaged meant b.other (before.honest.1 honest)
    (was_same s0 s1 meant one b.other (before.files honest) b.related)
    (passed_cause c.from_residual.result c.from_residual.ensures.1 refused) in
    let goes_on : (best ≡ None) ⊎ (b.other.level ≡ level) =
    elim c.else-is_some.branch [
      | else-is_some-via-then-is_some+else-open-level w ↦
          inr (b.related.serves.level ∙ w.if-open-level.false)
      | else-is_some-via-else-is_some w ↦
          inl (none_found best (sym c.is_some.ensures ∙ w.if-is_some.false))
    ] in
    record {
      table = b.other;
      there = b.there;
      lacks = subst (λ (s : Slot). LacksBlock s b.other.range key at)
          (before.files honest b.other.file) lacks;
      needed = λ flushed leveled rise.
          let walked = subst (λ (l : List LevelTable). Walked at key (take i tables) l level best)
          b.left (c.loop-open.invariant.walked meant tables flushed honest served leveled rise) in
          subst (λ (l : List LevelTable). LesserLack at l key b.other.level) b.whole
          (lesser_lack at key (take i tables) level b.other (drop (i + 1) tables) best walked
          goes_on);
    }

pub returns-in_err-found-clause-reads : goal.returns-in_err-found-clause-reads
returns-in_err-found-clause-reads g c = record {
  kept = search rules;
  causes = search rules;
  still = still_then (files_ghosts g.D.Disk) c.args.files.now c.loop-open.files
      c.loop-open.invariant.read {new = c.get.new.files} c.get.ensures.reads.still;
}

-- all tables were passed
pub returns-clause-found : goal.returns-clause-found
returns-clause-found g c = λ meant tables flushed honest served leveled rise.
    let s0 = g.D.Disk.state c.args.files.now.disk in
    let i = c.loop-open.open-index in
    let best = c.loop-open.best in
    let level = c.loop-open.level in
    let at = c.args.at in
    let key = c.args.key.now in
    let items = c.deref-open-items.result.now in
    let zip = subst (λ (l : List OpenTable). AllZip (WasServed s0 meant) l tables)
    (sym c.deref-open-items.ensures.value) served in
    let taken = all_taken (WasServed s0 meant) items tables i zip c.loop-open-test.false in
    let left = none_left (WasServed s0 meant) items tables i zip c.loop-open-test.false in
    let walked = c.loop-open.invariant.walked meant tables flushed honest served leveled rise in
    all_walked at key tables level best
    (subst (λ (l : List LevelTable). Walked at key l [] level best) taken
    (subst (λ (l : List LevelTable). Walked at key (take i tables) l level best) left walked))
