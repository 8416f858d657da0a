use Rattle.std.proofs.Common.{◌+◌, ◌∙◌, All, List, [], ◌∷◌, ◌++◌, ap, map, rules, subst, sym, take}
use Rattle.std.specs.List.{AllZip}
use Rattle.std.proofs.lemmas.List.{take_all}
use Rattle.std.proofs.lemmas.List.Elements.{All-more, All-nil}
use Rattle.disk.specs.{IsEnvironmental, Slot, contents}
use Rattle.manifest.specs.declared.TableLine.{TableLine}
use Rattle.store_model.specs.{LevelTable}
use Rattle.store_tables.specs.declared.error.EngineError.TheVariants as engine
use Rattle.store_tables.specs.declared.levels.OpenTable.{OpenTable}
use Rattle.disk.specs.KeepingLemmas.{answered}
use Rattle.store_tables.specs.LevelTables.{FileFits, IsServed, IsTableAsMeant, IsTableOf, WasServed}
use Rattle.store_tables.specs.RefusalLemmas.{refuses}
use Rattle.store_tables.proofs.OpenTables.{fit_same, lines_same, none_read, read_more, same_back}
use Rattle.store_tables.proofs.OpenTables.{served_same}
use Rattle.store_tables.proofs.OpenTables.{still_then, was_same}
use Rattle.store_tables.proofs.SideBySide.{all_taken, beside, map_more, zip_map, zip_push}
use Rattle.store_tables.proofs.levels.LevelTables.open.Goals as goal

-- no table is open
pub loop-line-init : goal.loop-line-init
loop-line-init g c = record {
  read = none_read g.D.Disk c.args.disk.now;
  lines = ap (λ items. map (λ (one : OpenTable). one.line) items) c.new-tables.ensures.items;
  fits = λ honest. All-nil (FileFits (contents (g.D.Disk.state c.args.disk.now)));
  served = λ tables honest are.
      subst (λ (items : List OpenTable).
      AllZip (IsServed (g.D.Disk.state c.args.disk.now)) items [])
      (sym c.new-tables.ensures.items) tt;
  meant = λ meant tables honest are as_meant.
      subst (λ (items : List OpenTable).
      AllZip (WasServed (g.D.Disk.state c.args.disk.now) meant) items [])
      (sym c.new-tables.ensures.items) tt;
}

-- one table more is open
pub loop-line-preserved : goal.loop-line-preserved
loop-line-preserved g c =
    let first = c.args.disk.now in
    let mid = c.loop-line.disk in
    let s0 = g.D.Disk.state first in
    let s1 = g.D.Disk.state mid in
    let s2 = g.D.Disk.state c.open.new.disk in
    let lines = c.args.lines.now in
    let line = c.line-item.result in
    let i = c.loop-line.line-index in
    let one = c.in_ok-open.field-0 in
    let items = c.loop-line.tables.items in
    let before = c.loop-line.invariant in
    let read = read_more g.D.Disk first mid before.read c.open.ensures.reads.kept
    (answered c.open.result c.in_ok-open.was) c.open.ensures.reads.still in
    let pushed = c.in_ok-push.ensures.items in
    record {
      read = read;
      lines = map_more (λ (it : OpenTable). it.line) items c.push.new.self.items one lines i line
          pushed before.lines c.in_ok-open.ensures.opens.lines c.loop-line-test.true c.line-item.is;
      fits = λ honest.
          let here = fit_same s0 s1 line (before.read.kept.files honest)
          (c.in_ok-open.ensures.opens.fits (before.read.kept.honest.1 honest)) in
          All-more (FileFits (contents s0)) lines i line c.loop-line-test.true (before.fits honest)
          (subst (λ (l : TableLine). FileFits (contents s0) l) c.line-item.is here);
      served = λ tables honest are.
          let b = beside (IsTableOf (contents s0)) lines tables i line are c.loop-line-test.true
          c.line-item.is in
          let new = c.in_ok-open.ensures.opens.opened b.other (before.read.kept.honest.1 honest)
          (lines_same s0 s1 line b.other (before.read.kept.files honest) b.related) in
          let mine = served_same s2 s0 one b.other (same_back s0 s2 (read.kept.files honest)) new in
          let both = zip_push (IsServed s0) items (take i tables) one b.other
          (before.served tables honest are) mine in
          subst (λ (l : List OpenTable). AllZip (IsServed s0) l (take (i + 1) tables)) (sym pushed)
          (subst (λ (l : List LevelTable). AllZip (IsServed s0) (items ++ one ∷ []) l)
          (sym b.taken) both);
      meant = λ meant tables honest are as_meant.
          let b = beside (IsTableOf (contents meant)) lines tables i line are
          c.loop-line-test.true c.line-item.is in
          let file = subst (λ (l : TableLine). IsTableAsMeant (s0 l.file) (meant l.file))
          (sym c.line-item.is) (as_meant i line c.loop-line-test.true) in
          let here = subst (λ (s : Slot). IsTableAsMeant s (meant line.file))
          (sym (before.read.kept.files honest line.file)) file in
          let new = c.in_ok-open.ensures.opens.meant meant b.other
          (before.read.kept.honest.1 honest) b.related here in
          let mine = was_same s2 s0 meant one b.other (same_back s0 s2 (read.kept.files honest))
          new in
          let both = zip_push (WasServed s0 meant) items (take i tables) one b.other
          (before.meant meant tables honest are as_meant) mine in
          subst (λ (l : List OpenTable). AllZip (WasServed s0 meant) l (take (i + 1) tables))
          (sym pushed)
          (subst (λ (l : List LevelTable). AllZip (WasServed s0 meant) (items ++ one ∷ []) l)
          (sym b.taken) both);
    }

pub returns-in_err-open-clause-opens : goal.returns-in_err-open-clause-opens
returns-in_err-open-clause-opens g c = record {
  -- the line's table was not opened
  opened = λ tables honest are.
      let s0 = g.D.Disk.state c.args.disk.now in
      let s1 = g.D.Disk.state c.loop-line.disk in
      let line = c.line-item.result in
      let before = c.loop-line.invariant.read.kept in
      let b = beside (IsTableOf (contents s0)) c.args.lines.now tables c.loop-line.line-index line
      are c.loop-line-test.true c.line-item.is in
      refuses c.from_residual.result _
      (IsEnvironmental engine.Disk engine.Memory) c.from_residual.ensures.1
      (c.in_err-open.ensures.opens.opened b.other (before.honest.1 honest)
      (lines_same s0 s1 line b.other (before.files honest) b.related));
  meant = search rules;
  -- a file that fits its line is opened, or the refusal is external
  fits = λ honest.
      let s0 = g.D.Disk.state c.args.disk.now in
      let s1 = g.D.Disk.state c.loop-line.disk in
      let line = c.line-item.result in
      let before = c.loop-line.invariant.read.kept in
      refuses c.from_residual.result _ _ c.from_residual.ensures.1 (λ all.
      let fit = subst (λ (l : TableLine). FileFits (contents s0) l) (sym c.line-item.is)
      (all c.loop-line.line-index line c.loop-line-test.true) in
      c.in_err-open.ensures.opens.fits (before.honest.1 honest)
      (fit_same s1 s0 line (same_back s0 s1 (before.files honest)) fit));
  lines = search rules;
}

pub returns-in_err-open-clause-reads : goal.returns-in_err-open-clause-reads
returns-in_err-open-clause-reads g c = record {
  kept = search rules;
  causes = search rules;
  still = still_then g.D.Disk c.args.disk.now c.loop-line.disk c.loop-line.invariant.read
      c.open.ensures.reads.still;
}

pub returns-in_err-push-clause-reads : goal.returns-in_err-push-clause-reads
returns-in_err-push-clause-reads g c = record {
  kept = search rules;
  causes = search rules;
  still = still_then g.D.Disk c.args.disk.now c.loop-line.disk c.loop-line.invariant.read
      c.open.ensures.reads.still;
}

pub returns-clause-opens : goal.returns-clause-opens
returns-clause-opens g c = record {
  -- all tables are open
  opened = λ tables honest are.
      let s0 = g.D.Disk.state c.args.disk.now in
      let s1 = g.D.Disk.state c.loop-line.disk in
      let items = c.loop-line.tables.items in
      let before = c.loop-line.invariant in
      let all = all_taken (IsTableOf (contents s0)) c.args.lines.now tables c.loop-line.line-index
      are c.loop-line-test.false in
      zip_map (IsServed s0) (IsServed s1)
      (λ it t served. served_same s0 s1 it t (before.read.kept.files honest) served) items tables
      (subst (λ (l : List LevelTable). AllZip (IsServed s0) items l) all
      (before.served tables honest are));
  meant = λ meant tables honest are as_meant.
      let s0 = g.D.Disk.state c.args.disk.now in
      let s1 = g.D.Disk.state c.loop-line.disk in
      let items = c.loop-line.tables.items in
      let before = c.loop-line.invariant in
      let all = all_taken (IsTableOf (contents meant)) c.args.lines.now tables
      c.loop-line.line-index are c.loop-line-test.false in
      zip_map (WasServed s0 meant) (WasServed s1 meant)
      (λ it t was. was_same s0 s1 meant it t (before.read.kept.files honest) was) items tables
      (subst (λ (l : List LevelTable). AllZip (WasServed s0 meant) items l) all
      (before.meant meant tables honest are as_meant));
  -- all lines were passed
  fits = λ honest.
      subst (λ (l : List TableLine). All (FileFits (contents (g.D.Disk.state c.args.disk.now))) l)
      (take_all c.loop-line.line-index c.args.lines.now c.loop-line-test.false)
      (c.loop-line.invariant.fits honest);
  lines = c.loop-line.invariant.lines
      ∙ take_all c.loop-line.line-index c.args.lines.now c.loop-line-test.false;
}
