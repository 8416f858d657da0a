use Rattle.std.proofs.Common.{List, ℕ, suc, arith, inr, refl, subst, rules}
use Rattle.disk.specs.{IsEnvironmental, seen}
use Rattle.record_log.specs.{LogHolds}
use Rattle.store_tables.specs.declared.error.EngineError.TheVariants as engine
use Rattle.store_tables.specs.Errors.{IsEnd}
use Rattle.batch_logs.specs.Layout.{IsLog}
use Rattle.disk.specs.KeepingLemmas.{answered, kept_as, neither}
use Rattle.batch_logs.specs.Layout.{records_from}
use Rattle.batch_logs.proofs.Causes.{log_ends, log_is_external}
use Rattle.store_tables.specs.RefusalLemmas.{refuses}
use Rattle.batch_logs.proofs.Keeping.{log_failed}
use Rattle.store_tables.specs.RefusalLemmas.{done, lacks_memory, refused_otherwise}
use Rattle.batch_logs.proofs.replaying.open_log.Goals as goal

-- where it was not opened, the files have to be opened again
pub returns-in_err-opened : goal.returns-in_err-opened
returns-in_err-opened g c = record {
  reads = record {
    kept =
        let failed = log_failed c.open.result c.in_err-opened.field-0.0 c.from_residual.result
        c.in_err-opened.was c.from_residual.ensures.1 in
        kept_as g.D.Disk failed (λ a b added. added) c.open.ensures.kept;
    causes = refuses c.from_residual.result _ IsEnd c.from_residual.ensures.1
        (log_ends c.in_err-opened.field-0.0);
    still = search rules;
  };
  opened = λ batches honest stood each few.
      refuses c.from_residual.result _
      (IsEnvironmental engine.Disk engine.Memory) c.from_residual.ensures.1
      (log_is_external c.in_err-opened.field-0.0
      (c.in_err-opened.ensures.opened (records_from (suc c.args.before) batches) honest stood));
  read = search rules;
  told = search rules;
}

-- there was no memory for the batches
pub returns-in_err-replay : goal.returns-in_err-replay
returns-in_err-replay g c = record {
  reads = record {
    kept = kept_as g.D.Disk (neither (answered c.open.result c.in_ok-opened.was)
        (lacks_memory c.from_residual-in_err-replay.result c.from_residual-in_err-replay.ensures.1))
        (λ a b added. added) c.open.ensures.kept;
    causes = refuses c.from_residual-in_err-replay.result _ IsEnd
        c.from_residual-in_err-replay.ensures.1 tt;
    still = search rules;
  };
  opened = λ batches honest stood each few.
      refuses c.from_residual-in_err-replay.result _ (IsEnvironmental engine.Disk engine.Memory)
      c.from_residual-in_err-replay.ensures.1 (inr refl);
  read = search rules;
  told = search rules;
}

-- the records are of no batches, so the file was no log of batches
pub returns-then-not-branch : goal.returns-then-not-branch
returns-then-not-branch g c = record {
  reads = record {
    kept = kept_as g.D.Disk (neither (answered c.open.result c.in_ok-opened.was)
        (refused_otherwise (λ e. cc))) (λ a b added. added) c.open.ensures.kept;
    causes = search rules;
    still = search rules;
  };
  opened = λ batches honest stood each few.
      let read = (c.in_ok-opened.ensures.opened (records_from (suc c.args.before) batches) honest
      stood).1 in
      let found = c.in_ok-replay.ensures.found batches read each few in
      cc;
  read = search rules;
  told = search rules;
}

-- its records are those that were read, and its batches are numbered behind the number
pub returns : goal.returns
returns g c = record {
  reads = record {
    kept = kept_as g.D.Disk (neither (answered c.open.result c.in_ok-opened.was) done)
        (λ a b added. added) c.open.ensures.kept;
    causes = search rules;
    still = search rules;
  };
  opened = search rules;
  read = λ honest.
      let s0 = g.D.Disk.state c.args.disk.now in
      let s1 = g.D.Disk.state c.open.new.disk in
      let opened = c.in_ok-opened.opened in
      let o = c.in_ok-opened.ensures.told honest in
      let taken = c.in_ok-replay.ensures.taken o.records o.read c.if-not-branch.false in
      record {
        here = taken.batches;
        had = subst (IsLog (seen (s0 c.args.file))) taken.spelled o.stood;
        settles = inr (o.bytes, o.was, o.sure);
        each = taken.each;
        holds = record {
          first = omega arith;
          from = c.in_ok-opened.ensures.at.from;
          log = subst (λ (r : List (List ℕ)). LogHolds s1 opened.log r) taken.spelled o.holds;
        };
        entries = taken.entries;
      };
  told = let numbered = c.in_ok-replay.ensures.numbered c.if-not-branch.false in
      record {
        in_file = c.in_ok-opened.ensures.at.in_file;
        first = omega arith;
        works = c.in_ok-opened.ensures.at.works;
        numbered = numbered.0;
        few = numbered.1;
      };
}
