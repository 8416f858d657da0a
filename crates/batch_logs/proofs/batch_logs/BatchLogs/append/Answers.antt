use Rattle.std.proofs.Common.{◌≡◌, ◌+◌, length, ap, inr, refl, ◌∙◌, rules}
use Rattle.disk.specs.{IsEnvironmental}
use Rattle.batch_logs.specs.BatchLogs.{next_number}
use Rattle.batch_logs.specs.Layout.{batch_record, records_from}
use Rattle.batch_logs.proofs.Causes.{log_ends, met, none_counted}
use Rattle.store_tables.specs.declared.error.EngineError.TheVariants as engine
use Rattle.store_tables.specs.RefusalLemmas.{refuses}
use Rattle.batch_logs.proofs.LongerLogs.{crashed_more, held_more, none_more}
use Rattle.batch_logs.proofs.Records.{spelled_fits}
use Rattle.batch_logs.proofs.batch_logs.BatchLogs.append.Goals as goal

-- nothing was written
pub returns-in_err-spell_record : goal.returns-in_err-spell_record
returns-in_err-spell_record g c = record {
  kept = search rules;
  appended = λ first batches honest h. record {
    list = refuses c.from_residual.result _
        (IsEnvironmental engine.Disk engine.Memory) c.from_residual.ensures.1 (inr refl);
    any_moment = none_more c.durable_file_is_left.ensures (g.D.Disk.state c.args.disk.now)
        c.args.self.now first batches c.args.batch.now h c.requires.usable.apart
        (g.D.Disk.past c.args.disk.now);
  };
  lines = refl;
  room = search rules;
  counts = refuses c.from_residual.result _ _ c.from_residual.ensures.1 (refl, tt);
  calls = search rules;
}

-- the log works and the record fits, so it reports external errors alone
pub returns-in_err-append : goal.returns-in_err-append
returns-in_err-append g c =
    let self = c.args.self.now in
    let batch = c.args.batch.now in
    let spelled = c.deref.ensures.value ∙ c.in_ok-spell_record.ensures.0 in
    let one : c.deref.result.now ≡ batch_record (next_number self) batch =
    spelled ∙ ap (λ n. batch_record n batch) (c.get.ensures.same ∙ c.requires.next) in
    let fits = spelled_fits c.deref.result.now c.get.result batch spelled
    c.in_ok-spell_record.ensures.1 in
    record {
      kept = search rules;
      appended = λ first batches honest h.
          let records = records_from (first + length h.before) h.here in
          record {
            list = refuses c.from_residual-in_err-append.result _
                (IsEnvironmental engine.Disk engine.Memory)
                c.from_residual-in_err-append.ensures.1
                (met 16777216 c.in_err-append.field-0.0 self.newest.log c.append.new.self
                c.deref.result.now c.in_err-append.ensures.told.1 fits c.requires.usable.newest
                (c.in_err-append.ensures.appended records honest h.newest.log));
            any_moment = crashed_more (g.D.Disk.state c.args.disk.now) self first batches h batch
                c.deref.result.now one c.durable_file_is_left.ensures c.requires.usable.apart
                (g.D.Disk.state c.append.new.disk) (g.D.Disk.past c.args.disk.now)
                (g.D.Disk.past c.append.new.disk)
                (c.append.ensures.any_moment records honest h.newest.log);
          };
      lines = search rules;
      room = search rules;
      counts =
          let same = none_counted 16777216 c.in_err-append.field-0.0 self.newest.log
          c.append.new.self c.deref.result.now c.in_err-append.ensures.told.1 in
          refuses c.from_residual-in_err-append.result _ _ c.from_residual-in_err-append.ensures.1
          (ap (λ n. self.newest.first + n) same, log_ends c.in_err-append.field-0.0);
      calls = search rules;
    }

-- the record is in the newest log
pub returns : goal.returns
returns g c =
    let self = c.args.self.now in
    let batch = c.args.batch.now in
    let one : c.deref.result.now ≡ batch_record (next_number self) batch =
    c.deref.ensures.value ∙ c.in_ok-spell_record.ensures.0
    ∙ ap (λ n. batch_record n batch) (c.get.ensures.same ∙ c.requires.next) in
    let told = c.in_ok-append.ensures.told in
    record {
      kept = search rules;
      appended = λ first batches honest h.
          let records = records_from (first + length h.before) h.here in
          record {
            list = held_more (g.D.Disk.state c.args.disk.now) self first batches h batch
                c.deref.result.now one (g.D.Disk.state c.append.new.disk)
                (record { first = self.newest.first; log = c.append.new.self })
                (record {
                  older = self.older;
                  newest = record { first = self.newest.first; log = c.append.new.self };
                  spelled = c.clear.new.self;
                })
                refl refl (c.append.ensures.kept.files honest) c.requires.usable.apart refl
                told.0.start (c.in_ok-append.ensures.appended records honest h.newest.log);
            any_moment = crashed_more (g.D.Disk.state c.args.disk.now) self first batches h batch
                c.deref.result.now one c.durable_file_is_left.ensures c.requires.usable.apart
                (g.D.Disk.state c.append.new.disk) (g.D.Disk.past c.args.disk.now)
                (g.D.Disk.past c.append.new.disk)
                (c.append.ensures.any_moment records honest h.newest.log);
          };
      lines = search rules;
      room = search rules;
      counts = search rules;
      calls = search rules;
    }
