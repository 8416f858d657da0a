use Rattle.std.proofs.Common.{◌+◌, ◌∷◌, [], ◌++◌, List, ap, map, refl, rules, sym, subst, ◌∙◌}
use Rattle.disk.specs.BesideLemmas.{at_start}
use Rattle.record_log.specs.{LogHolds}
use Rattle.batch_logs.specs.declared.batch_logs.BatchLog.{BatchLog}
use Rattle.batch_logs.specs.declared.batch_logs.BatchLogs.{BatchLogs}
use Rattle.batch_logs.specs.BatchLogs.{line_of}
use Rattle.batch_logs.proofs.Causes.{log_ends}
use Rattle.store_tables.specs.RefusalLemmas.{refuses}
use Rattle.batch_logs.proofs.BegunLogs.{AreBegun, begun, begun_holds, begun_lines, begun_number}
use Rattle.batch_logs.proofs.BegunLogs.{begun_usable}
use Rattle.batch_logs.proofs.batch_logs.BatchLogs.begin.Goals as goal

-- the newest log is behind the older ones, and the new one is the newest
begun_so : (g : _) (c : goal.After-push_reserved g) → AreBegun c.args.self.now
    (record c.args.self.now { older = c.push_reserved.new.self; newest = c.replace-last.new.dest })
    c.args.file
begun_so g c =
    let self = c.args.self.now in
    let new : BatchLog = record {
      first = self.newest.first + c.len.result;
      log = c.in_ok-log.log;
    } in
    begun self (record self { older = c.push_reserved.new.self; newest = c.replace-last.new.dest })
    c.args.file new c.replace-last.ensures.after
    (c.push_reserved.ensures.items
    ∙ ap (λ l. l ++ c.replace-last.result ∷ []) c.in_ok-reserve.ensures.items
    ∙ ap (λ (one : BatchLog). self.older.items ++ one ∷ []) c.replace-last.ensures.value)
    (ap (λ n. self.newest.first + n) c.len.ensures) c.in_ok-log.ensures.at
    c.in_ok-log.ensures.empty.1

-- the new log has none of the batches
pub returns : goal.returns
returns g c =
    let self = c.args.self.now in
    let after : BatchLogs =
    record self { older = c.push_reserved.new.self; newest = c.replace-last.new.dest } in
    let new = g.D.Disk.state c.create.new.disk in
    let b = begun_so g c in
    record {
      kept = search rules;
      begun = λ first batches honest ends h.
          begun_holds self after c.args.file b (g.D.Disk.state c.args.disk.now) new first
          batches h (c.create.ensures.kept.files honest) c.requires.new.0 c.requires.new.1
          (subst (λ (one : BatchLog). LogHolds new one.log []) (sym c.replace-last.ensures.after)
          (c.in_ok-log.ensures.created honest ends));
      told = (
        begun_usable self after c.args.file b c.requires.usable c.requires.new.0 c.requires.new.1,
        begun_number self after c.args.file b,
        begun_lines self after c.args.file b,
      );
      any_moment = search rules;
      calls = search rules;
    }

-- where it is refused, the logs are as they were, and no call of the disk was made
pub returns-in_err-reserve : goal.returns-in_err-reserve
returns-in_err-reserve g c =
    let newest = line_of c.args.self.now.newest in
    record {
      kept = search rules;
      begun = search rules;
      told = refuses c.from_residual.result _ _ c.from_residual.ensures.1 (
        refl,
        ap (λ (l : List BatchLog). map line_of l ++ newest ∷ []) c.reserve.ensures.items,
        tt,
      );
      any_moment = λ honest.
          at_start (λ left. Unit {0}) c.args.file (g.D.Disk.state c.args.disk.now)
          (g.D.Disk.past c.args.disk.now) (λ left now. tt);
      calls = search rules;
    }

pub returns-in_err-log : goal.returns-in_err-log
returns-in_err-log g c =
    let newest = line_of c.args.self.now.newest in
    record {
      kept = search rules;
      begun = search rules;
      told = refuses c.from_residual-in_err-log.result _ _ c.from_residual-in_err-log.ensures.1 (
        refl,
        ap (λ (l : List BatchLog). map line_of l ++ newest ∷ []) c.in_ok-reserve.ensures.items,
        log_ends c.in_err-log.field-0.0,
      );
      any_moment = search rules;
      calls = search rules;
    }
