use Rattle.std.proofs.Common.{◌<◌, ◌≤◌, ◌∷◌, [], length, length-append, ap, arith}
use Rattle.batch_logs.specs.BatchLogs.{oldest_first, end_of_log}
use Rattle.batch_logs.proofs.JoinedLogs.{still_among, walk_back}
use Rattle.batch_logs.proofs.batch_logs.+log_with.Goals as goal

-- the number is that of a batch before the newest log, so the one before it has it, or an older one
pub log_with-requires : goal.log_with-requires
log_with-requires n c =
    let is = c.in-Some.ensures.cases.0 in
    let rest = c.in-Some.rest.now in
    let last = c.in-Some.last.now in
    let back = walk_back c.args.older.now rest last c.args.newest.now is c.requires.joined in
    let shorter : length rest < n = omega (
      arith,
      ap length is,
      length-append rest (last ∷ []),
      c.decreases,
    ) in
    let from : oldest_first rest last ≤ c.args.number = omega (arith, back.0, c.requires.there.0) in
    let to : c.args.number < end_of_log last = omega (arith, back.2, c.if-number-newest.true) in
    (shorter, (back.1, (from, to)))

pub returns-in-Some : goal.returns-in-Some
returns-in-Some n c = record {
  among = still_among c.args.older.now c.in-Some.rest.now c.in-Some.last.now c.args.newest.now
      c.log_with.result.now c.in-Some.ensures.cases.0 c.log_with.ensures.among;
  has = c.log_with.ensures.has;
}
