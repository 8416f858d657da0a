use Rattle.std.proofs.Common.{◌≡◌, ◌<◌, Ok, arith, drop, refl, subst, suc}
use Rattle.store_files.specs.declared.store_files.StoreFiles.{StoreFiles}
use Rattle.store_files.specs.declared.tended.Tended.{Tended}
use Rattle.store_files.specs.declared.tended.Tended.TheVariants as tended
use Rattle.batch_logs.specs.BatchLogs.{newest_length}
use Rattle.store_files.specs.OpenFiles.{known_version, trimmed_count}
use Rattle.store_files.specs.Tending.{FlushIsDue, RewriteIsDue, IsFlushAnswer, IsRewriteAnswer}
use Rattle.store_files.specs.Tending.{IsTend as tend}
use Rattle.store_files.specs.Tending.{IsWorkAnswer as work}
use Rattle.store_files.proofs.Meant.{logs_are_held}
use Rattle.store_files.proofs.MeantTends.{manifest_holds}
use Rattle.store_files.proofs.TendKeeps.{did_so, nothing_done, tended_as}
use Rattle.store_files.proofs.store_files.StoreFiles.tend.Goals as goal

-- ---- what is due is done

pub returns-then-has_long_slot-clause-tends : goal.returns-then-has_long_slot-clause-tends
returns-then-has_long_slot-clause-tends g c =
    tended_as g.D.Disk (λ none. absurd none) (λ answer did. tend.WasRewrite did)
    c.args.disk.now c.shorten.new.disk c.args.self.now c.shorten.new.self c.shorten.result
    c.shorten.ensures.tends

pub returns-clause-tends : goal.returns-clause-tends
returns-clause-tends g c =
    let some = c.has_entries.ensures.0 c.if-not-has_entries.false in
    tended_as g.D.Disk (λ cause. cause) (λ answer did. tend.WasFlush some did)
    c.args.disk.now c.flush.new.disk c.args.self.now c.flush.new.self c.flush.result
    c.flush.ensures.tends

-- ---- or nothing is

pub returns-then-newest_length-limit-clause-tends :
    goal.returns-then-newest_length-limit-clause-tends
returns-then-newest_length-limit-clause-tends g c =
    nothing_done g.D.Disk c.durable_file_is_left.ensures c.held_versions_are_left.ensures.left
    c.args.disk.now c.args.self.now c.requires (Ok tended.Idle) (tend.WasRest refl refl)

pub returns-then-not-has_entries-clause-tends : goal.returns-then-not-has_entries-clause-tends
returns-then-not-has_entries-clause-tends g c =
    nothing_done g.D.Disk c.durable_file_is_left.ensures c.held_versions_are_left.ensures.left
    c.args.disk.now c.args.self.now c.requires (Ok tended.Idle) (tend.WasRest refl refl)

-- ---- what is due

pub returns-then-has_long_slot-clause-work : goal.returns-then-has_long_slot-clause-work
returns-then-has_long_slot-clause-work g c = λ list honest w.
    let files = c.args.self.now in
    let due : RewriteIsDue files =
    (c.has_long_slot.ensures.due (g.D.Disk.state c.args.disk.now) (known_version files)
    (manifest_holds (g.D.Disk.state c.args.disk.now) files list w
    c.held_versions_are_left.ensures.same)).0 c.if-has_long_slot.true in
    did_so _ (λ answer did. work.Rewrites due did) c.shorten.result c.shorten.ensures.tends.did

pub returns-then-newest_length-limit-clause-work : goal.returns-then-newest_length-limit-clause-work
returns-then-newest_length-limit-clause-work g c = λ list honest w.
    let disk = g.D.Disk.state c.args.disk.now in
    let files = c.args.self.now in
    let short : RewriteIsDue files → ⊥ = λ long.
    let yes_then = (c.has_long_slot.ensures.due disk (known_version files)
    (manifest_holds disk files list w c.held_versions_are_left.ensures.same)).1 long in
    let no = c.if-has_long_slot.false in cc in
    let is = c.newest_length.ensures disk (suc (trimmed_count files))
    (drop (trimmed_count files) list) (logs_are_held disk files list w) in
    let few = c.if-newest_length-limit.true in
    let rests : FlushIsDue c.args.limit files → ⊥ = λ due.
    let more = due.0 in omega (arith, is, few, more) in
    work.Rests short rests refl refl

pub returns-then-not-has_entries-clause-work : goal.returns-then-not-has_entries-clause-work
returns-then-not-has_entries-clause-work g c = λ list honest w.
    let disk = g.D.Disk.state c.args.disk.now in
    let files = c.args.self.now in
    let short : RewriteIsDue files → ⊥ = λ long.
    let yes_then = (c.has_long_slot.ensures.due disk (known_version files)
    (manifest_holds disk files list w c.held_versions_are_left.ensures.same)).1 long in
    let no = c.if-has_long_slot.false in cc in
    let rests : FlushIsDue c.args.limit files → ⊥ = λ due.
    let any = c.has_entries.ensures.1 due.1 in
    let none = c.if-not-has_entries.true in cc in
    work.Rests short rests refl refl

pub returns-clause-work : goal.returns-clause-work
returns-clause-work g c = λ list honest w.
    let disk = g.D.Disk.state c.args.disk.now in
    let files = c.args.self.now in
    let short : RewriteIsDue files → ⊥ = λ long.
    let yes_then = (c.has_long_slot.ensures.due disk (known_version files)
    (manifest_holds disk files list w c.held_versions_are_left.ensures.same)).1 long in
    let no = c.if-has_long_slot.false in cc in
    let is = c.newest_length.ensures disk (suc (trimmed_count files))
    (drop (trimmed_count files) list) (logs_are_held disk files list w) in
    let more = c.if-newest_length-limit.false in
    let long : c.args.limit < newest_length files.logs = omega (arith, is, more) in
    let some = c.has_entries.ensures.0 c.if-not-has_entries.false in
    did_so _ (λ answer did. work.Flushes short (long, some) did) c.flush.result
    c.flush.ensures.tends.did

-- ---- plans

pub returns-then-has_long_slot-clause-plans : goal.returns-then-has_long_slot-clause-plans
returns-then-has_long_slot-clause-plans g c = c.shorten.ensures.plans

pub returns-clause-plans : goal.returns-clause-plans
returns-clause-plans g c = c.flush.ensures.plans

pub returns-then-newest_length-limit-clause-plans :
    goal.returns-then-newest_length-limit-clause-plans
returns-then-newest_length-limit-clause-plans g c =
    record {
      free = omega arith;
      held = λ list plan honest it. it;
      meant = λ list plan honest it. it;
    }

pub returns-then-not-has_entries-clause-plans : goal.returns-then-not-has_entries-clause-plans
returns-then-not-has_entries-clause-plans g c =
    record {
      free = omega arith;
      held = λ list plan honest it. it;
      meant = λ list plan honest it. it;
    }

-- ---- where neither is due, nothing is done

-- a rewrite is no rest
no_rewrite : (old new : StoreFiles) (P : Type 0) (answer : Tended) →
    IsRewriteAnswer old new answer → answer ≡ tended.Idle → P
no_rewrite old new P answer did idle =
    absurd (subst (λ (a : Tended). IsRewriteAnswer old new a) idle did)

-- nor is a flush
no_flush : (old new : StoreFiles) (P : Type 0) (answer : Tended) →
    IsFlushAnswer old new answer → answer ≡ tended.Idle → P
no_flush old new P answer did idle =
    absurd (subst (λ (a : Tended). IsFlushAnswer old new a) idle did)

pub returns-then-has_long_slot-clause-rests : goal.returns-then-has_long_slot-clause-rests
returns-then-has_long_slot-clause-rests g c =
    did_so _ (no_rewrite c.args.self.now c.shorten.new.self _) c.shorten.result
    c.shorten.ensures.tends.did

pub returns-clause-rests : goal.returns-clause-rests
returns-clause-rests g c =
    did_so _ (no_flush c.args.self.now c.flush.new.self _) c.flush.result c.flush.ensures.tends.did
