use Rattle.std.proofs.Common.{arith}
use Rattle.std.proofs.lemmas.Grind.{common_steps}
use Rattle.std.proofs.Common.{◌≡◌, ◌∙◌, Ok, ap, refl, subst}
use Rattle.std.specs.Prelude.{IfOk}
use Rattle.disk.specs.{IsEnvironmental}
use Rattle.disk.specs.declared.Disk.{Ghosts}
use Rattle.store_tables.specs.declared.error.EngineError.TheVariants as error
use Rattle.store_files.specs.declared.store_files.StoreFiles.{StoreFiles}
use Rattle.store_files.specs.declared.tended.Tended.TheVariants as tended
use Rattle.store_files.specs.contracts.tended.TendedPartialEq.TheImpl as compared
use Rattle.table_files.specs.declared.cached_disk.CachedDisk.{CachedDisk}
use Rattle.engine.specs.Tends.{KeepsTended, MergesByPlan, tended_store}
use Rattle.engine.proofs.Parts.{part_answers, part_refused}
use Rattle.store_tables.specs.RefusalLemmas.{if_refuses}
use Rattle.engine.proofs.Results.{damage_apart}
use Rattle.engine.proofs.StoreTends.{behind_rest, merge_did, merge_refused, part_of_tend}
use Rattle.engine.proofs.StoreTends.{not_idle, only_idle, store_did}
use Rattle.engine.proofs.tending.tend_store.Goals as goal

-- ---- it is refused

pub returns-in_err-done-clause-kept : goal.returns-in_err-done-clause-kept
returns-in_err-done-clause-kept g c =
    part_refused g.D.Disk c.args.files.now c.tend.new.disk c.args.store.now c.tend.new.self
    c.tend.result c.in_err-done.field-0.0 c.from_residual.result c.in_err-done.was
    c.from_residual.ensures.1
    (part_of_tend g.D.Disk c.merges_outlive_calls.ensures c.merges_stay_beside.ensures
    c.open_files_are_apart.ensures c.args.limits.now c.args.floor c.args.merge.now
    c.args.turn.now c.args.files.now c.tend.new.disk c.args.store.now c.tend.new.self
    c.tend.result c.tend.ensures.tends c.tend.ensures.plans)

-- ---- a rewrite or a flush was due

pub returns-then-ne-clause-kept : goal.returns-then-ne-clause-kept
returns-then-ne-clause-kept g c =
    part_answers g.D.Disk c.args.files.now c.tend.new.disk c.args.store.now c.tend.new.self
    c.tend.result c.in_ok-done.done c.in_ok-done.done c.in_ok-done.was
    (part_of_tend g.D.Disk c.merges_outlive_calls.ensures c.merges_stay_beside.ensures
    c.open_files_are_apart.ensures c.args.limits.now c.args.floor c.args.merge.now
    c.args.turn.now c.args.files.now c.tend.new.disk c.args.store.now c.tend.new.self
    c.tend.result c.tend.ensures.tends c.tend.ensures.plans) (λ list h. h) (λ list m. m)

pub returns-then-ne-clause-did : goal.returns-then-ne-clause-did
returns-then-ne-clause-did g c =
    let some = not_idle compared.ghosts.eq refl c.in_ok-done.done c.ne.result c.ne.ensures
    c.if-ne.true in
    store_did g.D.Disk c.args.limits.now c.args.floor c.args.files.now c.tend.new.disk
    c.args.store.now c.tend.new.self c.args.merge.now c.args.turn.now c.tend.result
    c.in_ok-done.done c.in_ok-done.was some c.tend.ensures.tends.did c.tend.ensures.work

-- ---- a merge is next

-- nothing was done before it
abbrev Rests : {D : Type 0} {g : Ghosts D} → (a b : CachedDisk D g) → (old new : StoreFiles)
    → Type 0
Rests a b old new = (b ≡ a) × (new ≡ old)

pub returns-clause-kept : goal.returns-clause-kept
returns-clause-kept g c =
    let idle = only_idle compared.ghosts.eq refl refl c.in_ok-done.done c.ne.result c.ne.ensures
    c.if-ne.false in
    let rests = subst (λ r. IfOk r (λ d. d ≡ tended.Idle →
    Rests c.args.files.now c.tend.new.disk c.args.store.now c.tend.new.self)) c.in_ok-done.was
    c.tend.ensures.rests idle in
    let later = tended_store c.tend_merge.new.store c.tend_merge.new.merge c.tend_merge.new.turn in
    behind_rest c.args.files.now c.tend.new.disk c.args.store.now c.tend.new.self
    (λ f s. KeepsTended g.D.Disk c.args.limits.now c.args.floor f c.tend_merge.new.files
    (tended_store s c.args.merge.now c.args.turn.now) later c.tend_merge.result) rests
    c.tend_merge.ensures.kept

pub returns-clause-did : goal.returns-clause-did
returns-clause-did g c =
    let idle = only_idle compared.ghosts.eq refl refl c.in_ok-done.done c.ne.result c.ne.ensures
    c.if-ne.false in
    let rests = subst (λ r. IfOk r (λ d. d ≡ tended.Idle →
    Rests c.args.files.now c.tend.new.disk c.args.store.now c.tend.new.self)) c.in_ok-done.was
    c.tend.ensures.rests idle in
    let later = tended_store c.tend_merge.new.store c.tend_merge.new.merge c.tend_merge.new.turn in
    merge_did g.D.Disk c.args.limits.now c.args.floor c.args.files.now c.tend.new.disk
    c.args.store.now c.tend.new.self c.args.merge.now c.args.turn.now c.tend_merge.new.files later
    c.tend.result (c.in_ok-done.was ∙ ap (λ d. Ok d) idle) c.tend.ensures.work c.tend_merge.result
    (behind_rest c.args.files.now c.tend.new.disk c.args.store.now c.tend.new.self
    (λ f s. IfOk c.tend_merge.result (MergesByPlan g.D.Disk c.args.limits.now c.args.floor f
    c.tend_merge.new.files (tended_store s c.args.merge.now c.args.turn.now) later)) rests
    c.tend_merge.ensures.did)

-- ---- why it is refused

pub returns-in_err-done-clause-refused : goal.returns-in_err-done-clause-refused
returns-in_err-done-clause-refused g c = λ list honest w.
    damage_apart c.from_residual.result (if_refuses c.from_residual.result
    (IsEnvironmental error.Disk error.Memory) c.from_residual.ensures.1
    (c.in_err-done.ensures.tends.meant list honest w).list)

pub returns-clause-refused : goal.returns-clause-refused
returns-clause-refused g c =
    let idle = only_idle compared.ghosts.eq refl refl c.in_ok-done.done c.ne.result c.ne.ensures
    c.if-ne.false in
    λ list honest w damaged. merge_refused g.D.Disk c.args.limits.now c.args.floor c.args.files.now
    c.tend.new.disk c.args.store.now c.tend.new.self c.args.merge.now c.args.turn.now c.tend.result
    (c.in_ok-done.was ∙ ap (λ d. Ok d) idle) (c.tend.ensures.work list honest w)

-- ---- what was at rest

pub returns-then-ne-clause-rests : goal.returns-then-ne-clause-rests
returns-then-ne-clause-rests g c = λ idle.
    absurd (not_idle compared.ghosts.eq refl c.in_ok-done.done c.ne.result c.ne.ensures c.if-ne.true
    idle)

pub returns-clause-rests : goal.returns-clause-rests
returns-clause-rests g c =
    let idle = only_idle compared.ghosts.eq refl refl c.in_ok-done.done c.ne.result c.ne.ensures
    c.if-ne.false in
    let rests = subst (λ r. IfOk r (λ d. d ≡ tended.Idle →
    Rests c.args.files.now c.tend.new.disk c.args.store.now c.tend.new.self)) c.in_ok-done.was
    c.tend.ensures.rests idle in
    subst (λ f. IfOk c.tend_merge.result (λ d. d ≡ tended.Idle → c.tend_merge.new.files ≡ f))
    rests.0 c.tend_merge.ensures.rests

pub returns-in_err-done-clause-did : goal.returns-in_err-done-clause-did
returns-in_err-done-clause-did g c = grind (arith, common_steps)

pub returns-in_err-done-clause-rests : goal.returns-in_err-done-clause-rests
returns-in_err-done-clause-rests g c = grind (arith, common_steps)

pub returns-then-ne-clause-refused : goal.returns-then-ne-clause-refused
returns-then-ne-clause-refused g c = grind (arith, common_steps)
