-- What a call keeps of the disk: where nothing was done, where the refusal is reported anew, and
-- where one call follows another.
use Rattle.std.proofs.Common.{◌≡◌, ◌∙◌, ◌≤◌, Err, refl, ap, subst, ℕ, List, [], ◌∷◌}
use Rattle.std.proofs.Common.{inl, inr, length, length-append, arith}
use Rattle.std.specs.Prelude.{IsErrOf}
use Rattle.disk.specs.{EndsOutOfRange, IsSameBut, KeepsDisk, State}
use Rattle.disk.specs.BesideLemmas.{same_but_join}
use Rattle.disk.specs.Calls.{RisesByOne}
use Rattle.disk.specs.declared.Disk.{Ghosts}
use Rattle.disk.specs.declared.DiskError.{DiskError}
use Rattle.disk.specs.declared.DiskError.TheVariants as disk
use Rattle.record_log.specs.Error.{log_error}
use Rattle.record_log.specs.declared.LogError.{LogError}
use Rattle.record_log.specs.declared.LogError.TheVariants as log
use Rattle.record_log.specs.declared.log.TheConstants.{MAX_RECORD}
use Rattle.manifest.specs.declared.error.ManifestError.TheVariants as manifest
use Rattle.manifest.specs.Holds.{SparesOthers, closed_slot, slot_behind}
use Rattle.manifest.specs.Errors.{error_by_log}

-- ---- reports

-- the refusals of a log that a manifest reports as the device's
pub log_fails : {T U : Type 0} (e : LogError) → IsErrOf {T = T} (Err (error_by_log e)) manifest.Disk
    → IsErrOf {T = U} (Err e) (log.Disk disk.Failed)
log_fails (log.Disk disk.Failed) f = refl
log_fails (log.Disk disk.NoFile) f = absurd cc
log_fails (log.Disk disk.Short) f = absurd cc
log_fails (log.Disk disk.Memory) f = absurd cc
log_fails log.Memory f = absurd cc
log_fails log.TooLong f = absurd cc
log_fails log.Failed f = absurd cc

pub fails_log : {T U : Type 0} (e : LogError) → IsErrOf {T = U} (Err e) (log.Disk disk.Failed)
    → IsErrOf {T = T} (Err (error_by_log e)) manifest.Disk
fails_log e f = let is : e ≡ log.Disk disk.Failed = cc in ap (λ x. Err (error_by_log x)) is

pub log_again : {T U : Type 0} (e : LogError) → IsErrOf {T = T} (Err e) (log.Disk disk.Failed)
    → IsErrOf {T = U} (Err e) (log.Disk disk.Failed)
log_again e f = let is : e ≡ log.Disk disk.Failed = cc in ap Err is

-- the refusals of a disk that a log reports as the device's
pub disk_fails : {T U : Type 0} (e : DiskError) →
    IsErrOf {T = T} (Err (log_error e)) (log.Disk disk.Failed)
    → IsErrOf {T = U} (Err e) disk.Failed
disk_fails disk.Failed f = refl
disk_fails disk.NoFile f = absurd cc
disk_fails disk.Short f = absurd cc
disk_fails disk.Memory f = absurd cc

pub fails_disk : {T U : Type 0} (e : DiskError) → IsErrOf {T = U} (Err e) disk.Failed
    → IsErrOf {T = T} (Err (log_error e)) (log.Disk disk.Failed)
fails_disk e f = let is : e ≡ disk.Failed = cc in ap (λ x. Err (log_error x)) is

-- ---- slots

-- a call on the second slot, and one on the first
pub slots_alone : (a b c : State) → IsSameBut 2 a b → IsSameBut 1 b c → SparesOthers a c
slots_alone a b c second first other apart =
    first other (λ is. apart (inl is)) ∙ second other (λ is. apart (inr is))

-- a slot with one record is no longer than a file may be
pub closed_fits : (generation id : ℕ) (one bytes : List ℕ) → length one ≤ MAX_RECORD
    → bytes ≡ closed_slot generation id one → EndsOutOfRange 0 (length bytes) → ⊥
closed_fits generation id one bytes short is over =
    omega (arith, short, over, ap length is, length-append one (0 ∷ []))

pub behind_fits : (generation id : ℕ) (one bytes : List ℕ) → length one ≤ MAX_RECORD
    → bytes ≡ slot_behind generation id one → EndsOutOfRange 1 (length bytes) → ⊥
behind_fits generation id one bytes short is over =
    omega (arith, short, over, ap length is, length-append one (0 ∷ []))

-- ---- calls

module _ {D : Type 0} (g : Ghosts D) where
  -- no call was made
  pub kept_still : (disk : D) (has_failed cause : Type 0) (IsKept : State → State → Type 0)
      → (has_failed → ⊥) → ((state : State) → IsKept state state)
      → KeepsDisk g disk disk has_failed cause IsKept
  kept_still disk has_failed cause IsKept works same = record {
    honest = (λ h. h, λ h. h);
    failed = λ f. absurd (works f);
    count = λ w. refl;
    only = λ r s f. absurd (works f);
    reliable = λ r w. r;
    files = λ h. same (g.state disk);
    fault = refl;
    spared = λ s w. s;
  }

  -- the same call, reported otherwise, and of which less is said
  pub kept_as : (old new : D) (failed told cause why : Type 0)
      (IsKept Kept : State → State → Type 0) → (told → failed) → (failed → told)
      → (cause → why) → ((a b : State) → IsKept a b → Kept a b)
      → KeepsDisk g old new failed cause IsKept → KeepsDisk g old new told why Kept
  kept_as old new failed told cause why IsKept Kept back on so wider k = record {
    honest = k.honest;
    failed = λ f. k.failed (back f);
    count = λ w. k.count (λ f. w (on f));
    only = λ r s f. so (k.only r s (back f));
    reliable = λ r w. k.reliable r (λ f. w (on f));
    files = λ h. wider (g.state old) (g.state new) (k.files h);
    fault = k.fault;
    spared = λ s w. k.spared s (λ f. w (on f));
  }

  -- a call behind one that has not failed
  pub kept_then : (old mid new : D) (failed cause told why : Type 0)
      (First Second Both : State → State → Type 0) → (failed → ⊥)
      → ((a b c : State) → First a b → Second b c → Both a c)
      → KeepsDisk g old mid failed cause First → KeepsDisk g mid new told why Second
      → KeepsDisk g old new told why Both
  kept_then old mid new failed cause told why First Second Both works join a b = record {
    honest = (λ h. a.honest.0 (b.honest.0 h), λ h. b.honest.1 (a.honest.1 h));
    failed = λ f. subst (λ (n : ℕ). RisesByOne n (g.failures new)) (a.count works) (b.failed f);
    count = λ w. b.count w ∙ a.count works;
    only = λ r s f. b.only (a.reliable r works) s f;
    reliable = λ r w. b.reliable (a.reliable r works) w;
    files = λ h. join (g.state old) (g.state mid) (g.state new) (a.files h)
        (b.files (a.honest.1 h));
    fault = b.fault ∙ a.fault;
    spared = λ s w. b.spared (a.spared s works) w;
  }

  -- a call on a file, and others on it
  pub kept_before : (file : ℕ) (old mid new : D) (failed cause told why : Type 0)
      → KeepsDisk g old mid failed cause (IsSameBut file) → (failed → ⊥)
      → KeepsDisk g mid new told why (IsSameBut file)
      → KeepsDisk g old new told why (IsSameBut file)
  kept_before file old mid new failed cause told why a works b =
      kept_then old mid new failed cause told why (IsSameBut file) (IsSameBut file)
      (IsSameBut file) works (λ x y z first next. same_but_join file x y z first next) a b

  -- the last of them, whose cause is told otherwise
  pub kept_last : (file : ℕ) (old new : D) (failed cause why : Type 0)
      → KeepsDisk g old new failed cause (IsSameBut file) → (cause → why)
      → KeepsDisk g old new failed why (IsSameBut file)
  kept_last file old new failed cause why k so =
      kept_as old new failed failed cause why (IsSameBut file) (IsSameBut file) (λ f. f) (λ f. f) so
      (λ a b same. same) k
