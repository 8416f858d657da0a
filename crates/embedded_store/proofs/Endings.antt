-- What is left of an answer, where those refusals alone count that end a store.
use Rattle.std.proofs.Common.{◌≡◌, ap, inl, inr, refl, subst, sym, ℕ}
use Rattle.std.specs.Prelude.{Result, Ok, Err, IfErr, IsErrAnd, IsErrOf, MatchResult}
use Rattle.disk.specs.{IsEnvironmental, State}
use Rattle.disk.specs.declared.Disk.{Ghosts}
use Rattle.disk.specs.KeepingLemmas.{kept_as}
use Rattle.engine.specs.EngineError.{EngineError}
use Rattle.engine.specs.EngineError.TheVariants as engine
use Rattle.engine.specs.declared.Engine.{Engine}
use Rattle.engine.specs.{IsEndOrAfter, KeepsEngine, ReadsEngine}
use Rattle.embedded_store.specs.declared.error.OnceError.{OnceError}
use Rattle.embedded_store.specs.declared.error.OnceError.TheVariants.{Store}
use Rattle.embedded_store.specs.Once.{ending}
use Rattle.embedded_store.proofs.StoreReads.{IsWriteRefusal}

-- ---- what is left of it

-- a refusal that ends a store, or tells that it had ended
pub ending_end : (T : Type 0) (e : EngineError) → IsEndOrAfter e →
    ending {T = T} (Err (Store e)) ≡ Err e
ending_end T engine.Exhausted (inl end) = absurd end
ending_end T engine.Exhausted (inr failed) = cc
ending_end T _ end = refl

-- so of the answer that passes it on
pub ends_with : {T : Type 0} (result : Result T OnceError) (e : EngineError) →
    IsErrAnd result (λ s. s ≡ Store e) → IsEndOrAfter e → ending result ≡ Err e
ends_with (Ok x) e is end = absurd is
ends_with {T = T} (Err s) e is end =
    subst (λ (s : OnceError). ending {T = T} (Err s) ≡ Err e) (sym is) (ending_end T e end)

-- what a write answers, as the answer of one that is made once
abbrev pub as_once : Result ℕ EngineError → Result ℕ OnceError
as_once (Ok number) = Ok number
as_once (Err e) = Err (Store e)

-- an answer that passes it on is that
pub once_is : (wrote : Result ℕ EngineError) (result : Result ℕ OnceError) →
    MatchResult wrote (λ x. result ≡ Ok x) (λ e. IsErrAnd result (λ s. s ≡ Store e)) →
    result ≡ as_once wrote
once_is (Ok n) result is = is
once_is (Err e) (Ok n) is = absurd is
once_is (Err e) (Err s) is = ap (λ d. Err d) is

-- where this refuses a write, the device or memory has ended the store, or nothing has
abbrev EndsByDevice : EngineError → Type 0
EndsByDevice e = IfErr (ending {T = ℕ} (Err (Store e)))
    (IsEnvironmental engine.Disk engine.Memory)

-- a write is refused for these, or where no number is left, which ends nothing
pub refused_once : (count : ℕ) (wrote : Result ℕ EngineError) → IfErr wrote (IsWriteRefusal count) →
    IfErr (ending (as_once wrote)) (IsEnvironmental engine.Disk engine.Memory)
refused_once count (Ok n) why = tt
refused_once count (Err e) (inl (inl device)) = subst EndsByDevice (sym device) (inl refl)
refused_once count (Err e) (inl (inr memory)) = subst EndsByDevice (sym memory) (inr refl)
refused_once count (Err e) (inr none) = subst EndsByDevice (sym none.0) tt

-- so it is not refused for damage
pub unharmed : (answer : Result (Unit {0}) EngineError) →
    IfErr answer (IsEnvironmental engine.Disk engine.Memory) → IsErrOf answer engine.Damaged → ⊥
unharmed (Ok x) why damaged = cc
unharmed (Err e) (inl device) damaged = cc
unharmed (Err e) (inr memory) damaged = cc

-- ---- calls with such answers

module _ {D S T : Type 0} {g : Ghosts D} {old new : Engine D g} {cause : Type 0}
    {R : State → State → Type 0} where
  -- an engine is kept as much whatever is answered
  pub keeps_ok : {x : S} {y : T} → KeepsEngine g old new (Ok x) cause R →
      KeepsEngine {T = T} g old new (Ok y) cause R
  keeps_ok keeps = record {
    disk = kept_as g (λ fails. cc, λ fails. cc) (λ a b same. same) keeps.disk;
    closed = (λ fails. cc, λ ended. let fails = keeps.closed.1 ended in cc);
    ends = keeps.ends;
    refusal = λ none. absurd none;
  }

  -- also where no number was left
  pub keeps_full : {y : T} → KeepsEngine {T = S} g old new (Err engine.Exhausted) cause R →
      KeepsEngine {T = T} g old new (Ok y) cause R
  keeps_full keeps = record {
    disk = kept_as g (λ fails. cc, λ fails. cc) (λ a b same. same) keeps.disk;
    closed = (λ fails. cc, λ ended. let fails = keeps.closed.1 ended in cc);
    ends = keeps.ends;
    refusal = λ none. absurd none;
  }

  -- and whatever would be answered that is refused
  pub keeps_err : (e : EngineError) → KeepsEngine {T = S} g old new (Err e) cause R →
      KeepsEngine {T = T} g old new (Err e) cause R
  keeps_err e keeps = record {
    disk = kept_as g (λ fails. cc, λ fails. cc) (λ a b same. same) keeps.disk;
    closed = (λ fails. keeps.closed.0 (cc), λ ended. let fails = keeps.closed.1 ended in cc);
    ends = keeps.ends;
    refusal = keeps.refusal;
  }

module _ {D S T : Type 0} {g : Ghosts D} {old new : Engine D g} where
  -- so is an engine that is read
  pub reads_ok : {x : S} {y : T} → ReadsEngine g old new (Ok x) →
      ReadsEngine {T = T} g old new (Ok y)
  reads_ok reads = record {
    keeps = keeps_ok reads.keeps;
    told = reads.told;
    work = reads.work;
    kept = λ list. record {
      reads = (reads.kept list).reads;
      holds = (reads.kept list).holds;
      meant = (reads.kept list).meant;
    };
    still = reads.still;
  }

  -- and by a read that is refused
  pub reads_err : (e : EngineError) → ReadsEngine {T = S} g old new (Err e) →
      ReadsEngine {T = T} g old new (Err e)
  reads_err e reads = record {
    keeps = keeps_err e reads.keeps;
    told = reads.told;
    work = reads.work;
    kept = λ list. record {
      reads = λ r. tt;
      holds = λ h. tt;
      meant = λ m. tt;
    };
    still = reads.still;
  }
