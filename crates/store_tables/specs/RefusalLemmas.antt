-- What a refusal says of the call whose refusal it passes on.
use Rattle.std.proofs.Common.{◌≡◌, ◌↔◌, Result, Ok, Err, subst, sym}
use Rattle.std.specs.Prelude.{IfErr, IfOk, IsErrAnd, IsErrOf, MatchResult, OnOk}
use Rattle.store_tables.specs.declared.error.EngineError.{EngineError}
use Rattle.store_tables.specs.declared.error.EngineError.TheVariants as engine

-- a property of every result holds of an answer
pub on_ok : {T E P : Type 0} (result : Result T E) → P → OnOk result P
on_ok (Ok x) p = p
on_ok (Err e) p = tt

-- what holds of the cause holds of the refusal that tells it
pub refuses : {T E : Type 0} (result : Result T E) {e : E} (P : T → Type 0) (Q : E → Type 0) →
    IsErrAnd result (λ s. s ≡ e) → Q e → MatchResult result P Q
refuses (Ok x) P Q told q = absurd told
refuses (Err s) P Q told q = subst Q (sym told) q

-- what holds of the cause holds of the refusal, if there is one
pub if_refuses : {T E : Type 0} (result : Result T E) {e : E} (Q : E → Type 0) →
    IsErrAnd result (λ s. s ≡ e) → Q e → IfErr result Q
if_refuses (Ok x) Q told q = tt
if_refuses (Err s) Q told q = subst Q (sym told) q

-- a refusal has no answer
pub answers_nothing : {T E : Type 0} (result : Result T E) (P : E → Type 0) (Q : T → Type 0) →
    IsErrAnd result P → IfOk result Q
answers_nothing (Ok x) P Q told = absurd told
answers_nothing (Err s) P Q told = tt

-- a refusal is passed on
pub passed_on : {T U : Type 0} (called : Result T EngineError) (e : EngineError)
    (result : Result U EngineError) →
    called ≡ Err e → IsErrAnd result (λ s. s ≡ e) →
    IsErrOf called engine.Disk ↔ IsErrOf result engine.Disk
passed_on called e (Ok x) is told = absurd told
passed_on called e (Err s) is told = (λ f. cc, λ f. cc)

-- the cause of a refusal is that of the one that it passes on
pub passed_cause : {T U : Type 0} (result : Result U EngineError) {e cause : EngineError} →
    IsErrAnd result (λ s. s ≡ e) → IsErrOf result cause → IsErrOf {T = T} (Err e) cause
passed_cause (Ok x) told is = absurd told
passed_cause (Err s) told is = cc

-- a refusal for another cause is none
pub refused_otherwise : {T : Type 0} {e : EngineError} → (e ≡ engine.Disk → ⊥) →
    IsErrOf {T = T} (Err e) engine.Disk → ⊥
refused_otherwise {e = e} other fails =
    let is : e ≡ engine.Disk = cc in
    other is

-- want of memory is no failure of the device
pub lacks_memory : {U : Type 0} (result : Result U EngineError) →
    IsErrAnd result (λ s. s ≡ engine.Memory) → IsErrOf result engine.Disk → ⊥
lacks_memory (Ok x) told fails = absurd told
lacks_memory (Err s) told fails = cc

-- an answer is no failure of the device
pub done : {U : Type 0} {x : U} → IsErrOf (Ok x) engine.Disk → ⊥
done fails = cc
