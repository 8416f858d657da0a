-- Causes for which a node stops, by the causes of its engine.
use Rattle.std.proofs.Common.{◌≡◌, ◌↔◌, ℕ, ◌<◌, ◌≤◌, inl}
use Rattle.disk.specs.{IsEnvironmental}
use Rattle.std.proofs.Common.{inr}
use Rattle.std.proofs.Common.{arith, refl, sym, ap, subst, true, ◌∙◌}
use Rattle.std.specs.Prelude.{◌⊎◌, IfErr, IsErrOf, Result, Ok, Err, IsErrAnd, MatchResult, OnOk}
use Rattle.std.specs.declared.alloc.AllocError.{AllocError}
use Rattle.engine.specs.{IsAppendRefusal, IsCloseAnswer, IsEnd, IsEndOrAfter, IsOpenAnswer}
use Rattle.engine.specs.{IsReadableAnswer, LookUps, MayOpen}
use Rattle.kv_types.specs.Snapshots.{is_open}
use Rattle.std.proofs.lemmas.Bool.{true≢false}
use Rattle.engine.specs.EngineError.TheVariants as engine
use Rattle.kv_types.specs.declared.bounds.TheConstants.{MAX_NUMBER}
use Rattle.engine.specs.EngineError.{EngineError}
use Rattle.node.specs.declared.stop.Stop.{Stop}
use Rattle.node.specs.declared.stop.Stop.TheVariants as stop
use Rattle.node.specs.Stops.{EndsCreated, engine_stop}

-- a property of every result holds of an answer
pub on_ok : {T E P : Type 0} (result : Result T E) → P → OnOk result P
on_ok (Ok x) p = p
on_ok (Err e) p = tt

-- an answer is no failure of the device
pub done_told : {T : Type 0} {x : T} → IsErrOf (Ok x) stop.Disk → ⊥
done_told fails = cc

-- what was made is the answer, and want of memory a stop
abbrev pub StopsForMemory : {U : Type 0} → Result U AllocError → Result U Stop → Type 0
StopsForMemory made result =
    MatchResult made (λ x. result ≡ Ok x) (λ e. IsErrAnd result (λ s. s ≡ stop.Memory))

-- a call that stops for memory alone is no failure of the device
pub only_memory : {U : Type 0} (made : Result U AllocError) (result : Result U Stop) →
    StopsForMemory made result → IsErrOf result stop.Disk → ⊥
only_memory (Ok x) result stops fails = cc
only_memory (Err e) (Ok x) stops fails = absurd stops
only_memory (Err e) (Err s) stops fails = cc

-- nor is want of memory
pub memory_told : {U : Type 0} (result : Result U Stop) →
    IsErrAnd result (λ s. s ≡ stop.Memory) → IsErrOf result stop.Disk → ⊥
memory_told (Ok x) told fails = absurd told
memory_told (Err s) told fails = cc

-- a refusal of the engine is passed on
pub stop_passed : {T U : Type 0} (called : Result T EngineError) (e : EngineError)
    (result : Result U Stop) → called ≡ Err e → IsErrAnd result (λ s. s ≡ engine_stop e) →
    IsErrOf called engine.Disk ↔ IsErrOf result stop.Disk
stop_passed called e (Ok x) is told = absurd told
stop_passed called engine.Disk (Err s) is told = (λ f. ap (λ d. Err d) told, λ f. is)
stop_passed called engine.Damaged (Err s) is told = (λ f. cc, λ f. cc)
stop_passed called engine.Memory (Err s) is told = (λ f. cc, λ f. cc)
stop_passed called engine.NotCreated (Err s) is told = (λ f. cc, λ f. cc)
stop_passed called engine.Failed (Err s) is told = (λ f. cc, λ f. cc)
stop_passed called engine.TooOld (Err s) is told = (λ f. cc, λ f. cc)
stop_passed called engine.NotCommitted (Err s) is told = (λ f. cc, λ f. cc)
stop_passed called engine.NoSuchSnapshot (Err s) is told = (λ f. cc, λ f. cc)
stop_passed called engine.TooManySnapshots (Err s) is told = (λ f. cc, λ f. cc)
stop_passed called engine.Exhausted (Err s) is told = (λ f. cc, λ f. cc)
stop_passed called engine.OldFormat (Err s) is told = (λ f. cc, λ f. cc)

-- a stop is passed on
pub same_stop : {T U : Type 0} (called : Result T Stop) (e : Stop) (result : Result U Stop) →
    called ≡ Err e → IsErrAnd result (λ s. s ≡ e) →
    IsErrOf called stop.Disk ↔ IsErrOf result stop.Disk
same_stop called e (Ok x) is told = absurd told
same_stop called e (Err s) is told = (λ fails. cc, λ fails. cc)

-- the cause that is told of an engine's is the disk exactly where that is
pub device_told : (e : EngineError) (s : Stop) → s ≡ engine_stop e →
    (e ≡ engine.Disk) ↔ (s ≡ stop.Disk)
device_told engine.Disk s told = (λ f. told, λ f. refl)
device_told engine.Damaged s told = (λ f. cc, λ f. cc)
device_told engine.Memory s told = (λ f. cc, λ f. cc)
device_told engine.NotCreated s told = (λ f. cc, λ f. cc)
device_told engine.Failed s told = (λ f. cc, λ f. cc)
device_told engine.TooOld s told = (λ f. cc, λ f. cc)
device_told engine.NotCommitted s told = (λ f. cc, λ f. cc)
device_told engine.NoSuchSnapshot s told = (λ f. cc, λ f. cc)
device_told engine.TooManySnapshots s told = (λ f. cc, λ f. cc)
device_told engine.Exhausted s told = (λ f. cc, λ f. cc)
device_told engine.OldFormat s told = (λ f. cc, λ f. cc)

-- what holds of the cause holds of the refusal that tells it
pub refuses : {T E : Type 0} (result : Result T E) {e : E} (P : T → Type 0) (Q : E → Type 0) →
    IsErrAnd result (λ s. s ≡ e) → Q e → MatchResult result P Q
refuses (Ok x) P Q told q = absurd told
refuses (Err s) P Q told q = subst Q (sym told) q

-- an engine that answered works on
pub still_works : {ended was told : Type 0} → ended ↔ (was ⊎ told) → (was → ⊥) → ended → told
still_works iff works ended = elim
    (iff.0 ended) [ inl before ↦ absurd (works before) | inr now ↦ now ]

-- an external refusal of an engine is a cause of the environment
pub env_of : (e : EngineError) → IsEnvironmental engine.Disk engine.Memory e →
    IsEnvironmental stop.Disk stop.Memory (engine_stop e)
env_of e (inl is) = inl (ap engine_stop is)
env_of e (inr is) = inr (ap engine_stop is)

-- a read of a number that the engine can read is refused for such a cause alone
pub read_env : (T : Type 0) (told : LookUps) (at : ℕ) (e : EngineError) →
    IsReadableAnswer {T = T} told at (Err e) → (e ≡ engine.Damaged → ⊥) → (e ≡ engine.Failed → ⊥) →
    told.facts.floor ≤ at → at ≤ told.committed → IsEnvironmental engine.Disk engine.Memory e
read_env T told at engine.Disk tells whole works above known = inl refl
read_env T told at engine.Damaged tells whole works above known = absurd (whole refl)
read_env T told at engine.Memory tells whole works above known = inr refl
read_env T told at engine.NotCreated tells whole works above known = absurd tells
read_env T told at engine.Failed tells whole works above known = absurd (works refl)
read_env T told at engine.TooOld tells whole works above known =
    absurd (omega (arith, tells, above))
read_env T told at engine.NotCommitted tells whole works above known =
    absurd (omega (arith, tells, known))
read_env T told at engine.NoSuchSnapshot tells whole works above known = absurd tells
read_env T told at engine.TooManySnapshots tells whole works above known = absurd tells
read_env T told at engine.Exhausted tells whole works above known = absurd tells
read_env T told at engine.OldFormat tells whole works above known = absurd tells

-- a look-up of a mark is refused for such a cause alone
pub mark_env : (e : EngineError) → IsEndOrAfter e → (e ≡ engine.Damaged → ⊥) →
    (e ≡ engine.Failed → ⊥) → IsEnvironmental engine.Disk engine.Memory e
mark_env engine.Disk ends whole works = inl refl
mark_env engine.Damaged ends whole works = absurd (whole refl)
mark_env engine.Memory ends whole works = inr refl
mark_env _ (inl ends) whole works = absurd ends
mark_env _ (inr after) whole works = absurd (works after)

-- an opening of a snapshot that the engine may open is refused for want of memory alone
pub open_memory : (T : Type 0) (told : LookUps) (at : ℕ) (e : EngineError) →
    IsOpenAnswer {T = T} told at (Err e) → (e ≡ engine.Failed → ⊥) → MayOpen told at →
    e ≡ engine.Memory
open_memory T told at engine.Memory tells works may = refl
open_memory T told at engine.Failed tells works may = absurd (works refl)
open_memory T told at engine.TooOld tells works may = absurd (omega (arith, tells, may.0.0))
open_memory T told at engine.NotCommitted tells works may = absurd (omega (arith, tells, may.0.1))
open_memory T told at engine.TooManySnapshots tells works may =
    absurd (omega (arith, tells.1, may.1))
open_memory T told at _ tells works may = absurd tells

-- a closing of an open snapshot is not refused
pub close_refuses : (T : Type 0) (told : LookUps) (number : ℕ) (e : EngineError) →
    IsCloseAnswer {T = T} told number (Err e) → (e ≡ engine.Failed → ⊥) →
    is_open number told.snapshots ≡ true → ⊥
close_refuses T told number e (inl none) works is = true≢false (sym is ∙ none.1)
close_refuses T told number e (inr ended) works is = works ended

-- an append is refused for such a cause, where a number is left
pub append_env : (e : EngineError) (count : ℕ) → IsEnvironmental engine.Disk engine.Memory e ⊎
    ((e ≡ engine.Exhausted)
    × (MAX_NUMBER ≤ count)) → count < MAX_NUMBER → IsEnvironmental engine.Disk engine.Memory e
append_env e count (inl external) room = external
append_env e count (inr full) room = absurd (omega (arith, full.1, room))

-- ---- causes of any disk

-- want of memory ends a created node
pub memory_ends : {U : Type 0} (result : Result U Stop) →
    IsErrAnd result (λ s. s ≡ stop.Memory) → IfErr result EndsCreated
memory_ends (Ok x) told = tt
memory_ends (Err s) told = (λ is. cc, λ is. cc)

-- so does a call that stops for memory alone
pub only_memory_ends : {U : Type 0} (made : Result U AllocError) (result : Result U Stop) →
    StopsForMemory made result → IfErr result EndsCreated
only_memory_ends made (Ok x) stops = tt
only_memory_ends (Ok x) (Err s) stops = (λ is. cc, λ is. cc)
only_memory_ends (Err e) (Err s) stops = (λ is. cc, λ is. cc)

-- a cause that is passed on
pub passed_ends : {U : Type 0} (result : Result U Stop) {e : Stop} →
    IsErrAnd result (λ s. s ≡ e) → EndsCreated e → IfErr result EndsCreated
passed_ends (Ok x) told ends = tt
passed_ends (Err s) told ends = subst EndsCreated (sym told) ends

-- an engine's cause is told as `NotCreated` or `OldFormat` only where it is that
pub engine_ends : (e : EngineError) → (e ≡ engine.NotCreated → ⊥) → (e ≡ engine.OldFormat → ⊥) →
    EndsCreated (engine_stop e)
engine_ends engine.Disk created new = (λ is. cc, λ is. cc)
engine_ends engine.Damaged created new = (λ is. cc, λ is. cc)
engine_ends engine.Memory created new = (λ is. cc, λ is. cc)
engine_ends engine.NotCreated created new = absurd (created refl)
engine_ends engine.Failed created new = (λ is. cc, λ is. cc)
engine_ends engine.TooOld created new = (λ is. cc, λ is. cc)
engine_ends engine.NotCommitted created new = (λ is. cc, λ is. cc)
engine_ends engine.NoSuchSnapshot created new = (λ is. cc, λ is. cc)
engine_ends engine.TooManySnapshots created new = (λ is. cc, λ is. cc)
engine_ends engine.Exhausted created new = (λ is. cc, λ is. cc)
engine_ends engine.OldFormat created new = absurd (new refl)

-- the end of an engine is neither
pub end_ends : (e : EngineError) → IsEnd e → EndsCreated (engine_stop e)
end_ends e ends = engine_ends e (λ is. subst IsEnd is ends) (λ is. subst IsEnd is ends)

-- nor is a call behind one
pub later_ends : (e : EngineError) → IsEndOrAfter e → EndsCreated (engine_stop e)
later_ends e (inl ends) = end_ends e ends
later_ends e (inr after) = engine_ends e (λ is. cc) (λ is. cc)

-- nor is the refusal of an append
pub append_ends : (count : ℕ) (e : EngineError) → IsAppendRefusal count e →
    EndsCreated (engine_stop e)
append_ends count e (inl later) = later_ends e later
append_ends count e (inr full) =
    let exhausted = full.0 in
    engine_ends e (λ is. cc) (λ is. cc)

-- nor is that of a read
pub read_ends : (T : Type 0) (told : LookUps) (at : ℕ) (e : EngineError) →
    IsReadableAnswer {T = T} told at (Err e) → EndsCreated (engine_stop e)
read_ends T told at e answer =
    let at_error = λ (d : EngineError). IsReadableAnswer {T = T} told at (Err d) in
    engine_ends e (λ is. subst at_error is answer) (λ is. subst at_error is answer)
