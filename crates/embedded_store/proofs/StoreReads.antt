-- Reads at a number, or at the newest one.
use Rattle.std.proofs.Common.{◌≡◌, ℕ, ◌<◌, ◌≤◌, List, [], ◌∷◌, length, take, false, eqb}
use Rattle.std.proofs.Common.{Option, None, Some, ap, arith, inl, inr, refl, subst}
use Rattle.std.specs.Prelude.{◌⊎◌, Result, Ok, Err, IfErr}
use Rattle.std.specs.List.{All}
use Rattle.std.proofs.lemmas.Bool.Decides.{nat_tests}
use Rattle.std.proofs.lemmas.List.{take_all}
use Rattle.std.proofs.lemmas.List.Elements.{All-tail}
use Rattle.kv_types.specs.{BatchContent, IsBatch}
use Rattle.kv_types.specs.declared.bounds.TheConstants.{MAX_NUMBER}
use Rattle.disk.specs.declared.Disk.{Ghosts}
use Rattle.disk.specs.{IsEnvironmental}
use Rattle.kv_types.specs.Snapshots.{is_open}
use Rattle.engine.specs.EngineError.{EngineError}
use Rattle.engine.specs.EngineError.TheVariants as engine
use Rattle.engine.specs.{AreOrdered, IsReadable, IsReadableAnswer, LookUps, OfEachList}
use Rattle.engine.specs.{look_ups}
use Rattle.embedded_store.specs.declared.store.EmbeddedStore.{EmbeddedStore}
use Rattle.embedded_store.specs.Stores.{IsReadRefusal, ShowsBatches, first_batches, read_number}
use Rattle.embedded_store.specs.Stores.{store_engine}

-- ---- a list that is shown

module _ {D : Type 0} {g : Ghosts D} (store : EmbeddedStore D g) (list : List BatchContent) where
  -- the store counts its batches
  pub shown_count : ShowsBatches g store list → (look_ups (store_engine store)).count ≡ length list
  shown_count (inl holds) = holds.reads.count
  shown_count (inr was) = was.count

  -- each of them is lawful
  pub shown_each : ShowsBatches g store list → All IsBatch list
  shown_each (inl holds) = holds.reads.represents.each
  shown_each (inr was) = was.represents.represents.each

  -- what is said of each list is said of it
  pub shown_said : (IsSaid : List BatchContent → Type 0) →
      OfEachList g (store_engine store) IsSaid → ShowsBatches g store list → IsSaid list
  shown_said IsSaid each (inl holds) = each.reads list holds.reads
  shown_said IsSaid each (inr was) = each.meant list was

-- ---- numbers

-- the batches up to the number that is read
pub taken : (told : LookUps) (at : Option ℕ) (list : List BatchContent) →
    told.count ≡ length list → take (read_number told at) list ≡ first_batches at list
taken told None list is = take_all told.count list (omega (arith, is))
taken told (Some at) list is = refl

-- no snapshot is below the floor
pub none_below : (floor committed at : ℕ) (snapshots : List ℕ) →
    All (IsReadable floor committed) snapshots → at < floor → is_open at snapshots ≡ false
none_below floor committed at [] each low = refl
none_below floor committed at (first ∷ later) each low =
    let here : floor ≤ first = (each 0 first (omega arith)).0 in
    let apart : eqb at first ≡ false = grind (arith, nat_tests) in
    rw apart (none_below floor committed at later
    (All-tail (IsReadable floor committed) first later each) low)

-- why a read at a number is refused of an engine that works and has no damage
abbrev IsRefusal : LookUps → ℕ → EngineError → Type 0
IsRefusal told at e = IsEnvironmental engine.Disk engine.Memory e
    ⊎ ((e ≡ engine.TooOld) × (at < told.facts.floor))
    ⊎ ((e ≡ engine.NotCommitted) × (told.committed < at))

refused_at : (T : Type 0) (told : LookUps) (at : ℕ) (e : EngineError) →
    IsReadableAnswer {T = T} told at (Err e) → (e ≡ engine.Damaged → ⊥) → (e ≡ engine.Failed → ⊥) →
    IsRefusal told at e
refused_at T told at engine.Disk answer sound works = inl (inl refl)
refused_at T told at engine.Damaged answer sound works = absurd (sound refl)
refused_at T told at engine.Memory answer sound works = inl (inr refl)
refused_at T told at engine.Failed answer sound works = absurd (works refl)
refused_at T told at engine.TooOld answer sound works = inr (inl (refl, answer))
refused_at T told at engine.NotCommitted answer sound works = inr (inr (refl, answer))
refused_at T told at _ answer sound works = absurd answer

refused_as : (told : LookUps) (at : Option ℕ) (e : EngineError) → AreOrdered told →
    told.committed ≡ told.count → IsRefusal told (read_number told at) e → IsReadRefusal told at e
refused_as told None e ordered all (inl external) = external
refused_as told None e ordered all (inr (inl old)) =
    absurd (omega (arith, old.1, ordered.floor, all))
refused_as told None e ordered all (inr (inr late)) = absurd (omega (arith, late.1, all))
refused_as told (Some at) e ordered all (inl external) = inl external
refused_as told (Some at) e ordered all (inr (inl old)) =
    inr (inl (
      old.0,
      old.1,
      none_below told.facts.floor told.committed at told.snapshots
          ordered.snapshots.each old.1,
    ))
refused_as told (Some at) e ordered all (inr (inr late)) =
    inr (inr (late.0, omega (arith, late.1, all)))

-- why a read is refused
pub read_refused : {T : Type 0} (told : LookUps) (at : Option ℕ) (result : Result T EngineError) →
    AreOrdered told → told.committed ≡ told.count →
    IsReadableAnswer told (read_number told at) result → (result ≡ Err engine.Damaged → ⊥) →
    (result ≡ Err engine.Failed → ⊥) → IfErr result (IsReadRefusal told at)
read_refused told at (Ok x) ordered all answer sound works = tt
read_refused {T = T} told at (Err e) ordered all answer sound works =
    refused_as told at e ordered all (refused_at T told (read_number told at) e answer
    (λ is. sound (ap (λ d. Err d) is)) (λ is. works (ap (λ d. Err d) is)))

-- ---- a write

-- why a write is refused, of each list that is shown
abbrev pub IsWriteRefusal : ℕ → EngineError → Type 0
IsWriteRefusal count e = IsEnvironmental engine.Disk engine.Memory e
    ⊎ ((e ≡ engine.Exhausted) × (MAX_NUMBER ≤ count))

pub write_refused : {D : Type 0} {g : Ghosts D} (store : EmbeddedStore D g)
    (list : List BatchContent) (e : EngineError) →
    OfEachList g (store_engine store) (λ _. IsWriteRefusal (look_ups (store_engine store)).count e)
    → ShowsBatches g store list → IsWriteRefusal (length list) e
write_refused store list e each shown =
    subst (λ (n : ℕ). IsWriteRefusal n e) (shown_count store list shown)
    (shown_said store list (λ _. IsWriteRefusal (look_ups (store_engine store)).count e) each shown)
