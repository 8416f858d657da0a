-- Steps of a merge, one behind another.
use Rattle.std.proofs.Common.{◌≡◌, ◌+◌, ℕ, List, length, Result, Ok, Err, refl, sym, ap, subst, ◌∙◌}
use Rattle.std.proofs.Common.{◌⊎◌, ◌≤◌, arith, inl, inr}
use Rattle.std.specs.Prelude.{IsErrAnd, MatchResult, OnOk}
use Rattle.disk.specs.declared.Disk.{Ghosts}
use Rattle.kv_types.specs.{Entry}
use Rattle.merge_iter.specs.{IsOn}
use Rattle.merge_iter.specs.declared.Cursor.{Ghosts as CursorGhosts}
use Rattle.store_model.specs.{LevelTable}
use Rattle.compaction.specs.declared.error.MergeError.{MergeError}
use Rattle.compaction.specs.declared.writer.OutputWriter.{OutputWriter}
use Rattle.compaction.specs.Outputs.{IsOwnFile}
use Rattle.compaction.specs.Walks.{AdvancesWalk, IsIntactOn, IsWalking, MeetsMore, StepRefusal}
use Rattle.compaction.specs.Walks.{table_files}
use Rattle.compaction.proofs.Calls.{done, writes_behind, writes_nothing, writes_wider}
use Rattle.compaction.proofs.Steps.{refusal_same, rules_through}
use Rattle.compaction.proofs.Walks.{walk_done}
use Rattle.compaction.proofs.Writing.{uses_none, uses_then}

-- a refusal that is passed on is the same
pub same_refusal : (called : Result (Unit {0}) MergeError) (e : MergeError)
    (result : Result (Unit {0}) MergeError) → called ≡ Err e → IsErrAnd result (λ s. s ≡ e)
    → called ≡ result
same_refusal called e (Ok x) is told = absurd told
same_refusal called e (Err s) is told = is ∙ ap Err (sym told)

-- a refusal has no answer
pub answers_nothing : {T E : Type 0} (P : E → Type 0) (Q : Type 0) (result : Result T E)
    → IsErrAnd result P → OnOk result Q
answers_nothing P Q (Ok x) told = absurd told
answers_nothing P Q (Err e) told = tt

-- how many entries a step met
step_count : (was now steps count : ℕ) (off : Type 0) → now ≡ was + steps
    → (steps ≡ count) ⊎ off → (now ≡ was + count) ⊎ off
step_count was now steps count off met (inl is) = inl (omega (arith, met, is))
step_count was now steps count off met (inr end) = inr end

-- it met so many more, or all
pub step_meets : {U F : Type 0} (u : CursorGhosts U F) (d : Ghosts F) (meant : u.Meant)
    (inputs : List LevelTable) (files : F) (next_file : ℕ) (union : U) (writer : OutputWriter)
    (was : List Entry) (w : IsWalking u d meant files next_file union writer inputs)
    (steps count : ℕ) → steps ≤ count → length w.met ≡ length was + steps
    → (steps ≡ count) ⊎ (IsOn (u.position union) → ⊥)
    → MeetsMore inputs was w.met count (IsOn (u.position union))
step_meets u d meant inputs files next_file union writer was w steps count le met all = record {
  most = omega (arith, le, met);
  all = step_count (length was) (length w.met) steps count (IsOn (u.position union) → ⊥) met all;
  union = walk_done u d meant inputs files next_file union writer w;
}

-- what was refused within few entries was refused within more
pub refusal_few : (intact : Type 0) (tables next_file before few most : ℕ) (writer : OutputWriter)
    (inputs : List LevelTable) → few ≤ most → (e : MergeError)
    → StepRefusal intact tables next_file before few writer inputs e
    → StepRefusal intact tables next_file before most writer inputs e
refusal_few intact tables next_file before few most writer inputs le e (inl external) =
    inl external
refusal_few intact tables next_file before few most writer inputs le e (inr (inl damaged)) =
    inr (inl damaged)
refusal_few intact tables next_file before few most writer inputs le e (inr (inr full)) =
    let within = full.1.within in
    inr (inr (
      full.0,
      record {
        met = full.1.met;
        entry = full.1.entry;
        walked = full.1.walked;
        rising = full.1.rising;
        behind = full.1.behind;
        within = omega (arith, within, le);
        full = full.1.full;
      },
    ))

module _ {U F : Type 0} (u : CursorGhosts U F) (d : Ghosts F) (tables : ℕ) where
  -- steps with the same answer
  pub advances_as : {steps : ℕ} {a b : F} {n m : ℕ} {x y : U} {w v : OutputWriter}
      (called result : Result (Unit {0}) MergeError) → called ≡ result
      → AdvancesWalk u d tables steps a n x w b m y v called
      → AdvancesWalk u d tables steps a n x w b m y v result
  advances_as {steps = steps} {a = a} {b = b} {n = n} {m = m} {x = x} {y = y} {w = w} {v = v}
      called result is it =
      subst (λ r. AdvancesWalk u d tables steps a n x w b m y v r) is it

  -- the same number of steps, written otherwise
  pub advances_steps : (steps some : ℕ) → steps ≡ some → {a b : F} {n m : ℕ} {x y : U}
      {w v : OutputWriter} {result : Result (Unit {0}) MergeError}
      → AdvancesWalk u d tables steps a n x w b m y v result
      → AdvancesWalk u d tables some a n x w b m y v result
  advances_steps steps some is {a = a} {b = b} {n = n} {m = m} {x = x} {y = y} {w = w} {v = v}
      {result = result} it = subst (λ s. AdvancesWalk u d tables s a n x w b m y v result) is it

  -- no step
  pub advances_none : (files : F) (next : ℕ) (union : U) (writer : OutputWriter)
      → AdvancesWalk u d tables 0 files next union writer files next union writer (Ok tt)
  advances_none files next union writer = record {
    writes = writes_nothing d (IsOwnFile writer next) files done;
    rules = record { floor = refl; target = refl; level = refl; deeper = refl };
    numbers = uses_none writer writer next (λ file is. is) (λ file output. output);
    unused = λ meant inputs w. w.unused;
    walks = λ meant inputs w. (w, omega arith, λ intact. intact);
  }

  module _ (a : F) (n : ℕ) (x : U) (w : OutputWriter) (b : F) (m : ℕ) (y : U) (v : OutputWriter)
      (c : F) (p : ℕ) (z : U) (q : OutputWriter)
      (some more : ℕ) (first : AdvancesWalk u d tables some a n x w b m y v (Ok tt)) where
    walks_then : (meant : u.Meant) (inputs : List LevelTable)
        (was : IsWalking u d meant a n x w inputs) (result : Result (Unit {0}) MergeError)
        → MatchResult result
        (λ _. (now : IsWalking u d meant c p z q inputs)
        × (length now.met ≡ length (first.walks meant inputs was).0.met + more)
        × (IsIntactOn u d (table_files inputs) y b → IsIntactOn u d (table_files inputs) z c))
        (StepRefusal (IsIntactOn u d (table_files inputs) y b) tables p
        (length (first.walks meant inputs was).0.met) more v inputs)
        → MatchResult result
        (λ _. (now : IsWalking u d meant c p z q inputs)
        × (length now.met ≡ length was.met + (some + more))
        × (IsIntactOn u d (table_files inputs) x a → IsIntactOn u d (table_files inputs) z c))
        (StepRefusal (IsIntactOn u d (table_files inputs) x a) tables p (length was.met)
        (some + more) w inputs)
    walks_then meant inputs was (Ok it) then =
        let before = first.walks meant inputs was in
        let low = before.1 in
        let high = then.1 in
        (then.0, omega (arith, low, high), λ intact. then.2 (before.2 intact))
    walks_then meant inputs was (Err e) then =
        refusal_same w v first.rules (IsIntactOn u d (table_files inputs) x a)
        (IsIntactOn u d (table_files inputs) y b) (first.walks meant inputs was).2 tables p
        (length was.met) (length (first.walks meant inputs was).0.met) some more
        (first.walks meant inputs was).1 inputs e then

    -- steps, and others behind them
    pub advances_then : (result : Result (Unit {0}) MergeError)
        → AdvancesWalk u d tables more b m y v c p z q result
        → AdvancesWalk u d tables (some + more) a n x w c p z q result
    advances_then result next = record {
      writes = writes_behind d (IsOwnFile w n) done
          (λ lost meant inputs walk. lost meant inputs (first.walks meant inputs walk).0)
          first.writes
          (writes_wider d (IsOwnFile w n) (IsOwnFile v m) first.numbers.own next.writes);
      rules = rules_through w v q first.rules next.rules;
      numbers = uses_then w v q n m p first.numbers next.numbers refl;
      unused = λ meant inputs walk.
          next.unused meant inputs (first.walks meant inputs walk).0;
      walks = λ meant inputs walk. walks_then meant inputs walk result
          (next.walks meant inputs (first.walks meant inputs walk).0);
    }
