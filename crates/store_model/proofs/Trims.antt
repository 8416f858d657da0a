-- Trimming the logs up to the floor, but for the newest, is a rise.
use Rattle.std.proofs.Common.{◌≡◌, ℕ, ◌≤◌, List, [], ◌∷◌, ◌++◌, length, nat_le, cond, Bool}
use Rattle.std.proofs.Common.{true, false, refl, sym, ◌∙◌, arith, leb-true}
use Rattle.std.proofs.lemmas.Bool.{cond_both}
use Rattle.kv_types.specs.{BatchContent}
use Rattle.store_model.specs.Tables.{LevelTable}
use Rattle.store_model.specs.Stores.{StoreRepresents, StoreState}
use Rattle.store_model.specs.Steps.{IsRaise, flushed_store, raised_store}
use Rattle.store_model.specs.Logs.{AreLogsOf, LogsRise, left_later, newest_log, trimmed_to}

newest_after : (first : ℕ) (later : List ℕ) → LogsRise first later → first ≤ newest_log first later
newest_after first [] rise = omega arith
newest_after first (next ∷ rest) rise =
    let le = rise.0 in omega (arith, le, newest_after next rest rise.1)

-- ---- where the logs begin that are left

module _ (floor : ℕ) where
  trims_rise : (first : ℕ) (later : List ℕ) → LogsRise first later
      → first ≤ trimmed_to floor first later
  trims_rise first [] rise = omega arith
  trims_rise first (next ∷ rest) rise =
      cond_both (nat_le next floor) (trimmed_to floor next rest) first (λ n. first ≤ n)
      (λ low. let le = rise.0 in omega (arith, le, trims_rise next rest rise.1))
      (λ high. omega arith)

  trims_floor : (first : ℕ) (later : List ℕ) → first ≤ floor → trimmed_to floor first later ≤ floor
  trims_floor first [] le = le
  trims_floor first (next ∷ rest) le =
      cond_both (nat_le next floor) (trimmed_to floor next rest) first (λ n. n ≤ floor)
      (λ low. trims_floor next rest (leb-true next floor low)) (λ high. le)

  -- the logs that are left, with the first of them
  record AreLeft (first : ℕ) (later : List ℕ) (start : ℕ) (rest : List ℕ) : Type 0 where
    rise : LogsRise start rest
    newest : newest_log start rest ≡ newest_log first later

  by_test : (test : Bool) (first next : ℕ) (rest : List ℕ) → LogsRise first (next ∷ rest)
      → AreLeft next rest (trimmed_to floor next rest) (left_later floor rest)
      → AreLeft first (next ∷ rest) (cond test (trimmed_to floor next rest) first)
      (cond test (left_later floor rest) (next ∷ rest))
  by_test true first next rest rise more = record { rise = more.rise; newest = more.newest }
  by_test false first next rest rise more = record { rise = rise; newest = refl }

  are_left : (first : ℕ) (later : List ℕ) → LogsRise first later
      → AreLeft first later (trimmed_to floor first later) (left_later floor later)
  are_left first [] rise = record { rise = tt; newest = refl }
  are_left first (next ∷ rest) rise =
      by_test (nat_le next floor) first next rest rise (are_left next rest rise.1)

-- ---- the steps of the store

pub trim_is_raise : (l : List BatchContent) (store : StoreState) (floor : ℕ) (later : List ℕ)
    → StoreRepresents l store → AreLogsOf store later → store.floor ≤ floor → floor ≤ length l
    → IsRaise l store floor (trimmed_to floor store.kept later)
trim_is_raise l store floor later ok logs up short =
    let low = ok.kept_floor in
    let left = are_left floor store.kept later logs.rise in
    let start = trimmed_to floor store.kept later in
    let newest = newest_after start (left_later floor later) left.rise in
    let same = left.newest in
    let current = logs.newest in
    record {
      floor_rises = up;
      floor_count = short;
      kept_rises = trims_rise floor store.kept later logs.rise;
      kept_floor = trims_floor floor store.kept later (omega (arith, low, up));
      kept_current = omega (arith, newest, same, current);
    }

pub trim_leaves_logs : (store : StoreState) (floor : ℕ) (later : List ℕ) → AreLogsOf store later
    → AreLogsOf (raised_store store floor (trimmed_to floor store.kept later))
    (left_later floor later)
trim_leaves_logs store floor later logs =
    let left = are_left floor store.kept later logs.rise in
    record { rise = left.rise; newest = logs.newest ∙ sym left.newest }

-- a log more at the end
rises_further : (first : ℕ) (later : List ℕ) (n : ℕ) → LogsRise first later
    → newest_log first later ≤ n → LogsRise first (later ++ n ∷ [])
rises_further first [] n rise le = (le, tt)
rises_further first (next ∷ rest) n rise le = (rise.0, rises_further next rest n rise.1 le)

newest_is_last : (first : ℕ) (later : List ℕ) (n : ℕ) → newest_log first (later ++ n ∷ []) ≡ n
newest_is_last first [] n = refl
newest_is_last first (next ∷ rest) n = newest_is_last next rest n

pub flush_adds_log : (l : List BatchContent) (store : StoreState) (after : List LevelTable)
    (later : List ℕ) → StoreRepresents l store → AreLogsOf store later
    → AreLogsOf (flushed_store l store after) (later ++ length l ∷ [])
flush_adds_log l store after later ok logs =
    let a = ok.current_flushed in
    let b = ok.flushed_count in
    let c = logs.newest in
    record {
      rise = rises_further store.kept later (length l) logs.rise (omega (arith, a, b, c));
      newest = sym (newest_is_last store.kept later (length l));
    }
