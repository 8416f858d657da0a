-- What a walk over sorted entries has added to a table.
use Rattle.std.proofs.Common.{◌≡◌, ◌<◌, List, [], ◌∷◌, ◌++◌, Contains, subst, Result, Ok, Err}
use Rattle.std.proofs.Common.{arith, refl, sym, ◌∙◌, ap}
use Rattle.std.specs.Prelude.{Bool, true, false, IfOk, IsErr, IsErrAnd, IsErrOf, MatchResult}
use Rattle.std.proofs.lemmas.List.Elements.{All-push}
use Rattle.kv_types.specs.{Entry}
use Rattle.merge_iter.specs.declared.CursorError.{CursorError}
use Rattle.merge_iter.specs.declared.CursorError.TheVariants as cursor
use Rattle.merge_iter.specs.{Broken, ErrorCauses, IfOn, IsAlike, IsOn, Off, On, Position}
use Rattle.table_format.specs.declared.sizes.TheConstants.{MAX_DATA}
use Rattle.table_format.specs.RisingLemmas.{rising_push}
use Rattle.table_format.specs.{AreRising, CanFollow}
use Rattle.disk.specs.{IsEnvironmental, Slot}
use Rattle.table_builder.specs.declared.Builder.{Builder}
use Rattle.table_builder.specs.{Builds, HoldsEntries, data_size}
use Rattle.compaction.specs.Walks.{HasWalked}
use Rattle.compaction.specs.WalksLemmas.{alike_through, walk_here}
use Rattle.store_tables.specs.declared.error.EngineError.{EngineError}
use Rattle.store_tables.specs.declared.error.EngineError.TheVariants as engine
use Rattle.store_tables.specs.Errors.{error_of_cursor}
use Rattle.store_tables.specs.TableWriting.{HasAddedAll, PassesLimit, IsRoomAnswer}

-- what was added to a table of a set's entries, where the table was one to begin with; and what a
-- builder has in memory, where it had none
pub record AddsUpTo (has : Entry → Type 0) (at : Position) (is_begun is_empty : Type 0)
    (slot : Slot) (builder : Builder) : Type 0 where
  pub entries : List Entry
  pub walked : HasWalked has entries at
  pub built : is_begun → Builds slot builder entries
  pub held : is_empty → HoldsEntries builder entries

-- the only refusal of a cursor in memory that is not broken
pub for_memory : {R A : Type 0} (S B : Type 0) (result : Result R CursorError) (e : CursorError)
    → result ≡ Err e → S → (B → ⊥) → ErrorCauses S B A 0 0 result → e ≡ cursor.Memory
for_memory S B result cursor.Disk is sound unbroken t =
    let rises = (t.disk is).below (omega arith) in
    absurd (omega (arith, rises))
for_memory S B result cursor.Damaged is sound unbroken t = absurd (t.damaged is sound)
for_memory S B result cursor.Memory is sound unbroken t = refl
for_memory S B result cursor.Failed is sound unbroken t = absurd (unbroken (t.failed.0 is))

pub memory_answer : {U : Type 0} (result : Result U EngineError) (e : CursorError)
    → e ≡ cursor.Memory → IsErrAnd result (λ s. s ≡ error_of_cursor e) →
    IsErrOf result engine.Disk → ⊥
memory_answer (Ok x) e is told fails = absurd told
memory_answer (Err s) e is told fails =
    let memory : s ≡ engine.Memory = told ∙ ap error_of_cursor is in
    cc

pub is_answer : {R : Type 0} (x : R) (result : Result R CursorError) → result ≡ Ok x
    → IsErr result → ⊥
is_answer x (Ok y) is err = cc
is_answer x (Err e) is err = cc

-- there is no room for the entry at hand
pub walk_limit : (has : Entry → Type 0) (entries : List Entry) (at : Position) (entry : Entry)
    → IsOn at → IfOn at (λ here. entry ≡ here) → HasWalked has entries at → AreRising entries
    → MAX_DATA < data_size (entries ++ entry ∷ []) → PassesLimit has
walk_limit has entries at entry on is walked rising large =
    let here = walk_here has entries at entry on is walked in
    record {
      some = entries ++ entry ∷ [];
      each = All-push has entries entry walked.each here.0;
      rising = rising_push entries entry rising here.1;
      large = large;
    }

-- where the cursor stands, its entry is one of the set
pub added_here : (has : Entry → Type 0) (at : Position) (is_begun is_empty : Type 0) (slot : Slot)
    (builder : Builder) (entry : Entry) → IsOn at → IfOn at (λ here. entry ≡ here)
    → (a : AddsUpTo has at is_begun is_empty slot builder) → has entry × CanFollow a.entries entry
added_here has at is_begun is_empty slot builder entry on is a =
    let here = walk_here has a.entries at entry on is a.walked in
    (here.0, here.1)

-- what is true where the cursor stands is true of its entry
pub true_here : (at : Position) (P : Entry → Type 0) (entry : Entry) → IsOn at
    → IfOn at (λ here. entry ≡ here) → IfOn at P → P entry
true_here (On here) P entry on is at = subst P (sym is) at
true_here Off P entry on is at = absurd on
true_here Broken P entry on is at = absurd on

-- entries that pass the limit are those of another set with the same entries
limit_like : (own has : Entry → Type 0) → IsAlike own has → PassesLimit own → PassesLimit has
limit_like own has alike it = record {
  some = it.some;
  each = λ k d lt. (alike _).0 (it.each k d lt);
  rising = it.rising;
  large = it.large;
}

-- what was added of one set was added of another with the same entries
pub added_like : (own has : Entry → Type 0) → IsAlike own has → (slot : Slot) (builder : Builder)
    (result : Result Bool EngineError)
    → MatchResult result (HasAddedAll own slot builder) (IsEnvironmental engine.Disk engine.Memory)
    → MatchResult result (HasAddedAll has slot builder) (IsEnvironmental engine.Disk engine.Memory)
added_like own has alike slot builder (Ok true) it = record {
  entries = it.entries;
  builds = it.builds;
  alike = alike_through (Contains it.entries) own has it.alike alike;
}
added_like own has alike slot builder (Ok false) it = limit_like own has alike it
added_like own has alike slot builder (Err e) it = it

-- the answer whether one set has room is that of another with the same entries
pub room_like : (own has : Entry → Type 0) → IsAlike own has → (result : Result Bool EngineError)
    → IfOk result (IsRoomAnswer own) → IfOk result (IsRoomAnswer has)
room_like own has alike (Ok true) it = tt
room_like own has alike (Ok false) it = limit_like own has alike it
room_like own has alike (Err e) it = tt
