-- Calls that write to some files alone, one behind another.
use Rattle.std.proofs.Common.{◌≡◌, ◌↔◌, ℕ, Result, Ok, Err, Option, Some, None, refl, sym, ap}
use Rattle.std.proofs.Common.{subst, ◌∙◌}
use Rattle.std.specs.Prelude.{IsErrAnd, IsErrOf, ok_or}
use Rattle.disk.specs.declared.Disk.{Ghosts}
use Rattle.disk.specs.{AlwaysLeaves, IsFileOutcome, IsLeftAt, IsSameBut, KeepsDisk}
use Rattle.disk.specs.{Passes, Slot}
use Rattle.disk.specs.BesideLemmas.{at_more, at_start}
use Rattle.disk.specs.KeepingLemmas.{kept_as, kept_behind, kept_but, neither, unchanged}
use Rattle.disk.specs.MomentsLemmas.{join, none_yet, weaker}
use Rattle.compaction.specs.declared.error.MergeError.{MergeError}
use Rattle.compaction.specs.declared.error.MergeError.TheVariants as merge
use Rattle.table_format.specs.declared.TableError.{TableError}
use Rattle.table_format.specs.declared.TableError.TheVariants as table
use Rattle.version_edits.specs.declared.TableLine.{TableLine}
use Rattle.compaction.specs.Errors.{merge_error_of_table}
use Rattle.compaction.specs.Outputs.{IsLeftBeyond, WritesOnly}

module _ {D : Type 0} (g : Ghosts D) (own : ℕ → Type 0) where
  -- no call
  pub writes_nothing : (disk : D) {told cause : Type 0} → (told → ⊥)
      → WritesOnly g own disk disk told cause
  writes_nothing disk works = record {
    kept = kept_as g (neither (λ fails. fails) works) (λ old new is. is)
        (unchanged g (λ state file apart. refl));
    any_moment = λ honest. none_yet (IsLeftBeyond own (g.state disk)) (g.state disk) (g.past disk)
        (λ left now file apart. now file);
  }

  -- calls whose failure is told in other words, and whose cause implies another
  pub writes_as : {old new : D} {first told cause other : Type 0} → first ↔ told
      → (cause → other) → WritesOnly g own old new first cause
      → WritesOnly g own old new told other
  writes_as same so w = record {
    kept = kept_but g so (kept_as g same (λ old new is. is) w.kept);
    any_moment = w.any_moment;
  }

  -- calls that did not fail, and others behind them
  pub writes_behind : {old mid new : D} {first told cause more other : Type 0} → (first → ⊥)
      → (more → other) → WritesOnly g own old mid first cause
      → WritesOnly g own mid new told more → WritesOnly g own old new told other
  writes_behind {old = old} {mid = mid} {new = new} works so before w = record {
    kept = kept_but g so (kept_behind g (λ first next last one other file apart.
        other file apart ∙ one file apart) before.kept works w.kept);
    any_moment = λ honest. join (IsLeftBeyond own (g.state old)) (g.state old) (g.state mid)
        (g.state new) (g.past old) (g.past mid) (g.past new) (before.any_moment honest)
        (weaker (IsLeftBeyond own (g.state mid)) (IsLeftBeyond own (g.state old)) (g.state mid)
        (g.past mid) (g.state new) (g.past new)
        (λ left at file apart. subst (λ (slot : Slot). IsFileOutcome slot (left file))
        (before.kept.files honest file apart) (at file apart))
        (w.any_moment (before.kept.honest.1 honest)));
  }

  -- calls that did not fail, whatever is told of others
  pub writes_done : {old new : D} {first told cause other : Type 0} → (first → ⊥) → (told → ⊥)
      → WritesOnly g own old new first cause → WritesOnly g own old new told other
  writes_done {new = new} works ends w =
      writes_behind works (λ why. why) w (writes_nothing new ends)

  -- calls that write to fewer files
  pub writes_wider : (fewer : ℕ → Type 0) → ((file : ℕ) → fewer file → own file)
      → {old new : D} {told cause : Type 0} → WritesOnly g fewer old new told cause
      → WritesOnly g own old new told cause
  writes_wider fewer so {old = old} {new = new} w = record {
    kept = kept_as g ((λ fails. fails), (λ fails. fails))
        (λ old new is file apart. is file (λ here. apart (so file here))) w.kept;
    any_moment = λ honest. weaker (IsLeftBeyond fewer (g.state old))
        (IsLeftBeyond own (g.state old))
        (g.state old) (g.past old) (g.state new) (g.past new)
        (λ left at file apart. at file (λ here. apart (so file here))) (w.any_moment honest);
  }

-- calls on one file
pub writes_one : {D : Type 0} (g : Ghosts D) (file : ℕ) {old new : D} {told cause : Type 0}
    → KeepsDisk g old new told cause (IsSameBut file)
    → (g.is_honest old → AlwaysLeaves g old new (IsLeftAt (g.state old) file (λ left. Unit {0})))
    → WritesOnly g (λ one. file ≡ one) old new told cause
writes_one g file {old = old} {new = new} kept moments = record {
  kept = kept_as g ((λ fails. fails), (λ fails. fails))
      (λ old new is one apart. is one (λ here. apart (sym here))) kept;
  any_moment = λ honest. weaker (IsLeftAt (g.state old) file (λ left. Unit {0}))
      (IsLeftBeyond (λ one. file ≡ one) (g.state old)) (g.state old) (g.past old) (g.state new)
      (g.past new) (λ left at one apart. at.others one (λ is. apart (sym is))) (moments honest);
}

-- one call on a file
pub writes_call : {D : Type 0} (g : Ghosts D) (file : ℕ) {old new : D} {told : Type 0}
    → KeepsDisk g old new told ⊥ (IsSameBut file)
    → (g.is_honest old → Passes (g.past old) (g.state old) (g.past new) (g.state new))
    → WritesOnly g (λ one. file ≡ one) old new told ⊥
writes_call g file {old = old} {new = new} kept passes =
    writes_one g file kept (λ honest. at_more (λ left. Unit {0}) file
    (g.state old) (g.state old) (g.state new) (g.past old) (g.past old) (g.past new)
    (at_start (λ left. Unit {0}) file (g.state old) (g.past old) (λ left now. tt))
    (passes honest) (kept.files honest) (λ left now. tt))

-- ---- what is told of a failure

-- an answer is none
pub done : {U : Type 0} {x : U} → IsErrOf (Ok x) merge.Disk → ⊥
done fails = cc

-- an answer reports no failure, whatever follows from one
pub ok_fails : {T P : Type 0} (result : Result T MergeError) (x : T) → result ≡ Ok x
    → IsErrOf result merge.Disk → P
ok_fails (Ok y) x ok fails = absurd cc
ok_fails (Err e) x ok fails = absurd cc

-- a refusal is passed on
pub passed_on : {T U : Type 0} (called : Result T MergeError) (e : MergeError)
    (result : Result U MergeError) → called ≡ Err e → IsErrAnd result (λ s. s ≡ e)
    → IsErrOf called merge.Disk ↔ IsErrOf result merge.Disk
passed_on called e (Ok x) is told = absurd told
passed_on called e (Err s) is told = (λ f. cc, λ f. cc)

-- a result that is an answer reports no failure
pub answered : {T : Type 0} (result : Result T MergeError) {x : T} → result ≡ Ok x
    → IsErrOf result merge.Disk → ⊥
answered result ok fails = cc

-- want of memory is none
pub memory_told : {U : Type 0} (result : Result U MergeError)
    → IsErrAnd result (λ s. s ≡ merge.Memory) → IsErrOf result merge.Disk → ⊥
memory_told (Ok x) told fails = absurd told
memory_told (Err s) told fails = cc

-- a refusal for another cause is none
pub refused : {T : Type 0} {e : MergeError} → (e ≡ merge.Disk → ⊥)
    → IsErrOf {T = T} (Err e) merge.Disk → ⊥
refused {e = e} other fails =
    let is : e ≡ merge.Disk = cc in
    other is

-- a table's failure is told as the merge's
pub table_failed : {T U : Type 0} (called : Result T TableError) (e : TableError)
    (result : Result U MergeError) → called ≡ Err e
    → IsErrAnd result (λ s. s ≡ merge_error_of_table e)
    → IsErrOf called table.Disk ↔ IsErrOf result merge.Disk
table_failed called e (Ok x) is told = absurd told
table_failed called table.Disk (Err s) is told = (λ _. ap (λ d. Err d) told, λ _. is)
table_failed called table.Damaged (Err s) is told = (λ f. cc, λ f. cc)
table_failed called table.Order (Err s) is told = (λ f. cc, λ f. cc)
table_failed called table.Memory (Err s) is told = (λ f. cc, λ f. cc)
table_failed called table.TooLarge (Err s) is told = (λ f. cc, λ f. cc)
table_failed called table.Failed (Err s) is told = (λ f. cc, λ f. cc)

-- a table's answer is no failure
pub table_answered : {T : Type 0} (result : Result T TableError) {x : T} → result ≡ Ok x
    → IsErrOf result table.Disk → ⊥
table_answered result ok fails = cc

-- nor is a line that a manifest may not have
pub line_refused : (found : Option TableLine) (result : Result TableLine MergeError)
    → result ≡ ok_or found merge.Damaged → IsErrOf result merge.Disk → ⊥
line_refused (Some line) result is fails = cc
line_refused None result is fails = cc

-- of the files of a table's builder, by its own number
pub writes_builder : {D : Type 0} (g : Ghosts D) (builder file : ℕ) → builder ≡ file
    → {old new : D} {told cause : Type 0} → KeepsDisk g old new told cause (IsSameBut builder)
    → (g.is_honest old
    → AlwaysLeaves g old new (IsLeftAt (g.state old) builder (λ left. Unit {0})))
    → WritesOnly g (λ one. file ≡ one) old new told cause
writes_builder g builder file is {old = old} {new = new} {told = told} {cause = why} kept moments =
    subst (λ (f : ℕ). WritesOnly g (λ one. f ≡ one) old new told why) is
    (writes_one g builder kept moments)
