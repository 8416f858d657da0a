-- A write of a batch that the list may have already, by its mark.
use Rattle.std.specs.Prelude.{◌≡◌, ◌⊎◌, ◌≤◌, ◌+◌, ◌==◌, ℕ, nat_lt, List, length, if◌then◌else◌}
use Rattle.std.specs.Prelude.{Option, Some, None, Result, Ok, Err, IfOk, IfSome}
use Rattle.byte_fields.specs.{mark_key}
use Rattle.kv_types.specs.{BatchContent, IsLastMark, mark_held, mark_of}
use Rattle.kv_types.specs.declared.bounds.TheConstants.{MAX_NUMBER}
use Rattle.kv_types.specs.declared.mark.Mark.{Mark}
use Rattle.disk.specs.{MakesCalls}
use Rattle.disk.specs.declared.Disk.{Ghosts}
use Rattle.engine.specs.EngineError.{EngineError}
use Rattle.engine.specs.EngineError.TheVariants as engine
use Rattle.engine.specs.{IsAppendRefusal, IsEndOrAfter, LookUps, MemoryHas, NeedsNoDisk}
use Rattle.engine.specs.{OneNamedLacksBlock, ReadsEngine, engine_version, look_ups}
use Rattle.embedded_store.specs.declared.error.OnceError.{OnceError}
use Rattle.embedded_store.specs.declared.error.OnceError.TheVariants.{OldRequest, Store}
use Rattle.embedded_store.specs.declared.store.EmbeddedStore.{EmbeddedStore}
use Rattle.embedded_store.specs.Stores.{WritesAtMost, store_disk, store_engine, with_batch}
use Rattle.embedded_store.specs.Stores.{with_one_written}

-- ---- what a batch is to a list

-- How recent a batch is among those of its client in a list: new there, or the last of them, which
-- has this number, or older than the last.
pub data Recency : Type 0 where
  New : Recency
  Last : ℕ → Recency
  Old : Recency

-- how recent a request is, where the last one of its client and that one's number are these
abbrev pub recency_behind : Option (ℕ × ℕ) → ℕ → Recency
recency_behind None request = New
recency_behind (Some last) request =
    if nat_lt last.0 request then New
    else if last.0 == request then Last last.1
    else Old

-- how recent a batch with this mark is in the list: without one it is new
abbrev pub recency_by : Option Mark → List BatchContent → Recency
recency_by None list = New
recency_by (Some mark) list = recency_behind (mark_held list mark.client) mark.request

-- how recent this batch is in the list
abbrev pub recency : BatchContent → List BatchContent → Recency
recency batch list = recency_by (mark_of batch) list

-- ---- what a write makes of it

-- the list with this batch behind it, if it is new there
abbrev pub with_new : Recency → BatchContent → List BatchContent → List BatchContent
with_new New batch list = with_batch batch list
with_new (Last number) batch list = list
with_new Old batch list = list

-- the list with this batch written once
abbrev pub with_once : BatchContent → List BatchContent → List BatchContent
with_once batch list = with_new (recency batch list) batch list

-- the list behind this answer: a refusal leaves it as it was
abbrev pub list_behind : Result ℕ OnceError → BatchContent → List BatchContent → List BatchContent
list_behind (Ok number) batch list = with_once batch list
list_behind (Err e) batch list = list

-- the answer as an engine's: a refusal that leaves the store counts as an answer
abbrev pub ending : {T : Type 0} → Result T OnceError → Result (Unit {0}) EngineError
ending (Ok answer) = Ok tt
ending (Err OldRequest) = Ok tt
ending (Err (Store engine.Exhausted)) = Ok tt
ending (Err (Store e)) = Err e

-- what a write promises of this batch, which the list may have
abbrev pub WritesOnce : {D : Type 0} (g : Ghosts D) → EmbeddedStore D g → EmbeddedStore D g →
    BatchContent → Result ℕ OnceError → Type 0
WritesOnce g old new batch result =
    WritesAtMost g old new (ending result) (list_behind result batch) (with_once batch)

-- What the store tells then. It has one batch more, which has the number, and is committed; or all
-- is as it was, and the number is that of a batch which it had.
abbrev pub CountsOnce : LookUps → LookUps → Result ℕ OnceError → Type 0
CountsOnce old new (Ok number) =
    ((new ≡ with_one_written old) × (number ≡ new.count)) ⊎ ((new ≡ old) × (number ≤ old.count))
CountsOnce old new (Err e) = new ≡ old

-- ---- what is answered

-- The answer to a batch that is so recent in a list of so many: the next number, if it is new, or
-- its own, if it is the last of its client. `OldRequest` refuses an old one, and `Exhausted` a new
-- one for which no number is left.
abbrev pub IsOnceAnswer : Recency → ℕ → Result ℕ OnceError → Type 0
IsOnceAnswer recency count (Ok number) =
    ((recency ≡ New) × (number ≡ count + 1)) ⊎ (recency ≡ Last number)
IsOnceAnswer recency count (Err OldRequest) = recency ≡ Old
IsOnceAnswer recency count (Err (Store e)) =
    e ≡ engine.Exhausted → (recency ≡ New) × (MAX_NUMBER ≤ count)

-- the answer to a write of this batch to this list
pub record AnswersOnce (batch : BatchContent) (list : List BatchContent)
    (result : Result ℕ OnceError) : Type 0 where
  -- it is the one to a batch that is so recent
  pub answer : IsOnceAnswer (recency batch list) (length list) result
  -- of the batches of its client, the last one then has the number, and bears the mark
  pub last : IfOk result (λ number. IfSome (mark_of batch) (λ mark.
      IsLastMark (with_once batch list) mark.client mark.request number))

-- The engine is only read, unless the batch is new: so of any other nothing is written.
abbrev pub ReadsUnlessNew : {D : Type 0} (g : Ghosts D) → EmbeddedStore D g → EmbeddedStore D g →
    Recency → Result ℕ OnceError → Type 0
ReadsUnlessNew g old new recency result = (recency ≡ New → ⊥) →
    ReadsEngine g (store_engine old) (store_engine new) (ending result)

-- of any disk, why a batch is not written behind so many
abbrev pub IsOnceRefusal : ℕ → OnceError → Type 0
IsOnceRefusal count OldRequest = Unit {0}
IsOnceRefusal count (Store e) = IsAppendRefusal count e

-- ---- where the mark is looked for

module _ {D : Type 0} (g : Ghosts D) (store : EmbeddedStore D g) where
  -- a table whose range holds the key of the mark's client lacks the block in which the client's
  -- last mark would be, and no table of a lesser level has one
  abbrev pub LacksLastMark : Mark → Type 0
  LacksLastMark mark = OneNamedLacksBlock (g.state (store_disk store))
      (engine_version (store_engine store)).version.tables (mark_key mark.client)
      (look_ups (store_engine store)).count

  -- a batch of the list that no table has bears a mark of this one's client
  abbrev pub MemoryHasMark : List BatchContent → Mark → Type 0
  MemoryHasMark list mark = MemoryHas list (engine_version (store_engine store)).version.flushed
      (look_ups (store_engine store)).count (mark_key mark.client)

  -- for a new batch the disk is called four times, and for any other it is not called
  abbrev pub MakesCallsFor : Recency → EmbeddedStore D g → Result ℕ OnceError → Type 0
  MakesCallsFor New new result = MakesCalls g 4 (store_disk store) (store_disk new) result
  MakesCallsFor (Last number) new result =
      NeedsNoDisk (store_disk store) (store_disk new) (ending result)
  MakesCallsFor Old new result = NeedsNoDisk (store_disk store) (store_disk new) (ending result)

-- what a look finds of a batch that is so recent: its number, if it is the last of its client
abbrev pub FindsRecency : Recency → Result (Option ℕ) OnceError → Type 0
FindsRecency recency (Ok None) = recency ≡ New
FindsRecency recency (Ok (Some number)) = recency ≡ Last number
FindsRecency recency (Err OldRequest) = recency ≡ Old
FindsRecency recency (Err (Store e)) = Unit {0}

-- of any disk, why a look is refused
abbrev pub IsLookRefusal : OnceError → Type 0
IsLookRefusal OldRequest = Unit {0}
IsLookRefusal (Store e) = IsEndOrAfter e
