-- How the calls of a builder report the failures of those that they make.
use Rattle.std.proofs.Common.{◌≡◌, ◌↔◌, ℕ, List, Result, Ok, Err, inl, inr, ap, sym, subst}
use Rattle.std.specs.Prelude.{IsErrAnd, IsErrOf, IsOk, MatchResult}
use Rattle.disk.specs.declared.Disk.{Ghosts}
use Rattle.disk.specs.{IsEnvironmental, Slot, WritesInto}
use Rattle.disk.specs.WritesLemmas.{writes_behind, writes_nothing}
use Rattle.kv_types.specs.{Entry}
use Rattle.table_format.specs.declared.FileError.{FileError}
use Rattle.table_format.specs.declared.FileError.TheVariants as reading
use Rattle.table_format.specs.declared.TableError.{TableError}
use Rattle.table_format.specs.declared.TableError.TheVariants as table
use Rattle.table_format.specs.{Block, table_error}
use Rattle.table_builder.specs.declared.builder.Builder.{Builder}
use Rattle.table_builder.specs.Builders.{Builds, BuildsNothing, HoldsEntries}
use Rattle.table_builder.specs.Closing.{CanEnd}
use Rattle.table_builder.specs.Divisions.{division, finished_blocks}

-- what holds of the cause holds of the refusal that reports it
pub refuses : {T E : Type 0} (result : Result T E) {e : E} (P : T → Type 0) (Q : E → Type 0) →
    IsErrAnd result (λ s. s ≡ e) → Q e → MatchResult result P Q
refuses (Ok x) P Q reported q = absurd reported
refuses (Err s) P Q reported q = subst Q (sym reported) q

-- the same error is passed on
pub passed_on : {T U : Type 0} (called : Result T FileError) (e : FileError)
    (result : Result U FileError) → called ≡ Err e → IsErrAnd result (λ s. s ≡ e) →
    IsErrOf called reading.Disk ↔ IsErrOf result reading.Disk
passed_on called e (Ok x) is reported = absurd reported
passed_on called e (Err s) is reported = (λ f. cc, λ f. cc)

-- the error of the file is told as the builder's
pub passed_up : {T U : Type 0} (called : Result T FileError) (e : FileError)
    (result : Result U TableError) → called ≡ Err e → IsErrAnd result (λ s. s ≡ table_error e) →
    IsErrOf called reading.Disk ↔ IsErrOf result table.Disk
passed_up called e (Ok x) is told = absurd told
passed_up called reading.Disk (Err s) is told = (λ _. ap (λ d. Err d) told, λ _. is)
passed_up called reading.Damaged (Err s) is told = (λ f. cc, λ f. cc)
passed_up called reading.Memory (Err s) is told = (λ f. cc, λ f. cc)

-- a call that was answered did not fail
pub works : {T : Type 0} (called : Result T FileError) {x : T} → called ≡ Ok x →
    IsErrOf called reading.Disk → ⊥
works called is fails = absurd cc

-- .. and was not refused
pub not_refused : {T : Type 0} (called : Result T FileError) (e : FileError) → called ≡ Err e →
    IsOk called → ⊥
not_refused (Ok x) e is done = absurd cc
not_refused (Err s) e is done = absurd cc

-- an answer is no refusal
pub no_refusal : {T E : Type 0} {x : T} {e : E} → IsErrOf (Ok x) e → ⊥
no_refusal fails = absurd cc

memory_not : {T : Type 0} (result : Result T FileError) →
    IsErrAnd result (λ s. s ≡ reading.Memory) → IsErrOf result reading.Disk → ⊥
memory_not (Ok x) reported fails = absurd reported
memory_not (Err s) reported fails = cc

-- memory is wanting before any call
pub wants_memory : {D T : Type 0} (g : Ghosts D) (file : ℕ) (disk : D)
    (result : Result T FileError) {cause : Type 0} → IsErrAnd result (λ s. s ≡ reading.Memory) →
    WritesInto g file disk disk (IsErrOf result reading.Disk) cause
wants_memory g file disk result reported =
    writes_nothing g file disk (memory_not result reported)

-- an error of the environment is one as the builder tells it
pub environmental : (e : FileError) → IsEnvironmental reading.Disk reading.Memory e →
    IsEnvironmental table.Disk table.Memory (table_error e)
environmental e (inl is) = inl (ap table_error is)
environmental e (inr is) = inr (ap table_error is)

-- where there are entries, the end of a table behind its last block
pub finishes : {D : Type 0} (g : Ghosts D) (it rest : Builder) {before mid now : D} {told : Type 0}
    (called : Result (Unit {0}) FileError) {x : Unit {0}} → called ≡ Ok x → rest.file ≡ it.file →
    ((slot : Slot) (entries : List Entry) → Builds slot it entries →
    CanEnd rest (finished_blocks (division entries)) entries) →
    WritesInto g it.file before mid (IsErrOf called reading.Disk)
    ((entries : List Entry) → HoldsEntries it entries → ⊥) →
    WritesInto g rest.file mid now told
    ((blocks : List Block) (entries : List Entry) → CanEnd rest blocks entries → ⊥) →
    WritesInto g it.file before now told (BuildsNothing it)
finishes g it rest {mid = mid} {now = now} {told = told} called is same can first w =
    writes_behind g it.file (works called is)
    (λ none slot entries b. none (finished_blocks (division entries)) entries (can slot entries b))
    first
    (subst (λ (f : ℕ). WritesInto g f mid now told
    ((blocks : List Block) (entries : List Entry) → CanEnd rest blocks entries → ⊥)) same w)
