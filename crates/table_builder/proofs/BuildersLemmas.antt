-- What a builder holds of its entries, and one entry further on.
use Rattle.std.proofs.Common.{◌≡◌, ◌+◌, ◌*◌, ◌≤◌, ◌<◌}
use Rattle.disk.specs.{IsEnvironmental}
use Rattle.std.proofs.Common.{List, [], ◌∷◌, ◌++◌, length, Option, IfSome}
use Rattle.std.proofs.Common.{inl, inr, sym, ap, subst, ◌∙◌, arith, length-append}
use Rattle.std.proofs.Common.{Result, Ok, Err}
use Rattle.std.specs.Prelude.{IsErrAnd}
use Rattle.disk.specs.{Slot}
use Rattle.std.proofs.lemmas.List.Elements.{All-push, recursion_from_All}
use Rattle.kv_types.specs.{Entry}
use Rattle.table_format.specs.declared.FileError.TheVariants as reading
use Rattle.table_format.specs.declared.FileError.{FileError}
use Rattle.table_format.specs.declared.TableError.{TableError}
use Rattle.table_format.specs.declared.TableError.TheVariants as table
use Rattle.table_format.specs.declared.sizes.TheConstants.{BLOCK_SIZE, MAX_DATA}
use Rattle.table_format.specs.{IsTableEntry, block_content, table_error}
use Rattle.table_format.specs.{block_lines, entries_of_blocks, entry_bytes, line_bytes}
use Rattle.table_format.specs.FrontsLemmas.{length-block_content, length-block_part}
use Rattle.table_format.specs.RisingLemmas.{last_push, rising_push}
use Rattle.byte_fields.specs.declared.format.Format.TheVariants.{Two}
use Rattle.table_builder.specs.declared.builder.Builder.{Builder}
use Rattle.table_builder.specs.Builders.{AddOutcome, AddRefusal, CanAdd, HasBuilderFailed}
use Rattle.table_builder.specs.Builders.{HeldOutcome, HeldRefusal, HoldsDivision, HoldsEntries}
use Rattle.table_builder.specs.Builders.{NeedsNoDevice}
use Rattle.table_builder.specs.Closing.{CanClose, CheckStatus}
use Rattle.table_builder.specs.Divisions.{division, with_entry}
use Rattle.table_builder.specs.Keys.{KnowsKeys}
use Rattle.table_builder.specs.OpenParts.{HoldsItems}
use Rattle.table_builder.proofs.DivisionsLemmas.{IsFine, data_long, division_fine, division_push}
use Rattle.table_builder.proofs.DivisionsLemmas.{entries_long, length-finished, open_size}
use Rattle.table_builder.proofs.DivisionsLemmas.{opened_small}

pub fine : (it : Builder) (entries : List Entry) → HoldsEntries it entries
    → IsFine (division entries) entries
fine it entries h = division_fine entries (recursion_from_All IsTableEntry entries h.each)

-- what is closed and what is in memory is not much
pub record Bounds (it : Builder) (entries : List Entry) : Type 0 where
  pub written : it.written ≤ MAX_DATA
  pub content : length (block_content Two (division entries).opened) < BLOCK_SIZE
  pub entries_few : 9 * length entries ≤ MAX_DATA + 4096
  pub blocks_few : 4104 * length (division entries).closed ≤ MAX_DATA
  pub opened_few : length (division entries).opened < 4096

pub bounds : (it : Builder) (entries : List Entry) → HoldsEntries it entries → Bounds it entries
bounds it entries h =
    let parts = division entries in
    let f = fine it entries h in
    let size = h.size in
    let long = f.long in
    let short = f.short in
    let sizes = length-finished parts in
    let content = length-block_content Two parts.opened in
    let written = h.parts.closed.written in
    let opened_long = entries_long parts.opened in
    record {
      written = omega (arith, size, sizes, written);
      content = short;
      entries_few = omega (
        arith,
        size,
        sizes,
        short,
        content,
        opened_long,
        data_long parts.closed,
        ap length f.all,
        length-append (entries_of_blocks parts.closed) parts.opened,
      );
      blocks_few = omega (arith, size, sizes, long);
      opened_few = omega (arith, short, content, opened_long);
    }

-- the data's size, by what is closed and by the open block's content
pub size_some : (opened : List Entry) → 0 < length opened
    → open_size opened ≡ length (block_content Two opened) + 8
size_some [] some = absurd (omega (arith, some))
size_some (entry ∷ entries) some =
    omega (
      arith,
      length-block_part Two (entry ∷ entries),
      length-block_content Two (entry ∷ entries),
    )

-- ---- an entry is held

-- the open block with the entry can be closed
pub can_close : (old mid : Builder) (entries : List Entry) (entry : Entry)
    → HoldsEntries old entries → IsTableEntry entry → KnowsKeys mid.keys (entries ++ entry ∷ [])
    → HoldsItems (entry_bytes Two) mid.block ((division entries).opened ++ entry ∷ [])
    → mid.written ≡ old.written → mid.index ≡ old.index
    → CanClose mid (division entries).closed
    (record { front = (division entries).opened; last = entry })
can_close old mid entries entry h is knows has written index =
    let m = bounds old entries h in
    let ends = subst (λ (o : Option Entry). IfSome o (λ r. (mid.keys.last ≡ r.key)
    × (mid.keys.number ≡ r.number))) (last_push entries entry) knows.last in
    let few = m.blocks_few in
    let small = opened_small (division entries).opened entry m.content is in
    record {
      closed = record {
        written = written ∙ h.parts.closed.written;
        index = subst (λ i. HoldsItems (line_bytes Two) i
            (block_lines Two 0 (division entries).closed))
            (sym index)
            h.parts.closed.index;
      };
      entries = has;
      key = ends.0;
      number = ends.1;
      small = omega (arith, small);
      few = omega (arith, few);
      room = omega (arith, m.written, h.parts.closed.written);
    }

-- then the builder has one entry more
pub held_more : (old new : Builder) (entries : List Entry) (entry : Entry)
    → HoldsEntries old entries → IsTableEntry entry → CanAdd entries entry
    → KnowsKeys new.keys (entries ++ entry ∷ [])
    → HoldsDivision new (with_entry (division entries) entry) → (HasBuilderFailed new → ⊥)
    → HoldsEntries new (entries ++ entry ∷ [])
held_more old new entries entry h is can knows parts works = record {
  each = All-push IsTableEntry entries entry h.each is;
  rising = rising_push entries entry h.rising can.follows;
  size = can.fits;
  keys = knows;
  parts = subst (HoldsDivision new) (sym (division_push entries entry)) parts;
  works = works;
}

-- an error of the environment refuses an entry that can be added
pub refused : (e : FileError) (entries : List Entry) (entry : Entry) → CanAdd entries entry →
    IsEnvironmental reading.Disk reading.Memory e
    → AddRefusal (table_error e) entries entry
refused e entries entry can (inl is) =
    subst (λ (x : FileError). AddRefusal (table_error x) entries entry) (sym is) can
refused e entries entry can (inr is) =
    subst (λ (x : FileError). AddRefusal (table_error x) entries entry) (sym is) can

-- .. and damage too
pub held_refused : (e : FileError) (entries : List Entry) (entry : Entry) → CanAdd entries entry →
    HeldRefusal (table_error e) entries entry
held_refused reading.Disk entries entry can = can
held_refused reading.Damaged entries entry can = can
held_refused reading.Memory entries entry can = can

-- what refuses the entry is the answer
pub answers_refusal : {T : Type 0} (entries : List Entry) (entry : Entry)
    (result : Result T TableError) (slot : Slot) (new : Builder) (e : TableError) →
    IsErrAnd result (λ s. s ≡ e) → AddRefusal e entries entry →
    AddOutcome entries entry result slot new
answers_refusal entries entry (Ok x) slot new e reported why = absurd reported
answers_refusal entries entry (Err s) slot new e reported why =
    subst (λ (x : TableError). AddRefusal x entries entry) (sym reported) why

pub answers_held_refusal : {T : Type 0} (entries : List Entry) (entry : Entry)
    (result : Result T TableError) (new : Builder) (e : TableError) →
    IsErrAnd result (λ s. s ≡ e) → HeldRefusal e entries entry →
    HeldOutcome entries entry result new
answers_held_refusal entries entry (Ok x) new e reported why = absurd reported
answers_held_refusal entries entry (Err s) new e reported why =
    subst (λ (x : TableError). HeldRefusal x entries entry) (sym reported) why

-- a refusal of the check needs no device
pub checked_quietly : {T U : Type 0} (called : Result T TableError) (it : Builder) (e : TableError)
    (result : Result U TableError) → CheckStatus called it → called ≡ Err e →
    IsErrAnd result (λ s. s ≡ e) → NeedsNoDevice result
checked_quietly called it e (Ok x) status is reported = absurd reported
checked_quietly called it e (Err table.Disk) status is reported =
    absurd (subst (λ r. CheckStatus r it) (is ∙ ap (λ x. Err x) (sym reported)) status)
checked_quietly called it e (Err table.Damaged) status is reported =
    absurd (subst (λ r. CheckStatus r it) (is ∙ ap (λ x. Err x) (sym reported)) status)
checked_quietly called it e (Err table.Order) status is reported = tt
checked_quietly called it e (Err table.Memory) status is reported = tt
checked_quietly called it e (Err table.TooLarge) status is reported = tt
checked_quietly called it e (Err table.Failed) status is reported = tt

-- .. and so does one for memory
pub needs_memory : {T : Type 0} (result : Result T TableError) →
    IsErrAnd result (λ s. s ≡ table.Memory) → NeedsNoDevice result
needs_memory (Ok x) reported = absurd reported
needs_memory {T = T} (Err e) reported = subst
    (λ (x : TableError). NeedsNoDevice {T = T} (Err x)) (sym reported) tt
