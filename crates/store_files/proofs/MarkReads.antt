-- What is shown at the key of a client is its last mark.
use Rattle.std.proofs.Common.{◌≡◌, ℕ, ◌<◌, ◌≤◌, ◌^◌, ◌∙◌, List, Option, Some, None, All, Err, Ok}
use Rattle.std.proofs.Common.{Result}
use Rattle.std.proofs.Common.{arith, length, take, take_all, refl, sym, ap, subst}
use Rattle.std.specs.Int.{w64, from_be_bytes, to_be_bytes}
use Rattle.std.specs.Option.{option_map}
use Rattle.std.specs.Prelude.{IfErr, IfOk, IfSome, IsErrOf}
use Rattle.std.proofs.lemmas.Nat.{from_be_bytes-to_be_bytes_8}
use Rattle.std.proofs.lemmas.Option.{same_Some}
use Rattle.kv_types.specs.declared.mark.HeldMark.{HeldMark}
use Rattle.kv_types.specs.{BatchContent, IsBatch, IsLastMark, IsNewest, IsShown, all_entries}
use Rattle.kv_types.specs.{held_as}
use Rattle.byte_fields.specs.{StoredKey, mark_key}
use Rattle.kv_types.specs.{mark_held, stored_map_of}
use Rattle.kv_types.specs.BatchesLemmas.{small_mark}
use Rattle.kv_types.specs.Entries.{IsOfMark, ShowMarks, ViewsAreMarks}
use Rattle.kv_types.specs.Marks.{HeldIsLast}
use Rattle.store_tables.specs.declared.error.EngineError.{EngineError}
use Rattle.store_tables.specs.declared.error.EngineError.TheVariants as engine
use Rattle.disk.specs.{State}
use Rattle.store_files.specs.OpenFiles.{MemoryLacks, WereMeantToHold, batch_count, known_facts}
use Rattle.store_files.specs.declared.store_files.StoreFiles.{StoreFiles}
use Rattle.store_files.specs.ShownValues.{IsMarkEntry, IsShownIn, mark_in, shown_entry}
use Rattle.store_files.specs.declared.finding.ShownValue.{ShownValue}

-- where nothing of a thing is left, there is none
none_of : {A B : Type 0} (f : A → B) (o : Option A) → None ≡ option_map f o → o ≡ None
none_of f None e = refl
none_of f (Some x) e = absurd (cc)

-- what is shown at the key of a client at the number is the mark that the list holds for it, and
-- looks like one
pub record IsMarkShown (list : List BatchContent) (client at : ℕ) (shown : Option ShownValue)
    : Type 0 where
  pub held : mark_held list client ≡ mark_in shown
  pub entry : IfSome shown (IsMarkEntry at)

-- what is taken of the laws of marks
pub record MarkLaws : Type 0 where
  pub shown : ViewsAreMarks
  pub last : (list : List BatchContent) (client : ℕ) → HeldIsLast list client

module _ (laws : MarkLaws) (list : List BatchContent) (each : All IsBatch list) (client : ℕ)
    (fits : client < 2 ^ 64) where
  shows : ShowMarks list client
  shows = laws.shown list client each fits

  -- the whole list is read
  whole : take (length list) list ≡ list
  whole = take_all (length list) list (omega arith)

  -- an entry that is shown is that of the last mark
  of_entry : (it : ShownValue)
      → IsShown (length list) (all_entries list) (shown_entry (mark_key client) it)
      → IsMarkShown list client (length list) (Some it)
  of_entry it shown =
      let mine : IsOfMark client (shown_entry (mark_key client) it) =
      shows.each (shown_entry (mark_key client) it) shown.newest.seen.0 refl in
      let r = mine.mark.request in
      let bytes : it.value ≡ to_be_bytes w64 r =
      same_Some it.value (to_be_bytes w64 r) mine.value in
      let short = (small_mark mine.mark mine.fits).1 in
      let newest = subst (λ (v : Option (List ℕ)). IsNewest (length list) (all_entries list)
      (record { key = mark_key client; number = it.number; value = v })) mine.value shown.newest in
      let held = (laws.last list client).held r it.number in
      let is = held.1 (subst (λ (l : List BatchContent). IsLastMark l client r it.number) whole
      ((shows.newest (length list) r it.number short).0 newest)) in
      let read : from_be_bytes w64 it.value ≡ r =
      ap (from_be_bytes w64) bytes ∙ from_be_bytes-to_be_bytes_8 r short in
      record {
        held = is ∙ ap (λ (n : ℕ). Some (n, it.number)) (sym read);
        entry = (ap length bytes, shown.newest.seen.1);
      }

  -- and where none is shown, none is held
  mark_shown : (shown : Option ShownValue) → IsShownIn list (length list) (mark_key client) shown
      → IsMarkShown list client (length list) shown
  mark_shown (Some it) is = of_entry it is.entry
  mark_shown None is =
      let left = is.left ∙ ap (λ (l : List BatchContent). stored_map_of l (mark_key client)) whole
      ∙ shows.left in
      record {
        held = none_of (λ (held : ℕ × ℕ). to_be_bytes w64 held.0) (mark_held list client) left;
        entry = tt;
      }

-- so it is in files that were meant to hold the list, at the number of their batches
pub files_show : MarkLaws → (disk : State) (files : StoreFiles) (list : List BatchContent)
    → WereMeantToHold disk files list → (client : ℕ) → client < 2 ^ 64 → (at : ℕ)
    → at ≡ batch_count files → (key : StoredKey) → key ≡ mark_key client
    → (shown : Option ShownValue)
    → ((known_facts files).floor ≤ at → at ≤ batch_count files → IsShownIn list at key shown)
    → IsMarkShown list client at shown
files_show laws disk files list w client fits at all key is shown found =
    let known = w.hold.known in
    let count : at ≡ length list = all ∙ known.count in
    let floor = known.usable.numbers.floor_count in
    let there = found (omega (arith, floor, all)) (omega (arith, all)) in
    subst (λ (n : ℕ). IsMarkShown list client n shown) (sym count)
    (mark_shown laws list known.each client fits shown
    (subst (λ (k : StoredKey). IsShownIn list (length list) k shown) is
    (subst (λ (n : ℕ). IsShownIn list n key shown) count there)))

-- memory that has no entry of the key at that number has none of the client
pub lacks_client : (files : StoreFiles) (client at : ℕ) → at ≡ batch_count files
    → (key : StoredKey) → key ≡ mark_key client → MemoryLacks files at key
    → MemoryLacks files (batch_count files) (mark_key client)
lacks_client files client at all key is lacks =
    subst (λ (n : ℕ). MemoryLacks files n (mark_key client)) all
    (subst (MemoryLacks files at) is lacks)

-- the mark is what is answered
pub mark_told : {list : List BatchContent} {client at : ℕ} {shown : Option ShownValue}
    (result : Result (Option HeldMark) EngineError) → IsMarkShown list client at shown
    → IfOk result (λ held. mark_in shown ≡ held_as held)
    → IfOk result (λ held. mark_held list client ≡ held_as held)
mark_told (Ok held) is told = is.held ∙ told
mark_told (Err e) is told = tt

-- what looks like a mark is not refused
pub not_refused : {T Fits : Type 0} (result : Result T EngineError) (Q : EngineError → Type 0)
    → Fits → IfErr result (λ e. (e ≡ engine.Damaged) × (Fits → ⊥)) → IfErr result Q
not_refused (Ok x) Q fits damaged = tt
not_refused (Err e) Q fits damaged = absurd (damaged.1 fits)

-- nor as damaged
pub not_damage : {T Fits : Type 0} (result : Result T EngineError) → Fits
    → IfErr result (λ e. (e ≡ engine.Damaged) × (Fits → ⊥)) → IsErrOf result engine.Damaged → ⊥
not_damage (Ok x) fits damaged is = absurd cc
not_damage (Err e) fits damaged is = damaged.1 fits
