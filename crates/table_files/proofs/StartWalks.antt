-- Entries of a block, read one behind the other, and again from their places.
use Rattle.std.proofs.Common.{◌≡◌, ℕ, ◌+◌, ◌-◌, ◌≤◌, ◌<◌, List, [], ◌∷◌, ◌++◌, length, map, take}
use Rattle.std.proofs.Common.{drop}
use Rattle.std.proofs.Common.{Option, Some, None, IsSomeAnd, All, refl, sym, ap, subst, ◌∙◌, arith}
use Rattle.std.proofs.Common.{append_assoc, length-append, take-append-drop}
use Rattle.std.specs.List.{AllByRecursion}
use Rattle.std.specs.Option.{option_map}
use Rattle.std.specs.Int.{w32}
use Rattle.std.proofs.lemmas.List.{drop_at, map-append, length-take}
use Rattle.std.proofs.lemmas.Grind.{flat_map-append}
use Rattle.std.proofs.lemmas.List.Concat.{flat_map-cons}
use Rattle.std.proofs.lemmas.List.Elements.{All-from_recursion, recursion_from_All}
use Rattle.kv_types.specs.{Entry}
use Rattle.byte_fields.specs.FieldsLemmas.{IsBytes, some_is}
use Rattle.byte_fields.specs.Readers.{number_at}
use Rattle.table_format.specs.Blocks.{IsBlock, IsEntryOf, IsTableEntry, be32, block_content}
use Rattle.byte_fields.specs.declared.format.Format.{Format}
use Rattle.table_format.specs.Blocks.{digest, entries_bytes, entry_bytes}
use Rattle.table_format.specs.Reading.{table_entry_at}
use Rattle.table_format.specs.EntriesLemmas.{entry_reads}
use Rattle.table_format.specs.FrontsLemmas.{few_entries, same_entries, split_each}
use Rattle.table_format.specs.PartsLemmas.{length_reads}
use Rattle.table_format.specs.PassedLemmas.{Passed, passed_next}
use Rattle.table_files.specs.EntryReads.{AreRead, ReadsEntries, entry_read}
use Rattle.table_files.specs.EntryReadsLemmas.{count_read}

-- ---- entries behind a head

-- the entries that were read so far, of a block with this head
pub record StartsWalked (format : Format) (block first rest starts : List ℕ) : Type 0 where
  pub entries : List Entry
  pub passed : Passed (IsEntryOf format) (entry_bytes format) first rest entries
  pub again : ReadsEntries format block starts entries
  pub head : List ℕ
  pub split : block ≡ head ++ first

pub walk_begins : (format : Format) (block first : List ℕ) (count : ℕ) → IsBytes block
    → number_at w32 block ≡ Some (count, first) → StartsWalked format block first first []
walk_begins format block first count fits e =
    let t = length_reads.takes block (count, first) fits e in
    record {
      entries = [];
      passed = record { spelled = refl; each = tt; fits = t.0.rest_fits };
      again = refl;
      head = be32 count;
      split = t.0.parts;
    }

pub rest_within : (format : Format) (block first rest starts : List ℕ)
    → StartsWalked format block first rest starts
    → length starts + length rest ≤ length block
rest_within format block first rest starts w =
    omega (
      arith,
      ap length w.split,
      length-append w.head first,
      ap length w.passed.spelled,
      length-append (entries_bytes format w.entries) rest,
      few_entries format w.entries,
      count_read format block starts w.entries w.again,
    )

-- the rest starts where it is read again
place_of_rest : (format : Format) (block first rest starts : List ℕ)
    (w : StartsWalked format block first rest starts)
    → drop (length block - length rest) block ≡ rest
place_of_rest format block first rest starts w =
    let front = w.head ++ entries_bytes format w.entries in
    let parts : block ≡ front ++ rest =
    w.split ∙ ap (λ (t : List ℕ). w.head ++ t) w.passed.spelled
    ∙ sym (append_assoc w.head (entries_bytes format w.entries) rest) in
    let len : length front ≡ length block - length rest =
    omega (arith, ap length parts, length-append front rest) in
    ap (drop (length block - length rest)) parts ∙ drop_at front rest _ len

pub walk_goes_on : (format : Format) (block first rest starts : List ℕ) (entry : Entry)
    (behind : List ℕ)
    → StartsWalked format block first rest starts
    → table_entry_at format rest ≡ Some (entry, behind)
    → StartsWalked format block first behind (starts ++ (length block - length rest) ∷ [])
walk_goes_on format block first rest starts entry behind w e =
    let place = length block - length rest in
    let here : entry_read format block place ≡ Some entry =
    ap (λ (t : List ℕ). option_map (λ x. x.0) (table_entry_at format t))
    (place_of_rest format block first rest starts w) ∙ ap (option_map (λ x. x.0)) e in
    record {
      entries = w.entries ++ entry ∷ [];
      passed = passed_next (entry_reads format) first rest w.entries entry behind w.passed e;
      again = map-append (entry_read format block) starts (place ∷ [])
          ∙ ap (λ (l : List (Option Entry)). l ++ entry_read format block place ∷ []) w.again
          ∙ ap (λ (o : Option Entry). map Some w.entries ++ o ∷ []) here
          ∙ sym (map-append Some w.entries (entry ∷ []));
      head = w.head;
      split = w.split;
    }

-- ---- of a block

-- what stands behind the count of a block
pub record BlockBegins (format : Format) (block first : List ℕ) (count : ℕ) (entries : List Entry)
    : Type 0 where
  pub number : count ≡ length entries
  pub text : first ≡ entries_bytes format entries ++ digest (block_content format entries)

pub block_begins : (format : Format) (block first : List ℕ) (count : ℕ) (entries : List Entry)
    → number_at w32 block ≡ Some (count, first) → IsBlock format block entries
    → BlockBegins format block first count entries
block_begins format block first count entries e b =
    let text = entries_bytes format entries in
    let d = digest (block_content format entries) in
    let parts : block ≡ be32 (length entries) ++ (text ++ d) =
    b.spelled ∙ append_assoc (be32 (length entries)) text d in
    let two : (count, first) ≡ (length entries, text ++ d) =
    some_is (count, first) (length entries, text ++ d)
    (sym e ∙ ap (number_at w32) parts ∙ length_reads.again (length entries) (text ++ d) b.few) in
    record {
      number = ap (λ (p : ℕ × List ℕ). p.0) two;
      text = ap (λ (p : ℕ × List ℕ). p.1) two;
    }

more_left : (format : Format) (back : List Entry) (rest d : List ℕ)
    → AllByRecursion (IsEntryOf format) back
    → 0 < length back → rest ≡ entries_bytes format back ++ d → table_entry_at format rest ≡ None
    → ⊥
more_left format [] rest d each some is none = omega arith
more_left format (x ∷ xs) rest d each some is none =
    let read : table_entry_at format rest ≡ Some (x, entries_bytes format xs ++ d) =
    ap (table_entry_at format)
    (is ∙ ap (λ (t : List ℕ). t ++ d) (flat_map-cons (entry_bytes format) x xs)
    ∙ append_assoc (entry_bytes format x) (entries_bytes format xs) d)
    ∙ (entry_reads format).again x (entries_bytes format xs ++ d) each.0 in
    absurd cc

-- where fewer entries were read than the block has, one more is read
pub no_entry : (format : Format) (block first rest starts : List ℕ) (count : ℕ)
    (entries : List Entry)
    → StartsWalked format block first rest starts → BlockBegins format block first count entries
    → All (IsEntryOf format) entries → length starts < count → table_entry_at format rest ≡ None → ⊥
no_entry format block first rest starts count entries w b each fewer none =
    let i = length w.entries in
    let size : length starts ≡ i = count_read format block starts w.entries w.again in
    let number = b.number in
    let below : i < length entries = omega arith in
    let front = take i entries in
    let back = drop i entries in
    let d = digest (block_content format entries) in
    let whole : entries ≡ front ++ back = sym (take-append-drop i entries) in
    let both = split_each (IsEntryOf format) front back
    (subst (AllByRecursion (IsEntryOf format)) whole
    (recursion_from_All (IsEntryOf format) entries each)) in
    let len : length w.entries ≡ length front = omega (arith, length-take i entries) in
    let same : entries_bytes format w.entries ++ rest
    ≡ entries_bytes format front ++ (entries_bytes format back ++ d) =
    sym w.passed.spelled ∙ b.text
    ∙ ap (λ (l : List Entry). entries_bytes format l ++ d) whole
    ∙ ap (λ (t : List ℕ). t ++ d) (flat_map-append (entry_bytes format) front back)
    ∙ append_assoc (entries_bytes format front) (entries_bytes format back) d in
    let left = (same_entries format w.entries front rest (entries_bytes format back ++ d)
    w.passed.each both.0 len
    same).1 in
    more_left format back rest d both.1 (omega (
      arith,
      below,
      ap length whole,
      length-append front back,
      length-take i entries,
    )) left none

-- where as many entries were read as the block has, they are its entries
pub all_read : (format : Format) (block first rest starts : List ℕ) (count : ℕ)
    (entries : List Entry)
    → StartsWalked format block first rest starts → BlockBegins format block first count entries
    → All (IsEntryOf format) entries → length starts ≡ count
    → ReadsEntries format block starts entries
all_read format block first rest starts count entries w b each is =
    let size : length starts ≡ length w.entries = count_read format block starts w.entries w.again
    in
    let number = b.number in
    let same = (same_entries format w.entries entries rest (digest (block_content format entries))
    w.passed.each
    (recursion_from_All (IsEntryOf format) entries each) (omega arith)
    (sym w.passed.spelled ∙ b.text)).0
    in
    w.again ∙ ap (map Some) same

-- ---- all of them

each_read : (format : Format) (block starts : List ℕ) (entries : List Entry)
    → ReadsEntries format block starts entries
    → AllByRecursion (IsEntryOf format) entries
    → AllByRecursion (λ start. IsSomeAnd (entry_read format block start) IsTableEntry) starts
each_read format block [] entries is each = tt
each_read format block (s ∷ starts) [] is each = absurd cc
each_read format block (s ∷ starts) (x ∷ entries) is each =
    let here : entry_read format block s ≡ Some x = cc in
    let others : map (entry_read format block) starts ≡ map Some entries = cc in (
      subst (λ (o : Option Entry). IsSomeAnd o IsTableEntry) (sym here) each.0.limits,
      each_read format block starts entries others each.1,
    )

pub are_read : (format : Format) (block starts : List ℕ) (entries : List Entry)
    → ReadsEntries format block starts entries
    → AllByRecursion (IsEntryOf format) entries → AreRead format block starts
are_read format block starts entries is each =
    All-from_recursion (λ start. IsSomeAnd (entry_read format block start) IsTableEntry) starts
    (each_read format block starts entries is each)
