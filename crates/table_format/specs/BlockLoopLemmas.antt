-- The entries of a block, read one behind the other.
use Rattle.std.proofs.Common.{◌≡◌, ℕ, ◌+◌, ◌<◌, List, [], ◌∷◌, ◌++◌, length, Option, Some, None}
use Rattle.std.proofs.Common.{refl, sym, ap, subst, ◌∙◌, arith, length-append, IfSome, AllPairs}
use Rattle.std.specs.List.{flat_map}
use Rattle.std.specs.Int.{w32}
use Rattle.std.proofs.lemmas.List.Elements.{All-from_recursion, recursion_from_All}
use Rattle.byte_fields.specs.FieldsLemmas.{IsBytes}
use Rattle.byte_fields.specs.{number_at}
use Rattle.merge_iter.specs.declared.Direction.TheVariants.{Forward}
use Rattle.merge_iter.specs.{EntryPrecedes}
use Rattle.kv_types.specs.{Entry}
use Rattle.table_format.specs.EntriesLemmas.{entry_reads}
use Rattle.table_format.specs.FrontsLemmas.{entry_long}
use Rattle.table_format.specs.PartsLemmas.{length_reads, same_content, same_counted}
use Rattle.table_format.specs.PassedLemmas.{After, Passed, all_read, never_none, next_of}
use Rattle.table_format.specs.PassedLemmas.{passed_next}
use Rattle.table_format.specs.PassedLemmas.{split_of, text_end}
use Rattle.table_format.specs.RisingLemmas.{can_follow, last_push, rising_push}
use Rattle.table_format.specs.Blocks.{IsBlock, IsBlockText, IsEntryOf, be32, entry_bytes}
use Rattle.table_format.specs.Blocks.{last_entry, sealed}
use Rattle.table_format.specs.Reading.{table_entry_at}
use Rattle.byte_fields.specs.declared.format.Format.{Format}

-- ---- entries

entry_full : (format : Format) (entry : Entry) → 0 < length (entry_bytes format entry)
entry_full format entry = omega (arith, entry_long format entry)

-- the loop over the entries of a block has read so many: these stand before the rest, in order
pub record EntriesRead (format : Format) (text rest : List ℕ) (seen : ℕ) (last : Option Entry)
    : Type 0 where
  pub entries : List Entry
  pub passed : Passed (IsEntryOf format) (entry_bytes format) text rest entries
  pub rising : AllPairs (EntryPrecedes Forward) entries
  pub number : seen ≡ length entries
  pub end : last ≡ last_entry entries

-- before the loop nothing has been read
pub entries_begin : (format : Format) (text : List ℕ) → IsBytes text
    → EntriesRead format text text 0 None
entries_begin format text fits =
    record {
      entries = [];
      passed = record { spelled = refl; each = tt; fits = fits };
      rising = λ i j d lt short. absurd (omega (arith, short));
      number = refl;
      end = refl;
    }

-- one more entry in order is read
pub entries_next : (format : Format) (text rest : List ℕ) (seen : ℕ) (last : Option Entry)
    (entry : Entry)
    (behind : List ℕ)
    → EntriesRead format text rest seen last → table_entry_at format rest ≡ Some (entry, behind)
    → IfSome last (λ before. EntryPrecedes Forward before entry)
    → EntriesRead format text behind (seen + 1) (Some entry)
entries_next format text rest seen last entry behind r e follows =
    let seen_is = r.number in
    record {
      entries = r.entries ++ entry ∷ [];
      passed = passed_next (entry_reads format) text rest r.entries entry behind r.passed e;
      rising = rising_push r.entries entry r.rising
          (subst (λ (o : Option Entry). IfSome o (λ before. EntryPrecedes Forward before entry))
          r.end follows);
      number = omega (arith, seen_is, length-append r.entries (entry ∷ []));
      end = sym (last_push r.entries entry);
    }

-- the text is that of so many entries
pub record SpelledEntries (format : Format) (text : List ℕ) (count : ℕ) (all : List Entry)
    : Type 0 where
  pub size : count ≡ length all
  pub spelled : text ≡ flat_map (entry_bytes format) all

-- the text of a block is that of its entries
pub block_spells : (format : Format) (part content text : List ℕ) (count : ℕ)
    → part ≡ sealed content
    → number_at w32 content ≡ Some (count, text) → (all : List Entry) → IsBlock format part all
    → SpelledEntries format text count all
block_spells format part content text count is e all x =
    let same : content ≡ be32 (length all) ++ flat_map (entry_bytes format) all =
    same_content content (be32 (length all) ++ flat_map (entry_bytes format) all)
    (sym is ∙ x.spelled) in
    let c = same_counted content text (flat_map (entry_bytes format) all) count (length all) same
    x.few e in
    record { size = c.0; spelled = c.1 }

after_entries : (format : Format) (text rest : List ℕ) (seen count : ℕ) (last : Option Entry)
    (part : List ℕ)
    (all : List Entry)
    → (r : EntriesRead format text rest seen last) → SpelledEntries format text count all
    → IsBlock format part all
    → After (IsEntryOf format) (entry_bytes format) rest r.entries all
after_entries format text rest seen count last part all r w x =
    split_of (entry_reads format) (entry_full format) text rest r.entries all r.passed
    (recursion_from_All (IsEntryOf format) all x.each) w.spelled

-- where a block has bytes left, an entry is read
pub no_entry : (format : Format) (text rest : List ℕ) (seen count : ℕ) (last : Option Entry)
    (part : List ℕ)
    (all : List Entry)
    → EntriesRead format text rest seen last → SpelledEntries format text count all
    → IsBlock format part all
    → 0 < length rest
    → table_entry_at format rest ≡ None → ⊥
no_entry format text rest seen count last part all r w x some e =
    let s = after_entries format text rest seen count last part all r w x in
    never_none (entry_reads format) rest s.after s.each s.spelled some e

-- the next entry that is read is one of the block's, and comes behind the last
pub next_entry : (format : Format) (text rest : List ℕ) (seen count : ℕ) (last : Option Entry)
    (part : List ℕ)
    (all : List Entry)
    (entry : Entry) (behind : List ℕ) → EntriesRead format text rest seen last
    → SpelledEntries format text count all
    → IsBlock format part all → 0 < length rest → table_entry_at format rest ≡ Some (entry, behind)
    → (seen < count) × IfSome last (λ before. EntryPrecedes Forward before entry)
next_entry format text rest seen count last part all entry behind r w x some e =
    let n = next_of (entry_reads format) rest r.entries all entry behind
    (after_entries format text rest seen count last part all r w x) some e in
    let count_is = w.size in
    let seen_is = r.number in (
      omega (
        arith,
        count_is,
        seen_is,
        ap length n.split,
        length-append r.entries (entry ∷ n.others),
      ),
      subst (λ (o : Option Entry). IfSome o (λ before. EntryPrecedes Forward before entry))
          (sym r.end)
          (can_follow r.entries n.others entry
          (subst (AllPairs (EntryPrecedes Forward)) n.split x.rising)),
    )

-- where no bytes are left, as many entries were read as the block counts
pub entries_all : (format : Format) (text rest : List ℕ) (seen count : ℕ) (last : Option Entry)
    (part : List ℕ)
    (all : List Entry)
    → EntriesRead format text rest seen last → SpelledEntries format text count all
    → IsBlock format part all
    → length rest ≡ 0
    → seen ≡ count
entries_all format text rest seen count last part all r w x none =
    let s = after_entries format text rest seen count last part all r w x in
    let same : all ≡ r.entries = all_read (entry_bytes format) (entry_full format) rest r.entries
    all s none in
    let count_is = w.size in
    let seen_is = r.number in
    omega (arith, count_is, seen_is, ap length same)

-- so many entries in order, up to the end of the text, are a block
pub is_block : (format : Format) (part content text rest : List ℕ) (seen count : ℕ)
    (last : Option Entry)
    → part ≡ sealed content
    → IsBytes content → number_at w32 content ≡ Some (count, text)
    → EntriesRead format text rest seen last
    → length rest ≡ 0 → seen ≡ count → 0 < count → IsBlockText format part text
is_block format part content text rest seen count last is fits e r none len some =
    let t = length_reads.takes content (count, text) fits e in
    let few = t.1 in
    let seen_is = r.number in
    let size : count ≡ length r.entries = sym len ∙ seen_is in
    let end = text_end text rest r.entries r.passed none in (
      r.entries,
      record {
        spelled = is ∙ ap sealed (t.0.parts ∙ ap (λ (x : List ℕ). be32 count ++ x) end
            ∙ ap (λ (k : ℕ). be32 k ++ flat_map (entry_bytes format) r.entries) size);
        some = omega (arith, some, size);
        few = omega (arith, few, size);
        each = All-from_recursion (IsEntryOf format) r.entries r.passed.each;
        rising = r.rising;
      },
      end,
    )

-- each entry that is read leaves fewer bytes
pub entry_shorter : (format : Format) (rest : List ℕ) (entry : Entry) (behind : List ℕ)
    → IsBytes rest
    → table_entry_at format rest ≡ Some (entry, behind) → length behind < length rest
entry_shorter format rest entry behind fits read =
    let t = (entry_reads format).takes rest (entry, behind) fits read in
    omega (
      arith,
      entry_long format entry,
      ap length t.0.parts,
      length-append (entry_bytes format entry) behind,
    )
