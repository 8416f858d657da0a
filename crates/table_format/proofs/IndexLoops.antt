-- The lines of an index, read one behind the other.
use Rattle.std.proofs.Common.{◌≡◌, ℕ, zero, suc, ◌+◌, ◌-◌, ◌≤◌, ◌<◌, List, [], ◌∷◌, ◌++◌, length}
use Rattle.std.proofs.Common.{map, Some, None}
use Rattle.std.proofs.Common.{refl, sym, ap, subst, ◌∙◌, arith, length-append, AllPairs}
use Rattle.std.specs.List.{flat_map, slice_get}
use Rattle.std.specs.Int.{w32}
use Rattle.std.proofs.lemmas.List.{map-append}
use Rattle.std.proofs.lemmas.List.Concat.{flat_map-cons}
use Rattle.std.proofs.lemmas.List.Elements.{All-from_recursion, recursion_from_All}
use Rattle.byte_fields.specs.FieldsLemmas.{IsBytes, some_is}
use Rattle.byte_fields.specs.{number_at}
use Rattle.merge_iter.specs.declared.Direction.TheVariants.{Forward}
use Rattle.merge_iter.specs.{EntryPrecedes}
use Rattle.table_format.proofs.Lines.{line_reads}
use Rattle.table_format.specs.PartsLemmas.{length_reads, same_content, same_counted}
use Rattle.table_format.specs.PassedLemmas.{After, Passed, all_read, never_none, next_of}
use Rattle.table_format.specs.PassedLemmas.{passed_next}
use Rattle.table_format.specs.PassedLemmas.{split_of, text_end}
use Rattle.table_format.specs.RisingLemmas.{can_follow, rising_push}
use Rattle.table_format.specs.Blocks.{CanFollow, be32, last_entry, sealed}
use Rattle.table_format.specs.Parts.{FillsPlaces, IsIndex, IsIndexLine, end_spot}
use Rattle.table_format.specs.Reading.{line_at}
use Rattle.table_format.specs.Tables.{index_content, line_bytes}
use Rattle.table_format.specs.declared.line.IndexLine.{IndexLine}
use Rattle.byte_fields.specs.declared.format.Format.{Format}

-- ---- places

pub fills_le : (at : ℕ) (lines : List IndexLine) (end : ℕ) → FillsPlaces at lines end → at ≤ end
fills_le at [] end f = omega (arith, f)
fills_le at (x ∷ lines) end f = let below = fills_le (at + x.len) lines end f.1 in
    omega (arith, below)

pub fills_split : (at : ℕ) (lines others : List IndexLine) (a : IndexLine) (place end : ℕ)
    → FillsPlaces at lines place
    → FillsPlaces at (lines ++ a ∷ others) end
    → (a.place ≡ place) × FillsPlaces (place + a.len) others end
fills_split at [] others a place end f g = (
  g.0 ∙ f,
  subst (λ (p : ℕ). FillsPlaces (p + a.len) others end) f g.1,
)
fills_split at (x ∷ lines) others a place end f g =
    fills_split (at + x.len) lines others a place end f.1 g.1

pub fills_push : (at : ℕ) (lines : List IndexLine) (a : IndexLine) (place : ℕ)
    → FillsPlaces at lines place
    → a.place ≡ place → FillsPlaces at (lines ++ a ∷ []) (place + a.len)
fills_push at [] a place f is = (is ∙ sym f, ap (λ (p : ℕ). p + a.len) f)
fills_push at (x ∷ lines) a place f is = (f.0, fills_push (at + x.len) lines a place f.1 is)

pub fills_end : (at : ℕ) (lines : List IndexLine) (a b : ℕ) → FillsPlaces at lines a
    → FillsPlaces at lines b → a ≡ b
fills_end at [] a b f g = sym f ∙ g
fills_end at (x ∷ lines) a b f g = fills_end (at + x.len) lines a b f.1 g.1

-- ---- lines

line_long : (format : Format) (line : IndexLine) → 0 < length (line_bytes format line)
line_long format line = omega arith

pub record LinesRead (format : Format) (text rest : List ℕ) (lines : List IndexLine) (place end : ℕ)
    : Type 0 where
  pub passed : Passed (IsIndexLine format) (line_bytes format) text rest lines
  pub rising : AllPairs (EntryPrecedes Forward) (map end_spot lines)
  pub fills : FillsPlaces 0 lines place
  pub within : place ≤ end

pub lines_begin : (format : Format) (text : List ℕ) (end : ℕ) → IsBytes text
    → LinesRead format text text [] 0 end
lines_begin format text end fits =
    record {
      passed = record { spelled = refl; each = tt; fits = fits };
      rising = λ i j d lt short. absurd (omega (arith, short));
      fills = refl;
      within = omega arith;
    }

pub lines_next : (format : Format) (text rest : List ℕ) (lines : List IndexLine) (place end : ℕ)
    (line : IndexLine)
    (behind : List ℕ)
    → LinesRead format text rest lines place end → line_at format rest ≡ Some (line, behind)
    → line.place ≡ place
    → place + line.len ≤ end → CanFollow (map end_spot lines) (end_spot line)
    → LinesRead format text behind (lines ++ line ∷ []) (place + line.len) end
lines_next format text rest lines place end line behind r e at fit follows =
    record {
      passed = passed_next (line_reads format) text rest lines line behind r.passed e;
      rising = subst (AllPairs (EntryPrecedes Forward))
          (sym (map-append end_spot lines (line ∷ [])))
          (rising_push (map end_spot lines) (end_spot line) r.rising follows);
      fills = fills_push 0 lines line place r.fills at;
      within = fit;
    }

-- what stands for an index, seen from its reader
pub record SpelledLines (format : Format) (text : List ℕ) (count : ℕ) (all : List IndexLine) : Type
    0 where
  pub size : count ≡ length all
  pub spelled : text ≡ flat_map (line_bytes format) all

pub index_spells : (format : Format) (part content text : List ℕ) (count end : ℕ)
    → part ≡ sealed content
    → number_at w32 content ≡ Some (count, text) → (all : List IndexLine)
    → IsIndex format part end all
    → SpelledLines format text count all
index_spells format part content text count end is e all x =
    let same : content ≡ index_content format all =
    same_content content (index_content format all) (sym is ∙ x.spelled) in
    let c = same_counted content text (flat_map (line_bytes format) all) count (length all) same
    x.few e in
    record { size = c.0; spelled = c.1 }

pub after_lines : (format : Format) (text rest : List ℕ) (lines : List IndexLine)
    (place end count : ℕ)
    (part : List ℕ) (all : List IndexLine)
    → LinesRead format text rest lines place end → SpelledLines format text count all
    → IsIndex format part end all
    → After (IsIndexLine format) (line_bytes format) rest lines all
after_lines format text rest lines place end count part all r w x =
    split_of (line_reads format) (line_long format) text rest lines all r.passed
    (recursion_from_All (IsIndexLine format) all x.each) w.spelled

pub next_line : (format : Format) (text rest : List ℕ) (lines : List IndexLine)
    (place end count : ℕ) (part : List ℕ)
    (all : List IndexLine)
    (line : IndexLine) (behind : List ℕ) → LinesRead format text rest lines place end
    → SpelledLines format text count all
    → IsIndex format part end all → 0 < length rest → line_at format rest ≡ Some (line, behind)
    → (line.place ≡ place) × ((place + line.len ≤ end)
    × CanFollow (map end_spot lines) (end_spot line))
next_line format text rest lines place end count part all line behind r w x some e =
    let n = next_of (line_reads format) rest lines all line behind
    (after_lines format text rest lines place end count part all r w x) some e in
    let f = fills_split 0 lines n.others line place end r.fills
    (subst (λ (l : List IndexLine). FillsPlaces 0 l end) n.split x.fills) in
    let rising = subst (AllPairs (EntryPrecedes Forward))
    (ap (map end_spot) n.split ∙ map-append end_spot lines (line ∷ n.others)) x.rising in (
      f.0,
      (
        fills_le (place + line.len) n.others end f.1,
        can_follow (map end_spot lines) (map end_spot n.others) (end_spot line) rising,
      ),
    )

pub no_line : (format : Format) (text rest : List ℕ) (lines : List IndexLine) (place end count : ℕ)
    (part : List ℕ)
    (all : List IndexLine)
    → LinesRead format text rest lines place end → SpelledLines format text count all
    → IsIndex format part end all → 0 < length rest → line_at format rest ≡ None → ⊥
no_line format text rest lines place end count part all r w x some e =
    let s = after_lines format text rest lines place end count part all r w x in
    never_none (line_reads format) rest s.after s.each s.spelled some e

pub lines_all : (format : Format) (text rest : List ℕ) (lines : List IndexLine)
    (place end count : ℕ) (part : List ℕ)
    (all : List IndexLine)
    → LinesRead format text rest lines place end → SpelledLines format text count all
    → IsIndex format part end all → length rest ≡ 0 → all ≡ lines
lines_all format text rest lines place end count part all r w x none =
    all_read (line_bytes format) (line_long format) rest lines all
    (after_lines format text rest lines place end count part all r w x) none

some_lines : (format : Format) (text : List ℕ) (lines : List IndexLine)
    → text ≡ flat_map (line_bytes format) lines
    → 0 < length text
    → 1 ≤ length lines
some_lines format text [] is full = absurd (omega (arith, full, ap length is))
some_lines format text (x ∷ lines) is full = omega arith

-- an index that stands for lines has text
pub has_text : (format : Format) (text : List ℕ) (count : ℕ) (part : List ℕ) (end : ℕ)
    (all : List IndexLine)
    → SpelledLines format text count all
    → IsIndex format part end all → 0 < length text
has_text format text count part end all w x = by all w.spelled x.some
  where
    by : (lines : List IndexLine) → text ≡ flat_map (line_bytes format) lines → 1 ≤ length lines
        → 0 < length text
    by [] is some = absurd (omega (arith, some))
    by (x ∷ lines) is some =
        omega (
          arith,
          ap length is,
          ap length (flat_map-cons (line_bytes format) x lines),
          length-append (line_bytes format x) (flat_map (line_bytes format) lines),
          line_long format x,
        )

pub is_index : (format : Format) (part content text rest : List ℕ) (count : ℕ)
    (lines : List IndexLine) (end : ℕ)
    → part ≡ sealed content
    → IsBytes content → number_at w32 content ≡ Some (count, text)
    → LinesRead format text rest lines end end
    → length rest ≡ 0 → length lines ≡ count → 0 < length text → IsIndex format part end lines
is_index format part content text rest count lines end is fits e r none len full =
    let some = some_lines format text lines (text_end text rest lines r.passed none) full in
    let t = length_reads.takes content (count, text) fits e in
    let few = t.1 in
    record {
      spelled = is ∙ ap sealed (t.0.parts ∙ ap (λ (x : List ℕ). be32 count ++ x)
          (text_end text rest lines r.passed none)
          ∙ ap (λ (k : ℕ). be32 k ++ flat_map (line_bytes format) lines) (sym len));
      some = some;
      few = omega (arith, few, len);
      each = All-from_recursion (IsIndexLine format) lines r.passed.each;
      rising = r.rising;
      fills = r.fills;
    }

pub line_shorter : (format : Format) (rest : List ℕ) (line : IndexLine) (behind : List ℕ)
    → IsBytes rest
    → line_at format rest ≡ Some (line, behind) → length behind < length rest
line_shorter format rest line behind fits e =
    let t = (line_reads format).takes rest (line, behind) fits e in
    omega (
      arith,
      line_long format line,
      ap length t.0.parts,
      length-append (line_bytes format line)
          behind,
    )

line_last : (lines : List IndexLine) (n : ℕ) (x : IndexLine) → length lines ≡ suc n
    → slice_get lines n ≡ Some x → last_entry (map end_spot lines) ≡ Some (end_spot x)
line_last [] n x len is = absurd (omega (arith, len))
line_last (y ∷ []) zero x len is = ap (λ (z : IndexLine). Some (end_spot z)) (some_is y x is)
line_last (y ∷ []) (suc n) x len is = absurd (omega (arith, len))
line_last (y ∷ z ∷ xs) zero x len is = absurd (omega (arith, len))
line_last (y ∷ z ∷ xs) (suc n) x len is = line_last (z ∷ xs) n x (omega (arith, len)) is

pub last_line : (lines : List IndexLine) (x : IndexLine)
    → slice_get lines (length lines - 1) ≡ Some x
    → last_entry (map end_spot lines) ≡ Some (end_spot x)
last_line [] x is = absurd cc
last_line (y ∷ ys) x is =
    line_last (y ∷ ys) (length ys) x refl
    (subst (λ (n : ℕ). slice_get (y ∷ ys) n ≡ Some x)
    (let e : length (y ∷ ys) - 1 ≡ length ys = omega arith in e) is)
