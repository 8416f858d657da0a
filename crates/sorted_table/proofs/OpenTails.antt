-- The tail of a file, by what was read of it.
use Rattle.std.proofs.Common.{◌≡◌, ℕ, ◌+◌, List, ◌++◌, length, take, drop}
use Rattle.std.proofs.Common.{Result, Ok, Err}
use Rattle.std.specs.Prelude.{IsErrAnd, MatchOption, MatchResult}
use Rattle.std.proofs.Common.{Option, Some, None, IsSome, IsSomeAnd, refl, sym, ap, subst, ◌∙◌}
use Rattle.std.proofs.Common.{arith, append_assoc, length-append, take-append-drop}
use Rattle.std.proofs.lemmas.List.{drop_at, length-drop, length-take, take_all, take_at}
use Rattle.table_format.specs.PartsLemmas.{footer_again, footer_same}
use Rattle.table_format.specs.Tables.{footer_content}
use Rattle.table_format.specs.TablesLemmas.{length-footer}
use Rattle.kv_types.specs.{Entry}
use Rattle.table_format.specs.{IsFilterPart, IsFooter, IsIndex, TableRepresentsIn, filter_part}
use Rattle.table_format.specs.{footer_part}
use Rattle.table_format.specs.{index_part}
use Rattle.table_format.specs.declared.Footer.{Footer}
use Rattle.byte_fields.specs.declared.format.Format.{Format}
use Rattle.table_format.specs.declared.IndexLine.{IndexLine}
use Rattle.sorted_table.specs.declared.tail.Tail.{Tail}
use Rattle.sorted_table.specs.Tails.{FooterSays, HasReadTail, HasTail, IsTail, ReadsTail}
use Rattle.sorted_table.specs.Tails.{tail_bytes}

-- what holds of the cause holds of the refusal that tells it
pub refused_so : {T E : Type 0} (result : Result T E) {e : E} (P : T → Type 0) (Q : E → Type 0)
    → IsErrAnd result (λ s. s ≡ e) → Q e → MatchResult result P Q
refused_so (Ok x) P Q told q = absurd told
refused_so (Err s) P Q told q = subst Q (sym told) q

-- so does what holds where there is none
pub none_told : {T : Type 0} (o : Option T) (P : Type 0) (Q : T → Type 0) → o ≡ None → P
    → MatchOption o P Q
none_told {T = T} o P Q none p = subst (λ (it : Option T). MatchOption it P Q) (sym none) p

pub some_of : {A : Type 0} (P : A → Type 0) (o : Option A) → IsSomeAnd o P → IsSome o
some_of P None has = absurd has
some_of P (Some a) has = cc

pub some_and : {A : Type 0} (P : A → Type 0) (o : Option A) → IsSome o
    → ((a : A) → o ≡ Some a → P a) → IsSomeAnd o P
some_and P None is all = absurd cc
some_and P (Some a) is all = all a refl

pub some_more : {A : Type 0} (P Q : A → Type 0) (o : Option A) → IsSomeAnd o P
    → ((a : A) → P a → Q a) → IsSomeAnd o Q
some_more P Q None has all = absurd has
some_more P Q (Some a) has all = all a has

pub some_both : {A : Type 0} (P Q : A → Type 0) (o : Option A) → IsSomeAnd o P → IsSomeAnd o Q
    → (a : A) × P a × Q a
some_both P Q None has too = absurd has
some_both P Q (Some a) has too = (a, has, too)

-- bytes whose tail was read and checked have it
pub tail_there : (bytes part filter : List ℕ) (tail : Tail) (lines : List IndexLine)
    → ReadsTail part tail bytes → IsFilterPart (take tail.filter_len part) filter
    → IsIndex tail.format (drop tail.filter_len part) tail.place lines
    → HasTail tail.format bytes lines filter
tail_there bytes part filter tail lines read is_filter is_index =
    let format = tail.format in
    let is = read.len in
    let says = read.says in
    let ends = says.ends in
    let within = says.within in
    let front = take tail.place bytes in
    let rest = drop tail.place bytes in
    let foot = drop tail.len rest in
    let len_blocks : length front ≡ tail.place =
    omega (arith, length-take tail.place bytes, ends, is) in
    let len_rest : length rest + tail.place ≡ length bytes =
    omega (arith, length-drop tail.place bytes, ends, is) in
    let len_part : length part ≡ tail.len =
    omega (arith, ap length read.content, length-take tail.len rest, len_rest, ends, is) in
    let parts : part ≡ filter_part filter ++ index_part format lines =
    sym (take-append-drop tail.filter_len part)
    ∙ ap (λ (l : List ℕ). l ++ drop tail.filter_len part) is_filter.spelled
    ∙ ap (λ (l : List ℕ). filter_part filter ++ l) is_index.spelled in
    let len_filter : length (filter_part filter) ≡ tail.filter_len =
    omega (
      arith,
      ap length is_filter.spelled,
      length-take tail.filter_len part,
      len_part,
      within,
    ) in
    let len_index : length (filter_part filter) + length (index_part format lines) ≡ tail.len =
    omega (
      arith,
      ap length parts,
      length-append (filter_part filter) (index_part format lines),
      len_part,
    ) in
    let all : bytes ≡ (front ++ part) ++ foot =
    sym (take-append-drop tail.place bytes)
    ∙ ap (λ (l : List ℕ). front ++ l) (sym (take-append-drop tail.len rest)
    ∙ ap (λ (l : List ℕ). l ++ foot) (sym read.content))
    ∙ sym (append_assoc front part foot) in
    let len_front : length (front ++ part) ≡ read.end =
    omega (arith, length-append front part, len_blocks, len_part, ends) in
    let len_foot : length foot ≡ 52 =
    omega (arith, ap length all, length-append (front ++ part) foot, len_front, is) in
    let last : take 52 (drop read.end bytes) ≡ foot =
    ap (λ (l : List ℕ). take 52 (drop read.end l)) all
    ∙ ap (take 52) (drop_at (front ++ part) foot read.end len_front)
    ∙ take_all 52 foot (omega (arith, len_foot)) in
    let footer : foot ≡ footer_part says.footer = sym last ∙ says.is_footer.spelled in
    let said_filter = says.filter in
    let said_len = says.filter_len in
    let said_index = says.index in
    let said_index_len = says.index_len in
    record {
      front = front;
      footer = says.footer;
      spelled = all ∙ append_assoc front part foot
          ∙ ap (λ (l : List ℕ). front ++ l) (ap (λ (l : List ℕ). l ++ foot) parts
          ∙ append_assoc (filter_part filter) (index_part format lines) foot
          ∙ ap (λ (l : List ℕ). filter_part filter ++ (index_part format lines ++ l)) footer);
      is_filter = subst (λ (p : List ℕ). IsFilterPart p filter) is_filter.spelled is_filter;
      is_index = subst (λ (n : ℕ). IsIndex format (index_part format lines) n lines)
          (sym len_blocks)
          (subst (λ (p : List ℕ). IsIndex format p tail.place lines) is_index.spelled is_index);
      is_footer = subst (λ (p : List ℕ). IsFooter p says.footer) says.is_footer.spelled
          says.is_footer;
      places = record {
        filter = omega (arith, said_filter, len_blocks);
        filter_len = omega (arith, said_len, len_filter);
        index = omega (arith, said_index, len_blocks, len_filter);
        index_len = omega (arith, said_index, said_index_len, ends, len_index, len_filter);
      };
      read_in = says.read_in;
    }

-- the table of these entries in the format, and its tail
pub record TailIn (format : Format) (bytes : List ℕ) (entries : List Entry) (part : List ℕ)
    (tail : Tail) : Type 0 where
  pub table : TableRepresentsIn format bytes entries
  pub part_is : part ≡ tail_bytes format table.blocks table.filter
  pub is_tail : IsTail format table.blocks table.filter tail

-- a table has the format of its tail
pub in_its_format : (format : Format) (bytes : List ℕ) (entries : List Entry) (part : List ℕ)
    (tail : Tail) → tail.format ≡ format → TailIn format bytes entries part tail
    → TailIn tail.format bytes entries part tail
in_its_format format bytes entries part tail read_in it =
    subst (λ (f : Format). TailIn f bytes entries part tail) (sym read_in) it

pub some_one : {A : Type 0} (P : A → Type 0) (o : Option A) → IsSomeAnd o P
    → (a : A) × (o ≡ Some a) × P a
some_one P None has = absurd has
some_one P (Some a) has = (a, refl, has)

-- ---- bytes that have a tail

-- a footer says where filter and index stand
pub places_of : (part : List ℕ) (end : ℕ) (tail : Tail) (says : FooterSays part end tail)
    (it : Footer) → says.footer ≡ it
    → (it.filter + it.filter_len ≡ it.index) × (it.index + it.index_len ≡ end)
places_of part end tail says it same =
    let filter = says.filter in
    let len = says.filter_len in
    let index = says.index in
    let e : says.footer.filter + says.footer.filter_len ≡ says.footer.index =
    omega (arith, filter, len, index) in
    subst (λ (f : Footer). (f.filter + f.filter_len ≡ f.index) × (f.index + f.index_len ≡ end))
    same (e, says.index_len)

-- so does the one that was read
pub says_by : (bytes footer : List ℕ) (end : ℕ) → end + 52 ≡ length bytes
    → footer ≡ take 52 (drop end bytes) → (part : List ℕ) (tail : Tail)
    → ReadsTail part tail bytes → FooterSays footer end tail
says_by bytes footer end long is part tail read =
    let len = read.len in
    let same : read.end ≡ end = omega (arith, len, long) in
    subst (λ (f : List ℕ). FooterSays f end tail) (sym is)
    (subst (λ (n : ℕ). FooterSays (take 52 (drop n bytes)) n tail) same read.says)

-- one part is that of one footer
pub footers_are_one : (part : List ℕ) (a b : Footer) → IsFooter part a → IsFooter part b → a ≡ b
footers_are_one part a b one two =
    (footer_same part (footer_content b) b _ two.spelled
    (footer_again part (footer_content b) b two.spelled two) a one).0

module _ (format : Format) (bytes : List ℕ) (lines : List IndexLine) (filter : List ℕ)
    (h : HasTail format bytes lines filter) where
  abbrev middle : List ℕ
  middle = filter_part filter ++ index_part format lines

  abbrev foot : List ℕ
  foot = footer_part h.footer

  all_is : bytes ≡ h.front ++ (middle ++ foot)
  all_is = h.spelled ∙ ap (λ (l : List ℕ). h.front ++ l)
      (sym (append_assoc (filter_part filter) (index_part format lines) foot))

  ends_at : length h.front + length middle + 52 ≡ length bytes
  ends_at = omega (
    arith,
    ap length all_is,
    length-append h.front (middle ++ foot),
    length-append middle foot,
    length-footer h.footer,
  )

  last_is : (end : ℕ) → end + 52 ≡ length bytes → take 52 (drop end bytes) ≡ foot
  last_is end long =
      ap (λ (l : List ℕ). take 52 (drop end l)) (all_is ∙ sym (append_assoc h.front middle foot))
      ∙ ap (take 52) (drop_at (h.front ++ middle) foot end
      (omega (arith, ends_at, long, length-append h.front middle)))
      ∙ take_all 52 foot (omega (arith, length-footer h.footer))

  footer_is : (end : ℕ) → end + 52 ≡ length bytes → IsFooter (take 52 (drop end bytes)) h.footer
  footer_is end long = subst (λ (p : List ℕ). IsFooter p h.footer) (sym (last_is end long))
      h.is_footer

  middle_is : (len : ℕ) → len ≡ length middle → take len (drop (length h.front) bytes) ≡ middle
  middle_is len is =
      ap (λ (l : List ℕ). take len (drop (length h.front) l)) all_is
      ∙ ap (take len) (drop_at h.front (middle ++ foot) (length h.front) refl)
      ∙ take_at middle foot len (sym is)

  -- the footer says where it stands
  pub read_there : HasReadTail bytes
  read_there =
      let places = h.places in
      let filter_at = places.filter in
      let filter_len = places.filter_len in
      let index_at = places.index in
      let index_len = places.index_len in
      let parts = length-append (filter_part filter) (index_part format lines) in
      let tail : Tail = record {
        place = length h.front;
        len = length middle;
        filter_len = length (filter_part filter);
        format = format;
      } in (
        middle,
        tail,
        record {
          end = length h.front + length middle;
          len = ends_at;
          says = record {
            footer = h.footer;
            is_footer = footer_is (length h.front + length middle) ends_at;
            filter = filter_at;
            filter_len = filter_len;
            index = index_at;
            index_len = omega (arith, index_at, index_len, parts);
            ends = refl;
            within = omega (arith, parts);
            read_in = h.read_in;
          };
          content = sym (middle_is (length middle) refl);
        },
      )

  -- the tail that is read there is in the format
  pub tail_format : (part : List ℕ) (tail : Tail) → ReadsTail part tail bytes → tail.format ≡ format
  tail_format part tail read =
      let says = read.says in
      let same = footers_are_one (take 52 (drop read.end bytes)) says.footer h.footer
      says.is_footer (footer_is read.end read.len) in
      sym says.read_in ∙ ap (λ (f : Footer). f.format) same ∙ h.read_in

  -- and what is read there is the filter and the index
  pub parts_there : (part : List ℕ) (tail : Tail) → ReadsTail part tail bytes
      → IsFilterPart (take tail.filter_len part) filter
      × IsIndex tail.format (drop tail.filter_len part) tail.place lines
  parts_there part tail read =
      let says = read.says in
      let same = footers_are_one (take 52 (drop read.end bytes)) says.footer h.footer
      says.is_footer (footer_is read.end read.len) in
      let place : tail.place ≡ length h.front =
      sym says.filter ∙ ap (λ (f : Footer). f.filter) same ∙ h.places.filter in
      let filter_len : tail.filter_len ≡ length (filter_part filter) =
      sym says.filter_len ∙ ap (λ (f : Footer). f.filter_len) same ∙ h.places.filter_len in
      let len : tail.len ≡ length middle =
      let long = read.len in
      let ends = says.ends in
      omega (arith, long, ends, place, ends_at) in
      let is : part ≡ middle =
      read.content ∙ ap (λ (n : ℕ). take tail.len (drop n bytes)) place
      ∙ middle_is tail.len len in (
        subst (λ (p : List ℕ). IsFilterPart p filter)
            (sym (ap (take tail.filter_len) is
            ∙ take_at (filter_part filter) (index_part format lines) tail.filter_len
            (sym filter_len)))
            h.is_filter,
        subst (λ (k : Format). IsIndex k (drop tail.filter_len part) tail.place lines)
            (sym (tail_format part tail read))
            (subst (λ (n : ℕ). IsIndex format (drop tail.filter_len part) n lines) (sym place)
            (subst (λ (p : List ℕ). IsIndex format p (length h.front) lines)
            (sym (ap (drop tail.filter_len) is
            ∙ drop_at (filter_part filter) (index_part format lines) tail.filter_len
            (sym filter_len)))
            h.is_index)),
      )
