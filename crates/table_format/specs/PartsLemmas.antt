-- What the bytes of a part represent, and that they represent one thing.
use Rattle.std.proofs.Common.{◌≡◌, ℕ, ◌<◌, ◌^◌, List, ◌++◌, length, Option, Some, None, refl}
use Rattle.std.proofs.lemmas.List.{take_at}
use Rattle.std.proofs.Common.{take, sym, ap, subst, ◌∙◌, arith}
use Rattle.std.specs.Int.{w32, w64}
use Rattle.byte_fields.specs.FieldsLemmas.{IsBytes, some_is}
use Rattle.byte_fields.specs.{number_at}
use Rattle.byte_fields.specs.ReadersLemmas.{Reads, both_reads, made_reads, right_reads}
use Rattle.byte_fields.specs.ReadersLemmas.{number_reads, wide32, wide64, IsBytes-take}
use Rattle.table_format.specs.FrontsLemmas.{split_same}
use Rattle.table_format.specs.SealedLemmas.{length-sealed}
use Rattle.table_format.specs.Blocks.{be32, be64, digest, sealed}
use Rattle.table_format.specs.Formats.{format_number}
use Rattle.table_format.specs.FormatsLemmas.{format_reads}
use Rattle.table_format.specs.Parts.{HasFieldRanges, IsFilterPart, IsFooter}
use Rattle.table_format.specs.Reading.{as_footer, footer_at}
use Rattle.table_format.specs.Tables.{footer_content, magic}
use Rattle.table_format.specs.declared.footer.Footer.{Footer}
use Rattle.byte_fields.specs.declared.format.Format.{Format}

-- of one text with a digest there is one content
pub same_content : (a b : List ℕ) → sealed a ≡ sealed b → a ≡ b
same_content a b is =
    let len : length a ≡ length b = omega (arith, ap length is, length-sealed a, length-sealed b) in
    (split_same a b (digest a) (digest b) len is).0

none_some : {A : Type 0} (o : Option A) (x : A) → o ≡ None → o ≡ Some x → ⊥
none_some o x a b = absurd cc

-- ---- the footer

abbrev as_parts : Footer → ℕ × (ℕ × (ℕ × (ℕ × (ℕ × Format))))
as_parts it =
    (it.index, (it.index_len, (it.filter, (it.filter_len, (it.entries, it.format)))))

abbrev fields_text : Footer → List ℕ
fields_text it = be64 it.index ++ (be32 it.index_len ++ (be64 it.filter
    ++ (be32 it.filter_len ++ (be64 it.entries ++ be32 (format_number it.format)))))

-- the fields of a footer are read as they are spelled
pub footer_reads : Reads HasFieldRanges fields_text footer_at
unfolding footer_at
footer_reads =
    right_reads
    (λ it is. record {
      index = is.0;
      index_len = is.1.0;
      filter = is.1.1.0;
      filter_len =
          is.1.1.1.0;
      entries = is.1.1.1.1.0;
    })
    (λ it is. (is.index, (is.index_len, (is.filter, (is.filter_len, (is.entries, tt))))))
    (made_reads as_footer as_parts (λ it. refl) (λ x. refl)
    (both_reads (number_reads w64 (2 ^ 64) wide64) (both_reads (number_reads w32 (2 ^ 32) wide32)
    (both_reads (number_reads w64 (2 ^ 64) wide64) (both_reads (number_reads w32 (2 ^ 32) wide32)
    (both_reads (number_reads w64 (2 ^ 64) wide64) format_reads))))))

-- a footer that is spelled is read
pub footer_again : (part content : List ℕ) (it : Footer) → part ≡ sealed content → IsFooter part it
    → footer_at content ≡ Some (it, magic)
footer_again part content it is f =
    let same : content ≡ footer_content it =
    same_content content (footer_content it) (sym is ∙ f.spelled) in
    ap footer_at same ∙ footer_reads.again it magic f.ranges

-- what no footer is read from is no footer
pub footer_none : (part content : List ℕ) → part ≡ sealed content → footer_at content ≡ None
    → (it : Footer) → IsFooter part it → ⊥
footer_none part content is none it f =
    none_some (footer_at content) (it, magic) none (footer_again part content it is f)

-- the footer that is read is the only one that is spelled so
pub footer_same : (part content : List ℕ) (it : Footer) (rest : List ℕ) → part ≡ sealed content
    → footer_at content ≡ Some (it, rest) → (other : Footer) → IsFooter part other
    → (other ≡ it) × (rest ≡ magic)
footer_same part content it rest is read other f =
    let e : (other, magic) ≡ (it, rest) =
    some_is (other, magic) (it, rest)
    (sym (footer_again part content other is f) ∙ read) in
    (ap (λ (p : Footer × List ℕ). p.0) e, sym (ap (λ (p : Footer × List ℕ). p.1) e))

-- what is read up to the magic is a footer
pub footer_right : (part content : List ℕ) (it : Footer) (rest : List ℕ) → part ≡ sealed content
    → IsBytes content
    → footer_at content ≡ Some (it, rest) → rest ≡ magic → IsFooter part it
footer_right part content it rest is fits read end =
    let t = footer_reads.takes content (it, rest) fits read in
    let whole : content ≡ fields_text it ++ magic =
    t.0.parts ∙ ap (λ (r : List ℕ). fields_text it ++ r) end in
    record { spelled = is ∙ ap sealed whole; ranges = t.1 }

-- ---- the filter

-- a length of four bytes is read as it is spelled
pub length_reads : Reads (λ n. n < 2 ^ 32) be32 (number_at w32)
length_reads = number_reads w32 (2 ^ 32) wide32

-- the length of a filter is read back
pub filter_again : (part content filter : List ℕ) → part ≡ sealed content → IsFilterPart part filter
    → number_at w32 content ≡ Some (length filter, filter)
filter_again part content filter is f =
    let same : content ≡ be32 (length filter) ++ filter =
    same_content content (be32 (length filter) ++ filter) (sym is ∙ f.spelled) in
    ap (number_at w32) same ∙ length_reads.again (length filter) filter f.short

-- what no length is read from is no filter
pub filter_none : (part content : List ℕ) → part ≡ sealed content → number_at w32 content ≡ None
    → (filter : List ℕ) → IsFilterPart part filter → ⊥
filter_none part content is none filter f =
    none_some (number_at w32 content) (length filter, filter) none
    (filter_again part content filter is f)

-- the filter that is read is the only one that is spelled so
pub filter_same : (part content : List ℕ) (n : ℕ) (rest : List ℕ) → part ≡ sealed content
    → number_at w32 content ≡ Some (n, rest) → (filter : List ℕ) → IsFilterPart part filter
    → (filter ≡ rest) × (n ≡ length rest)
filter_same part content n rest is read filter f =
    let e : (length filter, filter) ≡ (n, rest) =
    some_is (length filter, filter) (n, rest)
    (sym (filter_again part content filter is f) ∙ read) in
    let same : filter ≡ rest = ap (λ (p : ℕ × List ℕ). p.1) e in
    (same, sym (ap (λ (p : ℕ × List ℕ). p.0) e) ∙ ap length same)

-- what is as long as its length says is a filter
pub filter_right : (part content : List ℕ) (n : ℕ) (rest : List ℕ) → part ≡ sealed content
    → IsBytes content
    → number_at w32 content ≡ Some (n, rest) → n ≡ length rest → IsFilterPart part rest
filter_right part content n rest is fits read len =
    let t = length_reads.takes content (n, rest) fits read in
    let small = t.1 in
    record {
      spelled = is ∙ ap sealed (t.0.parts ∙ ap (λ (k : ℕ). be32 k ++ rest) len);
      short = omega (arith, small, len);
    }

-- what stands before the digest of bytes is bytes
pub content_fits : (part content : List ℕ) → IsBytes part → part ≡ sealed content → IsBytes content
content_fits part content fits is =
    subst IsBytes (ap (take (length content)) is
    ∙ take_at content (digest content) (length content) refl)
    (IsBytes-take (length content) part fits)

-- ---- a count, and what it counts

-- what no number is read from is no list behind its number
pub text_none : (part content : List ℕ) (n : ℕ) (items : List ℕ) → part ≡ sealed content
    → number_at w32 content ≡ None → part ≡ sealed (be32 n ++ items) → n < 2 ^ 32 → ⊥
text_none part content n items is none spelled few =
    let same : content ≡ be32 n ++ items =
    same_content content (be32 n ++ items) (sym is ∙ spelled) in
    none_some (number_at w32 content) (n, items) none
    (ap (number_at w32) same ∙ length_reads.again n items few)

-- what stands behind a number is of bytes
pub text_fits : (content : List ℕ) (n : ℕ) (text : List ℕ) → IsBytes content
    → number_at w32 content ≡ Some (n, text) → IsBytes text
text_fits content n text fits e = (length_reads.takes content (n, text) fits e).0.rest_fits

-- the number and the text that are read are the only ones that are spelled so
pub same_counted : (content text items : List ℕ) (count n : ℕ) → content ≡ be32 n ++ items
    → n < 2 ^ 32
    → number_at w32 content ≡ Some (count, text) → (count ≡ n) × (text ≡ items)
same_counted content text items count n is few e =
    let two : (n, items) ≡ (count, text) = some_is (n, items) (count, text)
    (sym (ap (number_at w32) is ∙ length_reads.again n items few) ∙ e) in
    (sym (ap (λ (p : ℕ × List ℕ). p.0) two), sym (ap (λ (p : ℕ × List ℕ). p.1) two))
