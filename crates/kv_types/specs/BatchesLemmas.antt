-- The two laws: what is read is spelled so, and what is spelled so is read.
use Rattle.std.proofs.Common.{◌≡◌, ℕ, zero, suc, ◌+◌, ◌-◌, ◌<◌, ◌^◌, ◌≤◌, Bool, true, false}
use Rattle.std.proofs.Common.{cond, eqb, leb, ltb, ◌&&◌, List, [], ◌∷◌, ◌++◌, length, Option, Some}
use Rattle.std.proofs.Common.{None, IfSome, All}
use Rattle.std.proofs.Common.{refl, sym, ap, subst, ◌∙◌, append_assoc, arith}
use Rattle.std.specs.List.{flat_map}
use Rattle.std.specs.Int.{w16, w64, to_be_bytes}
use Rattle.std.proofs.lemmas.Bool.{and_parts, eqb-true, ltb-false, leb-true, le-ltb, ne_eqb}
use Rattle.std.proofs.lemmas.List.{append-nil, nil_from_length, length-append}
use Rattle.std.proofs.lemmas.List.Elements.{All-from_recursion, recursion_from_All}
use Rattle.byte_fields.specs.declared.stored_key.TheConstants.{MAX_KEY}
use Rattle.kv_types.specs.declared.bounds.TheConstants.{MAX_VALUE, MAX_EDITS, MAX_BATCH, MAX_NUMBER}
use Rattle.kv_types.specs.declared.edit.Edit.{Edit}
use Rattle.kv_types.specs.declared.edit.Edit.TheVariants.{Put, Delete}
use Rattle.kv_types.specs.declared.mark.Mark.{Mark}
use Rattle.kv_types.specs.Marks.{IsMark, is_mark}
use Rattle.kv_types.specs.Content.{BatchContent, edits_of, mark_of}
use Rattle.kv_types.specs.Spelling.{edit_bytes, edits_bytes, mark_bytes, front_bytes, batch_bytes}
use Rattle.kv_types.specs.Spelling.{IsEdit, IsBatch, SpellingsDiffer}
use Rattle.byte_fields.specs.{text_bytes, ◌>>=◌, many, number_at, text_at}
use Rattle.kv_types.specs.Reading.{edit_at, as_mark, both_at, mark_at, edits_at, batch_at, batch_of}
use Rattle.byte_fields.specs.FieldsLemmas.{IsBytes, IsBytes-rest, bind_some, guard_some, some_is}
use Rattle.byte_fields.specs.FieldsLemmas.{BeginsWith, BeginsWith-then}
use Rattle.byte_fields.specs.ReadersLemmas.{Reads, both_reads, made_reads, only_reads}
use Rattle.byte_fields.specs.ReadersLemmas.{many_again, many_begin, number_reads, wide16, wide64}
use Rattle.byte_fields.specs.TextsLemmas.{text_begins, text_again}

guard_ended : {A : Type 0} (b : Bool) (x y : A) → cond b (Some x) None ≡ Some y
    → (b ≡ true) × (x ≡ y)
guard_ended true x y e = (refl, cc)
guard_ended false x y e = absurd cc

put_takes : (bytes : List ℕ) (x : Edit × List ℕ) → IsBytes bytes
    → (text_at MAX_KEY bytes >>= λ key. text_at MAX_VALUE key.1 >>= λ value. Some
    (Put key.0 value.0, value.1)) ≡ Some x
    → BeginsWith (1 ∷ bytes) (edit_bytes x.0) x.1 × IsEdit x.0
put_takes bytes x fits e =
    let a = bind_some (text_at MAX_KEY bytes)
    (λ key. text_at MAX_VALUE key.1 >>= λ value. Some (Put key.0 value.0, value.1)) x e in
    let b = bind_some (text_at MAX_VALUE a.0.1)
    (λ value. Some (Put a.0.0 value.0, value.1)) x a.2 in
    let t = text_begins MAX_KEY bytes a.0 fits a.1 in
    let u = text_begins MAX_VALUE a.0.1 b.0 t.0.rest_fits b.1 in
    let both = BeginsWith-then bytes (text_bytes a.0.0) a.0.1 (text_bytes b.0.0) b.0.1 t.0 u.0 in
    let made : Edit × List ℕ = (Put a.0.0 b.0.0, b.0.1) in
    subst (λ (y : Edit × List ℕ). BeginsWith (1 ∷ bytes) (edit_bytes y.0) y.1 × IsEdit y.0)
    (some_is made x b.2) (
      record { parts = ap (λ (w : List ℕ). 1 ∷ w) both.parts; rest_fits = both.rest_fits },
      (t.1, u.1),
    )

delete_takes : (bytes : List ℕ) (x : Edit × List ℕ) → IsBytes bytes
    → (text_at MAX_KEY bytes >>= λ key. Some (Delete key.0, key.1)) ≡ Some x
    → BeginsWith (2 ∷ bytes) (edit_bytes x.0) x.1 × IsEdit x.0
delete_takes bytes x fits e =
    let a = bind_some (text_at MAX_KEY bytes) (λ key. Some (Delete key.0, key.1)) x e in
    let t = text_begins MAX_KEY bytes a.0 fits a.1 in
    let made : Edit × List ℕ = (Delete a.0.0, a.0.1) in
    subst (λ (y : Edit × List ℕ). BeginsWith (2 ∷ bytes) (edit_bytes y.0) y.1 × IsEdit y.0)
    (some_is made x a.2)
    (record { parts = ap (λ (w : List ℕ). 2 ∷ w) t.0.parts; rest_fits = t.0.rest_fits }, t.1)

edit_takes : (bytes : List ℕ) (x : Edit × List ℕ) → IsBytes bytes → edit_at bytes ≡ Some x
    → BeginsWith bytes (edit_bytes x.0) x.1 × IsEdit x.0
unfolding edit_at
edit_takes [] x fits e = absurd cc
edit_takes (zero ∷ bytes) x fits e = absurd cc
edit_takes (suc zero ∷ bytes) x fits e = put_takes bytes x (IsBytes-rest 1 bytes fits) e
edit_takes (suc (suc zero) ∷ bytes) x fits e = delete_takes bytes x (IsBytes-rest 2 bytes fits) e
edit_takes (suc (suc (suc b)) ∷ bytes) x fits e = absurd cc

edit_again : (edit : Edit) (rest : List ℕ) → IsEdit edit
    → edit_at (edit_bytes edit ++ rest) ≡ Some (edit, rest)
unfolding edit_at
edit_again (Put key value) rest fits =
    let regrouped : (text_bytes key ++ text_bytes value) ++ rest ≡ text_bytes key ++
    (text_bytes value ++ rest) =
    append_assoc (text_bytes key) (text_bytes value) rest in
    ap (λ (b : List ℕ). edit_at (1 ∷ b)) regrouped
    ∙ rw (
      text_again MAX_KEY key (text_bytes value ++ rest) fits.0 (omega arith),
      text_again MAX_VALUE value rest fits.1 (omega arith),
    ) refl
edit_again (Delete key) rest fits = rw (text_again MAX_KEY key rest fits (omega arith)) refl

-- edits are read as they are spelled
edit_reads : Reads IsEdit edit_bytes edit_at
edit_reads = record { takes = edit_takes; again = edit_again }

count_reads : Reads (λ n. n < 2 ^ 16) (to_be_bytes w16) (number_at w16)
count_reads = number_reads w16 (2 ^ 16) wide16

-- ---- the mark

eights : Reads (λ n. n < 2 ^ 64) (to_be_bytes w64) (number_at w64)
eights = number_reads w64 (2 ^ 64) wide64

-- the numbers of a mark are below 2^64
pub small_mark : (mark : Mark) → IsMark mark → (mark.client < 2 ^ 64) × (mark.request < 2 ^ 64)
small_mark mark is =
    let halves = and_parts (leb 1 mark.client && leb mark.client MAX_NUMBER)
    (leb 1 mark.request && leb mark.request MAX_NUMBER) is in
    let client = leb-true mark.client MAX_NUMBER
    (and_parts (leb 1 mark.client) (leb mark.client MAX_NUMBER) halves.0).1 in
    let request = leb-true mark.request MAX_NUMBER
    (and_parts (leb 1 mark.request) (leb mark.request MAX_NUMBER) halves.1).1 in
    (omega (arith, client), omega (arith, request))

-- a mark is read as it is spelled
both_numbers_read : Reads IsMark mark_bytes both_at
both_numbers_read = only_reads is_mark (λ mark is test. test) (λ mark is. (small_mark mark is, is))
    (made_reads as_mark (λ (mark : Mark). (mark.client, mark.request)) (λ mark. refl) (λ x. refl)
    (both_reads eights eights))

abbrev with_mark : ℕ × List ℕ → Option (Option Mark × List ℕ)
with_mark n = both_at n.1 >>= λ mark. Some (Some mark.0, mark.1)

abbrev marked_if : List ℕ → ℕ × List ℕ → Option (Option Mark × List ℕ)
marked_if bytes n = cond (eqb n.0 0) (with_mark n) (Some (None, bytes))

-- what stands before the edits is a mark, or nothing
record Fronts (bytes : List ℕ) (x : Option Mark × List ℕ) : Type 0 where
  parts : BeginsWith bytes (front_bytes x.0) x.1
  mark : IfSome x.0 IsMark

no_mark : (bytes : List ℕ) (x : Option Mark × List ℕ) → IsBytes bytes
    → Some (None, bytes) ≡ Some x → Fronts bytes x
no_mark bytes x fits e =
    let found : Option Mark × List ℕ = (None, bytes) in
    subst (λ (y : Option Mark × List ℕ). Fronts bytes y) (some_is found x e)
    (record { parts = record { parts = refl; rest_fits = fits }; mark = tt })

some_mark : (bytes : List ℕ) (n : ℕ × List ℕ) (x : Option Mark × List ℕ)
    → BeginsWith bytes (to_be_bytes w16 n.0) n.1 → n.0 ≡ 0 → with_mark n ≡ Some x → Fronts bytes x
some_mark bytes n x first zero_is e =
    let a = bind_some (both_at n.1) (λ mark. Some (Some mark.0, mark.1)) x e in
    let t = both_numbers_read.takes n.1 a.0 first.rest_fits a.1 in
    let whole = BeginsWith-then bytes (to_be_bytes w16 n.0) n.1
    (mark_bytes a.0.0) a.0.1 first t.0 in
    let found : Option Mark × List ℕ = (Some a.0.0, a.0.1) in
    let right : BeginsWith bytes (front_bytes (Some a.0.0)) a.0.1 =
    subst (λ (k : ℕ). BeginsWith bytes (to_be_bytes w16 k ++ mark_bytes a.0.0) a.0.1) zero_is
    whole in
    subst (λ (y : Option Mark × List ℕ). Fronts bytes y) (some_is found x a.2)
    (record { parts = right; mark = t.1 })

by_count : (b : Bool) (bytes : List ℕ) (n : ℕ × List ℕ) (x : Option Mark × List ℕ)
    → IsBytes bytes → BeginsWith bytes (to_be_bytes w16 n.0) n.1 → eqb n.0 0 ≡ b
    → cond b (with_mark n) (Some (None, bytes)) ≡ Some x → Fronts bytes x
by_count true bytes n x fits first is e = some_mark bytes n x first (eqb-true n.0 0 is) e
by_count false bytes n x fits first is e = no_mark bytes x fits e

front_begins : (bytes : List ℕ) (x : Option Mark × List ℕ) → IsBytes bytes
    → mark_at bytes ≡ Some x → Fronts bytes x
unfolding mark_at
front_begins bytes x fits e =
    let a = bind_some (number_at w16 bytes) (marked_if bytes) x e in
    by_count (eqb a.0.0 0) bytes a.0 x fits (count_reads.takes bytes a.0 fits a.1).0 refl a.2

-- a mark is read back, and so is that there is none, before edits
mark_again : (mark : Option Mark) (edits : List Edit) (rest : List ℕ) → IfSome mark IsMark
    → 1 ≤ length edits → length edits ≤ MAX_EDITS
    → mark_at (front_bytes mark ++ (edits_bytes edits ++ rest))
    ≡ Some (mark, edits_bytes edits ++ rest)
unfolding mark_at
mark_again None edits rest is some few =
    let bytes = edits_bytes edits ++ rest in
    let texts = flat_map edit_bytes edits ++ rest in
    let count : number_at w16 bytes ≡ Some (length edits, texts) =
    ap (number_at w16) (append_assoc (to_be_bytes w16 (length edits)) (flat_map edit_bytes edits)
    rest)
    ∙ count_reads.again (length edits) texts (omega (arith, few)) in
    ap (λ (r : Option (ℕ × List ℕ)). r >>= marked_if bytes) count
    ∙ ap (λ (t : Bool). cond t (with_mark (length edits, texts)) (Some (None, bytes)))
    (ne_eqb (length edits) 0 (λ h. omega (arith, some, h)))
mark_again (Some mark) edits rest is some few =
    let behind = edits_bytes edits ++ rest in
    let bytes = front_bytes (Some mark) ++ behind in
    let count : number_at w16 bytes ≡ Some (0, mark_bytes mark ++ behind) =
    ap (number_at w16) (append_assoc (to_be_bytes w16 0) (mark_bytes mark) behind)
    ∙ count_reads.again 0 (mark_bytes mark ++ behind) (omega arith) in
    ap (λ (r : Option (ℕ × List ℕ)). r >>= marked_if bytes) count
    ∙ ap (λ (r : Option (Mark × List ℕ)). r >>= λ mark. Some (Some mark.0, mark.1))
    (both_numbers_read.again mark behind is)

-- ---- the edits behind their number

-- the steps of `edits_at`, from the last on
abbrev not_none : ℕ × List ℕ → Option (List Edit × List ℕ)
not_none n = cond (ltb n.0 1) None (many edit_at n.0 n.1)

abbrev counted : ℕ × List ℕ → Option (List Edit × List ℕ)
counted n = cond (ltb MAX_EDITS n.0) None (not_none n)

-- edits as a batch has them, but for the length of their spelling
record AreEdits (edits : List Edit) : Type 0 where
  some : 1 ≤ length edits
  few : length edits ≤ MAX_EDITS
  each : All IsEdit edits

edits_begin : (bytes : List ℕ) (x : List Edit × List ℕ) → IsBytes bytes → edits_at bytes ≡ Some x
    → BeginsWith bytes (edits_bytes x.0) x.1 × AreEdits x.0
unfolding edits_at
edits_begin bytes x fits e =
    let a = bind_some (number_at w16 bytes) counted x e in
    let n = a.0 in
    let g = guard_some (ltb MAX_EDITS n.0) (not_none n) x a.2 in
    let h = guard_some (ltb n.0 1) (many edit_at n.0 n.1) x g.1 in
    let first = (count_reads.takes bytes n fits a.1).0 in
    let second = many_begin edit_reads n.0 n.1 x first.rest_fits h.1 in
    let texts = flat_map edit_bytes x.0 in
    let both = BeginsWith-then bytes (to_be_bytes w16 n.0) n.1 texts x.1 first second.0 in
    let whole : BeginsWith bytes (edits_bytes x.0) x.1 =
    subst (λ (k : ℕ). BeginsWith bytes (to_be_bytes w16 k ++ texts) x.1) (sym second.1) both in (
      whole,
      record {
        some = omega (arith, ltb-false n.0 1 h.0, second.1);
        few = omega (arith, ltb-false MAX_EDITS n.0 g.0, second.1);
        each = All-from_recursion IsEdit x.0 second.2;
      },
    )

edits_again : (edits : List Edit) (rest : List ℕ) → AreEdits edits
    → edits_at (edits_bytes edits ++ rest) ≡ Some (edits, rest)
unfolding edits_at
edits_again edits rest is =
    let texts = flat_map edit_bytes edits in
    let bytes = edits_bytes edits ++ rest in
    let at_most = is.few in
    let at_least = is.some in
    let count : number_at w16 bytes ≡ Some (length edits, texts ++ rest) =
    ap (number_at w16) (append_assoc (to_be_bytes w16 (length edits)) texts rest)
    ∙ count_reads.again (length edits) (texts ++ rest) (omega (arith, at_most)) in
    let few : ltb MAX_EDITS (length edits) ≡ false = le-ltb _ _ at_most in
    let some : ltb (length edits) 1 ≡ false = le-ltb _ _ at_least in
    ap (λ (r : Option (ℕ × List ℕ)). r >>= counted) count
    ∙ ap (λ (t : Bool). cond t None (not_none (length edits, texts ++ rest))) few
    ∙ ap (λ (t : Bool). cond t None (many edit_at (length edits) (texts ++ rest))) some
    ∙ many_again edit_reads edits rest (recursion_from_All IsEdit edits is.each)

-- ---- a batch at the front

-- the steps of `batch_at`, from the last on
abbrev limited : List ℕ → Option Mark → List Edit × List ℕ → Option (BatchContent × List ℕ)
limited bytes mark edits =
    cond (ltb MAX_BATCH (length bytes - length edits.1)) None (Some
    (record { mark = mark; content = edits.0 }, edits.1))

abbrev behind_mark : List ℕ → Option Mark × List ℕ → Option (BatchContent × List ℕ)
behind_mark bytes mark = edits_at mark.1 >>= limited bytes mark.0

-- a batch that is read at the front of bytes is spelled there, and is lawful
pub batch_begins : (bytes : List ℕ) (x : BatchContent × List ℕ) → IsBytes bytes
    → batch_at bytes ≡ Some x → BeginsWith bytes (batch_bytes x.0) x.1 × IsBatch x.0
unfolding batch_at
batch_begins bytes x fits e =
    let a = bind_some (mark_at bytes) (behind_mark bytes) x e in
    let mark = a.0.0 in
    let b = bind_some (edits_at a.0.1) (limited bytes mark) x a.2 in
    let edits = b.0.0 in
    let rest = b.0.1 in
    let batch : BatchContent = record { mark = mark; content = edits } in
    let made : BatchContent × List ℕ = (batch, rest) in
    let i = guard_some (ltb MAX_BATCH (length bytes - length rest)) (Some made) x b.2 in
    let front = front_begins bytes a.0 fits a.1 in
    let behind = edits_begin a.0.1 b.0 front.parts.rest_fits b.1 in
    let whole : BeginsWith bytes (batch_bytes batch) rest =
    BeginsWith-then bytes (front_bytes mark) a.0.1 (edits_bytes edits) rest front.parts behind.0 in
    let taken : length bytes ≡ length (batch_bytes batch) + length rest =
    ap length whole.parts ∙ length-append (batch_bytes batch) rest in
    let short = ltb-false MAX_BATCH (length bytes - length rest) i.0 in
    let is : IsBatch batch = record {
      mark = front.mark;
      some = behind.1.some;
      few = behind.1.few;
      short = omega (arith, short, taken);
      each = behind.1.each;
    } in
    subst (λ (y : BatchContent × List ℕ). BeginsWith bytes (batch_bytes y.0) y.1 × IsBatch y.0)
    (some_is made x i.1) (whole, is)

-- a lawful batch is read back from the front of bytes
pub front_again : (batch : BatchContent) (rest : List ℕ) → IsBatch batch
    → batch_at (batch_bytes batch ++ rest) ≡ Some (batch, rest)
unfolding batch_at
front_again batch rest is =
    let mark = mark_of batch in
    let edits = edits_of batch in
    let whole = batch_bytes batch ++ rest in
    let regrouped = append_assoc (front_bytes mark) (edits_bytes edits) rest in
    let front : mark_at whole ≡ Some (mark, edits_bytes edits ++ rest) =
    ap mark_at regrouped ∙ mark_again mark edits rest is.mark is.some is.few in
    let short : ltb MAX_BATCH (length whole - length rest) ≡ false =
    le-ltb _ _ (omega (arith, is.short, length-append (batch_bytes batch) rest)) in
    ap (λ (r : Option (Option Mark × List ℕ)). r >>= behind_mark whole) front
    ∙ ap (λ (r : Option (List Edit × List ℕ)). r >>= limited whole mark)
    (edits_again edits rest (record { some = is.some; few = is.few; each = is.each }))
    ∙ ap (λ (t : Bool). cond t None (Some (batch, rest))) short

-- ---- a batch that is all of the bytes

abbrev ended : BatchContent × List ℕ → Option BatchContent
ended read = cond (eqb (length read.1) 0) (Some read.0) None

-- a batch that is read from all of the bytes is spelled so, and is lawful
pub batch_is : (bytes : List ℕ) (batch : BatchContent) → IsBytes bytes
    → batch_of bytes ≡ Some batch → IsBatch batch × (bytes ≡ batch_bytes batch)
unfolding batch_of
batch_is bytes batch fits e =
    let z = guard_some (ltb MAX_BATCH (length bytes)) (batch_at bytes >>= ended) batch e in
    let a = bind_some (batch_at bytes) ended batch z.1 in
    let i = guard_ended (eqb (length a.0.1) 0) a.0.0 batch a.2 in
    let front = batch_begins bytes a.0 fits a.1 in
    let nothing = nil_from_length a.0.1 (eqb-true (length a.0.1) 0 i.0) in
    let whole : bytes ≡ batch_bytes a.0.0 = front.0.parts
    ∙ ap (λ (r : List ℕ). batch_bytes a.0.0 ++ r) nothing
    ∙ append-nil (batch_bytes a.0.0) in
    subst (λ (v : BatchContent). IsBatch v × (bytes ≡ batch_bytes v)) i.1 (front.1, whole)

-- a lawful batch is read back
pub batch_again : (batch : BatchContent) → IsBatch batch → batch_of (batch_bytes batch) ≡ Some batch
unfolding batch_of
batch_again batch is =
    let front : batch_at (batch_bytes batch) ≡ Some (batch, []) =
    ap batch_at (sym (append-nil (batch_bytes batch))) ∙ front_again batch [] is in
    let short : ltb MAX_BATCH (length (batch_bytes batch)) ≡ false = le-ltb _ _ is.short in
    rw (short, front) refl

-- no batch is spelled as the beginning of another
pub spellings_differ : SpellingsDiffer
spellings_differ a b rest is_a is_b same =
    let bytes : batch_bytes a ++ rest ≡ batch_bytes b ++ [] = same ∙ sym
    (append-nil (batch_bytes b)) in
    let first : BatchContent × List ℕ = (a, rest) in
    let second : BatchContent × List ℕ = (b, []) in
    let one : first ≡ second =
    some_is first second
    (sym (front_again a rest is_a) ∙ ap batch_at bytes ∙ front_again b [] is_b) in
    (ap (λ (x : BatchContent × List ℕ). x.0) one, ap (λ (x : BatchContent × List ℕ). x.1) one)
