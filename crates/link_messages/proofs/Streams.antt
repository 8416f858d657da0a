-- The bytes at the front of a stream have one answer, and a stream has one list of frames.
use Rattle.std.proofs.Common.{◌≡◌, inl, inr, ℕ, ◌+◌, ◌<◌, ◌≤◌, false, true, cond, ltb, eqb}
use Rattle.std.proofs.Common.{List, [], ◌∷◌, ◌++◌, length, take, drop, Option, Some, None, Result}
use Rattle.std.proofs.Common.{Ok}
use Rattle.std.proofs.Common.{Err, refl, sym, ap, subst, ◌∙◌, append_assoc, arith}
use Rattle.std.specs.List.{flat_map}
use Rattle.std.specs.Int.{w32, from_be_bytes}
use Rattle.std.proofs.lemmas.Bool.{le-ltb, lt-ltb, ne_eqb}
use Rattle.std.proofs.lemmas.List.{append-nil, append_cancel_left, take-append-drop, take-append-le}
use Rattle.std.proofs.lemmas.List.{take_at, drop-drop, length-append, length-take, length-drop}
use Rattle.std.proofs.lemmas.List.Concat.{flat_map-cons}
use Rattle.std.proofs.lemmas.List.Elements.{All-from_recursion, recursion_from_All}
use Rattle.std.proofs.lemmas.Nat.{be_bytes_4, from_be_bytes-to_be_bytes_4}
use Rattle.byteorder.specs.Endian.{big_number}
use Rattle.configurations.specs.{TestDecidesConfig}
use Rattle.byte_fields.specs.FieldsLemmas.{IsBytes}
use Rattle.link_messages.specs.declared.error.FrameError.{FrameError}
use Rattle.link_messages.specs.declared.error.FrameError.TheVariants as fault
use Rattle.link_messages.specs.declared.frame.Frame.{Frame}
use Rattle.link_messages.specs.declared.frame.TheConstants.{MAX_FRAME}
use Rattle.link_messages.specs.Spelling.{u32, body, frame_bytes, IsFrame}
use Rattle.link_messages.specs.Stream.{length_field, IsPartial, IsComplete, BeginsWithFrame}
use Rattle.link_messages.specs.Stream.{NextOutcome, IsByteOutcome, Splits, OneSpelling, OneAnswer}
use Rattle.link_messages.specs.Stream.{FaultsStay}
use Rattle.link_messages.specs.Stream.{OneSplit}
use Rattle.link_messages.specs.Reading.{IsOr, content_at}
use Rattle.byte_fields.specs.ReadersLemmas.{IsBytes-take, IsBytes-drop}
use Rattle.link_messages.proofs.FrameLengths.{frames_fit}
use Rattle.link_messages.proofs.Contents.{Verdict, verdict, has_kind, one_verdict}

-- ---- the answers of the code

pub told_length : (n : ℕ) (front bytes : List ℕ) → front ≡ take 4 bytes → n ≡ big_number 4 front
    → n ≡ length_field bytes
told_length n front bytes same told =
    let e : n ≡ big_number 4 (take 4 bytes) = told ∙ ap (big_number 4) same in omega (arith, e)

-- a length in bounds, and so many bytes
pub whole : (bytes : List ℕ) (n : ℕ) → IsBytes bytes → 4 ≤ length bytes → n ≡ length_field bytes
    → 1 ≤ n → n ≤ MAX_FRAME → n ≤ length (drop 4 bytes) → IsComplete bytes (take n (drop 4 bytes))
whole bytes n fits long told some few there =
    let content = take n (drop 4 bytes) in
    let len : n ≡ length content = omega (arith, length-take n (drop 4 bytes)) in
    let field : u32 n ≡ take 4 bytes =
    be_bytes_4 (take 4 bytes) n (omega (arith, length-take 4 bytes))
    (IsBytes-take 4 bytes fits) told in
    record {
      some = omega (arith, len);
      few = omega (arith, len);
      rest = drop n (drop 4 bytes);
      parts = sym (ap (λ (k : ℕ). u32 k ++ (content ++ drop n (drop 4 bytes))) (sym len)
          ∙ ap (λ (t : List ℕ). t ++ (content ++ drop n (drop 4 bytes))) field
          ∙ ap (λ (t : List ℕ). take 4 bytes ++ t) (take-append-drop n (drop 4 bytes))
          ∙ take-append-drop 4 bytes);
    }

small : (bytes : List ℕ) (n : ℕ) → IsBytes bytes → IsBytes (take n (drop 4 bytes))
small bytes n fits = IsBytes-take n (drop 4 bytes) (IsBytes-drop 4 bytes fits)

pub front_frame : TestDecidesConfig →
    (bytes : List ℕ) (n : ℕ) (f : Frame) → IsBytes bytes → 4 ≤ length bytes
    → n ≡ length_field bytes → 1 ≤ n → n ≤ MAX_FRAME → n ≤ length (drop 4 bytes)
    → content_at (take n (drop 4 bytes)) ≡ Ok f
    → IsFrame f × (bytes ≡ frame_bytes f ++ drop (4 + n) bytes)
unfolding whole
front_frame decides bytes n f fits long told some few there read =
    let w = whole bytes n fits long told some few there in
    let content = take n (drop 4 bytes) in
    let v : BeginsWithFrame content f [] =
    subst (λ (r : Result Frame FrameError). Verdict r content) read
    (verdict decides content w.some (small bytes n fits)) in
    let is_body : content ≡ body f = v.parts ∙ append-nil (body f) in
    let rest : w.rest ≡ drop (4 + n) bytes = drop-drop n 4 bytes in (
      v.frame,
      w.parts
          ∙ ap (λ (c : List ℕ). u32 (length c) ++ (c ++ w.rest)) is_body
          ∙ sym (append_assoc (u32 (length (body f))) (body f) w.rest)
          ∙ ap (λ (r : List ℕ). frame_bytes f ++ r) rest,
    )

fault_of : (e : FrameError) (bytes content : List ℕ) → IsComplete bytes content
    → Verdict (Err e) content → NextOutcome (Err e) bytes bytes
fault_of fault.TooLong bytes content w v = absurd v
fault_of fault.BadKind bytes content w v = ((content, w, v), refl)
fault_of fault.BadField bytes content w v = (inr (content, w, v), refl)
fault_of fault.Trailing bytes content w v = ((content, w, v), refl)
fault_of fault.Memory bytes content w v = absurd v

told_fault : TestDecidesConfig →
    (e : FrameError) (bytes content : List ℕ) → IsComplete bytes content → IsBytes content
    → content_at content ≡ Err e → NextOutcome (Err e) bytes bytes
told_fault decides e bytes content w fits read =
    fault_of e bytes content w
    (subst (λ (r : Result Frame FrameError). Verdict r content) read
    (verdict decides content w.some fits))

fault_or : TestDecidesConfig →
    (e : FrameError) (bytes content : List ℕ) → IsComplete bytes content → IsBytes content
    → IsOr (Err e) (content_at content) → NextOutcome (Err e) bytes bytes
fault_or decides fault.Memory bytes content w fits read =
    ((content, w, has_kind content w.some read), refl)
fault_or decides fault.TooLong bytes content w fits read =
    told_fault decides fault.TooLong bytes content w fits read
fault_or decides fault.BadKind bytes content w fits read =
    told_fault decides fault.BadKind bytes content w fits read
fault_or decides fault.BadField bytes content w fits read =
    told_fault decides fault.BadField bytes content w fits read
fault_or decides fault.Trailing bytes content w fits read =
    told_fault decides fault.Trailing bytes content w fits read

pub front_fault : TestDecidesConfig →
    (bytes : List ℕ) (n : ℕ) (e : FrameError) → IsBytes bytes → 4 ≤ length bytes
    → n ≡ length_field bytes → 1 ≤ n → n ≤ MAX_FRAME → n ≤ length (drop 4 bytes)
    → IsOr (Err e) (content_at (take n (drop 4 bytes))) → NextOutcome (Err e) bytes bytes
front_fault decides bytes n e fits long told some few there read =
    fault_or decides e bytes (take n (drop 4 bytes)) (whole bytes n fits long told some few there)
    (small bytes n fits) read

-- ---- the shapes of the bytes at the front

-- an incomplete frame, a length out of bounds, or complete content
abbrev Shape : Type 0
Shape = Result (Option (List ℕ)) FrameError

-- the case by the length in the first bytes
abbrev shape_by : List ℕ → ℕ → Shape
shape_by bytes n = cond (ltb MAX_FRAME n) (Err fault.TooLong)
    (cond (eqb n 0) (Err fault.BadField)
    (cond (ltb (length (drop 4 bytes)) n) (Ok None) (Ok (Some (take n (drop 4 bytes))))))

abbrev shape_of : List ℕ → Shape
shape_of bytes = cond (ltb (length bytes) 4) (Ok None) (shape_by bytes (length_field bytes))

abbrev as_answer : Result Frame FrameError → Result (Option Frame) FrameError
as_answer (Ok f) = Ok (Some f)
as_answer (Err e) = Err e

abbrev nothing : Result (Option Frame) FrameError
nothing = Ok None

-- an answer that goes with a shape
abbrev Goes : Shape → Result (Option Frame) FrameError → Type 0
Goes (Ok None) a = a ≡ Ok None
Goes (Ok (Some content)) a =
    (1 ≤ length content) × (v : Result Frame FrameError) × Verdict v content × (a ≡ as_answer v)
Goes (Err e) a = a ≡ Err e

one_goes : TestDecidesConfig →
    (s : Shape) (a b : Result (Option Frame) FrameError) → Goes s a → Goes s b → a ≡ b
one_goes decides (Ok None) a b p q = p ∙ sym q
one_goes decides (Ok (Some content)) a b p q =
    p.3 ∙ ap as_answer (one_verdict decides p.1 q.1 content p.0 p.2 q.2) ∙ sym q.3
one_goes decides (Err e) a b p q = p ∙ sym q

partial_shape : (bytes : List ℕ) → IsPartial bytes → shape_of bytes ≡ Ok None
partial_shape bytes (inl short) = rw (lt-ltb _ _ short) refl
partial_shape bytes (inr lacks) =
    let few : ltb MAX_FRAME (length_field bytes) ≡ false = le-ltb _ _ lacks.few in
    let some : eqb (length_field bytes) 0 ≡ false =
    ne_eqb _ _ (λ none. omega (arith, none, lacks.some)) in
    let lacking : ltb (length (drop 4 bytes)) (length_field bytes) ≡ true =
    lt-ltb _ _ (omega (arith, length-drop 4 bytes, lacks.lacking, lacks.told)) in
    rw (le-ltb _ _ lacks.told, few, some, lacking) refl

long_shape : (bytes : List ℕ) → 4 ≤ length bytes → MAX_FRAME < length_field bytes
    → shape_of bytes ≡ Err fault.TooLong
long_shape bytes told many = rw (le-ltb _ _ told, lt-ltb _ _ many) refl

empty_shape : (bytes : List ℕ) → 4 ≤ length bytes → length_field bytes ≡ 0
    → shape_of bytes ≡ Err fault.BadField
empty_shape bytes told none = rw (le-ltb _ _ told, none) refl

whole_shape : (bytes content : List ℕ) → IsComplete bytes content
    → shape_of bytes ≡ Ok (Some content)
whole_shape bytes content w =
    let n = length content in
    let behind = content ++ w.rest in
    let told : ltb (length bytes) 4 ≡ false =
    le-ltb _ _ (omega (arith, ap length w.parts)) in
    let field : length_field bytes ≡ n = ap length_field w.parts
    ∙ from_be_bytes-to_be_bytes_4 n (omega (arith, w.few)) in
    let after : drop 4 bytes ≡ behind = ap (drop 4) w.parts in
    let few : ltb MAX_FRAME n ≡ false = le-ltb _ _ w.few in
    let some : eqb n 0 ≡ false = ne_eqb _ _ (λ none. omega (arith, none, w.some)) in
    let there : ltb (length behind) n ≡ false =
    le-ltb _ _ (omega (arith, length-append content w.rest)) in
    rw (told, field, few, some, after, there, take_at content w.rest n refl) refl

whole_frame : (bytes rest : List ℕ) (f : Frame) → IsFrame f → bytes ≡ frame_bytes f ++ rest
    → IsComplete bytes (body f)
whole_frame bytes rest f is parts =
    record {
      some = omega arith;
      few = frames_fit f is;
      rest = rest;
      parts = parts ∙ append_assoc (u32 (length (body f))) (body f) rest;
    }

frame_verdict : (f : Frame) → IsFrame f → Verdict (Ok f) (body f)
frame_verdict f is = record { frame = is; parts = sym (append-nil (body f)) }

goes_whole : (bytes content : List ℕ) (v : Result Frame FrameError)
    (a : Result (Option Frame) FrameError) → IsComplete bytes content → Verdict v content
    → a ≡ as_answer v → Goes (shape_of bytes) a
goes_whole bytes content v a w is same =
    subst (λ (s : Shape). Goes s a) (sym (whole_shape bytes content w)) (w.some, v, is, same)

goes : (a : Result (Option Frame) FrameError) (old new : List ℕ) → IsByteOutcome a old new
    → Goes (shape_of old) a
goes (Ok (Some f)) old new t =
    goes_whole old (body f) (Ok f) (Ok (Some f)) (whole_frame old new f t.0 t.1)
    (frame_verdict f t.0) refl
goes (Ok None) old new t =
    subst (λ (s : Shape). Goes s (Ok None)) (sym (partial_shape old t.0)) refl
goes (Err fault.TooLong) old new t =
    subst (λ (s : Shape). Goes s (Err fault.TooLong))
    (sym (long_shape old t.0.0 t.0.1)) refl
goes (Err fault.BadKind) old new t =
    goes_whole old t.0.0 (Err fault.BadKind) (Err fault.BadKind) t.0.1 t.0.2 refl
goes (Err fault.BadField) old new (inl zero_told, same) =
    subst (λ (s : Shape). Goes s (Err fault.BadField))
    (sym (empty_shape old zero_told.0 zero_told.1)) refl
goes (Err fault.BadField) old new (inr bad, same) =
    goes_whole old bad.0 (Err fault.BadField) (Err fault.BadField) bad.1 bad.2 refl
goes (Err fault.Trailing) old new t =
    goes_whole old t.0.0 (Err fault.Trailing) (Err fault.Trailing) t.0.1 t.0.2 refl
goes (Err fault.Memory) old new t = absurd t

one_rest : (a : Result (Option Frame) FrameError) (old new other : List ℕ) → IsByteOutcome a old new
    → IsByteOutcome a old other → new ≡ other
one_rest (Ok (Some f)) old new other t u = append_cancel_left (frame_bytes f) new other
    (sym t.1 ∙ u.1)
one_rest (Ok None) old new other t u = t.1 ∙ sym u.1
one_rest (Err fault.TooLong) old new other t u = t.1 ∙ sym u.1
one_rest (Err fault.BadKind) old new other t u = t.1 ∙ sym u.1
one_rest (Err fault.BadField) old new other t u = t.1 ∙ sym u.1
one_rest (Err fault.Trailing) old new other t u = t.1 ∙ sym u.1
one_rest (Err fault.Memory) old new other t u = absurd t

-- ---- the laws

pub one_answer : TestDecidesConfig → OneAnswer
one_answer decides a b old new other t u =
    let same = one_goes decides (shape_of old) a b (goes a old new t) (goes b old other u) in (
      same,
      one_rest b old new other
          (subst (λ (x : Result (Option Frame) FrameError). IsByteOutcome x old new) same t) u,
    )

some_is : (f g : Frame) → as_answer (Ok f) ≡ as_answer (Ok g) → f ≡ g
some_is f g e = cc

none_some : (f : Frame) → nothing ≡ as_answer (Ok f) → ⊥
none_some f e = absurd cc

cons_same : (f g : Frame) (fs gs : List Frame) → f ≡ g → fs ≡ gs → f ∷ fs ≡ g ∷ gs
cons_same f g fs gs a b = cc

pub one_spelling : TestDecidesConfig → OneSpelling
one_spelling decides f g x y is_f is_g same =
    let both = one_answer decides (Ok (Some f)) (Ok (Some g)) (frame_bytes f ++ x) x y (is_f, refl)
    (is_g, same) in
    (some_is f g both.0, both.1)

whole_stays : (bytes more content : List ℕ) → IsComplete bytes content → IsComplete
    (bytes ++ more) content
whole_stays bytes more content w =
    let field = u32 (length content) in
    record {
      some = w.some;
      few = w.few;
      rest = w.rest ++ more;
      parts = ap (λ (t : List ℕ). t ++ more) w.parts
          ∙ append_assoc field (content ++ w.rest) more
          ∙ ap (λ (t : List ℕ). field ++ t) (append_assoc content w.rest more);
    }

field_stays : (bytes more : List ℕ) → 4 ≤ length bytes
    → length_field bytes ≡ length_field (bytes ++ more)
field_stays bytes more told = ap (from_be_bytes w32) (sym (take-append-le 4 bytes more told))

longer : (bytes more : List ℕ) → 4 ≤ length bytes → 4 ≤ length (bytes ++ more)
longer bytes more told = omega (arith, told, length-append bytes more)

pub faults_stay : FaultsStay
faults_stay fault.TooLong bytes more h =
    (longer bytes more h.0, subst (λ (n : ℕ). MAX_FRAME < n) (field_stays bytes more h.0) h.1)
faults_stay fault.BadKind bytes more h = (h.0, whole_stays bytes more h.0 h.1, h.2)
faults_stay fault.BadField bytes more (inl h) =
    inl (longer bytes more h.0, sym (field_stays bytes more h.0) ∙ h.1)
faults_stay fault.BadField bytes more (inr h) = inr (h.0, whole_stays bytes more h.0 h.1, h.2)
faults_stay fault.Trailing bytes more h = (h.0, whole_stays bytes more h.0 h.1, h.2)
faults_stay fault.Memory bytes more h = absurd h

-- a first frame, and the stream behind it
first_told : (stream rest : List ℕ) (f : Frame) (frames : List Frame) → Splits stream (f
    ∷ frames) rest
    → IsByteOutcome (Ok (Some f)) stream (flat_map frame_bytes frames ++ rest)
first_told stream rest f frames s = (
  (recursion_from_All IsFrame (f ∷ frames) s.each).0,
  s.whole
      ∙ ap (λ (t : List ℕ). t ++ rest) (flat_map-cons frame_bytes f frames)
      ∙ append_assoc (frame_bytes f) (flat_map frame_bytes frames) rest,
)

later : (stream rest : List ℕ) (f : Frame) (frames : List Frame) → Splits stream (f ∷ frames) rest
    → Splits (flat_map frame_bytes frames ++ rest) frames rest
later stream rest f frames s =
    record {
      whole = refl;
      each = All-from_recursion IsFrame frames (recursion_from_All IsFrame (f ∷ frames) s.each).1;
      partial = s.partial;
    }

none_told : (stream rest : List ℕ) → Splits stream [] rest → IsByteOutcome (Ok None) stream stream
none_told stream rest s = (subst IsPartial (sym s.whole) s.partial, refl)

no_frame : TestDecidesConfig →
    (stream rest other : List ℕ) (f : Frame) (frames : List Frame) → Splits stream [] rest
    → Splits stream (f ∷ frames) other → ⊥
no_frame decides stream rest other f frames s t =
    let both = one_answer decides (Ok None) (Ok (Some f)) stream stream
    (flat_map frame_bytes frames ++ other) (none_told stream rest s)
    (first_told stream other f frames t) in
    none_some f both.0

pub one_split : TestDecidesConfig → OneSplit
one_split decides stream rest other [] [] s t = (refl, sym s.whole ∙ t.whole)
one_split decides stream rest other [] (g ∷ gs) s t =
    absurd (no_frame decides stream rest other g gs s t)
one_split decides stream rest other (f ∷ fs) [] s t =
    absurd (no_frame decides stream other rest f fs t s)
one_split decides stream rest other (f ∷ fs) (g ∷ gs) s t =
    let both = one_answer decides (Ok (Some f)) (Ok (Some g)) stream
    (flat_map frame_bytes fs ++ rest)
    (flat_map frame_bytes gs ++ other) (first_told stream rest f fs s)
    (first_told stream other g gs t) in
    let same = some_is f g both.0 in
    let behind : Splits (flat_map frame_bytes fs ++ rest) gs other =
    subst (λ (x : List ℕ). Splits x gs other) (sym both.1) (later stream other g gs t) in
    let more = one_split decides (flat_map frame_bytes fs ++ rest) rest other fs gs
    (later stream rest f fs s) behind in
    (cons_same f g fs gs same more.0, more.1)
