-- What the content of a frame is: a frame, of no kind, malformed, or too much.
use Rattle.std.proofs.Common.{◌≡◌, ◌⊎◌, inl, inr, ℕ, ◌≤◌, List, [], ◌∷◌, ◌++◌, length}
use Rattle.std.proofs.Common.{Option, Some, None, Result, Ok, Err, refl, sym, ap, subst, ◌∙◌, arith}
use Rattle.configurations.specs.{TestDecidesConfig}
use Rattle.byte_fields.specs.FieldsLemmas.{IsBytes, IsBytes-rest}
use Rattle.link_messages.specs.declared.error.FrameError.{FrameError}
use Rattle.link_messages.specs.declared.error.FrameError.TheVariants as fault
use Rattle.link_messages.specs.declared.frame.Frame.{Frame}
use Rattle.link_messages.specs.Spelling.{kind, fields}
use Rattle.link_messages.specs.Stream.{HasKind, BeginsWithFrame, IsMalformed, IsTooMuch}
use Rattle.byte_fields.specs.{Reader}
use Rattle.link_messages.specs.Reading.{reader_of, ended, read_by, content_at}
use Rattle.link_messages.proofs.FrameLaws.{reader_is, known, unknown, frame_again}

-- the verdict on content
abbrev pub Verdict : Result Frame FrameError → List ℕ → Type 0
Verdict (Ok f) content = BeginsWithFrame content f []
Verdict (Err fault.BadKind) content = HasKind content → ⊥
Verdict (Err fault.BadField) content = IsMalformed content
Verdict (Err fault.Trailing) content = IsTooMuch content
Verdict (Err fault.TooLong) content = ⊥
Verdict (Err fault.Memory) content = ⊥

-- a frame in range at the front is read
pub begun : TestDecidesConfig →
    (content : List ℕ) (f : Frame) (behind : List ℕ) → BeginsWithFrame content f behind
    → content_at content ≡ ended (Some (f, behind))
unfolding content_at
begun decides content f behind b =
    let r = frame_again decides f behind b.frame in
    ap content_at b.parts
    ∙ ap (λ (o : Option (Reader Frame)). read_by o (fields f ++ behind)) r.of_kind
    ∙ ap ended r.again

no_bad_field : (f : Frame) (behind : List ℕ) → ended (Some (f, behind)) ≡ Err fault.BadField → ⊥
no_bad_field f [] e = absurd cc
no_bad_field f (b ∷ behind) e = absurd cc

-- ---- the value that is read is right

verdict_of_read : TestDecidesConfig →
    (k : ℕ) (bytes : List ℕ) (read : Reader Frame) → reader_of k ≡ Some read
    → IsBytes bytes → (o : Option (Frame × List ℕ)) → read bytes ≡ o
    → content_at (k ∷ bytes) ≡ ended o → Verdict (ended o) (k ∷ bytes)
verdict_of_read decides k bytes read of fits None e told =
    record {
      known = known k read of;
      none = λ f behind b.
          no_bad_field f behind (sym (begun decides (k ∷ bytes) f behind b) ∙ told);
    }
verdict_of_read decides k bytes read of fits (Some (f, [])) e told =
    let t = (reader_is decides k read of).takes bytes (f, []) fits e in
    record {
      frame = t.2;
      parts = ap (λ (x : ℕ). x ∷ bytes) (sym t.0)
          ∙ ap (λ (t : List ℕ). kind f ∷ t) t.1.parts;
    }
verdict_of_read decides k bytes read of fits (Some (f, b ∷ more)) e told =
    let t = (reader_is decides k read of).takes bytes (f, b ∷ more) fits e in
    record {
      frame = f;
      byte = b;
      more = more;
      begins = record {
        frame = t.2;
        parts = ap (λ (x : ℕ). x ∷ bytes) (sym t.0)
            ∙ ap (λ (t : List ℕ). kind f ∷ t) t.1.parts;
      };
    }

verdict_of_reader : TestDecidesConfig →
    (k : ℕ) (bytes : List ℕ) → IsBytes bytes → (o : Option (Reader Frame))
    → reader_of k ≡ o → content_at (k ∷ bytes) ≡ read_by o bytes
    → Verdict (read_by o bytes) (k ∷ bytes)
verdict_of_reader decides k bytes fits None e told = λ has. unknown k e has
verdict_of_reader decides k bytes fits (Some read) e told =
    verdict_of_read decides k bytes read e fits (read bytes) refl told

pub verdict : TestDecidesConfig → (content : List ℕ) → 1 ≤ length content → IsBytes content
    → Verdict (content_at content) content
unfolding content_at
verdict decides [] some fits = absurd (omega (arith, some))
verdict decides (k ∷ bytes) some fits =
    verdict_of_reader decides k bytes (IsBytes-rest k bytes fits) (reader_of k) refl refl

-- ---- content has one verdict

kind_of_begun : TestDecidesConfig →
    (content : List ℕ) (f : Frame) (behind : List ℕ) → BeginsWithFrame content f behind
    → HasKind content
kind_of_begun decides content f behind b =
    let r = frame_again decides f behind b.frame in
    subst HasKind (sym b.parts) (known (kind f) r.read r.of_kind)

no_kind_of : (k : ℕ) (bytes : List ℕ) → (HasKind (k ∷ bytes) → ⊥) → (o : Option (Reader Frame))
    → reader_of k ≡ o → read_by o bytes ≡ Err fault.BadKind
no_kind_of k bytes none None e = refl
no_kind_of k bytes none (Some read) e = absurd (none (known k read e))

no_kind : (content : List ℕ) → 1 ≤ length content → (HasKind content → ⊥)
    → content_at content ≡ Err fault.BadKind
unfolding content_at
no_kind [] some none = absurd (omega (arith, some))
no_kind (k ∷ bytes) some none = no_kind_of k bytes none (reader_of k) refl

has_kind_of : (k : ℕ) (bytes : List ℕ) (o : Option (Reader Frame)) → reader_of k ≡ o
    → (read_by o bytes ≡ Err fault.BadKind → ⊥) → HasKind (k ∷ bytes)
has_kind_of k bytes None e read = absurd (read refl)
has_kind_of k bytes (Some reader) e read = known k reader e

-- content that is not refused for its kind has a known one
pub has_kind : (content : List ℕ) → 1 ≤ length content
    → (content_at content ≡ Err fault.BadKind → ⊥) → HasKind content
unfolding content_at
has_kind [] some read = absurd (omega (arith, some))
has_kind (k ∷ bytes) some read = has_kind_of k bytes (reader_of k) refl read

-- a verdict is what reading answers, but for malformed content
settled : TestDecidesConfig → (v : Result Frame FrameError) (content : List ℕ) → 1 ≤ length content
    → Verdict v content → (v ≡ Err fault.BadField) ⊎ (content_at content ≡ v)
settled decides (Ok f) content some is = inr (begun decides content f [] is)
settled decides (Err fault.BadKind) content some is = inr (no_kind content some is)
settled decides (Err fault.BadField) content some is = inl refl
settled decides (Err fault.Trailing) content some is =
    inr (begun decides content is.frame (is.byte ∷ is.more) is.begins)
settled decides (Err fault.TooLong) content some is = absurd is
settled decides (Err fault.Memory) content some is = absurd is

malformed_alone : (v : Result Frame FrameError) (content : List ℕ) → Verdict v content
    → IsMalformed content → v ≡ Err fault.BadField
malformed_alone (Ok f) content is bad = absurd (bad.none f [] is)
malformed_alone (Err fault.BadKind) content is bad = absurd (is bad.known)
malformed_alone (Err fault.BadField) content is bad = refl
malformed_alone (Err fault.Trailing) content is bad =
    absurd (bad.none is.frame (is.byte ∷ is.more) is.begins)
malformed_alone (Err fault.TooLong) content is bad = absurd is
malformed_alone (Err fault.Memory) content is bad = absurd is

pub one_verdict : TestDecidesConfig →
    (v w : Result Frame FrameError) (content : List ℕ) → 1 ≤ length content
    → Verdict v content → Verdict w content → v ≡ w
one_verdict decides v w content some is_v is_w =
    elim (settled decides v content some is_v) [
      | inl e ↦
          e ∙ sym (malformed_alone w content is_w (subst (λ
          (u : Result Frame FrameError). Verdict u content) e is_v))
      | inr e ↦
          elim (settled decides w content some is_w) [
            | inl d ↦
                malformed_alone v content is_v
                (subst (λ (u : Result Frame FrameError). Verdict u content) d is_w) ∙ sym d
            | inr d ↦ sym e ∙ d
          ]
    ]
