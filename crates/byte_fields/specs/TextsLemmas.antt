-- A text that is read is the text that was written, and what was written is read again.
use Rattle.std.proofs.Common.{◌≡◌, ℕ, ◌^◌, ◌<◌, ◌≤◌, false, cond, ltb, List, ◌++◌, length, take}
use Rattle.std.proofs.Common.{drop, Some, None, refl, sym, subst, arith}
use Rattle.std.specs.Int.{w16, to_be_bytes}
use Rattle.std.proofs.lemmas.Bool.{ltb-false, le-ltb}
use Rattle.std.proofs.lemmas.List.{take_at, drop_at, take-append-drop, length-append, length-take}
use Rattle.byte_fields.specs.FieldsLemmas.{IsBytes, bind_some, guard_some, some_is}
use Rattle.byte_fields.specs.FieldsLemmas.{BeginsWith, BeginsWith-then}
use Rattle.byte_fields.specs.Readers.{number_at}
use Rattle.byte_fields.specs.ReadersLemmas.{IsBytes-drop, number_reads, wide16}
use Rattle.byte_fields.specs.Texts.{text_at, text_bytes}

-- a text that is read is spelled at the front, and within the limit
pub text_begins : (limit : ℕ) (bytes : List ℕ) (x : List ℕ × List ℕ) → IsBytes bytes
    → text_at limit bytes ≡ Some x → BeginsWith bytes (text_bytes x.0) x.1 × (length x.0 ≤ limit)
unfolding text_at
text_begins limit bytes x fits e =
    let b = bind_some (number_at w16 bytes)
    (λ n. cond (ltb limit n.0) None
    (cond (ltb (length n.1) n.0) None (Some (take n.0 n.1, drop n.0 n.1)))) x e in
    let n = b.0 in
    let t = (number_reads w16 (2 ^ 16) wide16).takes bytes n fits b.1 in
    let made : List ℕ × List ℕ = (take n.0 n.1, drop n.0 n.1) in
    let g = guard_some (ltb limit n.0) (cond (ltb (length n.1) n.0) None (Some made)) x b.2 in
    let h = guard_some (ltb (length n.1) n.0) (Some made) x g.1 in
    let short : n.0 ≤ limit = ltb-false _ _ g.0 in
    let long : n.0 ≤ length n.1 = ltb-false _ _ h.0 in
    let len : length (take n.0 n.1) ≡ n.0 = omega (arith, length-take n.0 n.1) in
    let second : BeginsWith n.1 (take n.0 n.1) (drop n.0 n.1) =
    record {
      parts = sym (take-append-drop n.0 n.1);
      rest_fits = IsBytes-drop n.0 n.1 t.0.rest_fits;
    } in
    let both = BeginsWith-then bytes (to_be_bytes w16 n.0) n.1 (take n.0 n.1)
    (drop n.0 n.1) t.0 second in
    let whole : BeginsWith bytes (text_bytes (take n.0 n.1)) (drop n.0 n.1) =
    subst (λ (k : ℕ). BeginsWith bytes (to_be_bytes w16 k ++ take n.0 n.1) (drop n.0 n.1))
    (sym len) both in
    subst (λ (p : List ℕ × List ℕ). BeginsWith bytes (text_bytes p.0) p.1 × (length p.0 ≤ limit))
    (some_is made x h.1) (whole, omega arith)

-- a text within the limit is read back
pub text_again : (limit : ℕ) (bytes rest : List ℕ) → length bytes ≤ limit → limit < 2 ^ 16
    → text_at limit (text_bytes bytes ++ rest) ≡ Some (bytes, rest)
unfolding text_at
text_again limit bytes rest short lt =
    let fits : ltb limit (length bytes) ≡ false = le-ltb _ _ short in
    let long : ltb (length (bytes ++ rest)) (length bytes) ≡ false =
    le-ltb _ _ (omega (arith, length-append bytes rest)) in
    rw (
      (number_reads w16 (2 ^ 16) wide16).again (length bytes) (bytes ++ rest) (omega arith),
      fits,
      long,
      take_at bytes rest (length bytes) refl,
      drop_at bytes rest (length bytes) refl,
    ) refl
