-- A reader reads back what was spelled and nothing else; and so do readers built from such readers.
use Rattle.std.proofs.Common.{◌≡◌, ℕ, zero, suc, ◌+◌, ◌%◌, ◌^◌, ◌<◌, ◌≤◌, Bool, true, false, cond}
use Rattle.std.proofs.Common.{ltb, List}
use Rattle.std.proofs.Common.{[], ◌∷◌, ◌++◌, length, take, drop, Option, Some, None, refl}
use Rattle.std.proofs.Common.{sym, ap, subst, ◌∙◌, append_assoc, arith, inl, inr, All}
use Rattle.std.specs.List.{flat_map, AllByRecursion}
use Rattle.std.specs.Int.{Width, w8, w16, w32, w64, byte_len, from_be_bytes, to_be_bytes}
use Rattle.std.proofs.lemmas.Bool.{cases_lt, ltb-false, le-ltb}
use Rattle.std.proofs.lemmas.List.{take_at, drop_at, take-append-drop, length-append, length-take}
use Rattle.std.proofs.lemmas.List.{get_or-drop, get_or-take, get_or_past}
use Rattle.std.proofs.lemmas.List.Concat.{flat_map-cons}
use Rattle.std.proofs.lemmas.List.Elements.{All-from_recursion, recursion_from_All}
use Rattle.std.proofs.lemmas.Nat.{be_bytes_2, be_bytes_4, be_bytes_8, from_be_bytes-to_be_bytes_2}
use Rattle.std.proofs.lemmas.Nat.{from_be_bytes-to_be_bytes_4, from_be_bytes-to_be_bytes_8}
use Rattle.byte_fields.specs.FieldsLemmas.{IsBytes, bind_some, guard_some, some_is, BeginsWith}
use Rattle.byte_fields.specs.FieldsLemmas.{BeginsWith-then}
use Rattle.byte_fields.specs.Readers.{Reader, both, mapped, only, many, counted, number_at, ◌>>=◌}

-- what is read is spelled at the front and is right; what is right and spelled at the front is read
pub record Reads {A : Type 0} (Is : A → Type 0) (spell : A → List ℕ)
    (read : Reader A) : Type 0 where
  pub takes : (bytes : List ℕ) (x : A × List ℕ) → IsBytes bytes → read bytes ≡ Some x
      → BeginsWith bytes (spell x.0) x.1 × Is x.0
  pub again : (a : A) (rest : List ℕ) → Is a → read (spell a ++ rest) ≡ Some (a, rest)

none_from : {X : Type 0} (o : Option X) → ((x : X) → o ≡ Some x → ⊥) → o ≡ None
none_from (Some x) no_some = absurd (no_some x refl)
none_from None no_some = refl

-- nothing is read only where nothing right begins the bytes
pub nothing_read : {A : Type 0} {Is : A → Type 0} {spell : A → List ℕ} {read : Reader A}
    → Reads Is spell read → (bytes : List ℕ) → IsBytes bytes
    → ((a : A) (rest : List ℕ) → Is a → bytes ≡ spell a ++ rest → ⊥) → read bytes ≡ None
nothing_read {A} {Is} {spell} {read} reads bytes fits none =
    none_from (read bytes) (λ x e.
    let t = reads.takes bytes x fits e in none x.0 x.1 t.1 t.0.parts)

-- ---- one behind the other

-- two readers, one behind the other, read what is spelled so
pub both_reads : {A B : Type 0} {IsA : A → Type 0} {IsB : B → Type 0} {spell_a : A → List ℕ}
    {spell_b : B → List ℕ} {first : Reader A} {second : Reader B} → Reads IsA spell_a first
    → Reads IsB spell_b second
    → Reads (λ (x : A × B). IsA x.0 × IsB x.1) (λ (x : A × B). spell_a x.0 ++ spell_b x.1)
    (both first second)
both_reads {A} {B} {IsA} {IsB} {spell_a} {spell_b} {first} {second} f s =
    record {
      takes = λ bytes x fits e.
          let a = bind_some (first bytes)
          (λ a. second a.1 >>= λ b. Some ((a.0, b.0), b.1)) x e in
          let b = bind_some (second a.0.1) (λ b. Some ((a.0.0, b.0), b.1)) x a.2 in
          let t = f.takes bytes a.0 fits a.1 in
          let u = s.takes a.0.1 b.0 t.0.rest_fits b.1 in
          let whole = BeginsWith-then bytes (spell_a a.0.0) a.0.1 (spell_b b.0.0) b.0.1 t.0 u.0 in
          let read : (A × B) × List ℕ = ((a.0.0, b.0.0), b.0.1) in
          subst (λ (y : (A × B) × List ℕ). BeginsWith bytes (spell_a y.0.0 ++ spell_b y.0.1) y.1
          × (IsA y.0.0 × IsB y.0.1)) (some_is read x b.2) (whole, (t.1, u.1));
      again = λ x rest is.
          ap (both first second) (append_assoc (spell_a x.0) (spell_b x.1) rest)
          ∙ rw (f.again x.0 (spell_b x.1 ++ rest) is.0, s.again x.1 rest is.1) refl;
    }

-- ---- a reading with a function applied to its value

-- a reader of one type reads another, where the two are the same but for their names
pub made_reads : {A B : Type 0} {Is : A → Type 0} {spell : A → List ℕ} {read : Reader A}
    (make : A → B) (of : B → A) → ((b : B) → make (of b) ≡ b) → ((a : A) → of (make a) ≡ a)
    → Reads Is spell read
    → Reads (λ (b : B). Is (of b)) (λ (b : B). spell (of b)) (mapped make read)
made_reads {A} {B} {Is} {spell} {read} make of there back r =
    record {
      takes = λ bytes x fits e.
          let a = bind_some (read bytes) (λ a. Some (make a.0, a.1)) x e in
          let t = r.takes bytes a.0 fits a.1 in
          let found : B × List ℕ = (make a.0.0, a.0.1) in
          let right : BeginsWith bytes (spell (of (make a.0.0))) a.0.1 × Is (of (make a.0.0)) =
          subst (λ (y : A). BeginsWith bytes (spell y) a.0.1 × Is y) (sym (back a.0.0)) t in
          subst (λ (y : B × List ℕ). BeginsWith bytes (spell (of y.0)) y.1 × Is (of y.0))
          (some_is found x a.2) right;
      again = λ b rest is.
          let e : mapped make read (spell (of b) ++ rest) ≡ Some (make (of b), rest) =
          ap (λ (o : Option (A × List ℕ)). o >>= λ a. Some (make a.0, a.1))
          (r.again (of b) rest is) in
          e ∙ ap (λ (y : B). Some (y, rest)) (there b);
    }

-- the same in other words for what is right
pub right_reads : {A : Type 0} {Is Js : A → Type 0} {spell : A → List ℕ} {read : Reader A}
    → ((a : A) → Is a → Js a) → ((a : A) → Js a → Is a) → Reads Is spell read
    → Reads Js spell read
right_reads to from r =
    record {
      takes = λ bytes x fits e. let t = r.takes bytes x fits e in (t.0, to x.0 t.1);
      again = λ a rest is. r.again a rest (from a is);
    }

-- ---- a reading whose value passes a test

passed : {A : Type 0} (b : Bool) (x y : A) → cond b (Some x) None ≡ Some y
    → (b ≡ true) × (x ≡ y)
passed true x y e = (refl, cc)
passed false x y e = absurd cc

-- a reader with a test reads what is right and passes it
pub only_reads : {A : Type 0} {Is Js : A → Type 0} {spell : A → List ℕ} {read : Reader A}
    (test : A → Bool) → ((a : A) → Is a → test a ≡ true → Js a)
    → ((a : A) → Js a → Is a × (test a ≡ true)) → Reads Is spell read
    → Reads Js spell (only test read)
only_reads {A} {Is} {Js} {spell} {read} test right fails r =
    record {
      takes = λ bytes x fits e.
          let a = bind_some (read bytes) (λ a. cond (test a.0) (Some a) None) x e in
          let g = passed (test a.0.0) a.0 x a.2 in
          let t = r.takes bytes a.0 fits a.1 in
          subst (λ (y : A × List ℕ). BeginsWith bytes (spell y.0) y.1 × Js y.0)
          g.1 (t.0, right a.0.0 t.1 g.0);
      again = λ a rest is.
          let p = fails a is in
          ap (λ (o : Option (A × List ℕ)). o >>= λ a. cond (test a.0) (Some a) None)
          (r.again a rest p.0)
          ∙ ap (λ (b : Bool). cond b (Some (a, rest)) None) p.1;
    }

-- ---- numbers

-- bytes are bytes without the first few
pub IsBytes-drop : (n : ℕ) (bytes : List ℕ) → IsBytes bytes → IsBytes (drop n bytes)
IsBytes-drop n bytes h i = rw get_or-drop (h (n + i))

-- the first few of bytes are bytes
pub IsBytes-take : (n : ℕ) (bytes : List ℕ) → IsBytes bytes → IsBytes (take n bytes)
IsBytes-take n bytes h i =
    elim (cases_lt i n) [
      | inl lt ↦ rw (get_or-take n bytes i 0 lt) (h i)
      | inr le ↦ rw (get_or_past (take n bytes) i 0 (omega (arith, length-take n bytes)))
          (omega arith)
    ]

-- numbers below a bound are spelled and read back in this width
pub record IsWide (w : Width) (bound : ℕ) : Type 0 where
  pub len : (n : ℕ) → length (to_be_bytes w n) ≡ byte_len w
  pub back : (bytes : List ℕ) → length bytes ≡ byte_len w → IsBytes bytes
      → to_be_bytes w (from_be_bytes w bytes) ≡ bytes
  pub again : (n : ℕ) → n < bound → from_be_bytes w (to_be_bytes w n) ≡ n
  pub below : (bytes : List ℕ) → IsBytes bytes → from_be_bytes w bytes < bound

back8 : (bytes : List ℕ) → length bytes ≡ 1 → IsBytes bytes
    → to_be_bytes w8 (from_be_bytes w8 bytes) ≡ bytes
back8 [] len fits = absurd (omega (arith, len))
back8 (b ∷ []) len fits =
    let same : from_be_bytes w8 (b ∷ []) % 256 ≡ b = omega (arith, fits 0) in
    ap (λ (x : ℕ). x ∷ []) same
back8 (b ∷ c ∷ bytes) len fits = absurd (omega (arith, len))

-- one byte holds each number below 256
pub wide8 : IsWide w8 256
wide8 = record {
  len = λ n. refl;
  back = back8;
  again = λ n lt. omega (arith, lt);
  below = λ bytes fits. omega (arith, fits 0);
}

-- two bytes hold each number below 2^16
pub wide16 : IsWide w16 (2 ^ 16)
wide16 = record {
  len = λ n. refl;
  back = λ bytes len fits. be_bytes_2 bytes _ len fits refl;
  again = λ n lt. from_be_bytes-to_be_bytes_2 n lt;
  below = λ bytes fits. omega (arith, fits 0, fits 1);
}

-- four bytes hold each number below 2^32
pub wide32 : IsWide w32 (2 ^ 32)
wide32 = record {
  len = λ n. refl;
  back = λ bytes len fits. be_bytes_4 bytes _ len fits refl;
  again = λ n lt. from_be_bytes-to_be_bytes_4 n lt;
  below = λ bytes fits. omega (arith, fits 0, fits 1, fits 2, fits 3);
}

-- eight bytes hold each number below 2^64
pub wide64 : IsWide w64 (2 ^ 64)
wide64 = record {
  len = λ n. refl;
  back = λ bytes len fits. be_bytes_8 bytes _ len fits refl;
  again = λ n lt. from_be_bytes-to_be_bytes_8 n lt;
  below = λ bytes fits. omega
      (arith, fits 0, fits 1, fits 2, fits 3, fits 4, fits 5, fits 6, fits 7);
}

number_begins : (w : Width) (bound : ℕ) (wide : IsWide w bound) (bytes : List ℕ) (x : ℕ × List ℕ)
    → IsBytes bytes → number_at w bytes ≡ Some x → BeginsWith bytes (to_be_bytes w x.0) x.1 ×
    (x.0 < bound)
number_begins w bound wide bytes x fits e =
    let front = take (byte_len w) bytes in
    let found : ℕ × List ℕ = (from_be_bytes w front, drop (byte_len w) bytes) in
    let g = guard_some (ltb (length bytes) (byte_len w)) (Some found) x e in
    let long : byte_len w ≤ length bytes = ltb-false _ _ g.0 in
    let small = IsBytes-take (byte_len w) bytes fits in
    let same : to_be_bytes w (from_be_bytes w front) ≡ front =
    wide.back front (omega (arith, length-take (byte_len w) bytes)) small in
    subst (λ (y : ℕ × List ℕ). BeginsWith bytes (to_be_bytes w y.0) y.1 × (y.0 < bound))
    (some_is found x g.1) (
      record {
        parts = sym (ap (λ (t : List ℕ). t ++ drop (byte_len w) bytes) same
            ∙ take-append-drop (byte_len w) bytes);
        rest_fits = IsBytes-drop (byte_len w) bytes fits;
      },
      wide.below front small,
    )

number_again : (w : Width) (bound : ℕ) (wide : IsWide w bound) (n : ℕ) (rest : List ℕ) → n < bound
    → number_at w (to_be_bytes w n ++ rest) ≡ Some (n, rest)
number_again w bound wide n rest lt =
    let len = wide.len n in
    let long : ltb (length (to_be_bytes w n ++ rest)) (byte_len w) ≡ false =
    le-ltb _ _ (omega (arith, len, length-append (to_be_bytes w n) rest)) in
    rw (
      long,
      take_at (to_be_bytes w n) rest (byte_len w) len,
      drop_at (to_be_bytes w n) rest (byte_len w) len,
      wide.again n lt,
    ) refl

-- a number is read as it is spelled in its width
pub number_reads : (w : Width) (bound : ℕ) → IsWide w bound
    → Reads (λ n. n < bound) (to_be_bytes w) (number_at w)
number_reads w bound wide =
    record { takes = number_begins w bound wide; again = number_again w bound wide }

-- ---- a given number of readings, one behind the other

-- so many readings take so many spellings
pub many_begin : {A : Type 0} {Is : A → Type 0} {spell : A → List ℕ} {read : Reader A}
    → Reads Is spell read → (n : ℕ) (bytes : List ℕ) (x : List A × List ℕ) → IsBytes bytes
    → many read n bytes ≡ Some x
    → BeginsWith bytes (flat_map spell x.0) x.1 × (length x.0 ≡ n) × AllByRecursion Is x.0
unfolding many
many_begin {A} {Is} {spell} {read} r zero bytes x fits e =
    let found : List A × List ℕ = ([], bytes) in
    subst (λ (y : List A × List ℕ). BeginsWith bytes (flat_map spell y.0) y.1 × (length y.0 ≡ 0)
    × AllByRecursion Is y.0) (some_is found x e)
    (record { parts = refl; rest_fits = fits }, refl, tt)
many_begin {A} {Is} {spell} {read} r (suc n) bytes x fits e =
    let a = bind_some (read bytes)
    (λ first. many read n first.1 >>= λ others. Some (first.0 ∷ others.0, others.1)) x e in
    let b = bind_some (many read n a.0.1) (λ others. Some (a.0.0 ∷ others.0, others.1)) x a.2 in
    let first = r.takes bytes a.0 fits a.1 in
    let second = many_begin r n a.0.1 b.0 first.0.rest_fits b.1 in
    let whole = BeginsWith-then bytes (spell a.0.0) a.0.1
    (flat_map spell b.0.0) b.0.1 first.0 second.0 in
    let found : List A × List ℕ = (a.0.0 ∷ b.0.0, b.0.1) in
    subst (λ (y : List A × List ℕ). BeginsWith bytes (flat_map spell y.0) y.1 × (length y.0 ≡ suc n)
    × AllByRecursion Is y.0) (some_is found x b.2)
    (rw flat_map-cons whole, ap suc second.1, (first.1, second.2))

-- items that are spelled one behind the other are read back
pub many_again : {A : Type 0} {Is : A → Type 0} {spell : A → List ℕ} {read : Reader A}
    → Reads Is spell read → (xs : List A) (rest : List ℕ) → AllByRecursion Is xs
    → many read (length xs) (flat_map spell xs ++ rest) ≡ Some (xs, rest)
unfolding many
many_again {A} {Is} {spell} {read} r [] rest is = refl
many_again {A} {Is} {spell} {read} r (x ∷ xs) rest is =
    let regrouped : flat_map spell (x ∷ xs) ++ rest ≡ spell x ++ (flat_map spell xs ++ rest) =
    ap (λ (t : List ℕ). t ++ rest) (flat_map-cons spell x xs)
    ∙ append_assoc (spell x) (flat_map spell xs) rest in
    ap (many read (suc (length xs))) regrouped
    ∙ rw (r.again x (flat_map spell xs ++ rest) is.0, many_again r xs rest is.1) refl

-- items behind their number are read as they are spelled
pub counted_reads : {A : Type 0} {Is : A → Type 0} {IsCount : ℕ → Type 0} {spell : A → List ℕ}
    {spell_count : ℕ → List ℕ} {read : Reader A} {count : Reader ℕ}
    → Reads IsCount spell_count count → Reads Is spell read
    → Reads (λ (xs : List A). IsCount (length xs) × All Is xs)
    (λ (xs : List A). spell_count (length xs) ++ flat_map spell xs) (counted count read)
counted_reads {A} {Is} {IsCount} {spell} {spell_count} {read} {count} c r =
    record {
      takes = λ bytes x fits e.
          let n = bind_some (count bytes) (λ n. many read n.0 n.1) x e in
          let t = c.takes bytes n.0 fits n.1 in
          let u = many_begin r n.0.0 n.0.1 x t.0.rest_fits n.2 in
          let whole = BeginsWith-then bytes (spell_count n.0.0) n.0.1
          (flat_map spell x.0) x.1 t.0 u.0 in
          let right : BeginsWith bytes (spell_count (length x.0) ++ flat_map spell x.0) x.1
          × IsCount (length x.0) =
          subst (λ (k : ℕ). BeginsWith bytes (spell_count k ++ flat_map spell x.0) x.1 × IsCount k)
          (sym u.1) (whole, t.1) in
          (right.0, (right.1, All-from_recursion Is x.0 u.2));
      again = λ xs rest is.
          ap (counted count read)
          (append_assoc (spell_count (length xs)) (flat_map spell xs) rest)
          ∙ ap (λ (o : Option (ℕ × List ℕ)). o >>= λ n. many read n.0 n.1)
          (c.again (length xs) (flat_map spell xs ++ rest) is.0)
          ∙ many_again r xs rest (recursion_from_All Is xs is.1);
    }
