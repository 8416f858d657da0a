-- Items that were read one behind the other, and those that are left.
use Rattle.std.proofs.Common.{◌≡◌, ℕ, ◌<◌, List, [], ◌∷◌, ◌++◌, length, Some, None}
use Rattle.std.proofs.Common.{refl, sym, ap, ◌∙◌, arith, append_assoc, length-append}
use Rattle.std.specs.List.{flat_map, AllByRecursion}
use Rattle.std.proofs.lemmas.List.{append-nil}
use Rattle.std.proofs.lemmas.Grind.{flat_map-append}
use Rattle.std.proofs.lemmas.List.Concat.{flat_map-cons}
use Rattle.byte_fields.specs.FieldsLemmas.{IsBytes, some_is}
use Rattle.byte_fields.specs.{Reader}
use Rattle.byte_fields.specs.ReadersLemmas.{Reads}

-- one item more is spelled behind the others
pub flat_push : {A : Type 0} (spell : A → List ℕ) (xs : List A) (x : A)
    → flat_map spell (xs ++ x ∷ []) ≡ flat_map spell xs ++ spell x
flat_push spell xs x =
    flat_map-append spell xs (x ∷ []) ∙ ap (λ (b : List ℕ). flat_map spell xs ++ b)
    (flat_map-cons spell x [] ∙ append-nil (spell x))

-- what holds of all and of one more holds of all with it
pub all_push : {A : Type 0} (P : A → Type 0) (xs : List A) (x : A) → AllByRecursion P xs → P x
    → AllByRecursion P (xs ++ x ∷ [])
all_push P [] x each is = (is, tt)
all_push P (y ∷ xs) x each is = (each.0, all_push P xs x each.1 is)

-- ---- what was read so far

-- a loop has read these items from the text, and the rest is left
pub record Passed {A : Type 0} (Is : A → Type 0) (spell : A → List ℕ) (text rest : List ℕ)
    (read : List A) : Type 0 where
  pub spelled : text ≡ flat_map spell read ++ rest
  pub each : AllByRecursion Is read
  pub fits : IsBytes rest

-- one item more is read
pub passed_next : {A : Type 0} {Is : A → Type 0} {spell : A → List ℕ} {reader : Reader A}
    → Reads Is spell reader → (text rest : List ℕ) (read : List A) (a : A) (behind : List ℕ)
    → Passed Is spell text rest read → reader rest ≡ Some (a, behind)
    → Passed Is spell text behind (read ++ a ∷ [])
passed_next {A} {Is} {spell} {reader} reads text rest read a behind p e =
    let t = reads.takes rest (a, behind) p.fits e in
    record {
      spelled = p.spelled ∙ ap (λ (r : List ℕ). flat_map spell read ++ r) t.0.parts
          ∙ sym (append_assoc (flat_map spell read) (spell a) behind)
          ∙ ap (λ (f : List ℕ). f ++ behind) (sym (flat_push spell read a));
      each = all_push Is read a p.each t.1;
      fits = t.0.rest_fits;
    }

-- what all of them have behind those that were read
pub record After {A : Type 0} (Is : A → Type 0) (spell : A → List ℕ) (rest : List ℕ)
    (read all : List A) : Type 0 where
  pub after : List A
  pub split : all ≡ read ++ after
  pub spelled : rest ≡ flat_map spell after
  pub each : AllByRecursion Is after

-- the items that were read begin the items that are spelled, by their spellings
pub split_by : {A : Type 0} {Is : A → Type 0} {spell : A → List ℕ} {reader : Reader A}
    → Reads Is spell reader → ((a : A) → 0 < length (spell a)) → (rest : List ℕ) (read all : List A)
    → AllByRecursion Is read → AllByRecursion Is all
    → flat_map spell read ++ rest ≡ flat_map spell all
    → After Is spell rest read all
split_by {A} {Is} {spell} {reader} reads long rest [] all each_r each is =
    record { after = all; split = refl; spelled = is; each = each }
split_by {A} {Is} {spell} {reader} reads long rest (x ∷ read) [] each_r each is =
    absurd (omega (
      arith,
      long x,
      ap length is,
      ap length (flat_map-cons spell x read),
      length-append (flat_map spell (x ∷ read)) rest,
      length-append (spell x) (flat_map spell read),
    ))
split_by {A} {Is} {spell} {reader} reads long rest (x ∷ read) (y ∷ all) each_r each is =
    let parts : spell x ++ (flat_map spell read ++ rest) ≡ spell y ++ flat_map spell all =
    sym (append_assoc (spell x) (flat_map spell read) rest)
    ∙ ap (λ (t : List ℕ). t ++ rest) (sym (flat_map-cons spell x read)) ∙ is
    ∙ flat_map-cons spell y all in
    let two : (x, flat_map spell read ++ rest) ≡ (y, flat_map spell all) =
    some_is (x, flat_map spell read ++ rest) (y, flat_map spell all)
    (sym (reads.again x (flat_map spell read ++ rest) each_r.0) ∙ ap reader parts
    ∙ reads.again y (flat_map spell all) each.0) in
    let heads : x ≡ y = ap (λ (p : A × List ℕ). p.0) two in
    let below = split_by reads long rest read all each_r.1 each.1
    (ap (λ (p : A × List ℕ). p.1) two) in
    record {
      after = below.after;
      split = ap (λ (l : List A). y ∷ l) below.split
          ∙ ap (λ (h : A). h ∷ (read ++ below.after)) (sym heads);
      spelled = below.spelled;
      each = below.each;
    }

-- the items that a loop has read begin the items that the text spells
pub split_of : {A : Type 0} {Is : A → Type 0} {spell : A → List ℕ} {reader : Reader A}
    → Reads Is spell reader → ((a : A) → 0 < length (spell a))
    → (text rest : List ℕ) (read all : List A)
    → Passed Is spell text rest read → AllByRecursion Is all → text ≡ flat_map spell all
    → After Is spell rest read all
split_of reads long text rest read all p each is =
    split_by reads long rest read all p.each each (sym p.spelled ∙ is)

-- nothing more is read only at the end
pub never_none : {A : Type 0} {Is : A → Type 0} {spell : A → List ℕ} {reader : Reader A}
    → Reads Is spell reader → (rest : List ℕ) (after : List A) → AllByRecursion Is after
    → rest ≡ flat_map spell after → 0 < length rest → reader rest ≡ None → ⊥
never_none {A} {Is} {spell} {reader} reads rest [] each is some none =
    omega (arith, some, ap length is)
never_none {A} {Is} {spell} {reader} reads rest (x ∷ xs) each is some none =
    let again : reader rest ≡ Some (x, flat_map spell xs) =
    ap reader (is ∙ flat_map-cons spell x xs) ∙ reads.again x (flat_map spell xs) each.0 in
    absurd cc

-- what is read is the next of all
pub record Next {A : Type 0} (read all : List A) (a : A) : Type 0 where
  pub others : List A
  pub split : all ≡ read ++ a ∷ others

next_by : {A : Type 0} {Is : A → Type 0} {spell : A → List ℕ} {reader : Reader A}
    → Reads Is spell reader → (rest : List ℕ) (read all after : List A) (a : A) (behind : List ℕ)
    → AllByRecursion Is after → all ≡ read ++ after → rest ≡ flat_map spell after → 0 < length rest
    → reader rest ≡ Some (a, behind) → Next read all a
next_by {A} {Is} {spell} {reader} reads rest read all [] a behind each split is some e =
    absurd (omega (arith, some, ap length is))
next_by {A} {Is} {spell} {reader} reads rest read all (x ∷ xs) a behind each split is some e =
    let again : reader rest ≡ Some (x, flat_map spell xs) =
    ap reader (is ∙ flat_map-cons spell x xs) ∙ reads.again x (flat_map spell xs) each.0 in
    let two : (x, flat_map spell xs) ≡ (a, behind) =
    some_is (x, flat_map spell xs) (a, behind) (sym again ∙ e) in
    record {
      others = xs;
      split = split
          ∙ ap (λ (h : A). read ++ h ∷ xs) (ap (λ (p : A × List ℕ). p.0) two);
    }

-- the next item that is read is the next of those that are spelled
pub next_of : {A : Type 0} {Is : A → Type 0} {spell : A → List ℕ} {reader : Reader A}
    → Reads Is spell reader → (rest : List ℕ) (read all : List A) (a : A) (behind : List ℕ)
    → After Is spell rest read all → 0 < length rest → reader rest ≡ Some (a, behind)
    → Next read all a
next_of reads rest read all a behind s some e =
    next_by reads rest read all s.after a behind s.each s.split s.spelled some e

-- at the end all were read
all_by : {A : Type 0} (spell : A → List ℕ) → ((a : A) → 0 < length (spell a))
    → (rest : List ℕ) (read all after : List A) → all ≡ read ++ after → rest ≡ flat_map spell after
    → length rest ≡ 0 → all ≡ read
all_by {A} spell long rest read all [] split is none = split ∙ append-nil read
all_by {A} spell long rest read all (x ∷ xs) split is none =
    absurd (omega (
      arith,
      none,
      long x,
      ap length (is ∙ flat_map-cons spell x xs),
      length-append (spell x) (flat_map spell xs),
    ))

-- where nothing is left, all items were read
pub all_read : {A : Type 0} {Is : A → Type 0} (spell : A → List ℕ)
    → ((a : A) → 0 < length (spell a))
    → (rest : List ℕ) (read all : List A) → After Is spell rest read all → length rest ≡ 0
    → all ≡ read
all_read spell long rest read all s none =
    all_by spell long rest read all s.after s.split s.spelled none

nil_of : (l : List ℕ) → length l ≡ 0 → l ≡ []
nil_of [] e = refl
nil_of (x ∷ l) e = absurd (omega (arith, e))

-- where nothing is left, the text spells what was read
pub text_end : {A : Type 0} {Is : A → Type 0} {spell : A
    → List ℕ} (text rest : List ℕ) (read : List A)
    → Passed Is spell text rest read → length rest ≡ 0 → text ≡ flat_map spell read
text_end {A} {Is} {spell} text rest read p none =
    p.spelled ∙ ap (λ (r : List ℕ). flat_map spell read ++ r) (nil_of rest none)
    ∙ append-nil (flat_map spell read)
