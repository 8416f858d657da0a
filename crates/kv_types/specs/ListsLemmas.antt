-- Lists that begin one another, places and parts.
use Rattle.std.proofs.Common.{◌≡◌, inl, inr, ℕ, zero, suc, ◌≤◌, List, [], ◌∷◌, ◌++◌, length, take}
use Rattle.std.proofs.Common.{slice_get}
use Rattle.std.proofs.Common.{Some, None, true, ◌==◌, ⊎_elim, sym, refl, ◌∙◌, ap, subst, arith}
use Rattle.std.proofs.Common.{take_at, append_assoc, append-nil, length-append, eqb-true, eq-eqb}
use Rattle.std.proofs.lemmas.Bool.{cond_both, false≢true}
use Rattle.std.proofs.lemmas.List.{take-append-le}
use Rattle.std.specs.List.{AllByRecursion}
use Rattle.kv_types.specs.Lists.{IsPrefix, Part, is_part, place}

-- a list begins itself
pub begins_refl : {A : Type 0} (l : List A) → IsPrefix l l
begins_refl l = record { rest = []; whole = append-nil l }

-- the empty list begins each
pub begins_nil : {A : Type 0} (l : List A) → IsPrefix [] l
begins_nil l = record { rest = l; whole = refl }

-- a list begins what follows it
pub begins_more : {A : Type 0} (l m : List A) → IsPrefix l (l ++ m)
begins_more l m = record { rest = m; whole = refl }

-- the same element in front
pub begins_cons : {A : Type 0} {x : A} {l m : List A} → IsPrefix l m → IsPrefix (x ∷ l) (x ∷ m)
begins_cons {x = x} b = record { rest = b.rest; whole = ap (λ r. x ∷ r) b.whole }

-- a prefix of a prefix is a prefix of the list
pub begins_trans : {A : Type 0} {l m n : List A} → IsPrefix l m → IsPrefix m n → IsPrefix l n
begins_trans {l = l} a b = record {
  rest = a.rest ++ b.rest;
  whole = sym (append_assoc l a.rest b.rest) ∙ ap (λ r. r ++ b.rest) a.whole ∙ b.whole;
}

-- a prefix is no longer than the list
pub begins-length : {A : Type 0} {l m : List A} → IsPrefix l m → length l ≤ length m
begins-length {l = l} {m = m} b = omega (arith, length-append l b.rest, ap length b.whole)

-- the element behind a list is at the next place
place_middle : {A : Type 0} (l r : List A) (x : A) → place (l ++ x ∷ r) (suc (length l)) ≡ Some x
place_middle [] r x = refl
place_middle (y ∷ l) r x = place_middle l r x

-- there is no element behind a list's end
place_end : {A : Type 0} (l : List A) → place l (suc (length l)) ≡ None
place_end [] = refl
place_end (y ∷ l) = place_end l

-- the next batch
pub begins_next : {A : Type 0} {l m : List A} (x : A) → IsPrefix l m
    → place m (suc (length l)) ≡ Some x → IsPrefix (l ++ x ∷ []) m
begins_next {l = l} {m = m} x b at = go b.rest b.whole
  where
    go : (rest : List _) → l ++ rest ≡ m → IsPrefix (l ++ x ∷ []) m
    go [] e = absurd (cc (at, place_end l, append-nil l, e))
    go (y ∷ rest) e =
        let is : Some y ≡ Some x = sym (place_middle l rest y)
        ∙ ap (λ k. place k (suc (length l))) e ∙ at in
        let same : y ≡ x = cc is in
        record {
          rest = rest;
          whole = append_assoc l (x ∷ []) rest ∙ ap (λ z. l ++ z ∷ rest)
              (sym same) ∙ e;
        }

-- an element stays at its place as the list grows
pub place_in : {A : Type 0} (l r : List A) (n : ℕ) (x : A) → place l n ≡ Some x
    → place (l ++ r) n ≡ Some x
place_in [] r n x e = absurd (cc)
place_in (y ∷ l) r zero x e = e
place_in (y ∷ l) r (suc zero) x e = e
place_in (y ∷ l) r (suc (suc n)) x e = place_in l r (suc n) x e

-- an element of a prefix is an element of the list
pub begins-place : {A : Type 0} {l m : List A} (n : ℕ) (x : A) → IsPrefix l m → place l n ≡ Some x
    → place m n ≡ Some x
begins-place {l = l} n x b e = subst (λ k. place k n ≡ Some x) b.whole (place_in l b.rest n x e)

-- an appended element is at the last place
pub place_last : {A : Type 0} (l : List A) (x : A) → place (l ++ x ∷ []) (suc (length l)) ≡ Some x
place_last l x = place_middle l [] x

-- an element at an early place of two lists in a row is in the first
pub place_before : {A : Type 0} (l r : List A) (n : ℕ) (x : A) → place (l ++ r) n ≡ Some x
    → n ≤ length l → place l n ≡ Some x
place_before [] [] n x e le = e
place_before [] (y ∷ r) zero x e le = absurd (cc)
place_before [] (y ∷ r) (suc n) x e le = absurd (omega arith)
place_before (y ∷ l) r zero x e le = e
place_before (y ∷ l) r (suc zero) x e le = e
place_before (y ∷ l) r (suc (suc n)) x e le = place_before l r (suc n) x e (omega arith)

-- there is no place zero
pub none_at_zero : {A : Type 0} (l : List A) (x : A) → place l zero ≡ Some x → ⊥
none_at_zero [] x at = absurd (cc)
none_at_zero (y ∷ l) x at = absurd (cc)

-- places are counted from 1, and a slice from 0
pub place-slice_get : {A : Type 0} (l : List A) (i : ℕ) → place l (suc i) ≡ slice_get l i
place-slice_get [] i = refl
place-slice_get (x ∷ l) zero = refl
place-slice_get (x ∷ l) (suc i) = place-slice_get l i

-- the first elements begin a list
pub begins_take : {A : Type 0} (k : ℕ) (l : List A) → IsPrefix (take k l) l
begins_take zero l = begins_nil l
begins_take (suc k) [] = begins_nil []
begins_take (suc k) (x ∷ l) = begins_cons (begins_take k l)

-- a prefix is the first elements of the list
pub take_begins : {A : Type 0} (c l : List A) → IsPrefix c l → take (length c) l ≡ c
take_begins c l b = subst (λ m. take (length c) m ≡ c) b.whole (take_at c b.rest (length c) refl)

-- fewer of the first elements begin more of them
pub take_less : {A : Type 0} (j k : ℕ) (l : List A) → j ≤ k → IsPrefix (take j l) (take k l)
take_less zero k l h = begins_nil (take k l)
take_less (suc j) zero l h = absurd (omega arith)
take_less (suc j) (suc k) [] h = begins_nil []
take_less (suc j) (suc k) (x ∷ l) h = begins_cons (take_less j k l (omega arith))

-- the first elements of a prefix are those of the list
pub take_of_begins : {A : Type 0} (k : ℕ) (l m : List A) → IsPrefix l m → k ≤ length l
    → take k m ≡ take k l
take_of_begins k l m b h = subst (λ z. take k z ≡ take k l) b.whole (take-append-le k l b.rest h)

-- of two that begin one list, the shorter begins the longer
pub begins_shorter : {A : Type 0} (a b m : List A) → IsPrefix a m → IsPrefix b m
    → length a ≤ length b → IsPrefix a b
begins_shorter a b m p q h =
    subst (λ l. IsPrefix a l) (take_begins b m q) (subst (λ l. IsPrefix l (take (length b) m))
    (take_begins a m p) (take_less (length a) (length b) m h))

-- an element at an early place is among the first elements
pub place_take : {A : Type 0} (k : ℕ) (l : List A) (n : ℕ) (x : A) → place l n ≡ Some x → n ≤ k
    → place (take k l) n ≡ Some x
place_take k [] n x e h = absurd (cc)
place_take zero (y ∷ l) zero x e h = absurd (cc)
place_take zero (y ∷ l) (suc n) x e h = absurd (omega arith)
place_take (suc k) (y ∷ l) zero x e h = e
place_take (suc k) (y ∷ l) (suc zero) x e h = e
place_take (suc k) (y ∷ l) (suc (suc n)) x e h = place_take k l (suc n) x e (omega arith)

-- the place of an element is no greater than the length
pub place-bounds : {A : Type 0} (l : List A) (n : ℕ) (x : A) → place l n ≡ Some x → n ≤ length l
place-bounds [] n x e = absurd (cc)
place-bounds (y ∷ l) zero x e = omega arith
place-bounds (y ∷ l) (suc zero) x e = omega arith
place-bounds (y ∷ l) (suc (suc n)) x e = omega (arith, place-bounds l (suc n) x e)

-- a part of a list is a part of a longer one
pub part_more : {A : Type 0} (l m : List A) (y : A) → Part l m → Part l (y ∷ m)
part_more [] m y p = tt
part_more (x ∷ l) m y p = inr p

-- a list is a part of itself
pub part_refl : {A : Type 0} (l : List A) → Part l l
part_refl [] = tt
part_refl (x ∷ l) = inl (refl, part_refl l)

-- a part of a part is a part
pub part_trans : {A : Type 0} (l m n : List A) → Part l m → Part m n → Part l n
part_trans [] m n p q = tt
part_trans (x ∷ l) [] n p q = absurd p
part_trans (x ∷ l) (y ∷ m) [] p q = absurd q
part_trans (x ∷ l) (y ∷ m) (z ∷ n) (inl p) (inl q) = inl (p.0 ∙ q.0, part_trans l m n p.1 q.1)
part_trans (x ∷ l) (y ∷ m) (z ∷ n) (inr p) (inl q) = inr (part_trans (x ∷ l) m n p q.1)
part_trans (x ∷ l) (y ∷ m) (z ∷ n) p (inr q) = inr (part_trans (x ∷ l) (y ∷ m) n p q)

-- a list is a part of what it begins
part_append : {A : Type 0} (l r : List A) → Part l (l ++ r)
part_append [] r = tt
part_append (x ∷ l) r = inl (refl, part_append l r)

-- a prefix is a sublist
pub part_begins : {A : Type 0} {l m : List A} → IsPrefix l m → Part l m
part_begins {l = l} b = subst (λ z. Part l z) b.whole (part_append l b.rest)

-- a sublist stays a sublist when one more batch is submitted
pub part_wider : {A : Type 0} (l h r : List A) → Part l h → Part l (h ++ r)
part_wider [] h r p = tt
part_wider (x ∷ l) [] r p = absurd p
part_wider (x ∷ l) (y ∷ h) r (inl p) = inl (p.0, part_wider l h r p.1)
part_wider (x ∷ l) (y ∷ h) r (inr p) = inr (part_wider (x ∷ l) h r p)

-- the same element behind both
pub part_both : {A : Type 0} (l h : List A) (b : A) → Part l h → Part (l ++ b ∷ []) (h ++ b ∷ [])
part_both [] [] b p = inl (refl, tt)
part_both [] (y ∷ h) b p = inr (part_both [] h b tt)
part_both (x ∷ l) [] b p = absurd p
part_both (x ∷ l) (y ∷ h) b (inl p) = inl (p.0, part_both l h b p.1)
part_both (x ∷ l) (y ∷ h) b (inr p) = inr (part_both (x ∷ l) h b p)

-- a consequence for each element
pub every_map : {A : Type 0} (P Q : A → Type 0) (l : List A) → ((x : A) → P x → Q x)
    → AllByRecursion P l → AllByRecursion Q l
every_map P Q [] f h = tt
every_map P Q (x ∷ l) f h = (f x h.0, every_map P Q l f h.1)

-- a property of the elements of two lists holds for both in a row
pub every_append : {A : Type 0} (P : A → Type 0) (l m : List A) → AllByRecursion P l
    → AllByRecursion P m → AllByRecursion P (l ++ m)
every_append P [] m h k = k
every_append P (x ∷ l) m h k = (h.0, every_append P l m h.1 k)

-- a property of each element holds for the element at a place
pub every_place : {A : Type 0} (P : A → Type 0) (l : List A) (n : ℕ) (x : A) → place l n ≡ Some x
    → AllByRecursion P l → P x
every_place P [] n x e h = absurd (cc)
every_place P (y ∷ l) zero x e h = absurd (cc)
every_place P (y ∷ l) (suc zero) x e h = let same : y ≡ x = cc in subst P same h.0
every_place P (y ∷ l) (suc (suc n)) x e h = every_place P l (suc n) x e h.1

-- of a part, all but the first is one too
part_rest : (x : ℕ) (d c : List ℕ) → Part (x ∷ d) c → Part d c
part_rest x d [] p = absurd p
part_rest x [] (y ∷ c) p = tt
part_rest x (z ∷ d) (y ∷ c) (inl p) = inr p.1
part_rest x (z ∷ d) (y ∷ c) (inr p) = inr (part_rest x (z ∷ d) c p)

-- the test accepts each sublist
pub part_test : (d c : List ℕ) → Part d c → is_part d c ≡ true
part_test [] c p = refl
part_test (x ∷ d) [] p = absurd p
part_test (x ∷ d) (y ∷ c) p =
    cond_both (x == y) (is_part d c) (is_part (x ∷ d) c) (λ b. b ≡ true)
    (λ same. part_test d c (⊎_elim (λ (k : (x ≡ y) × Part d c). k.1) (λ k. part_rest x d c k) p))
    (λ other. part_test (x ∷ d) c
    (⊎_elim (λ (k : (x ≡ y) × Part d c). absurd (false≢true (sym other ∙ eq-eqb x y k.0)))
    (λ k. k) p))

-- the test accepts sublists only
pub test_part : (d c : List ℕ) → is_part d c ≡ true → Part d c
test_part [] c e = tt
test_part (x ∷ d) [] e = absurd (false≢true e)
test_part (x ∷ d) (y ∷ c) e =
    cond_both (x == y) (is_part d c) (is_part (x ∷ d) c) (λ b. b ≡ true → Part (x ∷ d) (y ∷ c))
    (λ same k. inl (eqb-true x y same, test_part d c k))
    (λ other k. inr (test_part (x ∷ d) c k))
    e
