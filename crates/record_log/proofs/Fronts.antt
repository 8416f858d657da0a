-- Records at the front of bytes.
use Rattle.std.proofs.Common.{◌≡◌, ℕ, ◌+◌, ◌-◌, ◌^◌, ◌<◌, List, [], ◌∷◌, ◌++◌, length, refl, sym}
use Rattle.std.proofs.Common.{ap, subst, ◌∙◌, append_assoc, length-append, arith}
use Rattle.std.specs.Int.{w32, to_be_bytes, from_be_bytes}
use Rattle.std.proofs.lemmas.Nat.{from_be_bytes-to_be_bytes_4}
use Rattle.record_log.specs.Grammar.{IsClosed, entry, Represents, ends_from, end_of}

-- the bytes begin with these records, and this follows
abbrev pub Front : List ℕ → List (List ℕ) → List ℕ → Type 0
Front bytes [] rest = bytes ≡ rest
Front bytes (first ∷ others) rest =
    (mid : List ℕ) × (length first < 2 ^ 32) × (bytes ≡ entry first ++ mid) × Front mid others rest

-- with a closed gate behind them they are all
pub front_closed : (bytes : List ℕ) (records : List (List ℕ)) (rest : List ℕ)
    → Front bytes records rest → IsClosed rest → Represents bytes records
front_closed bytes [] rest f s = subst IsClosed (sym f) s
front_closed bytes (first ∷ others) rest f s = (f.0, f.1, f.2, front_closed f.0 others rest f.3 s)

-- one more
pub front_push : (bytes : List ℕ) (records : List (List ℕ)) (rest one after : List ℕ)
    → Front bytes records rest → length one < 2 ^ 32 → rest ≡ entry one ++ after
    → Front bytes (records ++ one ∷ []) after
front_push bytes [] rest one after f short e = (after, short, f ∙ e, refl)
front_push bytes (first ∷ others) rest one after f short e =
    (f.0, f.1, f.2, front_push f.0 others rest one after f.3 short e)

-- ---- the places behind them

-- the place behind them is where the rest begins
pub end_is : (at : ℕ) (bytes : List ℕ) (records : List (List ℕ)) (rest : List ℕ)
    → Front bytes records rest → at + length bytes ≡ end_of at records + length rest
end_is at bytes [] rest f = ap (λ (b : List ℕ). at + length b) f
end_is at bytes (first ∷ others) rest f =
    let below = end_is (at + 5 + length first) f.0 others rest f.3 in
    let size : length bytes ≡ length (entry first) + length f.0 =
    ap length f.2 ∙ length-append (entry first) f.0 in
    omega (arith, below, size)

-- one more ends five bytes and its own further on
pub end_push : (at : ℕ) (records : List (List ℕ)) (one : List ℕ)
    → end_of at (records ++ one ∷ []) ≡ end_of at records + 5 + length one
end_push at [] one = refl
end_push at (first ∷ others) one = end_push (at + 5 + length first) others one

-- its end is one place more in the list of ends
pub ends_push : (at : ℕ) (records : List (List ℕ)) (one : List ℕ)
    → ends_from at (records ++ one ∷ [])
    ≡ ends_from at records ++ (end_of at records + 5 + length one) ∷ []
ends_push at [] one = refl
ends_push at (first ∷ others) one =
    ap (λ (l : List ℕ). (at + 5 + length first) ∷ l) (ends_push (at + 5 + length first) others one)

-- Bytes whose first records were passed, with the places behind each and behind the last.
pub record Passed (bytes rest ends : List ℕ) (end : ℕ) : Type 0 where
  pub records : List (List ℕ)
  pub front : Front bytes records rest
  pub ends_are : ends ≡ ends_from 0 records
  pub end_is : end ≡ end_of 0 records

-- none were passed
pub passed_none : (bytes : List ℕ) → Passed bytes bytes [] 0
passed_none bytes = record { records = []; front = refl; ends_are = refl; end_is = refl }

-- one more was passed
pub passed_push : (bytes rest ends : List ℕ) (end : ℕ) → Passed bytes rest ends end
    → (one after : List ℕ) (place : ℕ) → length one < 2 ^ 32 → rest ≡ entry one ++ after
    → place ≡ length bytes - length after → Passed bytes after (ends ++ place ∷ []) place
passed_push bytes rest ends end p one after place short is place_is =
    let all = end_is 0 bytes p.records rest p.front in
    let size : length rest ≡ length (entry one) + length after =
    ap length is ∙ length-append (entry one) after in
    let behind : place ≡ end_of 0 p.records + 5 + length one =
    omega (arith, all, size, place_is) in
    record {
      records = p.records ++ one ∷ [];
      front = front_push bytes p.records rest one after p.front short is;
      ends_are = ap (λ (l : List ℕ). l ++ place ∷ []) p.ends_are
          ∙ ap (λ (k : ℕ). ends_from 0 p.records ++ k ∷ []) behind
          ∙ sym (ends_push 0 p.records one);
      end_is = behind ∙ sym (end_push 0 p.records one);
    }

-- ---- bytes represent at most one list

-- two texts with the same bytes and the same length in front are the same
pub split_same : (a b x y : List ℕ) → length a ≡ length b → a ++ x ≡ b ++ y → (a ≡ b) × (x ≡ y)
split_same [] [] x y len e = (refl, e)
split_same [] (c ∷ b) x y len e = absurd (omega arith)
split_same (c ∷ a) [] x y len e = absurd (omega arith)
split_same (c ∷ a) (d ∷ b) x y len e =
    let heads : c ≡ d = cc in
    let tails : a ++ x ≡ b ++ y = cc in
    let below = split_same a b x y (omega arith) tails in
    let first = below.0 in
    (cc, below.1)

-- no record begins another
pub one_entry : (a b x y : List ℕ) → length a < 2 ^ 32 → length b < 2 ^ 32
    → entry a ++ x ≡ entry b ++ y → (a ≡ b) × (x ≡ y)
one_entry a b x y short_a short_b e =
    let len_a = to_be_bytes w32 (length a) in
    let len_b = to_be_bytes w32 (length b) in
    let tails : (len_a ++ a) ++ x ≡ (len_b ++ b) ++ y = cc in
    let regrouped : len_a ++ (a ++ x) ≡ len_b ++ (b ++ y) =
    sym (append_assoc len_a a x) ∙ tails ∙ append_assoc len_b b y in
    let first = split_same len_a len_b (a ++ x) (b ++ y) refl regrouped in
    let same : length a ≡ length b =
    sym (from_be_bytes-to_be_bytes_4 (length a) short_a) ∙ ap (from_be_bytes w32) first.0
    ∙ from_be_bytes-to_be_bytes_4 (length b) short_b in
    split_same a b x y same first.1

-- bytes that represent records represent those at the front, and then others
pub stands_behind : (bytes : List ℕ) (records : List (List ℕ)) (rest : List ℕ) (all : List (List ℕ))
    → Front bytes records rest → Represents bytes all → (more : List (List ℕ))
    × (all ≡ records ++ more) × Represents rest more
stands_behind bytes [] rest all f s =
    (all, refl, subst (λ (b : List ℕ). Represents b all) f s)
stands_behind bytes (first ∷ others) rest [] f s =
    let two : entry first ++ f.0 ≡ s.0 ∷ s.1 = sym f.2 ∙ s.3 in
    let open_gate : s.0 ≡ 1 = cc in
    absurd (s.2 open_gate)
stands_behind bytes (first ∷ others) rest (one ∷ all) f s =
    let same = one_entry first one f.0 s.0 f.1 s.1 (sym f.2 ∙ s.2) in
    let moved : Represents f.0 all = subst (λ (b : List ℕ). Represents b all)
    (sym same.1) s.3 in
    let below = stands_behind f.0 others rest all f.3 moved in
    let heads = same.0 in
    let tails = below.1 in
    (below.0, cc, below.2)

-- two lists that the bytes represent are equal
pub one_reading : (bytes : List ℕ) (a b : List (List ℕ)) → Represents bytes a →
    Represents bytes b
    → a ≡ b
one_reading bytes [] [] s t = refl
one_reading bytes [] (y ∷ b) s t =
    let two : s.0 ∷ s.1 ≡ entry y ++ t.0 = sym s.3 ∙ t.2 in
    let open_gate : s.0 ≡ 1 = cc in
    absurd (s.2 open_gate)
one_reading bytes (x ∷ a) [] s t =
    let two : t.0 ∷ t.1 ≡ entry x ++ s.0 = sym t.3 ∙ s.2 in
    let open_gate : t.0 ≡ 1 = cc in
    absurd (t.2 open_gate)
one_reading bytes (x ∷ a) (y ∷ b) s t =
    let same = one_entry x y s.0 t.0 s.1 t.1 (sym s.2 ∙ t.2) in
    let moved : Represents s.0 b = subst (λ (c : List ℕ). Represents c b) (sym same.1)
    t.3 in
    let below = one_reading s.0 a b s.3 moved in
    let heads = same.0 in
    cc
