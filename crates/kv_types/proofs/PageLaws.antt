-- A page is the longest beginning of the walk, and the only one.
use Rattle.std.proofs.Common.{◌≡◌, ◌≢◌, ◌≤◌, ◌<◌, ◌+◌, ◌-◌, ℕ, zero, suc, Bool, true, false, cond}
use Rattle.std.proofs.Common.{nat_le, nat_lt, IsTrue, ◌↔◌, List, [], ◌∷◌, ◌++◌, length, refl, sym}
use Rattle.std.proofs.Common.{ap, subst, ◌∙◌, arith, length-append, ltb-true, lt-ltb}
use Rattle.std.proofs.lemmas.Bool.{leb-true, leb-false}
use Rattle.std.proofs.lemmas.List.{append_cancel_left}
use Rattle.std.proofs.lemmas.List.Sums.{sum_by-cons}
use Rattle.byte_fields.specs.ByteOrderLemmas.{below_is_strict}
use Rattle.kv_types.specs.declared.bounds.TheConstants.{MAX_PAGE}
use Rattle.kv_types.specs.Spans.{Row}
use Rattle.kv_types.specs.Maps.{map_of}
use Rattle.kv_types.specs.Spans.{Span}
use Rattle.kv_types.specs.Pages.{Map, IsRowOf, PrecedesRow, IsWalk, row_size, KeepsLimits, IsFull}
use Rattle.kv_types.specs.Pages.{walk_of, fitting_rows, PagesAgree, OnePage}
use Rattle.kv_types.specs.OrderLemmas.{among_from_Contains, among_of_All, rises_from_AllPairs}
use Rattle.kv_types.specs.OrderLemmas.{same_list}
use Rattle.kv_types.proofs.Walks.{walks}

-- ---- one row more in front

keeps_cons : (limit size : ℕ) (row : Row) (rows : List Row) → KeepsLimits limit size rows
    → KeepsLimits (suc limit) (row_size row + size) (row ∷ rows)
keeps_cons limit size row rows keeps =
    let few = keeps.0 in
    let small = keeps.1 in
    (omega (arith, few), omega (arith, small, sum_by-cons row_size row rows))

keeps_tail : (limit size : ℕ) (row : Row) (rows : List Row)
    → KeepsLimits (suc limit) (row_size row + size) (row ∷ rows) → KeepsLimits limit size rows
keeps_tail limit size row rows keeps =
    let few = keeps.0 in
    let small = keeps.1 in
    (omega (arith, few), omega (arith, small, sum_by-cons row_size row rows))

full_cons : (limit size : ℕ) (row : Row) (rows left : List Row) → IsFull limit size rows left
    → IsFull (suc limit) (row_size row + size) (row ∷ rows) left
full_cons limit size row rows [] full = tt
full_cons limit size row rows (next ∷ left) full =
    λ keeps. full (keeps_tail limit size row (rows ++ next ∷ []) keeps)

full_tail : (limit size : ℕ) (row : Row) (rows left : List Row)
    → IsFull (suc limit) (row_size row + size) (row ∷ rows) left → IsFull limit size rows left
full_tail limit size row rows [] full = tt
full_tail limit size row rows (next ∷ left) full =
    λ keeps. full (keeps_cons limit size row (rows ++ next ∷ []) keeps)

-- ---- the longest beginning

pub record IsCut (limit size : ℕ) (rows page left : List Row) : Type 0 where
  pub parts : rows ≡ page ++ left
  pub fits : KeepsLimits limit size page
  pub full : IsFull limit size page left

none_fits : (size : ℕ) (rows : List Row) → IsFull 0 size [] rows
none_fits size [] = tt
none_fits size (row ∷ rows) = λ keeps. let few = keeps.0 in omega (arith, few)

cut : (limit size : ℕ) (rows : List Row)
    → (left : List Row) × IsCut limit size rows (fitting_rows limit size rows) left
cut zero size rows =
    (rows, record { parts = refl; fits = (omega arith, omega arith); full = none_fits size rows })
cut (suc limit) size [] =
    ([], record { parts = refl; fits = (omega arith, omega arith); full = tt })
cut (suc limit) size (row ∷ rows) =
    by_test (nat_le (row_size row) size) refl (cut limit (size - row_size row) rows)
  where
    by_test : (b : Bool) → nat_le (row_size row) size ≡ b
        → (left : List Row)
        × IsCut limit (size - row_size row) rows (fitting_rows limit (size - row_size row) rows)
        left
        → (left : List Row)
        × IsCut (suc limit) size (row ∷ rows)
        (cond b (row ∷ fitting_rows limit (size - row_size row) rows) []) left
    by_test true e rest =
        let le : row_size row ≤ size = leb-true (row_size row) size e in
        let whole : row_size row + (size - row_size row) ≡ size = omega (arith, le) in
        let page = fitting_rows limit (size - row_size row) rows in
        let c = rest.1 in (
          rest.0,
          record {
            parts = ap (λ l. row ∷ l) c.parts;
            fits = subst (λ s. KeepsLimits (suc limit) s (row ∷ page)) whole
                (keeps_cons limit (size - row_size row) row page c.fits);
            full = subst (λ s. IsFull (suc limit) s (row ∷ page) rest.0) whole
                (full_cons limit (size - row_size row) row page rest.0 c.full);
          },
        )
    by_test false e rest =
        let gt : size < row_size row = leb-false (row_size row) size e in (
          row ∷ rows,
          record {
            parts = refl;
            fits = (omega arith, omega arith);
            full = λ keeps. let small = keeps.1 in
                omega (arith, small, gt, sum_by-cons row_size row []);
          },
        )

-- ---- there is one longest beginning

first_fits : (limit size : ℕ) (row : Row) (rows : List Row) → KeepsLimits limit size (row ∷ rows)
    → KeepsLimits limit size (row ∷ [])
first_fits limit size row rows keeps =
    let few = keeps.0 in
    let small = keeps.1 in (
      omega (arith, few),
      omega (arith, small, sum_by-cons row_size row rows, sum_by-cons row_size row []),
    )

-- an empty page means that the first row does not fit
stops : (limit size : ℕ) (left : List Row) (row : Row) (rows k : List Row) → left ≡ row ∷ rows ++ k
    → IsFull limit size [] left → KeepsLimits limit size (row ∷ rows) → ⊥
stops limit size left row rows k is full keeps =
    let at : IsFull limit size [] (row ∷ (rows ++ k)) = subst (IsFull limit size []) is full in
    at (first_fits limit size row rows keeps)

one_cut : (limit size : ℕ) (p l q k : List Row) → p ++ l ≡ q ++ k → KeepsLimits limit size p
    → IsFull limit size p l → KeepsLimits limit size q → IsFull limit size q k → p ≡ q
one_cut limit size [] l [] k is fits full fits' full' = refl
one_cut limit size [] l (y ∷ q) k is fits full fits' full' =
    absurd (stops limit size l y q k is full fits')
one_cut limit size (x ∷ p) l [] k is fits full fits' full' =
    absurd (stops limit size k x p l (sym is) full' fits)
one_cut zero size (x ∷ p) l (y ∷ q) k is fits full fits' full' = let few = fits.0 in
    absurd (omega (arith, few))
one_cut (suc limit) size (x ∷ p) l (y ∷ q) k is fits full fits' full' =
    let heads : x ≡ y = cc in
    let rest : p ++ l ≡ q ++ k = cc in
    let small = fits.1 in
    let room : size ≡ row_size x + (size - row_size x) =
    omega (arith, small, sum_by-cons row_size x p) in
    let room' : size ≡ row_size y + (size - row_size x) =
    room ∙ ap (λ r. row_size r + (size - row_size x)) heads in
    let tails = one_cut limit (size - row_size x) p l q k rest
    (keeps_tail limit (size - row_size x) x p
    (subst (λ s. KeepsLimits (suc limit) s (x ∷ p)) room fits))
    (full_tail limit (size - row_size x) x p l
    (subst (λ s. IsFull (suc limit) s (x ∷ p) l) room full))
    (keeps_tail limit (size - row_size x) y q
    (subst (λ s. KeepsLimits (suc limit) s (y ∷ q)) room' fits'))
    (full_tail limit (size - row_size x) y q k
    (subst (λ s. IsFull (suc limit) s (y ∷ q) k) room' full')) in
    cc (heads, tails)

-- ---- a map has one walk in a range

one_way : (backward : Bool) (x y : Row) → PrecedesRow backward x y → PrecedesRow backward y x → ⊥
one_way false x y h g = below_is_strict.never x.key (below_is_strict.through x.key y.key x.key h g)
one_way true x y h g = below_is_strict.never x.key (below_is_strict.through x.key y.key x.key g h)

one_walk : (map : Map) (range : Span) (xs ys : List Row) → IsWalk map range xs → IsWalk map range ys
    → xs ≡ ys
one_walk map range xs ys v w =
    let Before = PrecedesRow range.backward in
    let IsRow = IsRowOf map range in
    same_list Before (one_way range.backward) xs ys (rises_from_AllPairs Before xs v.ordered)
    (rises_from_AllPairs Before ys w.ordered)
    (λ z a. among_from_Contains ys z (w.all z (among_of_All IsRow xs z v.each a)))
    (λ z a. among_from_Contains xs z (v.all z (among_of_All IsRow ys z w.each a)))

-- ---- the laws

same_truth : (a b : Bool) → (IsTrue a → IsTrue b) → (IsTrue b → IsTrue a) → a ≡ b
same_truth true b f g = sym (f refl)
same_truth false true f g = g refl
same_truth false false f g = refl

pub one_page : OnePage
one_page map range p q v w =
    let whole = one_walk map range (p.rows ++ v.left) (q.rows ++ w.left) v.walk w.walk in
    let rows : p.rows ≡ q.rows =
    one_cut range.limit MAX_PAGE p.rows v.left q.rows w.left whole v.fits v.full w.fits w.full
    in
    let rest : v.left ≡ w.left =
    append_cancel_left p.rows v.left w.left
    (whole ∙ ap (λ (l : List Row). l ++ w.left) (sym rows)) in
    let more : p.more ≡ q.more = same_truth p.more q.more
    (λ t. w.more.1 (λ e. v.more.0 t (rest ∙ e)))
    (λ t. v.more.1 (λ e. w.more.0 t (sym rest ∙ e))) in
    λ i. record { rows = rows i; more = more i }

left_over : (rows page left : List Row) → rows ≡ page ++ left
    → IsTrue (nat_lt (length page) (length rows)) ↔ (left ≢ [])
left_over rows page [] is =
    let len : length rows ≡ length page + 0 = ap length is ∙ length-append page [] in (
      λ t. let lt = ltb-true (length page) (length rows) t in
          absurd (omega (arith, lt, len)),
      λ h. absurd (h refl),
    )
left_over rows page (row ∷ left) is =
    let len : length rows ≡ length page + suc (length left) =
    ap length is ∙ length-append page (row ∷ left) in
    (λ t e. absurd cc, λ h. lt-ltb (length page) (length rows) (omega (arith, len)))

pub pages_agree : PagesAgree
pages_agree batches range =
    let walk = walk_of batches range in
    let c = cut range.limit MAX_PAGE walk in
    let parts = c.1.parts in
    record {
      left = c.0;
      walk = subst (IsWalk (map_of batches) range) parts (walks batches range);
      fits = c.1.fits;
      full = c.1.full;
      more = left_over walk (fitting_rows range.limit MAX_PAGE walk) c.0 parts;
    }
