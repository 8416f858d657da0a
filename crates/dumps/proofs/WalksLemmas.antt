-- The pages of a walk, one behind another, have all rows.
use Rattle.std.proofs.Common.{◌≡◌, ◌⊎◌, inl, inr, ℕ, List, [], ◌∷◌, ◌++◌, drop, false}
use Rattle.std.proofs.Common.{refl, sym, ap, subst, ◌∙◌, append_assoc, append-nil}
use Rattle.std.proofs.Common.{Bool, IsTrue, ◌↔◌, ◌≢◌, true≢false}
use Rattle.byte_fields.specs.Order.{IsBelow, IsStrictOrder}
use Rattle.kv_types.specs.{Row}
use Rattle.kv_types.specs.OrderLemmas.{Among, All-among, AllPairs-rises, Contains-among, Rises}
use Rattle.kv_types.specs.OrderLemmas.{among_from_Contains, among_of_All, rises_from_AllPairs}
use Rattle.kv_types.specs.OrderLemmas.{same_list}
use Rattle.kv_types.specs.Pages.{IsPage, IsRowOf, IsWalk, Map, PrecedesRow}
use Rattle.kv_types.specs.{Rows}
use Rattle.dumps.specs.Walks.{AreRowsOf, HasReadRows, StartsPage, all_from}
use Rattle.dumps.specs.Walks.StartsPage.{Behind, First}

-- ---- lists in two parts

pub among_right : {X : Type 0} (xs ys : List X) (x : X) → Among x ys → Among x (xs ++ ys)
among_right [] ys x h = h
among_right (z ∷ xs) ys x h = inr (among_right xs ys x h)

pub among_cases : {X : Type 0} (xs ys : List X) (x : X) → Among x (xs ++ ys) →
    Among x xs ⊎ Among x ys
among_cases [] ys x h = inr h
among_cases (z ∷ xs) ys x (inl e) = inl (inl e)
among_cases (z ∷ xs) ys x (inr h) = elim (among_cases xs ys x h) [
  | inl a ↦ inl (inr a)
  | inr b ↦ inr b
]

rises_right : {X : Type 0} (R : X → X → Type 0) (xs ys : List X) → Rises R (xs ++ ys) → Rises R ys
rises_right R [] ys h = h
rises_right R (x ∷ xs) ys h = rises_right R xs ys h.1

-- each of the front precedes each behind it
across : {X : Type 0} (R : X → X → Type 0) (xs ys : List X) (x y : X) → Rises R (xs ++ ys)
    → Among x xs → Among y ys → R x y
across R [] ys x y h a b = absurd a
across R (z ∷ xs) ys x y h (inl e) b = subst (λ w. R w y) e (h.0 y (among_right xs ys y b))
across R (z ∷ xs) ys x y h (inr a) b = across R xs ys x y h.1 a b

module _ (order : IsStrictOrder IsBelow) (map : Map) where
  below_not : (a b : List ℕ) → IsBelow a b → (b ≡ a) ⊎ IsBelow b a → ⊥
  below_not a b low (inl e) = order.never a (subst (IsBelow a) e low)
  below_not a b low (inr up) = order.never a (order.through a b a low up)

  -- two walks of one range are one
  one_walk : (from : List ℕ) (xs ys : List Row) → IsWalk map (all_from from) xs →
      IsWalk map (all_from from) ys → xs ≡ ys
  one_walk from xs ys a b =
      same_list (PrecedesRow false)
      (λ x y low up. below_not x.key y.key low (inr up)) xs ys
      (rises_from_AllPairs (PrecedesRow false) xs a.ordered)
      (rises_from_AllPairs (PrecedesRow false) ys b.ordered)
      (λ z h. among_from_Contains ys z
      (b.all z (among_of_All (IsRowOf map (all_from from)) xs z a.each h)))
      (λ z h. among_from_Contains xs z
      (a.all z (among_of_All (IsRowOf map (all_from from)) ys z b.each h)))

  -- the rows from one on are the walk from its key on
  walk_from : (before : List Row) (last : Row) (left : List Row) →
      AreRowsOf map (before ++ last ∷ left) → IsWalk map (all_from last.key) (last ∷ left)
  walk_from before last left walk =
      let rises = rises_from_AllPairs (PrecedesRow false) (before ++ last ∷ left) walk.ordered in
      let own = rises_right (PrecedesRow false) before (last ∷ left) rises in
      record {
        each = All-among (IsRowOf map (all_from last.key)) (last ∷ left) (λ row h.
            let of_map = (among_of_All (IsRowOf map (all_from [])) (before ++ last ∷ left) row
            walk.each
            (among_right before (last ∷ left) row h)).0 in
            elim h [
              | inl e ↦ (of_map, (inl (ap (λ (r : Row). r.key) e), tt))
              | inr a ↦ (of_map, (inr (own.0 row a), tt))
            ]);
        all = λ row is.
            let among = among_from_Contains (before ++ last ∷ left) row
            (walk.all row (is.0, (from_least row.key, tt))) in
            Contains-among (last ∷ left) row (elim (among_cases before (last ∷ left) row among) [
              | inl a ↦ absurd (below_not row.key last.key
                  (across (PrecedesRow false) before (last ∷ left) row last rises a (inl refl))
                  is.1.0)
              | inr b ↦ b
            ]);
        ordered = AllPairs-rises (PrecedesRow false) (last ∷ left) own;
      }
    where
      from_least : (key : List ℕ) → ([] ≡ key) ⊎ IsBelow [] key
      from_least [] = inl refl
      from_least (x ∷ key) = inr tt

-- ---- one page more

-- what a page adds to the rows that were read: all is these, and what is left behind them
pub record Adds (all rows : List Row) (known : ℕ) (page : Rows) : Type 0 where
  pub left : List Row
  pub split : all ≡ (rows ++ drop known page.rows) ++ left
  pub ends : page.more ≡ false → left ≡ []
  pub joined : (page.rows ≡ [] → ⊥) → (before : List Row)
      × (rows ++ drop known page.rows ≡ before ++ page.rows)

abbrev IsFilled : List Row → Type 0
IsFilled [] = ⊥
IsFilled (row ∷ rows) = Unit {0}

none_left : (more : Bool) (left : List Row) → IsTrue more ↔ (left ≢ []) → more ≡ false → left ≡ []
none_left more [] told over = refl
none_left more (row ∷ left) told over =
    absurd (true≢false (sym (told.1 (λ e. subst IsFilled e tt)) ∙ over))

-- the first page
add_first : (order : IsStrictOrder IsBelow) (map : Map) (all : List Row) (page : Rows) →
    AreRowsOf map all → IsPage map (all_from []) page → Adds all [] 0 page
add_first order map all page are is = record {
  left = is.left;
  split = one_walk order map [] all (page.rows ++ is.left) are is.walk;
  ends = none_left page.more is.left is.more;
  joined = λ _. ([], refl);
}

push : (xs : List Row) (x : Row) (ys : List Row) → (xs ++ x ∷ []) ++ ys ≡ xs ++ x ∷ ys
push [] x ys = refl
push (z ∷ xs) x ys = ap (λ l. z ∷ l) (push xs x ys)

abbrev head_of : Row → List Row → Row
head_of last [] = last
head_of last (row ∷ rows) = row

abbrev tail_of : List Row → List Row
tail_of [] = []
tail_of (row ∷ rows) = rows

-- the rows of a page that begins at the last row that was read
add_rows : (all before : List Row) (last : Row) (left rows behind : List Row) (more : Bool) →
    all ≡ before ++ last ∷ left → rows ++ behind ≡ last ∷ left →
    (more ≡ false → behind ≡ []) →
    Adds all (before ++ last ∷ []) 1 (record { rows = rows; more = more })
add_rows all before last left [] behind more split same ends = record {
  left = left;
  split = split ∙ sym (push before last left)
      ∙ ap (λ l. l ++ left) (sym (append-nil (before ++ last ∷ [])));
  ends = λ over. absurd (subst IsFilled (sym same ∙ ends over) tt);
  joined = λ filled. absurd (filled refl);
}
add_rows all before last left (row ∷ rows) behind more split same ends =
    let whole : before ++ last ∷ left ≡ before ++ last ∷ (rows ++ behind) =
    ap (λ l. before ++ last ∷ l) (sym (ap tail_of same)) in
    let parts : (before ++ last ∷ []) ++ (rows ++ behind)
    ≡ ((before ++ last ∷ []) ++ rows) ++ behind =
    sym (append_assoc (before ++ last ∷ []) rows behind) in
    let joins : (before ++ last ∷ []) ++ rows ≡ before ++ row ∷ rows =
    push before last rows ∙ ap (λ r. before ++ r ∷ rows) (sym (ap (head_of last) same)) in
    record {
      left = behind;
      split = split ∙ whole ∙ sym (push before last (rows ++ behind)) ∙ parts;
      ends = ends;
      joined = λ _. (before, joins);
    }

-- one page more
add_page : (order : IsStrictOrder IsBelow) (map : Map) (all : List Row) (from : List ℕ) (known : ℕ)
    (rows : List Row) (page : Rows) → AreRowsOf map all → HasReadRows all from known rows →
    IsPage map (all_from from) page → Adds all rows known page
add_page order map all from known rows page are walked is =
    cases from known rows walked.at walked.left walked.split is
  where
    cases : (from : List ℕ) (known : ℕ) (rows : List Row) → StartsPage from known rows →
        (left : List Row) → all ≡ rows ++ left → IsPage map (all_from from) page →
        Adds all rows known page
    cases _ _ _ First left split is = add_first order map all page are is
    cases _ _ _ (Behind before last) left split is =
        let whole = split ∙ push before last left in
        let same = one_walk order map last.key (page.rows ++ is.left) (last ∷ left) is.walk
        (walk_from order map before last left (subst (AreRowsOf map) whole are)) in
        add_rows all before last left page.rows is.left page.more whole same
        (none_left page.more is.left is.more)

-- the rows that were read, with those of a page more, are the first of all
pub split_with_page : (order : IsStrictOrder IsBelow) (map : Map) (all : List Row) (from : List ℕ)
    (known : ℕ) (rows : List Row) (page : Rows) → AreRowsOf map all →
    HasReadRows all from known rows → IsPage map (all_from from) page →
    (left : List Row) × (all ≡ (rows ++ drop known page.rows) ++ left)
split_with_page order map all from known rows page are walked is =
    let adds = add_page order map all from known rows page are walked is in (adds.left, adds.split)

-- where the next page begins
pub walk_on : (order : IsStrictOrder IsBelow) (map : Map) (all : List Row) (from : List ℕ)
    (known : ℕ) (rows : List Row) (page : Rows) (last : Row) (front : List Row) →
    AreRowsOf map all → HasReadRows all from known rows → IsPage map (all_from from) page →
    page.rows ≡ front ++ last ∷ [] → HasReadRows all last.key 1 (rows ++ drop known page.rows)
walk_on order map all from known rows page last front are walked is ends =
    let adds = add_page order map all from known rows page are walked is in
    let join = adds.joined (λ none. no_end front (sym ends ∙ none)) in
    let at : rows ++ drop known page.rows ≡ (join.0 ++ front) ++ last ∷ [] =
    join.1 ∙ ap (λ l. join.0 ++ l) ends ∙ sym (append_assoc join.0 front (last ∷ [])) in
    record {
      left = adds.left;
      split = adds.split;
      at = subst (StartsPage last.key 1) (sym at) (Behind (join.0 ++ front) last);
    }
  where
    no_end : (front : List Row) → front ++ last ∷ [] ≡ [] → ⊥
    no_end [] e = subst IsFilled e tt
    no_end (row ∷ front) e = subst IsFilled e tt

-- no page is left
pub walked_all : (order : IsStrictOrder IsBelow) (map : Map) (all : List Row) (from : List ℕ)
    (known : ℕ) (rows : List Row) (page : Rows) →
    AreRowsOf map all → HasReadRows all from known rows → IsPage map (all_from from) page →
    page.more ≡ false → rows ++ drop known page.rows ≡ all
walked_all order map all from known rows page are walked is over =
    let adds = add_page order map all from known rows page are walked is in
    sym (adds.split ∙ ap (λ l. (rows ++ drop known page.rows) ++ l) (adds.ends over)
    ∙ append-nil (rows ++ drop known page.rows))
