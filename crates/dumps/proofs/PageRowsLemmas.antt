-- A page behind which rows are left has a row, since each row of lawful batches fits into a page.
use Rattle.std.proofs.Common.{◌≡◌, ◌≢◌, inl, inr, ℕ, zero, suc, List, [], ◌∷◌, ◌++◌, All}
use Rattle.std.proofs.Common.{Some, arith, length, refl, subst, sym, take, true}
use Rattle.std.specs.List.{AllByRecursion}
use Rattle.std.proofs.lemmas.List.{nil_from_length}
use Rattle.std.proofs.lemmas.List.Concat.{flat_map-cons}
use Rattle.std.proofs.lemmas.List.Elements.{recursion_from_All}
use Rattle.kv_types.specs.declared.bounds.TheConstants.{MAX_PAGE, MAX_ROWS}
use Rattle.kv_types.specs.declared.edit.Edit.{Edit}
use Rattle.kv_types.specs.declared.edit.Edit.TheVariants.{Put}
use Rattle.kv_types.specs.{Row}
use Rattle.kv_types.specs.Content.{edits_of}
use Rattle.kv_types.specs.Maps.{MapsAgree, joined}
use Rattle.kv_types.specs.OrderLemmas.{Among, among_of_All}
use Rattle.kv_types.specs.Pages.{IsFull, IsPage, IsRowOf, KeepsLimits, PagesAgree, page_of}
use Rattle.kv_types.specs.Spelling.{IsEdit}
use Rattle.kv_types.specs.{BatchContent, IsBatch, Rows, map_of}
use Rattle.dumps.specs.Walks.{all_from}
use Rattle.dumps.proofs.WalksLemmas.{among_cases, among_right}

-- the first of lawful batches are lawful
each_of_first : (n : ℕ) (list : List BatchContent) → AllByRecursion IsBatch list →
    AllByRecursion IsBatch (take n list)
each_of_first zero list each = tt
each_of_first (suc n) [] each = tt
each_of_first (suc n) (batch ∷ list) each = (each.0, each_of_first n list each.1)

-- each edit of lawful batches is lawful
edit_of_one : (list : List BatchContent) (edit : Edit) → AllByRecursion IsBatch list →
    Among edit (joined list) → IsEdit edit
edit_of_one [] edit each among = absurd among
edit_of_one (batch ∷ list) edit each among =
    elim (among_cases (edits_of batch) (joined list) edit
    (subst (Among edit) (flat_map-cons edits_of batch list) among)) [
      | inl a ↦ among_of_All IsEdit (edits_of batch) edit each.0.each a
      | inr b ↦ edit_of_one list edit each.1 b
    ]

-- each row of their map fits into a page
small_row : MapsAgree → (list : List BatchContent) → AllByRecursion IsBatch list → (row : Row) →
    map_of list row.key ≡ Some row.value → KeepsLimits MAX_ROWS MAX_PAGE (row ∷ [])
small_row agree list each row is =
    let put = (agree list row.key row.value).0 is in
    let edit = Put row.key row.value in
    let lawful = edit_of_one list edit each
    (subst (Among edit) (sym put.parts)
    (among_right put.before (edit ∷ put.after) edit (inl refl))) in
    (omega arith, omega (arith, lawful.0, lawful.1))

no_room : (rows left : List Row) → rows ≡ [] → IsFull MAX_ROWS MAX_PAGE rows left → left ≢ [] →
    ((row : Row) → Among row (rows ++ left) → KeepsLimits MAX_ROWS MAX_PAGE (row ∷ [])) → ⊥
no_room (row ∷ rows) left none full some small = absurd cc
no_room [] [] none full some small = some refl
no_room [] (next ∷ left) none full some small = full (small next (inl refl))

pub has_row : MapsAgree → PagesAgree → (list : List BatchContent) (at : ℕ) (from : List ℕ)
    (page : Rows) → All IsBatch list → page ≡ page_of (take at list) (all_from from) →
    page.more ≡ true → length page.rows ≡ 0 → ⊥
has_row agree pages list at from page each made more none =
    let lawful = each_of_first at list (recursion_from_All IsBatch list each) in
    let is = subst (IsPage (map_of (take at list)) (all_from from)) (sym made)
    (pages (take at list) (all_from from)) in
    no_room page.rows is.left (nil_from_length page.rows none) is.full (is.more.0 more)
    (λ row among. small_row agree (take at list) lawful row
    (among_of_All (IsRowOf (map_of (take at list)) (all_from from)) (page.rows ++ is.left) row
    is.walk.each among).0)
