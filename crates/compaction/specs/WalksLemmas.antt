-- A walk over a set of entries, and the entries that it has met.
use Rattle.std.proofs.Common.{◌≡◌, List, [], ◌∷◌, ◌++◌, Contains, Option, IfSome, inl, inr}
use Rattle.std.proofs.Common.{Result, Ok, Err, sym, subst, arith}
use Rattle.std.proofs.lemmas.List.Elements.{All-contains, All-push, Contains-append_left}
use Rattle.std.proofs.lemmas.List.Elements.{Contains-push}
use Rattle.kv_types.specs.{Entry}
use Rattle.merge_iter.specs.declared.CursorError.{CursorError}
use Rattle.merge_iter.specs.declared.Direction.TheVariants.{Forward}
use Rattle.merge_iter.specs.EntryOrder.{cases}
use Rattle.merge_iter.specs.{After, AtEnd, Broken, EntryPrecedes, IfOn, IsAlike, IsApart, IsFirst}
use Rattle.merge_iter.specs.{IsOn, MoveFinds, Off, On, Position, WalkMeets, WalkStart}
use Rattle.table_format.specs.RisingLemmas.{last_push}
use Rattle.table_format.specs.{CanFollow}
use Rattle.compaction.specs.Walks.{AreMetBefore, HasWalked}

-- the first of a set is that of another with the same entries
first_like : (own has : Entry → Type 0) → IsAlike own has → (start : WalkStart) (at : Position)
    → IsFirst Forward (λ e. own e × WalkMeets Forward start e) at
    → IsFirst Forward (λ e. has e × WalkMeets Forward start e) at
first_like own has alike start (On here) first = (
  ((alike here).0 first.0.0, first.0.1),
  λ other there. first.1 other ((alike other).1 there.0, there.1),
)
first_like own has alike start Off none = λ other there.
    none other ((alike other).1 there.0, there.1)
first_like own has alike start Broken never = never

-- sets with the same entries as a third one
pub alike_through : (P Q R : Entry → Type 0) → IsAlike P Q → IsAlike Q R → IsAlike P R
alike_through P Q R first next = λ entry. (
  (λ p. (next entry).0 ((first entry).0 p)),
  (λ r. (first entry).1 ((next entry).1 r)),
)

module _ (has : Entry → Type 0) (apart : IsApart has) (entries : List Entry) where
  -- an entry of the set that is not behind this one was added
  added : (here other : Entry) → AreMetBefore has entries (On here) → has other
      → (EntryPrecedes Forward here other → ⊥) → Contains (entries ++ here ∷ []) other
  added here other before there not_behind = elim (cases Forward other here) [
    | inl less ↦ Contains-append_left entries (here ∷ []) other (before.2 other there less)
    | inr rest ↦ elim rest [
      | inl equal ↦ subst (λ (e : Entry). Contains (entries ++ here ∷ []) e)
          (sym (apart other here there before.0 equal)) (Contains-push entries here)
      | inr more ↦ absurd (not_behind more)
    ]
  ]

  follows : (here next : Entry) → EntryPrecedes Forward here next
      → CanFollow (entries ++ here ∷ []) next
  follows here next less = subst
      (λ (o : Option Entry). IfSome o (λ last. EntryPrecedes Forward last next))
      (sym (last_push entries here)) less

  goes : (here : Entry) (new : Position) → AreMetBefore has entries (On here)
      → IsFirst Forward (λ e. has e × WalkMeets Forward (After here) e) new
      → AreMetBefore has (entries ++ here ∷ []) new
  goes here (On next) before first = (
    first.0.0,
    follows here next first.0.1,
    λ other there less. added here other before there
        (λ behind. first.1 other (there, behind) less),
  )
  goes here Off before none = λ other there.
      added here other before there (λ behind. none other (there, behind))
  goes here Broken before never = never

  -- one entry more was met, and the cursor, which has the same entries, was moved
  pub walk_advances : (own : Entry → Type 0) → IsAlike own has → {R : Type 0} (x : R)
      (result : Result R CursorError) (at new : Position) (entry : Entry) → IsOn at
      → IfOn at (λ here. entry ≡ here) → HasWalked has entries at → result ≡ Ok x
      → IfOn at (λ here. MoveFinds Forward (After here) own result new)
      → HasWalked has (entries ++ entry ∷ []) new
  walk_advances own alike x (Ok y) (On here) new entry on is walked ok finds =
      subst (λ (e : Entry). HasWalked has (entries ++ e ∷ []) new) (sym is) (record {
        each = All-push has entries here walked.each walked.before.0;
        before = goes here new walked.before (first_like own has alike (After here) new finds);
      })
  walk_advances own alike x (Err e) (On here) new entry on is walked ok finds = absurd cc
  walk_advances own alike x result Off new entry on is walked ok finds = absurd on
  walk_advances own alike x result Broken new entry on is walked ok finds = absurd on

-- a walk begins, and the cursor, which has the same entries, was moved to the first
pub walk_begins : (own has : Entry → Type 0) → IsAlike own has → {R : Type 0} (x : R)
    (result : Result R CursorError) (at : Position) → result ≡ Ok x
    → MoveFinds Forward AtEnd own result at → HasWalked has [] at
walk_begins own has alike x (Err e) at ok finds = absurd cc
walk_begins own has alike x (Ok y) at ok finds =
    record { each = λ k d lt. absurd (omega (arith, lt)); before = by_place at finds }
  where
    by_place : (at : Position) → IsFirst Forward (λ e. own e × WalkMeets Forward AtEnd e) at
        → AreMetBefore has [] at
    by_place (On here) first = (
      (alike here).0 first.0.0,
      tt,
      λ other there less. absurd (first.1 other ((alike other).1 there, tt) less),
    )
    by_place Off none = λ other there. absurd (none other ((alike other).1 there, tt))
    by_place Broken never = never

module _ (has : Entry → Type 0) (entries : List Entry) where
  -- the entry at hand is one of the set, and comes behind those that were met
  pub walk_here : (at : Position) (entry : Entry) → IsOn at → IfOn at (λ here. entry ≡ here)
      → HasWalked has entries at
      → has entry × CanFollow entries entry × HasWalked has entries (On entry)
  walk_here (On here) entry on is walked = subst
      (λ (e : Entry). has e × CanFollow entries e × HasWalked has entries (On e))
      (sym is) (walked.before.0, walked.before.1, walked)
  walk_here Off entry on is walked = absurd on
  walk_here Broken entry on is walked = absurd on

  -- the walk is at its end: the entries that were met are those of the set
  pub walk_ends : (at : Position) → (IsOn at → ⊥) → HasWalked has entries at
      → IsAlike (Contains entries) has
  walk_ends (On here) off walked = absurd (off tt)
  walk_ends Off off walked = λ entry. (
    (λ there. All-contains has entries entry walked.each there),
    (λ there. walked.before entry there),
  )
  walk_ends Broken off walked = absurd walked.before
