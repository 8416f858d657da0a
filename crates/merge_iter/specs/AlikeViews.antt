-- Sets with the same entries show the same.
use Rattle.std.proofs.Common.{◌≡◌, ◌≤◌, ℕ, IsSome, Result, Ok, Err}
use Rattle.merge_iter.specs.declared.direction.Direction.{Direction}
use Rattle.merge_iter.specs.declared.direction.Direction.TheVariants.{Backward}
use Rattle.merge_iter.specs.declared.error.CursorError.{CursorError}
use Rattle.merge_iter.specs.declared.mode.Mode.{Mode}
use Rattle.merge_iter.specs.declared.mode.Mode.TheVariants as mode
use Rattle.kv_types.specs.{Entry, IsSeen, IsShown}
use Rattle.merge_iter.specs.Order.{IsAlike}
use Rattle.merge_iter.specs.Positions.{Position, On, Off, Broken, WalkStart, After}
use Rattle.merge_iter.specs.Unions.{first_kept}
use Rattle.merge_iter.specs.ShownEntries.{IsBefore, IsSettled, IsFound, view_position}

-- an entry that is seen, and the newest of its key
pub shown_by : (at : ℕ) (S : Entry → Type 0) (p : Entry) → IsSeen at S p → IsSome p.value
    → ((q : Entry) → IsSeen at S q → q.key ≡ p.key → q.number ≤ p.number) → IsShown at S p
shown_by at S p seen put newest = record {
  newest = record { seen = seen; newest = newest };
  put =
      put;
}

module _ (at : ℕ) (S T : Entry → Type 0) (same : IsAlike T S) where
  -- sets of the same entries show the same
  pub shown_alike : (p : Entry) → IsShown at S p → IsShown at T p
  shown_alike p h = shown_by at T p ((same p).1 h.newest.seen.0, h.newest.seen.1) h.put
      (λ q seen k. h.newest.newest q ((same q).0 seen.0, seen.1) k)

  -- a position is before the same entries of sets that are alike
  pub before_alike : (way : Direction) (start : WalkStart) (s : Position) → IsBefore way at S start
      s → IsBefore way at T start s
  before_alike way start (On r) b = ((same r).1 b.0, b.1, λ p sh. b.2 p (shown_back p sh))
    where
      shown_back : (p : Entry) → IsShown at T p → IsShown at S p
      shown_back p h = shown_by at S p ((same p).0 h.newest.seen.0, h.newest.seen.1) h.put
          (λ q seen k. h.newest.newest q ((same q).1 seen.0, seen.1) k)
  before_alike way start Off b =
      λ p sh. b p (shown_by at S p ((same p).0 sh.newest.seen.0, sh.newest.seen.1) sh.put
      (λ q seen k. sh.newest.newest q ((same q).1 seen.0, seen.1) k))
  before_alike way start Broken b = b

  -- a view that is settled over one set is settled over one that is alike
  pub settled_alike : (m : Mode) (s : Position) (kept : Entry) → IsSettled at S m s kept → IsSettled
      at T m s kept
  settled_alike mode.Inner s kept h = (h.0, h.1, shown_alike h.0 h.2)
  settled_alike mode.Kept s kept h = (
    shown_alike kept h.0,
    before_alike Backward (After kept) s
        h.1,
  )
  settled_alike mode.Off s kept h = tt
  settled_alike mode.Broken s kept h = tt

module _ (at : ℕ) (S T : Entry → Type 0) (same : IsAlike T S) where
  other_way : IsAlike S T
  other_way entry = ((same entry).1, (same entry).0)

  -- sets of the same entries show the same, both ways
  pub all_shown_alike : IsAlike (IsShown at T) (IsShown at S)
  all_shown_alike p = (shown_alike at T S other_way p, shown_alike at S T same p)

  -- what was found is found in a set of the same entries
  pub found_alike : (way : Direction) (start : WalkStart) (result : Result Mode CursorError)
      (s : Position) (kept : Entry) → IsFound way at S start result s kept → IsFound way at T start
      result s kept
  found_alike way start (Ok m) s kept f = (
    first_kept way start (view_position m s kept) (IsShown at S) (IsShown at T) all_shown_alike
        f.0,
    settled_alike at S T same m s kept f.1,
  )
  found_alike way start (Err e) s kept f = tt
