-- Of the entries of a set, those that are shown at a number.
use Rattle.std.specs.Prelude.{◌≡◌, ◌⊎◌, ℕ, ◌+◌, ◌<◌, ◌≤◌, None, IsSome, Result, IfOk, Bool}
use Rattle.std.specs.Prelude.{true, false, IsTrue}
use Rattle.std.specs.declared.cmp.Ordering.TheVariants.{Equal}
use Rattle.merge_iter.specs.declared.direction.Direction.{Direction}
use Rattle.merge_iter.specs.declared.direction.Direction.TheVariants.{Forward, Backward}
use Rattle.merge_iter.specs.declared.error.CursorError.{CursorError}
use Rattle.merge_iter.specs.declared.mode.Mode.{Mode}
use Rattle.merge_iter.specs.declared.mode.Mode.TheVariants as mode
use Rattle.byte_fields.specs.{StoredKey}
use Rattle.kv_types.specs.{Entry, IsSeen, IsShown}
use Rattle.merge_iter.specs.Order.{entry_cmp, EntryPrecedes}
use Rattle.merge_iter.specs.Positions.{Position, On, Off, Broken, WalkStart, After, WalkMeets}
use Rattle.merge_iter.specs.Positions.{IsFirst}

-- ---- on the way of a walk

-- on an entry of the set from the start on, or at the end, and no entry that is shown was passed
abbrev pub IsBefore : Direction → ℕ → (Entry → Type 0) → WalkStart → Position → Type 0
IsBefore way at entries start (On entry) =
    entries entry × WalkMeets way start entry
    × ((p : Entry) → IsShown at entries p → WalkMeets way start p → EntryPrecedes way p entry → ⊥)
IsBefore way at entries start Off = (p : Entry) → IsShown at entries p → WalkMeets way start p → ⊥
IsBefore way at entries start Broken = ⊥

-- a key of which no entry is shown any more, if there is one
abbrev pub IsHidden : Bool → StoredKey → StoredKey → Type 0
IsHidden hides hidden key = IsTrue hides × (hidden ≡ key)

-- a walk forward meets the newest entry of a key first: where it was passed, the key is hidden
pub record IsAhead (at : ℕ) (entries : Entry → Type 0) (start : WalkStart)
    (hidden : StoredKey → Type 0) (s : Position) : Type 0 where
  pub before : IsBefore Forward at entries start s
  pub passed : (entry q : Entry) → s ≡ On entry → IsSeen at entries q →
      EntryPrecedes Forward q entry → q.key ≡ entry.key → hidden entry.key
  pub none : (key : StoredKey) (p : Entry) → hidden key → IsShown at entries p →
      WalkMeets Forward start p → p.key ≡ key → ⊥

-- the entry is met by a walk back before the cursor's, or the cursor is at the end
abbrev pub IsPassed : Entry → Position → Type 0
IsPassed q (On entry) = EntryPrecedes Backward q entry
IsPassed q Off = Unit {0}
IsPassed q Broken = ⊥

-- a walk back meets the newest entry of a key last: this one is the newest of its key that was
-- passed, and no other entry that was passed is shown
pub record IsCandidate (at : ℕ) (entries : Entry → Type 0) (start : WalkStart) (it : Entry)
    (s : Position) : Type 0 where
  pub seen : IsSeen at entries it
  pub put : IsSome it.value
  pub from : WalkMeets Backward start it
  pub passed : IsPassed it s
  pub among : (entry : Entry) → s ≡ On entry → entries entry
  pub newest : (q : Entry) → IsSeen at entries q → q.key ≡ it.key → IsPassed q s →
      q.number ≤ it.number
  pub alone : (p : Entry) → IsShown at entries p → WalkMeets Backward start p → IsPassed p s →
      entry_cmp p it ≡ Equal

-- ---- where the cursor of the shown entries stands

-- on the entry that the inner cursor stands on, or on one that was kept
abbrev pub view_position : Mode → Position → Entry → Position
view_position mode.Off inner kept = Off
view_position mode.Broken inner kept = Broken
view_position mode.Inner inner kept = inner
view_position mode.Kept inner kept = On kept

-- this is true where the entry is one that was kept
abbrev pub IfKept : Mode → Type 0 → Type 0
IfKept m P = m ≡ mode.Kept → P

-- the entry is shown; behind a kept one the inner cursor has gone on back
abbrev pub IsSettled : ℕ → (Entry → Type 0) → Mode → Position → Entry → Type 0
IsSettled at entries mode.Off inner kept = Unit {0}
IsSettled at entries mode.Broken inner kept = Unit {0}
IsSettled at entries mode.Inner inner kept =
    (entry : Entry) × (inner ≡ On entry) × IsShown at entries entry
IsSettled at entries mode.Kept inner kept =
    IsShown at entries kept × IsBefore Backward at entries (After kept) inner

-- a search ends on the first entry from the start on that is shown
abbrev pub IsFound : Direction → ℕ → (Entry → Type 0) → WalkStart → Result Mode CursorError →
    Position → Entry → Type 0
IsFound way at entries start result inner kept = IfOk result (λ mode.
    IsFirst way (λ entry. IsShown at entries entry × WalkMeets way start entry)
    (view_position mode inner kept)
    × IsSettled at entries mode inner kept)

-- the steps left in a direction, of those that the inner cursor has
abbrev pub left_in : (Direction → ℕ) → ℕ → Mode → Direction → ℕ
left_in left most mode.Off way = 0
left_in left most mode.Broken way = 0
left_in left most mode.Inner Forward = left Forward
left_in left most mode.Inner Backward = most + 2
left_in left most mode.Kept Forward = most + 1
left_in left most mode.Kept Backward = left Backward + 1

-- a search forward ends on the inner cursor's entry or on none
abbrev pub IsForward : Mode → Type 0
IsForward mode.Inner = Unit {0}
IsForward mode.Kept = ⊥
IsForward mode.Off = Unit {0}
IsForward mode.Broken = ⊥

-- ---- the outcome of a look at one entry

-- Forward, the entry is shown; or it is too new, or of a key that is hidden; or it is a deletion,
-- whose key is hidden from here on.
abbrev pub IsJudged : ℕ → Bool → StoredKey → Entry → Bool → StoredKey → Bool → Type 0
IsJudged at hides hidden entry hides' hidden' true =
    (entry.number ≤ at) × (IsHidden hides hidden entry.key → ⊥) × IsSome entry.value
IsJudged at hides hidden entry hides' hidden' false =
    (((at < entry.number) ⊎ IsHidden hides hidden entry.key) × (hides' ≡ hides)
    × (hidden' ≡ hidden))
    ⊎ ((entry.number ≤ at) × (IsHidden hides hidden entry.key → ⊥) × (entry.value ≡ None)
    × IsTrue hides' × (hidden' ≡ entry.key))

-- Back, the entry ends the key of the one that is kept; or it is too new; or it takes the place of
-- what was kept of its key, as a value or as a deletion.
abbrev pub IsJudgedBack : ℕ → Bool → Entry → Entry → Bool → Entry → Bool → Type 0
IsJudgedBack at found kept entry found' kept' true =
    (entry.number ≤ at) × IsTrue found × (kept.key ≡ entry.key → ⊥) × (found' ≡ found)
    × (kept' ≡ kept)
IsJudgedBack at found kept entry found' kept' false =
    ((at < entry.number) × (found' ≡ found) × (kept' ≡ kept))
    ⊎ ((entry.number ≤ at) × (IsTrue found → kept.key ≡ entry.key)
    × (((entry.value ≡ None) × (found' ≡ false)) ⊎ (IsSome entry.value × (found' ≡ true)
    × (kept' ≡ entry))))

-- the state of a walk back, with an entry kept or not
abbrev pub IsOnTheWay : Bool → ℕ → (Entry → Type 0) → WalkStart → Entry → Position → Type 0
IsOnTheWay true at entries start kept s = IsCandidate at entries start kept s
IsOnTheWay false at entries start kept s = IsBefore Backward at entries start s
