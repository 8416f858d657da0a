-- The list of open snapshots: the place of a number in it, and the list without it.
use Rattle.std.proofs.Common.{◌≡◌, ◌≤◌, ◌<◌, ◌==◌, ◌+◌, ◌-◌, ℕ, suc, List, [], ◌∷◌, length}
use Rattle.std.proofs.Common.{Option, Some, None, Bool, true, false, refl, ap, ◌∙◌, arith, cond}
use Rattle.std.specs.Prelude.{All}
use Rattle.std.specs.Option.{is_some}
use Rattle.std.specs.List.{position_from, remove}
use Rattle.std.proofs.lemmas.List.Elements.{All-weaker, All-cons, All-head, All-tail}
use Rattle.std.specs.Prelude.{if◌then◌else◌}
use Rattle.std.proofs.lemmas.Bool.Decides.{nat_tests}
use Rattle.chain_model.specs.{refused}
use Rattle.chain_model.specs.declared.Refusal.TheVariants as refusal
use Rattle.kv_types.specs.Snapshots.{is_open, without}
use Rattle.chain_model.specs.Rules.{add_snapshot, open_if_room}
use Rattle.chain_core.specs.States.{AreSnapshots, Machine}

abbrev place : ℕ → ℕ → List ℕ → Option ℕ
place s i ts = position_from (λ t. s == t) i ts

-- a place is found where the snapshot is open
pub open_at : (s i : ℕ) (ts : List ℕ) → is_some (place s i ts) ≡ is_open s ts
open_at s i [] = refl
open_at s i (t ∷ ts) = go (s == t) (open_at s (i + 1) ts)
  where
    go : (b : Bool) → is_some (place s (i + 1) ts) ≡ is_open s ts →
        is_some (cond b (Some i) (place s (i + 1) ts)) ≡ cond b true (is_open s ts)
    go true rest = refl
    go false rest = rest

-- the list without the snapshot at that place
pub closed_at : (s i k : ℕ) (ts : List ℕ) → place s i ts ≡ Some k →
    (i ≤ k) × (k < i + length ts) × (remove ts (k - i) ≡ without s ts)
closed_at s i k [] found = cc
closed_at s i k (t ∷ ts) found = go (s == t) (closed_at s (i + 1) k ts) found
  where
    go : (b : Bool) → (place s (i + 1) ts ≡ Some k → (i + 1 ≤ k) × (k < i + 1 + length ts)
        × (remove ts (k - (i + 1)) ≡ without s ts)) →
        cond b (Some i) (place s (i + 1) ts) ≡ Some k →
        (i ≤ k) × (k < i + suc (length ts))
        × (remove (t ∷ ts) (k - i) ≡ cond b ts (t ∷ without s ts))
    go true later found =
        let same : i ≡ k = cc in
        let none : k - i ≡ 0 = omega arith in
        (omega arith, omega arith, ap (remove (t ∷ ts)) none)
    go false later found =
        let rest = later found in
        let next : k - i ≡ suc (k - (i + 1)) = omega (arith, rest.0) in (
          omega (arith, rest.0),
          omega (arith, rest.1),
          ap (remove (t ∷ ts)) next
              ∙ ap (λ (l : List ℕ). t ∷ l) rest.2,
        )

-- no place is found where no snapshot is open
pub closed_none : (s i : ℕ) (ts : List ℕ) → place s i ts ≡ None → without s ts ≡ ts
closed_none s i [] none = refl
closed_none s i (t ∷ ts) none = go (s == t) (closed_none s (i + 1) ts) none
  where
    go : (b : Bool) → (place s (i + 1) ts ≡ None → without s ts ≡ ts) →
        cond b (Some i) (place s (i + 1) ts) ≡ None → cond b ts (t ∷ without s ts) ≡ t ∷ ts
    go true later none = cc
    go false later none = ap (λ (l : List ℕ). t ∷ l) (later none)

all_without : (P : ℕ → Type 0) (s : ℕ) (ts : List ℕ) → All P ts → All P (without s ts)
all_without P s [] all = all
all_without P s (t ∷ ts) all = go (s == t) (all_without P s ts (All-tail P t ts all))
  where
    go : (b : Bool) → All P (without s ts) → All P (cond b ts (t ∷ without s ts))
    go true rest = All-tail P t ts all
    go false rest = All-cons P t (without s ts) (All-head P t ts all) rest

fewer : (s : ℕ) (ts : List ℕ) → length (without s ts) ≤ length ts
fewer s [] = omega arith
fewer s (t ∷ ts) = go (s == t) (fewer s ts)
  where
    go : (b : Bool) → length (without s ts) ≤ length ts →
        length (cond b ts (t ∷ without s ts)) ≤ suc (length ts)
    go true rest = omega arith
    go false rest = omega (arith, rest)

module _ (floor committed : ℕ) (ts : List ℕ) (held : AreSnapshots floor committed ts) where
  abbrev IsWithin : ℕ → Type 0
  IsWithin s = (floor ≤ s) × (s ≤ committed)

  -- the committed number rises
  pub snapshots_stay : (more : ℕ) → committed ≤ more → AreSnapshots floor more ts
  snapshots_stay more rises = record {
    within = All-weaker IsWithin (λ s. (floor ≤ s) × (s ≤ more))
        (λ s is. (is.0, omega (arith, is.1, rises))) ts held.within;
    few = held.few;
  }

  -- one more is opened
  pub one_more : (s : ℕ) → floor ≤ s → s ≤ committed → length ts < 64 →
      AreSnapshots floor committed (s ∷ ts)
  one_more s above below room = record {
    within = All-cons IsWithin s ts (above, below) held.within;
    few = omega (arith, room);
  }

  -- one is closed
  pub one_less : (s : ℕ) → AreSnapshots floor committed (without s ts)
  one_less s = record {
    within = all_without IsWithin s ts held.within;
    few = omega (arith, fewer s ts, held.few);
  }

-- a snapshot is opened where fewer than 64 are open
pub opened_with_room : (n : Machine) (i s : ℕ) → length n.snapshots < 64 →
    open_if_room n i s ≡ add_snapshot n i s
opened_with_room n i s few =
    let no : (length n.snapshots == 64) ≡ false = grind (arith, nat_tests) in
    ap (λ (b : Bool). if b then refused n i refusal.TooManySnapshots else add_snapshot n i s) no
