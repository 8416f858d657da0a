-- Numbers that an engine keeps in order where a tend raises its floor.
use Rattle.std.proofs.Common.{◌≡◌, ◌≤◌, ◌⊎◌, ℕ, List, [], ◌∷◌, ap, arith, inl, inr, subst, sym}
use Rattle.std.proofs.lemmas.List.Elements.{All-from_recursion, recursion_from_All}
use Rattle.std.specs.List.{AllByRecursion}
use Rattle.std.specs.Prelude.{min}
use Rattle.kv_types.specs.Snapshots.{least}
use Rattle.store_files.specs.declared.store_files.StoreFiles.{StoreFiles}
use Rattle.store_files.specs.Files.{Facts}
use Rattle.store_files.specs.OpenFiles.{AreCounted, AreUsableFiles, batch_count, known_facts}
use Rattle.store_files.specs.Raising.{MayRise, RaisedFactsRise, facts_with_floor}
use Rattle.engine.specs.Snapshots.{AreReadable, IsReadable}

-- the least number that may be asked for is no less than the floor
least_above : (most floor number : ℕ) (open_ones : List ℕ) → floor ≤ number →
    AllByRecursion (IsReadable floor most) open_ones → floor ≤ least number open_ones
least_above most floor number [] le each = le
least_above most floor number (t ∷ ts) le each =
    let first = each.0.0 in
    least_above most floor (min number t) ts (omega (arith, le, first)) each.1

-- and no greater than the committed number
pub least_below : (number : ℕ) (open_ones : List ℕ) → least number open_ones ≤ number
least_below number [] = omega arith
least_below number (t ∷ ts) =
    let le = least_below (min number t) ts in omega (arith, le)

-- what can be read from one floor can be from another that is no greater than the least
readable_from : (most floor later number : ℕ) (open_ones : List ℕ) →
    later ≤ least number open_ones → AllByRecursion (IsReadable floor most) open_ones →
    AllByRecursion (IsReadable later most) open_ones
readable_from most floor later number [] le each = tt
readable_from most floor later number (t ∷ ts) le each =
    let below = least_below (min number t) ts in (
      (omega (arith, le, below), each.0.1),
      readable_from most floor later (min number t) ts le each.1,
    )

-- the floor that a tend leaves is the old one, or the least number that may be asked for
abbrev pub IsFloorAfter : ℕ → ℕ → ℕ → Type 0
IsFloorAfter floor rises later = (later ≡ floor) ⊎ (later ≡ rises)

-- the open snapshots can be read as before
pub readable_after : (committed floor later : ℕ) (open_ones : List ℕ) → floor ≤ committed →
    AreReadable floor committed open_ones →
    IsFloorAfter floor (least committed open_ones) later →
    AreReadable later committed open_ones
readable_after committed floor later open_ones le readable (inl same) =
    subst (λ (n : ℕ). AreReadable n committed open_ones) (sym same) readable
readable_after committed floor later open_ones le readable (inr raised) = record {
  each = All-from_recursion (IsReadable later committed) open_ones
      (readable_from committed floor later committed open_ones (omega (arith, raised))
      (recursion_from_All (IsReadable floor committed) open_ones readable.each));
  few = readable.few;
}

-- the floor may rise to the least number that may be asked for
pub may_rise : (store : StoreFiles) (committed floor : ℕ) (open_ones : List ℕ) →
    AreUsableFiles store → AreCounted store committed →
    AreReadable (known_facts store).floor committed open_ones → floor ≡ least committed open_ones →
    MayRise store floor
may_rise store committed floor open_ones usable counted readable is =
    let above = least_above committed (known_facts store).floor committed open_ones counted.floor
    (recursion_from_All _ open_ones readable.each) in
    let below = least_below committed open_ones in
    let most = counted.committed in
    record {
      usable = usable;
      rises = omega (arith, above, is);
      counted = omega (arith, below, most, is);
    }

-- the facts after a tend are those before it, or those of a raised floor
abbrev pub AreFactsAfter : StoreFiles → ℕ → Facts → Type 0
AreFactsAfter old floor facts =
    (facts ≡ known_facts old) ⊎ (facts ≡ facts_with_floor old floor)

-- the floor after them
pub floor_after : (old new : StoreFiles) (floor : ℕ) → AreFactsAfter old floor (known_facts new) →
    IsFloorAfter (known_facts old).floor floor (known_facts new).floor
floor_after old new floor (inl same) = inl (ap (λ (f : Facts). f.floor) same)
floor_after old new floor (inr raised) = inr (ap (λ (f : Facts). f.floor) raised)

-- the numbers of batches are in order as before
pub counted_after : (old new : StoreFiles) (committed floor : ℕ) → RaisedFactsRise →
    MayRise old floor → floor ≤ committed → AreCounted old committed →
    batch_count new ≡ batch_count old → AreFactsAfter old floor (known_facts new) →
    AreCounted new committed
counted_after old new committed floor rise may below counted count (inl same) =
    let kept_same = ap (λ (f : Facts). f.kept) same in
    let floor_same = ap (λ (f : Facts). f.floor) same in
    let kept = counted.kept in
    let floor_below = counted.floor in
    let committed_below = counted.committed in
    let few = counted.few in
    record {
      kept = omega (arith, kept_same, floor_same, kept);
      floor = omega (arith, floor_same, floor_below);
      committed = omega (arith, count, committed_below);
      few = omega (arith, count, few);
    }
counted_after old new committed floor rise may below counted count (inr raised) =
    let kept_is = ap (λ (f : Facts). f.kept) raised in
    let floor_is = ap (λ (f : Facts). f.floor) raised in
    let rises = rise old floor may in
    let kept = rises.1 in
    let committed_below = counted.committed in
    let few = counted.few in
    record {
      kept = omega (arith, kept_is, floor_is, kept);
      floor = omega (arith, floor_is, below);
      committed = omega (arith, count, committed_below);
      few = omega (arith, count, few);
    }
