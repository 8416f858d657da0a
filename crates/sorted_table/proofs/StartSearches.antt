-- Searches among the entries of a block.
use Rattle.std.proofs.Common.{◌≡◌, ◌⊎◌, inl, inr, ℕ, ◌≤◌, ◌<◌, Bool, true, false, List, length}
use Rattle.std.proofs.Common.{get_or}
use Rattle.std.proofs.Common.{Option, Some, None, IsTrue, refl, sym, ap, subst, ◌∙◌, arith}
use Rattle.std.specs.List.{slice_get}
use Rattle.std.specs.Option.{option_map}
use Rattle.std.specs.List.Sorted.{IsPartitionedBy, IsPartitionPoint}
use Rattle.std.specs.Ordering.{is_lt}
use Rattle.std.proofs.lemmas.Option.{get_or_from_slice_get, slice_get-get_or, slice_get-map}
use Rattle.std.proofs.lemmas.Option.{slice_get_within}
use Rattle.kv_types.specs.{Entry}
use Rattle.merge_iter.specs.declared.Direction.TheVariants.{Forward}
use Rattle.merge_iter.specs.{EntryPrecedes, chain, entry_cmp}
use Rattle.merge_iter.specs.OrderLemmas.{less_iff}
use Rattle.byte_fields.specs.declared.format.Format.{Format}
use Rattle.table_format.specs.Blocks.{AreRising}
use Rattle.table_files.specs.{ReadsEntries, entry_read}
use Rattle.sorted_table.specs.EntrySplits.{SplitsEntries, is_read_before}
use Rattle.sorted_table.specs.RisingEntries.{in_order}
use Rattle.table_files.specs.EntryReadsLemmas.{count_read}

-- ---- entries by their places

mapped_some : {A B : Type 0} (f : A → B) (o : Option A) (y : B) → option_map f o ≡ Some y
    → (x : A) × (o ≡ Some x) × (f x ≡ y)
mapped_some f (Some x) y e = (x, refl, cc)
mapped_some f None y e = absurd cc

-- what is read at place k of a block's places is entry k
pub places_agree : (format : Format) (block starts : List ℕ) (entries : List Entry)
    → ReadsEntries format block starts entries
    → (k : ℕ) → option_map (entry_read format block) (slice_get starts k)
    ≡ option_map Some (slice_get entries k)
places_agree format block starts entries is k =
    sym (slice_get-map (entry_read format block) starts k) ∙ ap (λ l. slice_get l k) is
    ∙ slice_get-map Some entries k

pub entry_start : (format : Format) (block starts : List ℕ) (entries : List Entry)
    → ReadsEntries format block starts entries
    → (k : ℕ) (entry : Entry) → slice_get entries k ≡ Some entry
    → (start : ℕ) × (slice_get starts k ≡ Some start) × (entry_read format block start ≡ Some entry)
entry_start format block starts entries is k entry at =
    mapped_some (entry_read format block) (slice_get starts k) (Some entry)
    (places_agree format block starts entries is k ∙ ap (option_map Some) at)

pub entry_of_start : (format : Format) (block starts : List ℕ) (entries : List Entry)
    → ReadsEntries format block starts entries → (k start : ℕ) → slice_get starts k ≡ Some start
    → (entry : Entry) × (slice_get entries k ≡ Some entry)
    × (entry_read format block start ≡ Some entry)
entry_of_start format block starts entries is k start at =
    let p = mapped_some Some (slice_get entries k) (entry_read format block start)
    (sym (places_agree format block starts entries is k)
    ∙ ap (option_map (entry_read format block)) at) in
    (p.0, p.1, sym p.2)

-- ---- the search

-- whether the entry that is read there comes before the place
abbrev pub is_early_start : (format : Format) → List ℕ → Entry → ℕ → Bool
is_early_start format block place start = is_read_before (entry_read format block start) place

early : (o : Option Entry) (entry place : Entry) → o ≡ Some entry
    → is_read_before o place ≡ true → EntryPrecedes Forward entry place
early o entry place is t =
    let e : is_lt (entry_cmp entry place) ≡ true =
    subst (λ x. is_read_before x place ≡ true) is t in
    (less_iff (entry_cmp entry place)).0 (subst IsTrue (sym e) refl)

late : (o : Option Entry) (entry place : Entry) → o ≡ Some entry
    → is_read_before o place ≡ false → EntryPrecedes Forward entry place → ⊥
late o entry place is f precedes =
    let e : is_lt (entry_cmp entry place) ≡ false =
    subst (λ x. is_read_before x place ≡ false) is f in
    let t : is_lt (entry_cmp entry place) ≡ true = ap is_lt precedes in
    absurd cc

is_early : (o : Option Entry) (entry place : Entry) → o ≡ Some entry
    → EntryPrecedes Forward entry place → is_read_before o place ≡ true
is_early o entry place is precedes =
    subst (λ x. is_read_before x place ≡ true) (sym is) (ap is_lt precedes)

cases_of : (i j : ℕ) → i ≤ j → (i < j) ⊎ (i ≡ j)
cases_of i j le = grind arith

pub partitioned : (format : Format) (block starts : List ℕ) (entries : List Entry) (place : Entry)
    → AreRising entries → ReadsEntries format block starts entries
    → IsPartitionedBy (is_early_start format block place) starts
partitioned format block starts entries place rising is i j d le within t =
    elim (cases_of i j le) [
      | inl below ↦
          let at_i = slice_get-get_or starts i d (omega (arith, below, within)) in
          let at_j = slice_get-get_or starts j d within in
          let a = entry_of_start format block starts entries is i (get_or starts i d) at_i in
          let b = entry_of_start format block starts entries is j (get_or starts j d) at_j in
          is_early _ a.0 place a.2
          (chain Forward a.0 b.0 place (in_order entries i j a.0 b.0 rising below a.1 b.1)
          (early _ b.0 place b.2 t))
      | inr same ↦ subst (λ k. is_early_start format block place (get_or starts k d) ≡ true)
          (sym same) t
    ]

pub splits : (format : Format) (block starts : List ℕ) (entries : List Entry) (place : Entry)
    (n : ℕ)
    → ReadsEntries format block starts entries → n ≤ length starts
    → IsPartitionPoint (λ s. is_early_start format block place s ≡ true)
    (λ s. is_early_start format block place s ≡ false) starts n → SplitsEntries entries place n
splits format block starts entries place n is within point =
    let size = count_read format block starts entries is in
    record {
      within = omega arith;
      before = λ k entry lt at.
          let s = entry_start format block starts entries is k entry at in
          let same : get_or starts k s.0 ≡ s.0 = get_or_from_slice_get starts k s.0 s.0 s.1 in
          early (entry_read format block s.0) entry place s.2
          (subst (λ x. is_early_start format block place x ≡ true) same
          (point.0 k s.0 (omega arith) lt));
      behind = λ k entry le at precedes.
          let s = entry_start format block starts entries is k entry at in
          let same : get_or starts k s.0 ≡ s.0 = get_or_from_slice_get starts k s.0 s.0 s.1 in
          late (entry_read format block s.0) entry place s.2
          (subst (λ x. is_early_start format block place x ≡ false) same
          (point.1 k s.0 le (slice_get_within starts k s.0 s.1))) precedes;
    }
