-- The place of a spot among the lines of an index.
use Rattle.std.proofs.Common.{◌≡◌, ◌⊎◌, inl, inr, ℕ, suc, ◌≤◌, ◌<◌, Bool, true, false, List, ◌∷◌}
use Rattle.std.proofs.Common.{◌++◌, length, map}
use Rattle.std.proofs.Common.{take, drop, get_or, Some, None, refl, sym, ap, subst, ◌∙◌, arith}
use Rattle.std.specs.List.Sorted.{IsPartitionedBy, IsPartitionPoint}
use Rattle.std.specs.Ordering.{is_lt}
use Rattle.std.specs.List.{slice_get}
use Rattle.std.proofs.lemmas.Option.{get_or_from_slice_get, slice_get_cases, slice_get_within}
use Rattle.std.proofs.Common.{All}
use Rattle.std.proofs.lemmas.List.{get_or-map, get_or-take, length-map, length-take}
use Rattle.std.proofs.lemmas.List.{take-append-drop}
use Rattle.std.proofs.Math.Seq.{drop-cons}
use Rattle.kv_types.specs.{Entry}
use Rattle.merge_iter.specs.{EntryPrecedes, chain, entry_cmp}
use Rattle.merge_iter.specs.declared.Direction.TheVariants.{Forward}
use Rattle.table_format.specs.{AreRising, end_spot}
use Rattle.table_format.specs.declared.IndexLine.{IndexLine}
use Rattle.sorted_table.specs.Searches.{EndsEarlier, IsFirstWithout, IsLinePlace}
use Rattle.sorted_table.proofs.SearchesLemmas.{early_by, late_by}

-- whether the line ends before the spot
abbrev pub ends_early : Entry → IndexLine → Bool
ends_early place line = is_lt (entry_cmp (end_spot line) place)

-- a line in front of another ends before it
ends_rise : (lines : List IndexLine) (i j : ℕ) (d : IndexLine) → AreRising (map end_spot lines)
    → i < j → j < length lines
    → EntryPrecedes Forward (end_spot (get_or lines i d)) (end_spot (get_or lines j d))
ends_rise lines i j d rising lt short =
    let ends = map end_spot lines in
    let pair = rising i j (end_spot d) lt (omega (arith, short, length-map lines end_spot)) in
    let first : get_or ends i (end_spot d) ≡ end_spot (get_or lines i d) =
    get_or-map end_spot lines i d (end_spot d) (omega (arith, lt, short)) in
    let second : get_or ends j (end_spot d) ≡ end_spot (get_or lines j d) =
    get_or-map end_spot lines j d (end_spot d) short in
    subst (λ (z : Entry). EntryPrecedes Forward z (end_spot (get_or lines j d))) first
    (subst (λ (z : Entry). EntryPrecedes Forward (get_or ends i (end_spot d)) z) second pair)

less_or_same : (i j : ℕ) → i ≤ j → (i < j) ⊎ (i ≡ j)
less_or_same i j le = grind arith

-- lines that rise are parted by any spot
pub parted : (lines : List IndexLine) (place : Entry) → AreRising (map end_spot lines)
    → IsPartitionedBy (ends_early place) lines
parted lines place rising i j d le short early = elim (less_or_same i j le) [
  | inl lt ↦ ap is_lt (chain Forward (end_spot (get_or lines i d))
      (end_spot (get_or lines j d)) place
      (ends_rise lines i j d rising lt short)
      (early_by (end_spot (get_or lines j d)) place
      (ends_early place (get_or lines j d)) refl early))
  | inr e ↦ subst (λ (k : ℕ). ends_early place (get_or lines k d) ≡ true) (sym e) early
]

pub line_place_by : (lines : List IndexLine) (place : Entry) (n : ℕ)
    → IsPartitionPoint (λ line. ends_early place line ≡ true)
    (λ line. ends_early place line ≡ false)
    lines n → IsLinePlace lines place n
line_place_by lines place n point = (
  λ k d from lt. early_by (end_spot (get_or lines k d)) place
      (ends_early place (get_or lines k d)) refl
      (point.0 k d from lt),
  λ k d from lt. late_by (end_spot (get_or lines k d)) place
      (ends_early place (get_or lines k d)) refl
      (point.1 k d from lt),
)

-- a line, and those around it
around : (lines : List IndexLine) (n : ℕ) (line : IndexLine) → n < length lines
    → get_or lines n line ≡ line → lines ≡ take n lines ++ line ∷ drop (suc n) lines
around lines n line within is =
    sym (take-append-drop n lines)
    ∙ ap (λ (l : List IndexLine). take n lines ++ l) (drop-cons lines n line within
    ∙ ap (λ (x : IndexLine). x ∷ drop (suc n) lines) is)

-- the line at the place is the first whose block does not end before the spot
pub line_first : (lines : List IndexLine) (place : Entry) (n : ℕ) (line : IndexLine)
    → slice_get lines n ≡ Some line → IsLinePlace lines place n
    → IsFirstWithout (EndsEarlier place) lines line
line_first lines place n line there at =
    let within : n < length lines = slice_get_within lines n line there in
    let same : get_or lines n line ≡ line = get_or_from_slice_get lines n line line there in
    record {
      before = take n lines;
      after = drop (suc n) lines;
      split = around lines n line within same;
      with = λ k d lt.
          let short : k < n = omega (arith, lt, within, length-take n lines) in
          subst (EndsEarlier place) (sym (get_or-take n lines k d short))
          (at.0 k d (omega arith) short);
      without = subst (λ (x : IndexLine). EndsEarlier place x → ⊥) same
          (at.1 n line (omega arith) within);
    }

-- where the place is behind all lines, each block ends before the spot
pub lines_early : (lines : List IndexLine) (place : Entry) (n : ℕ) → length lines ≤ n
    → IsLinePlace lines place n → All (EndsEarlier place) lines
lines_early lines place n past at = λ k d lt. at.0 k d (omega arith) (omega (arith, lt, past))

-- there is no line at a number behind the last one
pub no_line : (lines : List IndexLine) (n : ℕ) → length lines ≤ n → slice_get lines n ≡ None
no_line lines n past = elim (slice_get_cases lines n).1 [
  | inl (line, within, is, at) ↦ let short : n < length lines = within in
      absurd (omega (arith, past, short))
  | inr (beyond, is) ↦ is
]
