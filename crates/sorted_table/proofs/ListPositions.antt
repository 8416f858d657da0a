-- Positions at places of a rising list of entries.
use Rattle.std.proofs.Common.{◌≡◌, ◌↔◌, ℕ, ◌+◌, inl, inr, ◌<◌, ◌≤◌, List, length, Some}
use Rattle.std.proofs.Common.{Contains, sym, ap, ◌∙◌, subst, arith}
use Rattle.std.specs.List.{slice_get}
use Rattle.std.proofs.lemmas.Option.{slice_get_cases, slice_get_within}
use Rattle.byte_fields.specs.FieldsLemmas.{some_is}
use Rattle.kv_types.specs.{Entry}
use Rattle.merge_iter.specs.declared.Direction.{Direction}
use Rattle.merge_iter.specs.declared.Direction.TheVariants.{Forward, Backward}
use Rattle.merge_iter.specs.{EntryPrecedes, IsFirst, Off, On, Broken, Position, never}
use Rattle.merge_iter.specs.EntryOrder.{not_both}
use Rattle.merge_iter.specs.ListPlacesLemmas.{Earlier, off_empty, on_first, turned}
use Rattle.table_format.specs.{AreRising}
use Rattle.sorted_table.specs.EntrySplits.{SplitsEntries}
use Rattle.sorted_table.specs.RisingEntries.{at_contained, contained_at, in_order}
use Rattle.sorted_table.specs.TableCursors.{entry_position}

in_turn : (way : Direction) (entries : List Entry) (i j : ℕ) (a b : Entry) → AreRising entries
    → Earlier way i j → slice_get entries i ≡ Some a → slice_get entries j ≡ Some b
    → EntryPrecedes way a b
in_turn Forward entries i j a b rising e at_i at_j = in_order entries i j a b rising e at_i at_j
in_turn Backward entries i j a b rising e at_i at_j = in_order entries j i b a rising e at_j at_i

-- of two entries, the one that a walk meets first stands earlier on it
earlier : (way : Direction) (entries : List Entry) (i j : ℕ) (a b : Entry) → AreRising entries
    → slice_get entries i ≡ Some a → slice_get entries j ≡ Some b → EntryPrecedes way a b
    → Earlier way i j
earlier way entries i j a b rising at_i at_j h = elim (turned way i j) [
  | inl k ↦ k
  | inr k ↦ elim k [
    | inl e ↦ absurd (never way b (subst (λ x. EntryPrecedes way x b)
        (some_is a b (sym at_i ∙ (ap (slice_get entries) e ∙ at_j))) h))
    | inr l ↦ absurd (not_both way a b h (in_turn way entries j i b a rising l at_j at_i))
  ]
]

-- the entry at place n is the first with P, or there is none
pub stands_first : (way : Direction) (entries : List Entry) (P : Entry → Type 0) (n : ℕ)
    → AreRising entries
    → ((entry : Entry) → slice_get entries n ≡ Some entry → P entry)
    → ((entry : Entry) → P entry → (i : ℕ) × (n < length entries) × (Earlier way i n → ⊥)
    × (slice_get entries i ≡ Some entry))
    → IsFirst way P (entry_position (slice_get entries n))
stands_first way entries P n rising here among = elim (slice_get_cases entries n).1 [
  | inl (e, within, is, at) ↦ on_first way P (entry_position (slice_get entries n)) e
      (ap entry_position is) (here e is)
      (λ other p precedes. let a = among other p in
      a.2 (earlier way entries a.0 n other e rising a.3 is precedes))
  | inr (past, is) ↦ off_empty way P (entry_position (slice_get entries n)) (ap entry_position is)
      (λ entry p. let a = among entry p in let h : n < length entries = a.1 in omega arith)
]

-- ---- ends and steps

pub first_of_all : (entries : List Entry) → AreRising entries
    → IsFirst Forward (λ e. Contains entries e × Unit {0}) (entry_position (slice_get entries 0))
first_of_all entries rising =
    stands_first Forward entries (λ e. Contains entries e × Unit {0}) 0 rising
    (λ e at. (at_contained entries 0 e at, tt))
    (λ e p. let within = p.0.1 in (
      p.0.0,
      omega (arith, within),
      (λ h. omega (arith, h)),
      contained_at entries e p.0,
    ))

pub last_of_all : (entries : List Entry) (n : ℕ) → AreRising entries → n + 1 ≡ length entries
    → IsFirst Backward (λ e. Contains entries e × Unit {0}) (entry_position (slice_get entries n))
last_of_all entries n rising end =
    stands_first Backward entries (λ e. Contains entries e × Unit {0}) n rising
    (λ e at. (at_contained entries n e at, tt))
    (λ e p. let within = p.0.1 in (
      p.0.0,
      omega (arith, end),
      (λ h. let k : n < p.0.0 = h in omega (arith, k, within, end)),
      contained_at entries e p.0,
    ))

-- nothing is met in an empty list
pub none_at_all : (way : Direction) (entries : List Entry) → length entries ≡ 0
    → IsFirst way (λ e. Contains entries e × Unit {0}) Off
none_at_all way entries none e p = let within = p.0.1 in omega (arith, none, within)

pub next_of : (entries : List Entry) (n : ℕ) (entry : Entry) → AreRising entries
    → slice_get entries n ≡ Some entry
    → IsFirst Forward (λ e. Contains entries e × EntryPrecedes Forward entry e)
    (entry_position (slice_get entries (n + 1)))
next_of entries n entry rising at =
    stands_first Forward entries (λ e. Contains entries e × EntryPrecedes Forward entry e) (n + 1)
    rising
    (λ e at_next. (
      at_contained entries (n + 1) e at_next,
      in_order entries n (n + 1) entry e rising (omega arith) at at_next,
    ))
    (λ e p.
    let there = contained_at entries e p.0 in
    let behind : n < p.0.0 = earlier Forward entries n p.0.0 entry e rising at there p.1 in
    let within = p.0.1 in (
      p.0.0,
      omega (arith, behind, within),
      (λ h. let k : p.0.0 < n + 1 = h in omega (arith, behind, k)),
      there,
    ))

pub prev_of : (entries : List Entry) (n : ℕ) (entry : Entry) → AreRising entries
    → slice_get entries (n + 1) ≡ Some entry
    → IsFirst Backward (λ e. Contains entries e × EntryPrecedes Backward entry e)
    (entry_position (slice_get entries n))
prev_of entries n entry rising at =
    stands_first Backward entries (λ e. Contains entries e × EntryPrecedes Backward entry e) n
    rising
    (λ e at_prev. (
      at_contained entries n e at_prev,
      in_order entries n (n + 1) e entry rising (omega arith) at_prev at,
    ))
    (λ e p.
    let there = contained_at entries e p.0 in
    let before : p.0.0 < n + 1 = earlier Backward entries
    (n + 1) p.0.0 entry e rising at there p.1 in
    let within : n + 1 < length entries = slice_get_within entries (n + 1) entry at in
    (p.0.0, omega (arith, within), (λ h. let k : n < p.0.0 = h in omega (arith, before, k)), there))

-- there is none before the first
pub none_before : (entries : List Entry) (entry : Entry) → AreRising entries
    → slice_get entries 0 ≡ Some entry
    → IsFirst Backward (λ e. Contains entries e × EntryPrecedes Backward entry e) Off
none_before entries entry rising at e p =
    let there = contained_at entries e p.0 in
    let before : p.0.0 < 0 = earlier Backward entries 0 p.0.0 entry e rising at there p.1 in
    omega (arith, before)

not_less : (n m : ℕ) → (m < n → ⊥) → n ≤ m
not_less n m late = grind arith

-- the first that does not come before a place
pub sought_of : (entries : List Entry) (place : Entry) (n : ℕ) → AreRising entries
    → SplitsEntries entries place n
    → IsFirst Forward (λ e. Contains entries e × (EntryPrecedes Forward e place → ⊥))
    (entry_position (slice_get entries n))
sought_of entries place n rising s =
    stands_first Forward entries (λ e. Contains entries e × (EntryPrecedes Forward e place → ⊥)) n
    rising
    (λ e at. (at_contained entries n e at, s.behind n e (omega arith) at))
    (λ e p.
    let there = contained_at entries e p.0 in
    let within = p.0.1 in
    let late : n ≤ p.0.0 = not_less n p.0.0 (λ h. p.1 (s.before p.0.0 e h there)) in
    (p.0.0, omega (arith, late, within), (λ h. p.1 (s.before p.0.0 e h there)), there))

-- ---- the same of another set of the same entries

pub first_alike : (way : Direction) (P Q : Entry → Type 0) (s : Position)
    → ((e : Entry) → P e ↔ Q e) → IsFirst way P s → IsFirst way Q s
first_alike way P Q (On e) same first =
    ((same e).0 first.0, λ other q. first.1 other ((same other).1 q))
first_alike way P Q Off same first = λ e q. first e ((same e).1 q)
first_alike way P Q Broken same first = first
