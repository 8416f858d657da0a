-- Lists whose entries rise.
use Rattle.std.proofs.Common.{◌≡◌, ◌⊎◌, inl, inr, ◌<◌}
use Rattle.std.proofs.Common.{List, [], ◌∷◌, ◌++◌, length, Option, Some, None, IfSome}
use Rattle.std.proofs.Common.{refl, subst, arith, AllPairs}
use Rattle.kv_types.specs.OrderLemmas.{Among, Rises, AllPairs-rises, rises_from_AllPairs}
use Rattle.merge_iter.specs.{EntryPrecedes, chain}
use Rattle.merge_iter.specs.declared.Direction.TheVariants.{Forward}
use Rattle.kv_types.specs.{Entry}
use Rattle.table_format.specs.Blocks.{CanFollow, last_entry}

-- ---- ends

-- the entry that is added is the last
pub last_push : (entries : List Entry) (entry : Entry)
    → last_entry (entries ++ entry ∷ []) ≡ Some entry
last_push [] entry = refl
last_push (x ∷ []) entry = refl
last_push (x ∷ y ∷ entries) entry = last_push (y ∷ entries) entry

-- the last entry is one of them
pub last_among : (entries : List Entry) (last : Entry) → last_entry entries ≡ Some last
    → Among last entries
last_among [] last e = absurd cc
last_among (x ∷ []) last e = inl (cc)
last_among (x ∷ y ∷ entries) last e = inr (last_among (y ∷ entries) last e)

-- entries that are there have a last one
pub last_of_some : (entries : List Entry) → 0 < length entries
    → (last : Entry) × (last_entry entries ≡ Some last)
last_of_some [] some = absurd (omega (arith, some))
last_of_some (x ∷ []) some = (x, refl)
last_of_some (x ∷ y ∷ entries) some = last_of_some (y ∷ entries) (omega arith)

-- ---- order

-- one of the entries with one more: one of them, or that one
pub among_push : (entries : List Entry) (entry z : Entry) → Among z (entries ++ entry ∷ [])
    → Among z entries ⊎ (entry ≡ z)
among_push [] entry z (inl e) = inr e
among_push [] entry z (inr none) = absurd none
among_push (x ∷ entries) entry z (inl e) = inl (inl e)
among_push (x ∷ entries) entry z (inr a) =
    elim (among_push entries entry z a) [ inl b ↦ inl (inr b) | inr e ↦ inr e ]

rises_push : (entries : List Entry) (entry : Entry) → Rises (EntryPrecedes Forward) entries
    → CanFollow entries entry
    → Rises (EntryPrecedes Forward) (entries ++ entry ∷ [])
rises_push [] entry rises follows = (λ z none. absurd none, tt)
rises_push (x ∷ []) entry rises follows = (
  λ z a. elim a [ inl e ↦ subst (EntryPrecedes Forward x) e follows | inr none ↦ absurd none ],
  (λ z none. absurd none, tt),
)
rises_push (x ∷ y ∷ entries) entry rises follows =
    let some : 0 < length (y ∷ entries) = omega arith in
    let last = last_of_some (y ∷ entries) some in
    let before : EntryPrecedes Forward last.0 entry =
    subst (λ (o : Option Entry). IfSome o (λ l. EntryPrecedes Forward l entry)) last.1 follows
    in
    let first = rises.0 last.0 (last_among (y ∷ entries) last.0 last.1) in (
      λ z a. elim (among_push (y ∷ entries) entry z a) [
        | inl there ↦ rises.0 z there
        | inr e ↦ subst (EntryPrecedes Forward x) e (chain Forward x last.0 entry first before)
      ],
      rises_push (y ∷ entries) entry rises.1 follows,
    )

-- entries in order with one that can follow them are in order
pub rising_push : (entries : List Entry) (entry : Entry) → AllPairs (EntryPrecedes Forward) entries
    → CanFollow entries entry
    → AllPairs (EntryPrecedes Forward) (entries ++ entry ∷ [])
rising_push entries entry rising follows =
    AllPairs-rises (EntryPrecedes Forward) (entries ++ entry ∷ [])
    (rises_push entries entry (rises_from_AllPairs (EntryPrecedes Forward) entries rising) follows)

-- ---- order

early_all : (entries others : List Entry) (entry z : Entry)
    → Rises (EntryPrecedes Forward) (entries ++ entry ∷ others) → Among z entries
    → EntryPrecedes Forward z entry
early_all [] others entry z rises a = absurd a
early_all (x ∷ entries) others entry z rises (inl e) =
    subst (λ (r : Entry). EntryPrecedes Forward r entry) e
    (rises.0 entry (among_middle entries others entry))
  where
    among_middle : (entries others : List Entry) (entry : Entry)
        → Among entry (entries ++ entry ∷ others)
    among_middle [] others entry = inl refl
    among_middle (x ∷ entries) others entry = inr (among_middle entries others entry)
early_all (x ∷ entries) others entry z rises (inr a) = early_all entries others entry z rises.1 a

follows_last : (entries : List Entry) (entry : Entry) (o : Option Entry) → last_entry entries ≡ o
    → ((z : Entry) → Among z entries → EntryPrecedes Forward z entry)
    → IfSome o (λ last. EntryPrecedes Forward last entry)
follows_last entries entry None e early = tt
follows_last entries entry (Some last) e early = early last (last_among entries last e)

-- of entries in order each can follow those before it
pub can_follow : (entries others : List Entry) (entry : Entry)
    → AllPairs (EntryPrecedes Forward) (entries ++ entry ∷ others)
    → CanFollow entries entry
can_follow entries others entry rising =
    let rises = rises_from_AllPairs (EntryPrecedes Forward) (entries ++ entry ∷ others) rising in
    follows_last entries entry (last_entry entries) refl
    (λ z a. early_all entries others entry z rises a)
