-- What the first entry that does not come before a key and number says of a lookup.
use Rattle.std.proofs.Common.{◌≡◌, ◌⊎◌, inl, inr, ℕ, ◌≤◌, List, [], ◌∷◌, ◌++◌, Option, Some, None}
use Rattle.std.proofs.Common.{Contains, AllPairs, All, refl, sym, ap, subst, ◌∙◌, arith}
use Rattle.std.specs.Option.{option_map}
use Rattle.byte_fields.specs.{StoredKey}
use Rattle.kv_types.specs.OrderLemmas.{Among, Rises, rises_from_AllPairs, Contains-among}
use Rattle.kv_types.specs.OrderLemmas.{among_from_Contains, among_of_All}
use Rattle.kv_types.specs.{Entry, IsNewest, IsUnseen}
use Rattle.merge_iter.specs.EntryOrder.{cases}
use Rattle.merge_iter.specs.EntryParts.{between, equal_parts, numbers_fall}
use Rattle.merge_iter.specs.{EntryPrecedes, spot}
use Rattle.merge_iter.specs.declared.Direction.TheVariants.{Forward}
use Rattle.sorted_table.specs.declared.found.FoundVersion.{FoundVersion}
use Rattle.sorted_table.specs.Open.{LookupFinds, found_entry}
use Rattle.sorted_table.specs.Searches.{IsEarlier, IsFirstWithout, IsVersionOf}

-- ---- entries and a spot

-- an entry of the key with at most that number does not come before their spot
pub seen_is_late : (z : Entry) (key : StoredKey) (at : ℕ) → z.key ≡ key → z.number ≤ at
    → IsEarlier (spot key at) z → ⊥
seen_is_late z key at e le h = let lt = numbers_fall z (spot key at) h e in omega (arith, le, lt)

-- an entry of the key that does not come before the spot has at most that number
pub late_is_seen : (z : Entry) (key : StoredKey) (at : ℕ) → z.key ≡ key
    → (IsEarlier (spot key at) z → ⊥) → z.number ≤ at
late_is_seen z key at e late = elim (cases Forward z (spot key at)) [
  | inl early ↦ absurd (late early)
  | inr m ↦ elim m [
    | inl same ↦ let n = (equal_parts z (spot key at) same).1 in omega (arith, n)
    | inr behind ↦ let lt = numbers_fall (spot key at) z behind (sym e) in omega (arith, lt)
  ]
]

-- what stands between the spot and an entry of the key has that key
pub key_between : (z other : Entry) (key : StoredKey) (at : ℕ) → (IsEarlier (spot key at) z → ⊥)
    → EntryPrecedes Forward z other → other.key ≡ key → z.key ≡ key
key_between z other key at late before e = elim (cases Forward z (spot key at)) [
  | inl early ↦ absurd (late early)
  | inr m ↦ elim m [
    | inl same ↦ (equal_parts z (spot key at) same).0
    | inr behind ↦ between (spot key at) z other behind before (sym e) ∙ e
  ]
]

-- ---- parts of a list

pub in_parts : {A : Type 0} (before after : List A) (item z : A) → Among z (before ++ item ∷ after)
    → Among z before ⊎ ((item ≡ z) ⊎ Among z after)
in_parts [] after item z (inl e) = inr (inl e)
in_parts [] after item z (inr a) = inr (inr a)
in_parts (x ∷ before) after item z (inl e) = inl (inl e)
in_parts (x ∷ before) after item z (inr a) =
    elim (in_parts before after item z a) [ inl b ↦ inl (inr b) | inr c ↦ inr c ]

pub in_middle : {A : Type 0} (before after : List A) (item : A)
    → Among item (before ++ item ∷ after)
in_middle [] after item = inl refl
in_middle (x ∷ before) after item = inr (in_middle before after item)

-- what follows an entry of rising entries comes behind it
behind : (before after : List Entry) (entry z : Entry)
    → Rises (EntryPrecedes Forward) (before ++ entry ∷ after) → Among z after
    → EntryPrecedes Forward entry z
behind [] after entry z rises a = rises.0 z a
behind (x ∷ before) after entry z rises a = behind before after entry z rises.1 a

-- ---- the answers

-- the first late entry, where it has the key
pub newest_there : (entries : List Entry) (entry : Entry) (key : StoredKey) (at : ℕ)
    → AllPairs (EntryPrecedes Forward) entries
    → IsFirstWithout (IsEarlier (spot key at)) entries entry → entry.key ≡ key
    → IsNewest at (Contains entries) entry
newest_there entries entry key at rising f same =
    let rises = rises_from_AllPairs (EntryPrecedes Forward) (f.before ++ entry ∷ f.after)
    (subst (AllPairs (EntryPrecedes Forward)) f.split rising) in
    record {
      seen = (
        subst (λ (l : List Entry). Contains l entry) (sym f.split)
            (Contains-among (f.before ++ entry ∷ f.after) entry (in_middle f.before f.after entry)),
        late_is_seen entry key at same f.without,
      );
      newest = λ other seen e. elim (in_parts f.before f.after entry other
          (subst (Among other) f.split (among_from_Contains entries other seen.0))) [
            | inl b ↦ absurd (seen_is_late other key at (e ∙ same) seen.1
                (among_of_All (IsEarlier (spot key at)) f.before other f.with b))
            | inr c ↦ elim c [
              | inl is ↦ let n : entry.number ≡ other.number = ap (λ (z : Entry). z.number) is in
                  omega (arith, n)
              | inr a ↦ let lt = numbers_fall entry other
                  (behind f.before f.after entry other rises a)
                  (sym e) in omega (arith, lt)
            ]
          ];
    }

-- the first late entry, where it has another key
pub unseen_there : (entries : List Entry) (entry : Entry) (key : StoredKey) (at : ℕ)
    → AllPairs (EntryPrecedes Forward) entries
    → IsFirstWithout (IsEarlier (spot key at)) entries entry → (entry.key ≡ key → ⊥)
    → IsUnseen at (Contains entries) key
unseen_there entries entry key at rising f other_key = λ other seen e.
    let rises = rises_from_AllPairs (EntryPrecedes Forward) (f.before ++ entry ∷ f.after)
    (subst (AllPairs (EntryPrecedes Forward)) f.split rising) in
    elim (in_parts f.before f.after entry other
    (subst (Among other) f.split (among_from_Contains entries other seen.0))) [
      | inl b ↦ seen_is_late other key at e seen.1
          (among_of_All (IsEarlier (spot key at)) f.before other f.with b)
      | inr c ↦ elim c [
        | inl is ↦ other_key (ap (λ (z : Entry). z.key) is ∙ e)
        | inr a ↦ other_key (key_between entry other key at f.without
            (behind f.before f.after entry other rises a) e)
      ]
    ]

-- no late entry
pub unseen_all : (entries : List Entry) (key : StoredKey) (at : ℕ)
    → All (IsEarlier (spot key at)) entries → IsUnseen at (Contains entries) key
unseen_all entries key at early = λ other seen e. seen_is_late other key at e seen.1
    (among_of_All (IsEarlier (spot key at)) entries other early
    (among_from_Contains entries other seen.0))

abbrev an_entry : List ℕ → ℕ → Option (List ℕ) → Entry
an_entry key number value = record { key = key; number = number; value = value }

same_entry : (k l : List ℕ) (m n : ℕ) (v w : Option (List ℕ)) → k ≡ l → m ≡ n → v ≡ w
    → an_entry k m v ≡ an_entry l n w
same_entry k l m n v w a b c = cc

-- a version of the newest entry is found
pub found_by : (entries : List Entry) (entry : Entry) (key : StoredKey) (at : ℕ)
    (found : FoundVersion)
    → entry.key ≡ key → IsVersionOf entry found → IsNewest at (Contains entries) entry
    → LookupFinds entries key at (Some found)
found_by entries entry key at found same is newest =
    let e : entry ≡ found_entry key found = same_entry entry.key key entry.number found.number
    entry.value (option_map (λ v. v.items) found.value) same (sym is.number) (sym is.value) in
    subst (IsNewest at (Contains entries)) e newest

-- ---- from a block to all entries

in_two : (mine after : List Entry) (z : Entry) → Among z (mine ++ after)
    → Among z mine ⊎ Among z after
in_two [] after z a = inr a
in_two (x ∷ mine) after z (inl e) = inl (inl e)
in_two (x ∷ mine) after z (inr a) =
    elim (in_two mine after z a) [ inl b ↦ inl (inr b) | inr c ↦ inr c ]

in_three : (before mine after : List Entry) (z : Entry) → Among z (before ++ (mine ++ after))
    → Among z before ⊎ (Among z mine ⊎ Among z after)
in_three [] mine after z a = inr (in_two mine after z a)
in_three (x ∷ before) mine after z (inl e) = inl (inl e)
in_three (x ∷ before) mine after z (inr a) =
    elim (in_three before mine after z a) [ inl b ↦ inl (inr b) | inr c ↦ inr c ]

-- What a lookup finds in a block it finds in all entries, where those before the block are early
-- and an entry of the block is late.
pub lookup_up : (before mine after : List Entry) (last : Entry) (key : StoredKey) (at : ℕ)
    (found : Option FoundVersion) → ((z : Entry) → Among z before → IsEarlier (spot key at) z)
    → Among last mine → (IsEarlier (spot key at) last → ⊥)
    → ((x y : Entry) → Among x mine → Among y after → EntryPrecedes Forward x y)
    → LookupFinds mine key at found → LookupFinds (before ++ (mine ++ after)) key at found
lookup_up before mine after last key at (Some found) early there late rises s =
    let all = before ++ (mine ++ after) in
    let entry = found_entry key found in
    let here = among_from_Contains mine entry s.seen.0 in
    record {
      seen = (Contains-among all entry (in_second before mine after entry here), s.seen.1);
      newest = λ other seen e.
          elim (in_three before mine after other (among_from_Contains all other seen.0)) [
            | inl b ↦ absurd (seen_is_late other key at e seen.1 (early other b))
            | inr c ↦ elim c [
              | inl m ↦ s.newest other (Contains-among mine other m, seen.1) e
              | inr a ↦ let lt = numbers_fall entry other (rises entry other here a) (sym e) in
                  omega (arith, lt)
            ]
          ];
    }
  where
    second_left : (mine after : List Entry) (z : Entry) → Among z mine → Among z (mine ++ after)
    second_left [] after z a = absurd a
    second_left (x ∷ mine) after z (inl e) = inl e
    second_left (x ∷ mine) after z (inr a) = inr (second_left mine after z a)

    in_second : (before mine after : List Entry) (z : Entry) → Among z mine
        → Among z (before ++ (mine ++ after))
    in_second [] mine after z a = second_left mine after z a
    in_second (x ∷ before) mine after z a = inr (in_second before mine after z a)
lookup_up before mine after last key at None early there late rises s = λ other seen e.
    elim (in_three before mine after other
    (among_from_Contains (before ++ (mine ++ after)) other seen.0)) [
      | inl b ↦ seen_is_late other key at e seen.1 (early other b)
      | inr c ↦ elim c [
        | inl m ↦ s other (Contains-among mine other m, seen.1) e
        | inr a ↦
            let same = key_between last other key at late (rises last other there a) e in
            s last (Contains-among mine last there, late_is_seen last key at same late) same
      ]
    ]
