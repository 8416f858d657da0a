-- The order of entries, in either direction.
use Rattle.std.proofs.Common.{◌≡◌, ◌⊎◌, inl, inr, refl, sym, ◌∙◌, ap}
use Rattle.std.specs.Cmp.{IsTotalOrder, then_total, on_total, back_total, nat_cmp_total}
use Rattle.std.specs.Cmp.{tied_itself, alike_right}
use Rattle.std.specs.declared.cmp.Ordering.{Ordering}
use Rattle.std.specs.declared.cmp.Ordering.TheVariants.{Less, Equal, Greater}
use Rattle.std.specs.Ordering.{ordering_reverse}
use Rattle.merge_iter.specs.declared.direction.Direction.{Direction}
use Rattle.merge_iter.specs.declared.direction.Direction.TheVariants.{Forward, Backward}
use Rattle.byte_fields.specs.StoredKeysLemmas.{stored_total}
use Rattle.kv_types.specs.{Entry}
use Rattle.merge_iter.specs.Order.{entry_cmp, EntryPrecedes}
use Rattle.merge_iter.specs.Positions.{WalkStart, AtEnd, At, After, WalkMeets}

-- the order of entries is total
pub entry_total : IsTotalOrder entry_cmp
entry_total = then_total (on_total (λ (r : Entry). r.key) stored_total)
    (back_total (on_total (λ (r : Entry). r.number) nat_cmp_total))

own : (a : Entry) → entry_cmp a a ≡ Less → ⊥
own a h = let e : Less ≡ Equal = sym h ∙ tied_itself entry_total a in cc

-- no entry precedes itself
pub never : (way : Direction) (a : Entry) → EntryPrecedes way a a → ⊥
never Forward a h = own a h
never Backward a h = own a h

-- what precedes one that precedes another precedes that
pub chain : (way : Direction) (a b c : Entry) → EntryPrecedes way a b → EntryPrecedes way b c
    → EntryPrecedes way a c
chain Forward a b c h k = entry_total.trans a b c h k
chain Backward a b c h k = entry_total.trans c b a k h

-- of two entries not each precedes the other
pub not_both : (way : Direction) (a b : Entry) → EntryPrecedes way a b → EntryPrecedes way b a → ⊥
not_both way a b h k = never way a (chain way a b a h k)

greater : (a b : Entry) → entry_cmp a b ≡ Greater → entry_cmp b a ≡ Less
greater a b h = entry_total.antisymm b a ∙ ap ordering_reverse h

three : (a b : Entry) (r : Ordering) → entry_cmp a b ≡ r → (entry_cmp a b ≡ Less)
    ⊎ ((entry_cmp a b ≡ Equal) ⊎ (entry_cmp b a ≡ Less))
three a b Less h = inl h
three a b Equal h = inr (inl h)
three a b Greater h = inr (inr (greater a b h))

-- of two entries one precedes the other, or they are equal in order
pub cases : (way : Direction) (a b : Entry) → EntryPrecedes way a b
    ⊎ ((entry_cmp a b ≡ Equal) ⊎ EntryPrecedes way b a)
cases Forward a b = three a b (entry_cmp a b) refl
cases Backward a b = elim (three a b (entry_cmp a b) refl) [
  | inl h ↦ inr (inr h)
  | inr k ↦ elim k
      [ inl h ↦ inr (inl h) | inr h ↦ inl h ]
]

-- what precedes an entry precedes one that is equal to it in order
pub same_right : (way : Direction) (r a b : Entry) → entry_cmp a b ≡ Equal → EntryPrecedes way r a
    → EntryPrecedes way r b
same_right Forward r a b e h = sym (alike_right entry_total a b r e) ∙ h
same_right Backward r a b e h = sym (entry_total.congr a b r e) ∙ h

-- entries are equal in order both ways
pub equal_back : (a b : Entry) → entry_cmp a b ≡ Equal → entry_cmp b a ≡ Equal
equal_back a b e = entry_total.antisymm b a ∙ ap ordering_reverse e

-- of entries that are equal in order none precedes the other
pub equal_apart : (way : Direction) (a b : Entry) → entry_cmp a b ≡ Equal → EntryPrecedes way a b
    → ⊥
equal_apart way a b e h = never way a (same_right way a b a (equal_back a b e) h)

-- with P there is everything that comes after an entry with P
abbrev pub IsUpward : Direction → (Entry → Type 0) → Type 0
IsUpward way P = (a b : Entry) → P a → (EntryPrecedes way b a → ⊥) → P b

-- what comes after an entry goes on to the end
pub upward_after : (way : Direction) (entry : Entry) → IsUpward way (λ p. EntryPrecedes way entry p)
upward_after way entry a b h late = elim (cases way b a) [
  | inl k ↦ absurd (late k)
  | inr m ↦ elim m
      [ inl e ↦ same_right way entry a b (equal_back b a e) h | inr l ↦ chain way entry a b h l ]
]

-- what does not come before an entry goes on to the end
pub upward_from : (way : Direction) (entry : Entry) → IsUpward way (λ p. EntryPrecedes way p entry
    → ⊥)
upward_from way entry a b h late k =
    elim (cases way b a) [
      | inl m ↦ late m
      | inr m ↦ elim m [
        | inl e ↦ elim (cases way a entry) [
          | inl g ↦ h g
          | inr g ↦ elim g [
            | inl e2 ↦ late (same_right way b entry a (equal_back a entry e2) k)
            | inr l ↦ late
                (chain way b entry a k l)
          ]
        ]
        | inr l ↦ h (chain way a b entry l k)
      ]
    ]

-- what a walk meets goes on to the end
pub upward : (way : Direction) (start : WalkStart) → IsUpward way (WalkMeets way start)
upward way AtEnd = λ a b h late. tt
upward way (At entry) = upward_from way entry
upward way (After entry) = upward_after way entry
