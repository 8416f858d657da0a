-- Searches from a key and number on, and onto an entry that is shown.
use Rattle.std.proofs.Common.{◌≡◌, ◌↔◌, ◌<◌, ℕ, inl, inr, refl, sym, ◌∙◌, ap, subst, arith, Result}
use Rattle.std.proofs.Common.{Ok, Err}
use Rattle.merge_iter.specs.declared.direction.Direction.TheVariants.{Forward, Backward}
use Rattle.merge_iter.specs.declared.error.CursorError.{CursorError}
use Rattle.merge_iter.specs.declared.mode.Mode.{Mode}
use Rattle.merge_iter.specs.declared.mode.Mode.TheVariants as mode
use Rattle.byte_fields.specs.{StoredKey}
use Rattle.kv_types.specs.{Entry, IsShown}
use Rattle.merge_iter.specs.Order.{spot, EntryPrecedes, IsApart}
use Rattle.merge_iter.specs.Positions.{Position, On, Off, Broken, At, After, WalkMeets, IsFirst}
use Rattle.merge_iter.specs.EntryOrder.{cases, never, chain, same_right}
use Rattle.merge_iter.specs.EntryParts.{equal_parts, numbers_fall, between}
use Rattle.merge_iter.specs.Unions.{same_first}
use Rattle.merge_iter.specs.ShownEntries.{IsSettled, IsFound, IsForward, view_position}

module _ (at : ℕ) (S : Entry → Type 0) where
  -- an entry that is shown and not before the number asked is not before the number read at
  not_before : (key : StoredKey) (number : ℕ) (p : Entry) → IsShown at S p
      → (EntryPrecedes Forward p (spot key number) → ⊥) → EntryPrecedes Forward p (spot key at) → ⊥
  not_before key number p sh late k =
      let same : p.key ≡ key = elim (cases Forward p (spot key number)) [
        | inl l ↦ absurd (late l)
        | inr m ↦ elim m [
          | inl e ↦ (equal_parts p (spot key number) e).0
          | inr l ↦ between (spot key number) p (spot key at) l k refl
        ]
      ] in
      let x = numbers_fall p (spot key at) k same in
      let y = sh.newest.seen.1 in
      let z : at < p.number = x in
      omega (arith, y, z)

  -- of the entries shown, those behind an early one are those from the number asked on
  early_alike : (key : StoredKey) (number : ℕ) (r : Entry) → IsShown at S r
      → (EntryPrecedes Forward r (spot key at) → ⊥) → EntryPrecedes Forward r (spot key number)
      → (p : Entry) → IsShown at S p → EntryPrecedes Forward r p
      ↔ (EntryPrecedes Forward p (spot key number) → ⊥)
  early_alike key number r sr from early p sp = (
    (λ l k.
        let N = spot key number in
        let rk : r.key ≡ key = elim (cases Forward r (spot key at)) [
          | inl m ↦ absurd (from m)
          | inr m ↦ elim m [
            | inl e ↦ (equal_parts r (spot key at) e).0
            | inr g ↦ between (spot key at) r N g early refl
          ]
        ] in
        let pk : p.key ≡ key = between r p N l k rk in
        let x = numbers_fall r p l (rk ∙ sym pk) in
        let y = sp.newest.newest r sr.newest.seen (rk ∙ sym pk) in
        omega (arith, x, y)),
    (λ late. elim (cases Forward r p) [
      | inl l ↦ l
      | inr m ↦ elim m [
        | inl e ↦ absurd (late (same_right Backward (spot key number) r p e early))
        | inr l ↦ absurd (late (chain Forward p r (spot key number) l early))
      ]
    ]),
  )

  -- what was found from the number of the view on is found from a greater number on
  pub late_found : (key : StoredKey) (number : ℕ) (m : Mode) (s : Position) (kept : Entry)
      → IsForward
      m → (m ≡ mode.Inner → (entry : Entry) → s ≡ On entry → EntryPrecedes Forward entry
      (spot key number) → ⊥)
      → IsFound Forward at S (At (spot key at)) (Ok m) s kept → IsFound Forward at S
      (At (spot key number)) (Ok m) s kept
  late_found key number mode.Inner (On r) kept fw late f = (
    (
      (f.0.0.0, late refl r refl),
      λ other h k. f.0.1 other (
        h.0,
        not_before key number other h.0
            h.1,
      ) k,
    ),
    f.1,
  )
  late_found key number mode.Inner Off kept fw late f =
      ((λ other h. f.0 other (h.0, not_before key number other h.0 h.1)), f.1)
  late_found key number mode.Inner Broken kept fw late f = absurd f.0
  late_found key number mode.Off s kept fw late f =
      ((λ other h. f.0 other (h.0, not_before key number other h.0 h.1)), tt)
  late_found key number mode.Kept s kept fw late f = absurd fw
  late_found key number mode.Broken s kept fw late f = absurd fw

  -- what was found after the shown entry of the key is found from there on
  pub early_found : (key : StoredKey) (number : ℕ) (r : Entry) → IsShown at S r
      → (EntryPrecedes Forward r (spot key at) → ⊥) → EntryPrecedes Forward r (spot key number)
      → (result : Result Mode CursorError) (s : Position) (kept : Entry) → IsFound Forward at S
      (After r) result s kept → IsFound Forward at S (At (spot key number)) result s kept
  early_found key number r sr from early (Ok m) s kept f = (
    same_first Forward (λ p. IsShown at S p × EntryPrecedes Forward r p)
        (λ p. IsShown at S p × (EntryPrecedes Forward p (spot key number) → ⊥))
        (view_position m s kept)
        (λ p. (
          (λ h. (h.0, (early_alike key number r sr from early p h.0).0 h.1)),
          (λ h. (h.0, (early_alike key number r sr from early p h.0).1 h.1)),
        )) f.0,
    f.1,
  )
  early_found key number r sr from early (Err e) s kept f = tt

  -- back on an entry of the set by its key and number
  pub seek_itself : IsApart S → (w : Entry) (s : Position) → S w → IsFirst Forward
      (λ p. S p × WalkMeets Forward (At (spot w.key w.number)) p) s → s ≡ On w
  seek_itself apart w (On r) h f = elim (cases Forward w r) [
    | inl k ↦ absurd (f.1 w (h, never Forward w) k)
    | inr k ↦ elim k [
      | inl e ↦ let same : w ≡ r = apart w r h f.0.0 e in ap On (sym same)
      | inr l ↦ absurd (f.0.1 l)
    ]
  ]
  seek_itself apart w Off h f = absurd (f w (h, never Forward w))
  seek_itself apart w Broken h f = absurd f

  -- where the cursor stands settled, its entry is shown
  pub shown_of : (m : Mode) (s : Position) (kept entry : Entry) → IsSettled at S m s kept
      → view_position m s kept ≡ On entry → IsShown at S entry
  shown_of mode.Inner s kept entry h e = let z : On h.0 ≡ On entry = sym h.1 ∙ e in
      let same : h.0 ≡ entry = cc in subst (λ (r : Entry). IsShown at S r) same h.2
  shown_of mode.Kept s kept entry h e = let z : On kept ≡ On entry = e in let same : kept ≡ entry =
      cc in subst (λ (r : Entry). IsShown at S r) same h.0
  shown_of mode.Off s kept entry h e = let z : Off ≡ On entry = e in cc
  shown_of mode.Broken s kept entry h e = let z : Broken ≡ On entry = e in cc
