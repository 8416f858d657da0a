-- What moves of a cursor over a table find.
use Rattle.std.proofs.Common.{◌≡◌, ◌↔◌, ℕ, ◌+◌, ◌-◌, ◌≤◌, ◌<◌, List, length, Option, Some, None}
use Rattle.std.proofs.Common.{IfSome, IsSomeAnd}
use Rattle.std.proofs.Common.{Bool, false, Contains, Result, Ok, Err, OnOk, refl, sym, ap, subst}
use Rattle.std.proofs.Common.{◌∙◌, arith}
use Rattle.std.proofs.Common.{zero, suc, [], ◌∷◌, length-append}
use Rattle.std.specs.List.{slice_get}
use Rattle.std.specs.Rc.{rc_slice_items}
use Rattle.disk.specs.{Slot, seen}
use Rattle.kv_types.specs.{Entry}
use Rattle.merge_iter.specs.declared.CursorError.{CursorError}
use Rattle.merge_iter.specs.declared.Direction.{Direction}
use Rattle.merge_iter.specs.declared.Direction.TheVariants.{Forward, Backward}
use Rattle.merge_iter.specs.{After, AtEnd, IfOn, IsFirst, MoveFinds, Position, WalkMeets}
use Rattle.merge_iter.specs.{WalkStart}
use Rattle.table_format.specs.{AreRising, Block, TableRepresents, TableRepresentsIn}
use Rattle.table_format.specs.{entries_of_blocks}
use Rattle.byte_fields.specs.declared.format.Format.{Format}
use Rattle.table_format.specs.declared.IndexLine.{IndexLine}
use Rattle.sorted_table.specs.declared.block_place.BlockPlace.{BlockPlace}
use Rattle.sorted_table.specs.Open.{FileRepresents}
use Rattle.sorted_table.specs.BlockPlaces.{IsMovedTo, place_entry}
use Rattle.sorted_table.specs.TableCursorLaws.{one_list}
use Rattle.sorted_table.specs.TableCursors.{FileHolds, HasEntered, HasLines, IsPlaceIn}
use Rattle.sorted_table.specs.TableCursors.{entry_position, table_position}
use Rattle.sorted_table.proofs.BlockNumbers.{length-block_lines, some_of}
use Rattle.sorted_table.proofs.ListPositions.{first_alike, first_of_all, last_of_all, next_of}
use Rattle.sorted_table.proofs.ListPositions.{none_before, prev_of}
use Rattle.sorted_table.proofs.TablePlaces.{count_of, entered_backward, entered_forward, entry_at}
use Rattle.sorted_table.proofs.TablePlaces.{first_number, moved_in, number_at_end, number_behind}
use Rattle.sorted_table.proofs.TablePlaces.{number_of, position_at}

pub both_ok : {A E : Type 0} (result : Result A E) (P Q R : Type 0) → OnOk result P → OnOk result Q
    → (P → Q → R) → OnOk result R
both_ok (Ok x) P Q R p q f = f p q
both_ok (Err e) P Q R p q f = tt

pub here_of : {A : Type 0} (P : A → Type 0) (o : Option A) (x : A) → o ≡ Some x → IfSome o P → P x
here_of P o x is h = subst (λ p. IfSome p P) is h

represented : (format : Format) (file : Option (List ℕ)) (bytes : List ℕ) (entries : List Entry)
    → file ≡ Some bytes → TableRepresentsIn format bytes entries
    → IsSomeAnd file (λ bytes. TableRepresents bytes entries)
represented format file bytes entries is r =
    subst (λ f. IsSomeAnd f (λ bytes. TableRepresents bytes entries)) (sym is)
    (record { format = format; table = r })

module _ (format : Format) (file : Slot) (lines : List IndexLine)
    (t : HasLines format file lines) where
  abbrev pub blocks : List Block
  blocks = t.represents.blocks

  -- the entries of the table
  abbrev pub all : List Entry
  all = entries_of_blocks t.represents.blocks

  pub all_rising : AreRising all
  all_rising = subst AreRising t.represents.division t.represents.rising

  pub has_all : FileRepresents file all
  has_all =
      subst (FileRepresents file) t.represents.division
      (represented format (seen file) t.bytes t.entries t.present t.represents)

  pub holds_all : (e : Entry) → Contains all e ↔ FileHolds file e
  holds_all e = (
    λ has. (all, has_all, has),
    λ h. subst (λ l. Contains l e) (one_list file h.0 all h.1 has_all) h.2,
  )

  pub all_lines : length lines ≡ length blocks
  all_lines = ap length t.indexed ∙ length-block_lines format 0 blocks

  -- what is first among the table's entries is first among the file's
  pub first_held : (way : Direction) (start : WalkStart) (s : Position)
      → IsFirst way (λ e. Contains all e × WalkMeets way start e) s
      → IsFirst way (λ e. FileHolds file e × WalkMeets way start e) s
  first_held way start s first =
      first_alike way (λ e. Contains all e × WalkMeets way start e)
      (λ e. FileHolds file e × WalkMeets way start e) s
      (λ e. (
        (λ p. ((holds_all e).0 p.0, p.1)),
        (λ p. ((holds_all e).1 p.0, p.1)),
      )) first

  -- a position with its number among the entries
  pub first_at : (way : Direction) (start : WalkStart) (s : Position) (n : ℕ)
      → s ≡ entry_position (slice_get all n)
      → IsFirst way (λ e. Contains all e × WalkMeets way start e) (entry_position (slice_get all n))
      → IsFirst way (λ e. FileHolds file e × WalkMeets way start e) s
  first_at way start s n is first =
      first_held way start s
      (subst (IsFirst way (λ e. Contains all e × WalkMeets way start e)) (sym is) first)

  -- ---- ends

  pub finds_first : {R : Type 0} (result : Result R CursorError) (failed : Bool)
      (place : Option BlockPlace) → OnOk result
      ((failed ≡ false) × HasEntered lines 0 Forward place)
      → OnOk result (IfSome place (IsPlaceIn blocks))
      → MoveFinds Forward AtEnd (FileHolds file) result (table_position failed place)
  finds_first result failed place entered reads =
      both_ok result _ _ _ entered reads (λ e r.
      first_at Forward AtEnd (table_position failed place) 0
      (entered_forward format blocks lines 0 failed place t.indexed e.0 e.1 r)
      (first_of_all all all_rising))

  last_place : (n : ℕ) → n + 1 ≡ length lines → first_number blocks (n + 1) ≡ length all
  last_place n is = let len = all_lines in number_at_end blocks (n + 1) (omega (arith, is, len))

  some_entry : 1 ≤ length all
  some_entry = let some = t.represents.some in omega (arith, some, ap length t.represents.division)

  some_lines : (n : ℕ) → n ≡ length lines → 1 ≤ n
  some_lines zero is =
      let some = some_entry in
      let len = all_lines in
      let end = number_at_end blocks 0 (omega (arith, is, len)) in
      absurd (omega (arith, some, end))
  some_lines (suc n) is = omega arith

  some_line : 1 ≤ length lines
  some_line = some_lines (length lines) refl

  pub finds_last : {R : Type 0} (result : Result R CursorError) (n : ℕ) (failed : Bool)
      (place : Option BlockPlace) → n ≡ length lines - 1
      → OnOk result ((failed ≡ false) × HasEntered lines n Backward place)
      → OnOk result (IfSome place (IsPlaceIn blocks))
      → MoveFinds Backward AtEnd (FileHolds file) result (table_position failed place)
  finds_last result n failed place is entered reads =
      let some = some_line in
      let any = some_entry in
      let end = last_place n (omega (arith, is, some)) in
      both_ok result _ _ _ entered reads (λ e r.
      first_at Backward AtEnd (table_position failed place) (length all - 1)
      (entered_backward format blocks lines n (length all - 1) failed place t.indexed
      (omega (arith, is, some)) e.1 r (omega (arith, any, end)))
      (last_of_all all (length all - 1) all_rising (omega (arith, any))))

  -- ---- steps

  pub on_place : (failed : Bool) (o : Option BlockPlace) (p : BlockPlace) → o ≡ Some p
      → IfSome o (IsPlaceIn blocks) → (Q : Entry → Type 0)
      → (IsPlaceIn blocks p → (e : Entry) → slice_get all (number_of blocks p) ≡ Some e → Q e)
      → IfOn (table_position failed o) Q
  on_place failed o p is here Q f =
      let there : IsPlaceIn blocks p = here_of (IsPlaceIn blocks) o p is here in
      let e = entry_at blocks p there in
      subst (λ x. IfOn (table_position failed x) Q) (sym is)
      (subst (λ x. IfOn (entry_position x) Q) (sym e.is) (f there e.entry e.there))

  -- the next entry of the block
  pub finds_next_in : (failed : Bool) (o : Option BlockPlace) (p new : BlockPlace) → o ≡ Some p
      → IfSome o (IsPlaceIn blocks) → IsMovedTo (p.at + 1) p new
      → IfOn (table_position failed o) (λ e. MoveFinds {R = Unit {0}} Forward (After e)
      (FileHolds file) (Ok tt) (entry_position (place_entry new)))
  finds_next_in failed o p new is here m =
      on_place failed o p is here _ (λ there e at.
      let line = m.line in
      let step = m.at_number in
      let number : number_of blocks new ≡ number_of blocks p + 1 =
      ap (λ n. first_number blocks n + new.at) line
      ∙ omega (arith, step) in
      first_at Forward (After e) (entry_position (place_entry new)) (number_of blocks p + 1)
      (position_at blocks new (moved_in blocks p new (p.at + 1) m there)
      ∙ ap (λ n. entry_position (slice_get all n)) number)
      (next_of all (number_of blocks p) e all_rising at))

  -- the first entry of the next block
  pub finds_next_block : {R : Type 0} (result : Result R CursorError) (was : Bool)
      (o : Option BlockPlace) (p : BlockPlace) (n : ℕ) (failed : Bool) (place : Option BlockPlace)
      → o ≡ Some p → IfSome o (IsPlaceIn blocks) → p.at + 1 ≡ length (rc_slice_items p.block.starts)
      → n ≡ p.line + 1
      → OnOk result ((failed ≡ false) × HasEntered lines n Forward place)
      → OnOk result (IfSome place (IsPlaceIn blocks))
      → IfOn (table_position was o) (λ e. MoveFinds Forward (After e) (FileHolds file) result
      (table_position failed place))
  finds_next_block result was o p n failed place is here last line entered reads =
      on_place was o p is here _ (λ there e at.
      let count = count_of blocks p there in
      let behind = number_behind blocks p.line n there.block line there.present in
      let number : first_number blocks n ≡ number_of blocks p + 1 =
      omega (arith, behind, count, last) in
      both_ok result _ _ _ entered reads (λ f r.
      first_at Forward (After e) (table_position failed place) (number_of blocks p + 1)
      (entered_forward format blocks lines n failed place t.indexed f.0 f.1 r
      ∙ ap (λ k. entry_position (slice_get all k)) number)
      (next_of all (number_of blocks p) e all_rising at)))

  -- the entry before in the block
  pub finds_prev_in : (failed : Bool) (o : Option BlockPlace) (p new : BlockPlace) → o ≡ Some p
      → IfSome o (IsPlaceIn blocks) → IsMovedTo (p.at - 1) p new → 0 < p.at
      → IfOn (table_position failed o) (λ e. MoveFinds {R = Unit {0}} Backward (After e)
      (FileHolds file) (Ok tt) (entry_position (place_entry new)))
  finds_prev_in failed o p new is here m some =
      on_place failed o p is here _ (λ there e at.
      let step = m.at_number in
      let number : number_of blocks new + 1 ≡ number_of blocks p =
      ap (λ n. first_number blocks n + new.at + 1) m.line
      ∙ omega (arith, step, some) in
      first_at Backward (After e) (entry_position (place_entry new)) (number_of blocks new)
      (position_at blocks new (moved_in blocks p new (p.at - 1) m there))
      (prev_of all (number_of blocks new) e all_rising
      (subst (λ n. slice_get all n ≡ Some e) (sym number) at)))

  -- none before the first entry of the first block
  pub finds_none_before : (failed : Bool) (o : Option BlockPlace) (p : BlockPlace)
      (place : Option BlockPlace) → o ≡ Some p → IfSome o (IsPlaceIn blocks) → p.line ≡ 0
      → p.at ≡ 0 → place ≡ None
      → IfOn (table_position failed o) (λ e. MoveFinds {R = Unit {0}} Backward (After e)
      (FileHolds file) (Ok tt) (table_position false place))
  finds_none_before failed o p place is here line first off =
      on_place failed o p is here _ (λ there e at.
      let number : number_of blocks p ≡ 0 =
      ap (λ n. first_number blocks n + p.at) line ∙ ap (λ n. 0 + n) first in
      first_held Backward (After e) (table_position false place)
      (subst (λ q. IsFirst Backward (λ x. Contains all x × WalkMeets Backward (After e) x)
      (table_position false q)) (sym off)
      (none_before all e all_rising (subst (λ n. slice_get all n ≡ Some e) number at))))

  -- a block has an entry, so some stand before the block behind it
  some_before : (n : ℕ) → n < length lines → 1 ≤ first_number blocks (n + 1)
  some_before n within =
      let len = all_lines in
      let b = some_of blocks n (omega (arith, within, len)) in
      omega (
        arith,
        number_behind blocks n (n + 1) b.0 refl b.1,
        length-append b.0.front (b.0.last ∷ []),
      )

  -- the last entry of the block before
  pub finds_prev_block : {R : Type 0} (result : Result R CursorError) (was : Bool)
      (o : Option BlockPlace) (p : BlockPlace) (n : ℕ) (failed : Bool) (place : Option BlockPlace)
      → o ≡ Some p → IfSome o (IsPlaceIn blocks) → p.line ≡ n + 1 → p.at ≡ 0
      → p.line < length lines
      → OnOk result ((failed ≡ false) × HasEntered lines n Backward place)
      → OnOk result (IfSome place (IsPlaceIn blocks))
      → IfOn (table_position was o) (λ e. MoveFinds Backward (After e) (FileHolds file) result
      (table_position failed place))
  finds_prev_block result was o p n failed place is here line first within entered reads =
      on_place was o p is here _ (λ there e at.
      let before : n < length lines = omega (arith, line, within) in
      let some = some_before n before in
      let m = first_number blocks (n + 1) - 1 in
      let number : number_of blocks p ≡ m + 1 =
      ap (λ k. first_number blocks k + p.at) line ∙ omega (arith, first, some) in
      both_ok result _ _ _ entered reads (λ f r.
      first_at Backward (After e) (table_position failed place) m
      (entered_backward format blocks lines n m failed place t.indexed before f.1 r
      (omega (arith, some)))
      (prev_of all m e all_rising (subst (λ k. slice_get all k ≡ Some e) number at))))
