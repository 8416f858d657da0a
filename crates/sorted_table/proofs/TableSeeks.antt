-- Seeks of a cursor over a table.
use Rattle.std.proofs.Common.{◌≡◌, ℕ, zero, suc, ◌+◌, ◌≤◌, ◌<◌, List, [], ◌∷◌, ◌++◌, length, map}
use Rattle.std.proofs.Common.{take, drop}
use Rattle.std.proofs.Common.{Option, Some, None, Bool, false, All, Ok, refl, sym, ap, subst, ◌∙◌}
use Rattle.std.proofs.Common.{arith}
use Rattle.std.proofs.Common.{◌⊎◌, inl, inr, get_or, length-append, take-append-drop}
use Rattle.std.proofs.lemmas.Grind.{flat_map-append}
use Rattle.std.specs.Rc.{rc_slice_items}
use Rattle.std.specs.List.{slice_get}
use Rattle.std.proofs.lemmas.List.{get_or-take, length-take, take_all}
use Rattle.std.proofs.lemmas.List.Elements.{recursion_from_All}
use Rattle.std.proofs.lemmas.Option.{get_or_from_slice_get, slice_get_past, slice_get_within}
use Rattle.disk.specs.{Slot}
use Rattle.byte_fields.specs.FieldsLemmas.{some_is}
use Rattle.byte_fields.specs.{StoredKey}
use Rattle.kv_types.specs.OrderLemmas.{Among, Rises, rises_from_AllPairs}
use Rattle.kv_types.specs.{Entry}
use Rattle.merge_iter.specs.declared.Direction.TheVariants.{Forward}
use Rattle.merge_iter.specs.{At, EntryPrecedes, MoveFinds, chain, spot}
use Rattle.table_format.specs.{AreRising, Block, block_bytes, block_entries, block_line}
use Rattle.table_format.specs.{block_lines}
use Rattle.table_format.specs.{data_bytes, end_spot, entries_of_blocks}
use Rattle.byte_fields.specs.declared.format.Format.{Format}
use Rattle.table_format.specs.declared.IndexLine.{IndexLine}
use Rattle.sorted_table.specs.declared.block_place.BlockPlace.{BlockPlace}
use Rattle.sorted_table.specs.BlockPlaces.{IsMovedTo, place_entry}
use Rattle.sorted_table.specs.EntrySplits.{SplitsEntries}
use Rattle.sorted_table.specs.RisingEntries.{in_order}
use Rattle.sorted_table.specs.Searches.{EndsEarlier, IsLinePlace}
use Rattle.sorted_table.specs.TableCursors.{FileHolds, HasLines, IsPlaceIn, entry_position}
use Rattle.sorted_table.specs.TableCursors.{table_position}
use Rattle.sorted_table.proofs.BlockNumbers.{around, line_of, some_of}
use Rattle.sorted_table.proofs.LineBlocks.{block_in, early_entries, rising_parts}
use Rattle.sorted_table.proofs.ListPositions.{sought_of}
use Rattle.sorted_table.proofs.TableFinds.{all, all_lines, all_rising, blocks, first_at}
use Rattle.sorted_table.proofs.TablePlaces.{count_of, entry_in, first_number, get_behind}
use Rattle.sorted_table.proofs.TablePlaces.{moved_in, number_of, parts_at, position_at}
use Rattle.sorted_table.proofs.TailsLemmas.{lines_rise}

-- ---- blocks before a line

early_lines : (lines : List IndexLine) (place : Entry) (n : ℕ) → n ≤ length lines
    → IsLinePlace lines place n → All (EndsEarlier place) (take n lines)
early_lines lines place n within at k d lt =
    let short : k < n = omega (arith, lt, length-take n lines) in
    subst (EndsEarlier place) (sym (get_or-take n lines k d short)) (at.0 k d (omega arith) short)

lines_before : (format : Format) (place : ℕ) (bs : List Block) (n : ℕ)
    → block_lines format place (take n bs) ≡ take n (block_lines format place bs)
lines_before format place [] zero = refl
lines_before format place [] (suc n) = refl
lines_before format place (b ∷ bs) zero = refl
lines_before format place (b ∷ bs) (suc n) =
    ap (λ l. block_line format place b ∷ l)
    (lines_before format (place + length (block_bytes format b)) bs n)

-- places before a number, and from it on
sides : (k n : ℕ) → (k < n) ⊎ ((j : ℕ) × (k ≡ n + j))
sides k zero = inr (k, omega arith)
sides zero (suc n) = inl (omega arith)
sides (suc k) (suc n) = elim (sides k n) [
  | inl lt ↦ inl (omega (arith, lt))
  | inr (j, is) ↦ inr (j, omega (arith, is))
]

among_ahead : (xs ys : List Entry) (k : ℕ) (e : Entry) → slice_get (xs ++ ys) k ≡ Some e
    → k < length xs → Among e xs
among_ahead [] ys k e at lt = absurd (omega (arith, lt))
among_ahead (x ∷ xs) ys zero e at lt = inl (some_is x e at)
among_ahead (x ∷ xs) ys (suc k) e at lt = inr (among_ahead xs ys k e at (omega (arith, lt)))

among_of : (xs : List Entry) (k : ℕ) (e : Entry) → slice_get xs k ≡ Some e → Among e xs
among_of [] k e at = absurd cc
among_of (x ∷ xs) zero e at = inl (some_is x e at)
among_of (x ∷ xs) (suc k) e at = inr (among_of xs k e at)

same_or_less : (n k : ℕ) → n ≤ k → (n ≡ k) ⊎ (n < k)
same_or_less n k le = grind arith

module _ (format : Format) (file : Slot) (lines : List IndexLine)
    (t : HasLines format file lines) (key : StoredKey) (number : ℕ)
  where
    abbrev sought : Entry
    sought = spot key number

    abbrev one_block : ℕ → Block → Type 0
    one_block n b = slice_get (blocks format file lines t) n ≡ Some b

    rising_lines : AreRising (map end_spot lines)
    rising_lines =
        subst (λ l. AreRising (map end_spot l)) (sym t.indexed)
        (lines_rise format t.bytes t.entries t.represents)

    -- the place of a search among the lines as they were lent
    pub line_place_in : (given : List IndexLine) (n : ℕ) → given ≡ lines
        → (AreRising (map end_spot given) → IsLinePlace given sought n) → IsLinePlace lines sought n
    line_place_in given n same place =
        subst (λ l. IsLinePlace l sought n) same
        (place (subst (λ l. AreRising (map end_spot l)) (sym same) rising_lines))

    block_rising : (n : ℕ) (b : Block) → one_block n b → AreRising (block_entries b)
    block_rising n b at =
        (block_in format t.bytes t.entries t.represents (take n (blocks format file lines t)) b
        (drop (suc n) (blocks format file lines t))
        (around (blocks format file lines t) n b at)).is_block.rising

    pub rising_at : (p : BlockPlace) (there : IsPlaceIn (blocks format file lines t) p)
        → AreRising (block_entries there.block)
    rising_at p there = block_rising p.line there.block there.present

    -- the entries before those of a line's block
    early_blocks : (n : ℕ) → n ≤ length lines → IsLinePlace lines sought n → (e : Entry)
        → Among e (entries_of_blocks (take n (blocks format file lines t)))
        → EntryPrecedes Forward e sought
    early_blocks n within at e a =
        let bs = blocks format file lines t in
        let whole : all format file lines t
        ≡ entries_of_blocks (take n bs) ++ entries_of_blocks (drop n bs) =
        ap entries_of_blocks (sym (take-append-drop n bs))
        ∙ flat_map-append block_entries (take n bs) (drop n bs) in
        let rises = (rising_parts (entries_of_blocks (take n bs)) (entries_of_blocks (drop n bs))
        (subst (Rises (EntryPrecedes Forward)) whole
        (rises_from_AllPairs (EntryPrecedes Forward) (all format file lines t)
        (all_rising format file lines t)))).front in
        let same : take n lines ≡ block_lines format 0 (take n bs) =
        ap (take n) t.indexed ∙ sym (lines_before format 0 bs n) in
        early_entries format 0 (take n bs) key number rises
        (recursion_from_All (EndsEarlier sought) (block_lines format 0 (take n bs))
        (subst (All (EndsEarlier sought)) same (early_lines lines sought n within at))) e a

    -- ends of all lines before the place
    pub all_early : (n : ℕ) → length lines ≤ n → n ≤ length lines → IsLinePlace lines sought n
        → SplitsEntries (all format file lines t) sought (length (all format file lines t))
    all_early n past within at = record {
      within = omega arith;
      before = λ k e lt here.
          let len = all_lines format file lines t in
          let same : take n (blocks format file lines t) ≡ blocks format file lines t =
          take_all n (blocks format file lines t) (omega (arith, past, len)) in
          early_blocks n within at e (subst (λ bs. Among e (entries_of_blocks bs)) (sym same)
          (among_of (all format file lines t) k e here));
      behind = λ k e le here precedes.
          let short = slice_get_within (all format file lines t) k e here in
          absurd (omega (arith, le, short));
    }

    pub splits_all : (n i : ℕ) (b : Block) → one_block n b → n ≤ length lines
        → IsLinePlace lines sought n → SplitsEntries (block_entries b) sought i
        → i < length (block_entries b)
        → SplitsEntries (all format file lines t) sought
        (first_number (blocks format file lines t) n + i)
    splits_all n i b here within at s few =
        let bs = blocks format file lines t in
        let first = first_number bs n in
        let x = some_of (block_entries b) i few in
        let x_at : slice_get (all format file lines t) (first + i) ≡ Some x.0 =
        entry_in bs n i b x.0 here x.1 in
        let late : EntryPrecedes Forward x.0 sought → ⊥ = s.behind i x.0 (omega arith) x.1 in
        record {
          within = let short = slice_get_within (all format file lines t) (first + i) x.0 x_at in
              omega (arith, short);
          before = λ k e lt e_at. elim (sides k first) [
            | inl ahead ↦ early_blocks n within at e
                (among_ahead (entries_of_blocks (take n bs)) _ k e
                (ap (λ l. slice_get l k) (sym (parts_at bs n b here)) ∙ e_at) ahead)
            | inr (j, is) ↦
                let less : j < i = omega (arith, is, lt) in
                let y = some_of (block_entries b) j (omega (arith, less, few)) in
                let y_at : slice_get (all format file lines t) (first + j) ≡ Some y.0 =
                entry_in bs n j b y.0 here y.1 in
                let same : y.0 ≡ e =
                some_is y.0 e (sym y_at ∙
                (ap (slice_get (all format file lines t)) (sym is) ∙ e_at)) in
                subst (λ z. EntryPrecedes Forward z sought) same (s.before j y.0 less y.1)
          ];
          behind = λ k e le e_at precedes. elim (same_or_less (first + i) k le) [
            | inl same ↦ late (subst (λ z. EntryPrecedes Forward z sought)
                (some_is e x.0 (sym e_at ∙
                (ap (slice_get (all format file lines t)) (sym same) ∙ x_at)))
                precedes)
            | inr less ↦ late (chain Forward x.0 e sought
                (in_order (all format file lines t) (first + i) k x.0 e
                (all_rising format file lines t) less x_at
                e_at) precedes)
          ];
        }

    -- a block does not end before the place
    ends_late : (n : ℕ) (b : Block) → one_block n b → IsLinePlace lines sought n
        → SplitsEntries (block_entries b) sought (length (block_entries b)) → ⊥
    ends_late n b here at s =
        let bs = blocks format file lines t in
        let last : slice_get (block_entries b) (length b.front + 0) ≡ Some b.last =
        get_behind b.front (b.last ∷ []) 0 in
        let early : EntryPrecedes Forward b.last sought =
        s.before (length b.front + 0) b.last
        (omega (arith, length-append b.front (b.last ∷ []))) last in
        let line = block_line format (0 + length (data_bytes format (take n bs))) b in
        let line_at : slice_get lines n ≡ Some line =
        ap (λ l. slice_get l n) t.indexed ∙ line_of format 0 bs n b here in
        let same : get_or lines n line ≡ line = get_or_from_slice_get lines n line line line_at in
        at.1 n line (omega arith) (slice_get_within lines n line line_at)
        (subst (EndsEarlier sought) (sym same) early)

    pub finds_sought : (n : ℕ) (p q : BlockPlace) → n ≤ length lines → IsLinePlace lines sought n
        → (there : IsPlaceIn (blocks format file lines t) p) → p.line ≡ n → IsMovedTo q.at p q
        → SplitsEntries (block_entries there.block) sought q.at
        → MoveFinds {R = Unit {0}} Forward (At sought) (FileHolds file) (Ok tt)
        (entry_position (place_entry q))
    finds_sought n p q within at there line m s =
        let bs = blocks format file lines t in
        let q_in = moved_in bs p q q.at m there in
        let inside = q.within in
        let count = count_of bs p there in
        let few : q.at < length (block_entries there.block) =
        omega (arith, inside, count, ap (λ b. length (rc_slice_items b.starts)) m.block) in
        let here : one_block n there.block = ap (slice_get bs) (sym line) ∙ there.present in
        let same : number_of bs q ≡ first_number bs n + q.at =
        ap (λ k. first_number bs k + q.at) (m.line ∙ line) in
        first_at format file lines t Forward (At sought) (entry_position (place_entry q))
        (first_number bs n + q.at)
        (position_at bs q q_in ∙ ap (λ k. entry_position (slice_get (all format file lines t) k))
        same)
        (sought_of (all format file lines t) sought (first_number bs n + q.at)
        (all_rising format file lines t)
        (splits_all n q.at there.block here within at s few))

    -- the block of the line has an entry that does not come before the place
    pub never_late : (n : ℕ) (p : BlockPlace) → IsLinePlace lines sought n
        → (there : IsPlaceIn (blocks format file lines t) p) → p.line ≡ n
        → SplitsEntries (block_entries there.block) sought (length (block_entries there.block)) → ⊥
    never_late n p at there line s =
        ends_late n there.block (ap (slice_get (blocks format file lines t)) (sym line)
        ∙ there.present) at s

    pub finds_none_sought : (n : ℕ) (failed : Bool) (place : Option BlockPlace) → n ≤ length lines
        → IsLinePlace lines sought n → length lines ≤ n → failed ≡ false → place ≡ None
        → MoveFinds {R = Unit {0}} Forward (At sought) (FileHolds file) (Ok tt)
        (table_position failed place)
    finds_none_sought n failed place within at past works off =
        let end = length (all format file lines t) in
        first_at format file lines t Forward (At sought) (table_position failed place) end
        (ap (table_position failed) off ∙ ap (λ f. table_position f None) works
        ∙ sym (ap entry_position (slice_get_past (all format file lines t) end (omega arith))))
        (sought_of (all format file lines t) sought end (all_rising format file lines t)
        (all_early n past within at))
