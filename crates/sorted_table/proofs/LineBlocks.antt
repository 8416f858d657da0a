-- The block of an index line, in the file and among the entries.
use Rattle.std.proofs.Common.{◌≡◌, ℕ, ◌+◌, ◌≤◌, List, [], ◌∷◌, ◌++◌, length, take, drop}
use Rattle.std.proofs.Common.{refl, sym, ap, subst, ◌∙◌, arith, append_assoc, length-append, ◌⊎◌}
use Rattle.std.proofs.Common.{inl, inr}
use Rattle.std.specs.List.{AllByRecursion}
use Rattle.std.proofs.lemmas.List.{take_at, drop_at}
use Rattle.std.proofs.lemmas.Grind.{flat_map-append}
use Rattle.std.proofs.lemmas.List.Concat.{flat_map-cons}
use Rattle.std.proofs.lemmas.List.Elements.{All-from_recursion, recursion_from_All}
use Rattle.byte_fields.specs.{StoredKey}
use Rattle.kv_types.specs.OrderLemmas.{Among, Rises, rises_from_AllPairs, AllPairs-rises}
use Rattle.kv_types.specs.{Entry}
use Rattle.merge_iter.specs.{EntryPrecedes, chain, spot}
use Rattle.merge_iter.specs.declared.Direction.TheVariants.{Forward}
use Rattle.table_format.specs.FrontsLemmas.{IsShortBlock, few_entries, length-block_part}
use Rattle.table_format.specs.FrontsLemmas.{split_each}
use Rattle.table_format.specs.{Block, IsBlock, IsEntryOf, TableRepresentsIn, block_bytes}
use Rattle.table_format.specs.{block_entries, block_line, block_lines}
use Rattle.table_format.specs.{data_bytes, entries_of_blocks, filter_part, footer_part, index_part}
use Rattle.table_format.specs.{table_footer}
use Rattle.byte_fields.specs.declared.format.Format.{Format}
use Rattle.table_format.specs.declared.IndexLine.{IndexLine}
use Rattle.sorted_table.specs.Searches.{EndsEarlier, IsEarlier}

abbrev Up : Entry → Entry → Type 0
Up = EntryPrecedes Forward

-- ---- parts of lists

pub among_left : {A : Type 0} (xs ys : List A) (x : A) → Among x xs → Among x (xs ++ ys)
among_left [] ys x a = absurd a
among_left (z ∷ xs) ys x (inl e) = inl e
among_left (z ∷ xs) ys x (inr a) = inr (among_left xs ys x a)

pub among_right : {A : Type 0} (xs ys : List A) (y : A) → Among y ys → Among y (xs ++ ys)
among_right [] ys y a = a
among_right (x ∷ xs) ys y a = inr (among_right xs ys y a)

pub record RisingParts (xs ys : List Entry) : Type 0 where
  pub front : Rises (EntryPrecedes Forward) xs
  pub back : Rises (EntryPrecedes Forward) ys
  pub across : (x y : Entry) → Among x xs → Among y ys → EntryPrecedes Forward x y

pub rising_parts : (xs ys : List Entry) → Rises (EntryPrecedes Forward) (xs ++ ys)
    → RisingParts xs ys
rising_parts [] ys rises = record { front = tt; back = rises; across = λ x y a b. absurd a }
rising_parts (z ∷ xs) ys rises =
    let below = rising_parts xs ys rises.1 in
    record {
      front = (λ y a. rises.0 y (among_left xs ys y a), below.front);
      back = below.back;
      across = λ x y a b. elim a [
        | inl e ↦ subst (λ (r : Entry). Up r y) e (rises.0 y (among_right xs ys y b))
        | inr c ↦ below.across x y c b
      ];
    }

pub last_there : (b : Block) → Among b.last (block_entries b)
last_there b = among_right b.front (b.last ∷ []) b.last (inl refl)

-- ---- the block of a line

-- the blocks before that of a line, it, and those behind it
pub record BlockOf (format : Format) (place : ℕ) (blocks : List Block) (before : List IndexLine)
    (line : IndexLine)
    : Type 0 where
  pub done : List Block
  pub block : Block
  pub others : List Block
  pub split : blocks ≡ done ++ block ∷ others
  pub lines : before ≡ block_lines format place done
  pub is : line ≡ block_line format (place + length (data_bytes format done)) block

data_size : (format : Format) (b : Block) (blocks : List Block)
    → length (data_bytes format (b ∷ blocks)) ≡ length (block_bytes format b) + length
    (data_bytes format blocks)
data_size format b blocks =
    ap length (flat_map-cons (block_bytes format) b blocks)
    ∙ length-append (block_bytes format b) (data_bytes format blocks)

pub block_of : (format : Format) (place : ℕ) (blocks : List Block) (before : List IndexLine)
    (line : IndexLine)
    (after : List IndexLine) → block_lines format place blocks ≡ before ++ line ∷ after
    → BlockOf format place blocks before line
block_of format place [] [] line after e = absurd cc
block_of format place [] (x ∷ before) line after e = absurd cc
block_of format place (b ∷ blocks) [] line after e =
    let first : block_line format place b ≡ line = cc in
    record {
      done = [];
      block = b;
      others = blocks;
      split = refl;
      lines = refl;
      is = sym first ∙ ap (λ (p : ℕ). block_line format p b) (omega arith);
    }
block_of format place (b ∷ blocks) (x ∷ before) line after e =
    let first : block_line format place b ≡ x = cc in
    let rest : block_lines format (place + length (block_bytes format b)) blocks ≡ before
    ++ line ∷ after = cc in
    let below = block_of format (place + length (block_bytes format b)) blocks before line after
    rest in
    let at : place + length (block_bytes format b) + length (data_bytes format below.done)
    ≡ place + length (data_bytes format (b ∷ below.done)) = omega
    (arith, data_size format b below.done) in
    record {
      done = b ∷ below.done;
      block = below.block;
      others = below.others;
      split = ap (λ (l : List Block). b ∷ l) below.split;
      lines = ap (λ (l : IndexLine). l ∷ before) (sym first)
          ∙ ap (λ (l : List IndexLine). block_line format place b ∷ l) below.lines;
      is = below.is ∙ ap (λ (p : ℕ). block_line format p below.block) at;
    }

-- the block of a line of a table: it is in the file, and its entries are among the table's
pub record LineBlock (format : Format) (bytes : List ℕ) (entries : List Entry)
    (before : List IndexLine)
    (line : IndexLine) : Type 0 where
  pub done : List Block
  pub block : Block
  pub others : List Block
  pub lines : before ≡ block_lines format 0 done
  pub is : line ≡ block_line format (length (data_bytes format done)) block
  pub split : entries
      ≡ entries_of_blocks done ++ (block_entries block ++ entries_of_blocks others)
  pub is_block : IsBlock format (take line.len (drop line.place bytes)) (block_entries block)
  pub within : line.place + line.len ≤ length bytes

-- a block of a table, behind some and before some: it is in the file, and its entries are among the
-- table's
pub record BlockIn (format : Format) (bytes : List ℕ) (entries : List Entry) (done : List Block)
    (block : Block)
    (others : List Block) : Type 0 where
  pub split : entries
      ≡ entries_of_blocks done ++ (block_entries block ++ entries_of_blocks others)
  pub is_block : IsBlock format
      (take (length (block_bytes format block)) (drop (length (data_bytes format done)) bytes))
      (block_entries block)
  pub within : length (data_bytes format done) + length (block_bytes format block) ≤ length bytes

pub block_in : (format : Format) (bytes : List ℕ) (entries : List Entry)
    (s : TableRepresentsIn format bytes entries)
    (done : List Block) (block : Block) (others : List Block)
    → s.blocks ≡ done ++ block ∷ others → BlockIn format bytes entries done block others
block_in format bytes entries s done block others parted =
    let one = block_entries block in
    let text = block_bytes format block in
    let place = length (data_bytes format done) in
    let len = length text in
    let tail = filter_part s.filter ++ (index_part format (block_lines format 0 s.blocks)
    ++ footer_part (table_footer format s.blocks s.filter)) in
    let blocks : data_bytes format s.blocks ≡ data_bytes format done
    ++ (text ++ data_bytes format others) =
    ap (data_bytes format) parted ∙ flat_map-append (block_bytes format) done (block ∷ others)
    ∙ ap (λ (l : List ℕ). data_bytes format done ++ l)
    (flat_map-cons (block_bytes format) block others) in
    let spelled : bytes ≡ data_bytes format done ++ (text ++ (data_bytes format others ++ tail)) =
    s.spelled ∙ ap (λ (l : List ℕ). l ++ tail) blocks
    ∙ append_assoc (data_bytes format done) (text ++ data_bytes format others) tail
    ∙ ap (λ (l : List ℕ). data_bytes format done ++ l)
    (append_assoc text (data_bytes format others) tail) in
    let there : take len (drop place bytes) ≡ text =
    ap (λ (b : List ℕ). take len (drop place b)) spelled
    ∙ ap (take len) (drop_at (data_bytes format done) (text ++ (data_bytes format others ++ tail))
    place refl)
    ∙ take_at text (data_bytes format others ++ tail) len refl in
    let all : entries ≡ entries_of_blocks done ++ (one ++ entries_of_blocks others) =
    s.division ∙ ap entries_of_blocks parted
    ∙ flat_map-append block_entries done (block ∷ others)
    ∙ ap (λ (l : List Entry). entries_of_blocks done ++ l)
    (flat_map-cons block_entries block others) in
    let rises = subst (Rises Up) all (rises_from_AllPairs Up entries s.rising) in
    let back = (rising_parts (entries_of_blocks done) (one ++ entries_of_blocks others) rises).back
    in
    let each = split_each (IsEntryOf format) (entries_of_blocks done)
    (one ++ entries_of_blocks others)
    (subst (AllByRecursion (IsEntryOf format)) all
    (recursion_from_All (IsEntryOf format) entries s.each)) in
    let small = (split_each (IsShortBlock format) done (block ∷ others)
    (subst (AllByRecursion (IsShortBlock format)) parted
    (recursion_from_All (IsShortBlock format) s.blocks s.fits.each))).1.0 in
    record {
      split = all;
      is_block = record {
        spelled = there;
        some = omega (arith, length-append block.front (block.last ∷ []));
        few = omega (arith, few_entries format one, length-block_part format one, small);
        each = All-from_recursion (IsEntryOf format) one
            (split_each (IsEntryOf format) one (entries_of_blocks others) each.1).0;
        rising = AllPairs-rises Up one (rising_parts one (entries_of_blocks others) back).front;
      };
      within = omega (
        arith,
        ap length spelled,
        length-append (data_bytes format done) (text ++ (data_bytes format others ++ tail)),
        length-append text (data_bytes format others ++ tail),
      );
    }

pub line_block : (format : Format) (bytes : List ℕ) (entries : List Entry)
    (s : TableRepresentsIn format bytes entries)
    (before : List IndexLine) (line : IndexLine) (after : List IndexLine)
    → block_lines format 0 s.blocks ≡ before ++ line ∷ after
    → LineBlock format bytes entries before line
line_block format bytes entries s before line after e =
    let p = block_of format 0 s.blocks before line after e in
    let b = block_in format bytes entries s p.done p.block p.others p.split in
    let is : line ≡ block_line format (length (data_bytes format p.done)) p.block =
    p.is ∙ ap (λ (n : ℕ). block_line format n p.block) (omega arith) in
    record {
      done = p.done;
      block = p.block;
      others = p.others;
      lines = p.lines;
      is = is;
      split = b.split;
      is_block = subst (λ (l : IndexLine). IsBlock format (take l.len (drop l.place bytes))
          (block_entries p.block)) (sym is) b.is_block;
      within = subst (λ (l : IndexLine). l.place + l.len ≤ length bytes) (sym is) b.within;
    }

-- ---- blocks that end before a spot

in_two : (xs ys : List Entry) (z : Entry) → Among z (xs ++ ys) → Among z xs ⊎ Among z ys
in_two [] ys z a = inr a
in_two (x ∷ xs) ys z (inl e) = inl (inl e)
in_two (x ∷ xs) ys z (inr a) =
    elim (in_two xs ys z a) [ inl b ↦ inl (inr b) | inr c ↦ inr c ]

-- an entry of a block that ends before the spot
early_in : (b : Block) (key : StoredKey) (at : ℕ) → Rises (EntryPrecedes Forward) (block_entries b)
    → IsEarlier (spot key at) b.last → (z : Entry) → Among z (block_entries b)
    → IsEarlier (spot key at) z
early_in b key at rises last z a = elim (in_two b.front (b.last ∷ []) z a) [
  | inl front ↦ chain Forward z b.last (spot key at)
      ((rising_parts b.front (b.last ∷ []) rises).across z b.last front (inl refl)) last
  | inr there ↦ elim there [
    | inl e ↦ subst (IsEarlier (spot key at)) e last
    | inr none ↦ absurd none
  ]
]

-- entries of blocks that end before the spot
pub early_entries : (format : Format) (place : ℕ) (done : List Block) (key : StoredKey) (at : ℕ)
    → Rises (EntryPrecedes Forward) (entries_of_blocks done)
    → AllByRecursion (EndsEarlier (spot key at)) (block_lines format place done)
    → (z : Entry) → Among z (entries_of_blocks done) → IsEarlier (spot key at) z
early_entries format place [] key at rises early z a = absurd a
early_entries format place (b ∷ done) key at rises early z a =
    let cut = flat_map-cons block_entries b done in
    let parts = rising_parts (block_entries b) (entries_of_blocks done)
    (subst (Rises Up) cut rises) in
    elim (in_two (block_entries b) (entries_of_blocks done) z (subst (Among z) cut a)) [
      | inl mine ↦ early_in b key at parts.front early.0 z mine
      | inr below ↦ early_entries format (place + length (block_bytes format b)) done key at
          parts.back early.1 z
          below
    ]
