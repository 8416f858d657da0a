-- Blocks at the front of bytes: the bytes determine them.
use Rattle.std.proofs.Common.{◌≡◌, ℕ, ◌+◌, ◌-◌, ◌≤◌, ◌<◌, ◌^◌, List, [], ◌∷◌, ◌++◌, length, Option}
use Rattle.std.proofs.Common.{Some, None}
use Rattle.std.proofs.Common.{refl, sym, ap, subst, ◌∙◌, arith, append_assoc, length-append}
use Rattle.std.specs.List.{flat_map, AllByRecursion}
use Rattle.std.specs.Int.{w16, w32, to_be_bytes, from_be_bytes}
use Rattle.std.proofs.Common.{take, drop}
use Rattle.std.proofs.lemmas.List.{take_at, drop_at}
use Rattle.std.proofs.lemmas.List.Concat.{flat_map-cons}
use Rattle.std.proofs.lemmas.Nat.{from_be_bytes-to_be_bytes_4}
use Rattle.byte_fields.specs.{key_bytes_in, many}
use Rattle.byte_fields.specs.ReadersLemmas.{many_again}
use Rattle.kv_types.specs.{Entry}
use Rattle.table_format.specs.EntriesLemmas.{entry_reads}
use Rattle.table_format.specs.SealedLemmas.{length-digest, length-sealed}
use Rattle.table_format.specs.Blocks.{IsEntryOf, be32, be64, block_content, block_part}
use Rattle.table_format.specs.Blocks.{change_bytes, digest, entries_bytes, entry_bytes}
use Rattle.table_format.specs.Reading.{table_entry_at}
use Rattle.table_format.specs.Tables.{Block, block_bytes, block_entries, data_bytes}
use Rattle.table_format.specs.Tables.{entries_of_blocks}
use Rattle.byte_fields.specs.declared.format.Format.{Format}

-- two texts with the same bytes and the same length in front are the same
pub split_same : {A : Type 0} (a b x y : List A) → length a ≡ length b → a ++ x ≡ b ++ y
    → (a ≡ b) × (x ≡ y)
split_same [] [] x y len e = (refl, e)
split_same [] (c ∷ b) x y len e = absurd (omega arith)
split_same (c ∷ a) [] x y len e = absurd (omega arith)
split_same (c ∷ a) (d ∷ b) x y len e =
    let heads : c ≡ d = cc in
    let tails : a ++ x ≡ b ++ y = cc in
    let below = split_same a b x y (omega arith) tails in
    let first = below.0 in
    (cc, below.1)

-- the numbers in front of two texts are the same
pub same_count : (m n : ℕ) (x y : List ℕ) → m < 2 ^ 32 → n < 2 ^ 32 → be32 m ++ x ≡ be32 n ++ y
    → (m ≡ n) × (x ≡ y)
same_count m n x y small_m small_n is =
    let s = split_same (be32 m) (be32 n) x y refl is in (
      sym (from_be_bytes-to_be_bytes_4 m small_m) ∙ ap (from_be_bytes w32) s.0
          ∙ from_be_bytes-to_be_bytes_4 n small_n,
      s.1,
    )

-- of equal options the values are equal
pub entry_some : {A : Type 0} (x y : A) → Some x ≡ Some y → x ≡ y
entry_some x y e = cc

-- entries in front of two texts, as many of them
pub same_entries : (format : Format) (a b : List Entry) (x y : List ℕ)
    → AllByRecursion (IsEntryOf format) a
    → AllByRecursion (IsEntryOf format) b → length a ≡ length b
    → flat_map (entry_bytes format) a ++ x ≡ flat_map (entry_bytes format) b ++ y
    → (a ≡ b) × (x ≡ y)
same_entries format a b x y is_a is_b len e =
    let one : many (table_entry_at format) (length a) (flat_map (entry_bytes format) a ++ x)
    ≡ Some (a, x) =
    many_again (entry_reads format) a x is_a in
    let two : many (table_entry_at format) (length b) (flat_map (entry_bytes format) b ++ y)
    ≡ Some (b, y) =
    many_again (entry_reads format) b y is_b in
    let moved : many (table_entry_at format) (length a) (flat_map (entry_bytes format) a ++ x)
    ≡ Some (b, y) =
    ap (λ (n : ℕ). many (table_entry_at format) n (flat_map (entry_bytes format) a ++ x)) len
    ∙ ap (many (table_entry_at format) (length b)) e ∙ two in
    let both : (a, x) ≡ (b, y) = entry_some (a, x) (b, y) (sym one ∙ moved) in
    (ap (λ (p : List Entry × List ℕ). p.0) both, ap (λ (p : List Entry × List ℕ). p.1) both)

change_long : (value : Option (List ℕ)) → 1 ≤ length (change_bytes value)
change_long (Some value) = omega (arith, length-append (to_be_bytes w16 (length value)) value)
change_long None = omega arith

-- a spelled entry has 9 bytes or more, whatever its key is
pub entry_long : (format : Format) (entry : Entry) → 9 ≤ length (entry_bytes format entry)
entry_long format entry =
    let changed : 1 ≤ length (change_bytes entry.value) = change_long entry.value in
    omega (
      arith,
      changed,
      length-append (key_bytes_in format entry.key)
          (be64 entry.number ++ change_bytes entry.value),
      length-append (be64 entry.number) (change_bytes entry.value),
    )

-- a block has fewer entries than bytes
pub few_entries : (format : Format) (entries : List Entry)
    → length entries ≤ length (flat_map (entry_bytes format) entries)
few_entries format [] = omega arith
few_entries format (entry ∷ entries) =
    let below = few_entries format entries in
    omega (
      arith,
      entry_long format entry,
      below,
      ap length (flat_map-cons (entry_bytes format) entry entries),
      length-append (entry_bytes format entry) (flat_map (entry_bytes format) entries),
    )

-- the length of the content of a block
pub length-block_content : (format : Format) (entries : List Entry)
    → length (block_content format entries) ≡ 4 + length (flat_map (entry_bytes format) entries)
length-block_content format entries =
    length-append (be32 (length entries)) (flat_map (entry_bytes format) entries)

-- the length of a block with its digest
pub length-block_part : (format : Format) (entries : List Entry)
    → length (block_part format entries) ≡ 12 + length (flat_map (entry_bytes format) entries)
length-block_part format entries =
    omega (arith, length-sealed (block_content format entries), length-block_content format entries)

-- no block begins another
pub same_block : (format : Format) (a b : List Entry) (x y : List ℕ)
    → AllByRecursion (IsEntryOf format) a
    → AllByRecursion (IsEntryOf format) b → length (block_part format a) < 2 ^ 32
    → length (block_part format b) < 2 ^ 32
    → block_part format a ++ x ≡ block_part format b ++ y → (a ≡ b) × (x ≡ y)
same_block format a b x y is_a is_b small_a small_b e =
    let ta = flat_map (entry_bytes format) a in
    let tb = flat_map (entry_bytes format) b in
    let da = digest (block_content format a) in
    let db = digest (block_content format b) in
    let regrouped : be32 (length a) ++ (ta ++ (da ++ x)) ≡ be32 (length b) ++ (tb ++ (db ++ y)) =
    sym (append_assoc (be32 (length a)) ta (da ++ x))
    ∙ sym (append_assoc (block_content format a) da x)
    ∙ e
    ∙ append_assoc (block_content format b) db y ∙ append_assoc (be32 (length b)) tb (db ++ y) in
    let few_a : length a < 2 ^ 32 = omega
    (arith, few_entries format a, length-block_part format a, small_a) in
    let few_b : length b < 2 ^ 32 = omega
    (arith, few_entries format b, length-block_part format b, small_b) in
    let counts = same_count (length a) (length b) (ta ++ (da ++ x)) (tb ++ (db ++ y)) few_a few_b
    regrouped in
    let entries = same_entries format a b (da ++ x) (db ++ y) is_a is_b counts.0 counts.1 in
    let ends = split_same da db x y
    (length-digest (block_content format a) ∙ sym (length-digest (block_content format b)))
    entries.1 in
    (entries.0, ends.1)

-- ---- blocks one behind the other

-- what holds of each of two lists one behind the other holds of each of both
pub split_each : {A : Type 0} (P : A → Type 0) (xs ys : List A) → AllByRecursion P (xs ++ ys)
    → AllByRecursion P xs × AllByRecursion P ys
split_each P [] ys each = (tt, each)
split_each P (x ∷ xs) ys each = let below = split_each P xs ys each.1 in
    ((each.0, below.0), below.1)

-- a block whose length fits its field
abbrev pub IsShortBlock : Format → Block → Type 0
IsShortBlock format block = length (block_bytes format block) < 2 ^ 32

-- data of the same length has the same blocks
pub same_data : (format : Format) (a b : List Block) → AllByRecursion (IsShortBlock format) a
    → AllByRecursion (IsShortBlock format) b
    → AllByRecursion (IsEntryOf format) (entries_of_blocks a)
    → AllByRecursion (IsEntryOf format) (entries_of_blocks b)
    → data_bytes format a ≡ data_bytes format b → entries_of_blocks a ≡ entries_of_blocks b
same_data format [] [] small_a small_b each_a each_b e = refl
same_data format [] (y ∷ b) small_a small_b each_a each_b e =
    let long = length-block_part format (block_entries y) in
    absurd (omega (
      arith,
      long,
      ap length (e ∙ flat_map-cons (block_bytes format) y b),
      length-append (block_bytes format y) (data_bytes format b),
    ))
same_data format (x ∷ a) [] small_a small_b each_a each_b e =
    let long = length-block_part format (block_entries x) in
    absurd (omega (
      arith,
      long,
      ap length (sym e ∙ flat_map-cons (block_bytes format) x a),
      length-append (block_bytes format x) (data_bytes format a),
    ))
same_data format (x ∷ a) (y ∷ b) small_a small_b each_a each_b e =
    let ja = flat_map-cons block_entries x a in
    let jb = flat_map-cons block_entries y b in
    let pa = split_each (IsEntryOf format) (block_entries x) (entries_of_blocks a)
    (subst (AllByRecursion (IsEntryOf format)) ja each_a) in
    let pb = split_each (IsEntryOf format) (block_entries y) (entries_of_blocks b)
    (subst (AllByRecursion (IsEntryOf format)) jb each_b) in
    let parts : block_bytes format x ++ data_bytes format a ≡ block_bytes format y
    ++ data_bytes format b =
    sym (flat_map-cons (block_bytes format) x a) ∙ e ∙ flat_map-cons (block_bytes format) y b in
    let first = same_block format (block_entries x) (block_entries y) (data_bytes format a)
    (data_bytes format b) pa.0 pb.0 small_a.0
    small_b.0 parts in
    let below = same_data format a b small_a.1 small_b.1 pa.1 pb.1 first.1 in
    ja ∙ ap (λ (r : List Entry). r ++ entries_of_blocks a) first.0
    ∙ ap (λ (r : List Entry). block_entries y ++ r) below
    ∙ sym jb

-- ---- the entries of a block

-- the entries of a block stand between their number and the digest
pub entries_there : (format : Format) (block : List ℕ) (entries : List Entry)
    → block ≡ block_part format entries
    → take (length block - 12) (drop 4 block) ≡ entries_bytes format entries
entries_there format block entries is =
    let text = entries_bytes format entries in
    let d = digest (block_content format entries) in
    let parts : block ≡ be32 (length entries) ++ (text ++ d) =
    is ∙ append_assoc (be32 (length entries)) text d in
    let len : length text ≡ length block - 12 =
    omega (arith, ap length is, length-block_part format entries) in
    ap (λ (b : List ℕ). take (length block - 12) (drop 4 b)) parts
    ∙ ap (take (length block - 12)) (drop_at (be32 (length entries)) (text ++ d) 4 refl)
    ∙ take_at text d (length block - 12) len

-- no block is shorter than its number and its digest
pub block_long : (format : Format) (block : List ℕ) (entries : List Entry)
    → block ≡ block_part format entries
    → 12 ≤ length block
block_long format block entries is = omega (arith, ap length is, length-block_part format entries)
