-- What becomes of kept blocks where numbers or blocks change.
use Rattle.std.proofs.Common.{◌≡◌, ◌+◌, ◌⊎◌, inl, inr, ℕ, nat_eq, arith}
use Rattle.std.proofs.Common.{Bool, true, false, ◌&&◌, cond}
use Rattle.std.proofs.Common.{Option, Some, None, Result, Ok, Err, OnOk, OnErr}
use Rattle.std.proofs.Common.{List, Contains, refl, sym, ap, subst, ◌∙◌}
use Rattle.std.proofs.lemmas.Bool.{eqb-true}
use Rattle.std.proofs.lemmas.Map.Lookups.{exact_unsigned}
use Rattle.std.proofs.lemmas.Map.Views.{tells_apart}
use Rattle.std.specs.Ordering.{nat_cmp}
use Rattle.std.specs.BTreeMap.{BTreeMap, get, is_at, Updates}
use Rattle.std.specs.Map.{lookup}
use Rattle.std.specs.Rc.{rc_slice_items}
use Rattle.lru.specs.LruCache.{LruCache, lru_cache, put_entries, promoted}
use Rattle.lru.proofs.CallerLemmas.{Contains-lookup, Contains-promoted, Contains-put_entries}
use Rattle.byte_fields.specs.declared.format.Format.{Format}
use Rattle.table_files.specs.declared.block.CheckedBlock.{CheckedBlock}
use Rattle.table_files.specs.Kept.{NumberedBlocks, NumbersDiffer, NumbersAreBelow, IsKeptBlock}

-- ---- keys of blocks

-- whether a key of the cache is this one
abbrev pub is_key : ℕ × ℕ → ℕ × ℕ → Bool
is_key a b = nat_eq a.0 b.0 && nat_eq a.1 b.1

both_true : (a b : Bool) → (a && b) ≡ true → (a ≡ true) × (b ≡ true)
both_true true b e = (refl, e)
both_true false b e = absurd cc

abbrev pair : ℕ → ℕ → ℕ × ℕ
pair a b = (a, b)

pairs : (a b c d : ℕ) → a ≡ b → c ≡ d → pair a c ≡ pair b d
pairs a b c d p q = cc

same_key : (number place : ℕ) (k : ℕ × ℕ) → is_key (number, place) k ≡ true → k ≡ (number, place)
same_key number place k e =
    let p = both_true (nat_eq number k.0) (nat_eq place k.1) e in
    sym (pairs number k.0 place k.1 (eqb-true number k.0 p.0) (eqb-true place k.1 p.1))

-- ---- fewer numbers and fewer blocks

-- the numbers of files that have not changed
abbrev pub NumbersStay : BTreeMap ℕ ℕ → BTreeMap ℕ ℕ → Type 0
NumbersStay old new = (file number : ℕ) → get nat_cmp new file ≡ Some number
    → get nat_cmp old file ≡ Some number

none_at : (b : Bool) (o : Option ℕ) (number : ℕ) → cond b None o ≡ Some number → o ≡ Some number
none_at true o number e = absurd cc
none_at false o number e = e

-- a removal leaves the other numbers
pub removed : (old new : BTreeMap ℕ ℕ) (file : ℕ) → Updates nat_cmp old new file None
    → NumbersStay old new
removed old new file updates = λ other number e.
    none_at (is_at (nat_cmp file) other) (get nat_cmp old other) number
    (sym (updates.0 other) ∙ e)

-- a block under a number that stayed
pub fewer_numbers : (old new : BTreeMap ℕ ℕ) (blocks : NumberedBlocks) (file place : ℕ)
    (format : Format) (bytes : List ℕ) → NumbersStay old new
    → IsKeptBlock new blocks file place format bytes
    → IsKeptBlock old blocks file place format bytes
fewer_numbers old new blocks file place format bytes stay k = record {
  number = k.number;
  block = k.block;
  known = stay file k.number k.known;
  kept = k.kept;
  read_in = k.read_in;
  spelled = k.spelled;
}

-- the file itself has none left
pub none_left : (old new : BTreeMap ℕ ℕ) (blocks : NumberedBlocks) (file place : ℕ)
    (format : Format) (bytes : List ℕ) → Updates nat_cmp old new file None
    → IsKeptBlock new blocks file place format bytes → ⊥
none_left old new blocks file place format bytes updates k =
    let none : None ≡ Some k.number = sym updates.1 ∙ k.known in cc

-- a block that is moved to the front
pub promoted_kept : (numbers : BTreeMap ℕ ℕ) (blocks : NumberedBlocks) (test : ℕ × ℕ → Bool)
    (file place : ℕ) (format : Format) (bytes : List ℕ)
    → IsKeptBlock numbers (promoted test blocks) file place format bytes
    → IsKeptBlock numbers blocks file place format bytes
promoted_kept numbers blocks test file place format bytes k = record {
  number = k.number;
  block = k.block;
  known = k.known;
  kept = Contains-promoted test blocks ((k.number, place), k.block) k.kept;
  read_in = k.read_in;
  spelled = k.spelled;
}

pub promoted_below : (numbers : BTreeMap ℕ ℕ) (blocks : NumberedBlocks) (test : ℕ × ℕ → Bool)
    (next : ℕ) → NumbersAreBelow numbers blocks next
    → NumbersAreBelow numbers (promoted test blocks) next
promoted_below numbers blocks test next below = (
  below.0,
  λ number place block c.
      below.1 number place block (Contains-promoted test blocks ((number, place), block) c),
)

-- a block that is found
pub found_kept : (numbers : BTreeMap ℕ ℕ) (blocks : NumberedBlocks) (file number place : ℕ)
    (format : Format) (block copy : CheckedBlock) → get nat_cmp numbers file ≡ Some number
    → lookup (is_key (number, place)) blocks ≡ Some block
    → block.format ≡ format → rc_slice_items copy.bytes ≡ rc_slice_items block.bytes
    → IsKeptBlock numbers blocks file place format (rc_slice_items copy.bytes)
found_kept numbers blocks file number place format block copy known found read_in same =
    let h = Contains-lookup (is_key (number, place)) blocks block found in
    record {
      number = number;
      block = block;
      known = known;
      kept = subst (λ (k : ℕ × ℕ). Contains blocks (k, block)) (same_key number place h.0 h.2) h.1;
      read_in = read_in;
      spelled = sym same;
    }

-- ---- a new number

-- the new number is of the file, and the other numbers are the old ones
added : (old new : BTreeMap ℕ ℕ) (file next : ℕ) → Updates nat_cmp old new file (Some next)
    → (other number : ℕ) → get nat_cmp new other ≡ Some number
    → ((other ≡ file) × (number ≡ next)) ⊎ (get nat_cmp old other ≡ Some number)
added old new file next updates other number e =
    (elim (is_at (nat_cmp file) other) as (λ b. is_at (nat_cmp file) other ≡ b
    → cond b (Some next) (get nat_cmp old other) ≡ Some number
    → ((other ≡ file) × (number ≡ next)) ⊎ (get nat_cmp old other ≡ Some number)) [
      | true ↦ λ at same. inl (sym (tells_apart exact_unsigned file other at), cc)
      | false ↦ λ at same. inr same
    ]) refl (sym (updates.0 other) ∙ e)

pub added_differ : (old new : BTreeMap ℕ ℕ) (blocks : NumberedBlocks) (file next : ℕ)
    → Updates nat_cmp old new file (Some next) → NumbersDiffer old
    → NumbersAreBelow old blocks next → NumbersDiffer new
added_differ old new blocks file next updates differ below = λ a b number p q.
    elim (added old new file next updates a number p) [
      | inl x ↦ elim (added old new file next updates b number q) [
        | inl y ↦ x.0 ∙ sym y.0
        | inr y ↦ absurd (omega (arith, below.0 b number y, x.1))
      ]
      | inr x ↦ elim (added old new file next updates b number q) [
        | inl y ↦ absurd (omega (arith, below.0 a number x, y.1))
        | inr y ↦ differ a b number x y
      ]
    ]

pub added_below : (old new : BTreeMap ℕ ℕ) (blocks : NumberedBlocks) (file next : ℕ)
    → Updates nat_cmp old new file (Some next) → NumbersAreBelow old blocks next
    → (above : ℕ) → above ≡ next + 1 → NumbersAreBelow new blocks above
added_below old new blocks file next updates below above is = (
  λ a number p. elim (added old new file next updates a number p) [
    | inl x ↦ omega (arith, x.1)
    | inr x ↦ omega (arith, below.0 a number x)
  ],
  λ number place block c. omega (arith, below.1 number place block c),
)

-- no block has the new number
pub added_kept : (old new : BTreeMap ℕ ℕ) (blocks : NumberedBlocks) (file next : ℕ)
    → Updates nat_cmp old new file (Some next) → NumbersAreBelow old blocks next
    → (f p : ℕ) (format : Format) (bytes : List ℕ) → IsKeptBlock new blocks f p format bytes
    → IsKeptBlock old blocks f p format bytes
added_kept old new blocks file next updates below f p format bytes k =
    elim (added old new file next updates f k.number k.known) [
      | inl x ↦ absurd (omega (arith, below.1 k.number p k.block k.kept, x.1))
      | inr x ↦ record {
        number = k.number;
        block = k.block;
        known = x;
        kept = k.kept;
        read_in = k.read_in;
        spelled = k.spelled;
      }
    ]

-- the numbers of a map with the same entries
pub unchanged : (old new : BTreeMap ℕ ℕ) → new.entries ≡ old.entries → NumbersStay old new
unchanged old new same file number e =
    ap (λ (es : List (ℕ × ℕ)). lookup (is_at (nat_cmp file)) es) (sym same) ∙ e

-- ---- a block more

abbrev pub Blocks : Type 0
Blocks = LruCache (ℕ × ℕ) CheckedBlock

-- what `put` does to the blocks, whatever it answers
pub record Puts {X E : Type 0} (was now : Blocks) (result : Result X E) (number place : ℕ)
    (block : CheckedBlock) : Type 0 where
  pub entries : OnOk result (now ≡ lru_cache (put_entries is_key was (number, place) block) was.cap)
  pub err : OnErr result (now ≡ was)

-- each block was there, or is the new one
abbrev pub IsOldOrPut : Blocks → ℕ → ℕ → CheckedBlock → ℕ → ℕ → CheckedBlock → Type 0
IsOldOrPut was number place put n p block = Contains was.entries ((n, p), block)
    ⊎ ((n ≡ number) × (p ≡ place) × (block ≡ put))

put_new : (was : Blocks) (number place : ℕ) (put : CheckedBlock) (n p : ℕ)
    (block : CheckedBlock)
    → Contains (put_entries is_key was (number, place) put) ((n, p), block)
    → IsOldOrPut was number place put n p block
put_new was number place put n p block c =
    elim (Contains-put_entries is_key was (number, place) put ((n, p), block) c) [
      | inl old ↦ inl old
      | inr it ↦
          let key : pair n p ≡ pair number place = elim it.1 [
            | inl is ↦ is
            | inr w ↦ same_key number place (n, p) w.2
          ] in
          inr (ap (λ (k : ℕ × ℕ). k.0) key, ap (λ (k : ℕ × ℕ). k.1) key, it.0)
    ]

old_or_put : {X E : Type 0} (was now : Blocks) (result : Result X E) (number place : ℕ)
    (put : CheckedBlock) → Puts was now result number place put
    → (n p : ℕ) (block : CheckedBlock) → Contains now.entries ((n, p), block)
    → IsOldOrPut was number place put n p block
old_or_put was now (Ok x) number place put puts n p block c =
    put_new was number place put n p block
    (subst (λ (l : Blocks). Contains l.entries ((n, p), block)) puts.entries c)
old_or_put was now (Err e) number place put puts n p block c =
    inl (subst (λ (l : Blocks). Contains l.entries ((n, p), block)) puts.err c)

module _ {X E : Type 0} (numbers : BTreeMap ℕ ℕ) (was now : Blocks) (result : Result X E)
    (file number place : ℕ) (put : CheckedBlock)
    (known : get nat_cmp numbers file ≡ Some number) (puts : Puts was now result number place put)
  where
    pub put_below : (next : ℕ) → NumbersAreBelow numbers was.entries next
        → NumbersAreBelow numbers now.entries next
    put_below next below = (
      below.0,
      λ n p block c. elim (old_or_put was now result number place put puts n p block c) [
        | inl old ↦ below.1 n p block old
        | inr new ↦ omega (arith, below.0 file number known, new.0)
      ],
    )

    pub put_kept : NumbersDiffer numbers → (f p : ℕ) (format : Format) (bytes : List ℕ)
        → IsKeptBlock numbers now.entries f p format bytes
        → IsKeptBlock numbers was.entries f p format bytes
        ⊎ ((f ≡ file) × (p ≡ place) × (format ≡ put.format)
        × (bytes ≡ rc_slice_items put.bytes))
    put_kept differ f p format bytes k =
        elim (old_or_put was now result number place put puts k.number p k.block k.kept) [
          | inl old ↦ inl (record {
            number = k.number;
            block = k.block;
            known = k.known;
            kept = old;
            read_in = k.read_in;
            spelled = k.spelled;
          })
          | inr new ↦ inr (
            differ f file number (k.known ∙ ap Some new.0) known,
            new.1,
            sym k.read_in ∙ ap (λ (b : CheckedBlock). b.format) new.2,
            sym k.spelled ∙ ap (λ (b : CheckedBlock). rc_slice_items b.bytes) new.2,
          )
        ]
