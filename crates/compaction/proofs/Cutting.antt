-- What a merge writes is what it leaves, and its tables stand in order of keys.
use Rattle.std.proofs.Common.{◌≡◌, ◌⊎◌, inl, inr, ℕ, ◌<◌, List, [], ◌∷◌, ◌++◌, length}
use Rattle.std.proofs.Common.{Option, Some, None, true, false, IfSome}
use Rattle.std.proofs.Common.{refl, sym, ◌∙◌, ap, subst, append_assoc, append-nil, arith}
use Rattle.std.specs.List.{flat_map, fold}
use Rattle.std.proofs.lemmas.Bool.{and_parts, cond-false, cond-true, cond_both, not-true}
use Rattle.std.proofs.lemmas.Bool.{false≢true, both_ways}
use Rattle.std.proofs.lemmas.List.Concat.{flat_map-append}
use Rattle.std.proofs.lemmas.Slice.Eq.{bytes_eq-Decides}
use Rattle.kv_types.specs.{Entry}
use Rattle.kv_types.specs.OrderLemmas.{Among, Rises}
use Rattle.version_edits.specs.declared.TableLine.{TableLine}
use Rattle.merge_iter.specs.declared.Direction.TheVariants.{Forward}
use Rattle.merge_iter.specs.{EntryPrecedes}
use Rattle.merge_iter.specs.EntryOrder.{chain}
use Rattle.store_model.specs.{KeyPrecedes}
use Rattle.store_model.specs.KeysLemmas.{key_chain, precedes_upto}
use Rattle.compaction.specs.Survivors.{is_dropped, survivors_behind}
use Rattle.compaction.specs.WrittenTables.{Written, WrittenAreSurvivors}
use Rattle.compaction.specs.WrittenTables.{has_new_key, is_cut, nothing_written, open_table}
use Rattle.compaction.specs.WrittenTables.{tables_of}
use Rattle.compaction.specs.WrittenTables.{with_written, with_next, written_of}
use Rattle.compaction.proofs.Dropping.{IsUpTo}
use Rattle.compaction.specs.OutputsLemmas.{not_behind}
use Rattle.compaction.proofs.Orders.{less_parts}

-- ---- table after table

-- all entries of tables, in order
abbrev pub flat : List (List Entry) → List Entry
flat tables = flat_map (λ table. table) tables

-- all entries that were written, in order
abbrev pub joined : Written → List Entry
joined it = flat it.closed ++ it.opened

flat_open : (opened : List Entry) → flat (open_table opened) ≡ opened
flat_open [] = refl
flat_open (x ∷ xs) = append-nil (x ∷ xs)

-- the entries of all tables, one behind the other
pub joined_tables : (it : Written) → flat (tables_of it) ≡ joined it
joined_tables it =
    flat_map-append (λ table. table) it.closed (open_table it.opened)
    ∙ ap (λ l. flat it.closed ++ l) (flat_open it.opened)

-- the tables with one more that is complete
flat_more : (closed : List (List Entry)) (opened : List Entry)
    → flat (closed ++ opened ∷ []) ≡ flat closed ++ opened
flat_more closed opened =
    flat_map-append (λ table. table) closed (opened ∷ [])
    ∙ ap (λ l. flat closed ++ l) (append-nil opened)

module _ (floor : ℕ) (deeper : List TableLine) (target : ℕ) where
  -- what is written with the next entry
  abbrev pub next : Written → Entry → Written
  next = with_next floor deeper target

  -- the three cases of an entry
  pub by_case : (P : Written → Type 0) (it : Written) (e : Entry)
      → (is_dropped floor deeper it.before e ≡ true
      → P (record { before = Some e; closed = it.closed; opened = it.opened }))
      → (is_dropped floor deeper it.before e ≡ false → is_cut target it.before it.opened e ≡ true
      → P (record { before = Some e; closed = it.closed ++ it.opened ∷ []; opened = e ∷ [] }))
      → (is_dropped floor deeper it.before e ≡ false → is_cut target it.before it.opened e ≡ false
      → P (record { before = Some e; closed = it.closed; opened = it.opened ++ e ∷ [] }))
      → P (next it e)
  by_case P it e gone cut more =
      cond_both (is_dropped floor deeper it.before e) _ _
      (λ (w : Written). P (record w { before = Some e })) gone
      (λ stays. cond_both (is_cut target it.before it.opened e) _ _
      (λ (w : Written). P (record (with_written w e) { before = Some e })) (cut stays) (more stays))

  joined_from : (entries : List Entry) (it : Written)
      → joined (fold next it entries)
      ≡ joined it ++ survivors_behind floor deeper it.before entries
  joined_from [] it = sym (append-nil (joined it))
  joined_from (e ∷ es) it =
      let rest = survivors_behind floor deeper (Some e) es in
      by_case (λ w. joined (fold next w es)
      ≡ joined it ++ survivors_behind floor deeper it.before (e ∷ es)) it e
      (λ gone. joined_from es (record { before = Some e; closed = it.closed; opened = it.opened })
      ∙ ap (λ l. joined it ++ l) (sym (cond-true _ rest (e ∷ rest) gone)))
      (λ stays cut. joined_from es (record {
        before = Some e;
        closed = it.closed ++ it.opened ∷ [];
        opened = e ∷ [];
      })
      ∙ ap (λ l. (l ++ e ∷ []) ++ rest) (flat_more it.closed it.opened)
      ∙ append_assoc (joined it) (e ∷ []) rest
      ∙ ap (λ l. joined it ++ l) (sym (cond-false _ rest (e ∷ rest) stays)))
      (λ stays more. joined_from es (record {
        before = Some e;
        closed = it.closed;
        opened = it.opened ++ e ∷ [];
      })
      ∙ ap (λ l. l ++ rest) (sym (append_assoc (flat it.closed) it.opened (e ∷ [])))
      ∙ append_assoc (joined it) (e ∷ []) rest
      ∙ ap (λ l. joined it ++ l) (sym (cond-false _ rest (e ∷ rest) stays)))

-- the entries that are written are the survivors
pub written_are_survivors : WrittenAreSurvivors
written_are_survivors floor deeper target entries =
    joined_tables (written_of floor deeper target entries)
    ∙ joined_from floor deeper target entries nothing_written

-- ---- in order of keys

-- each key of the first table comes before each of the second
abbrev pub ComesFirst : List Entry → List Entry → Type 0
ComesFirst s t = (a b : Entry) → Among a s → Among b t → KeyPrecedes a.key b.key

-- what is written so far stands in order, and no key is in two tables
pub record IsInTurn (it : Written) : Type 0 where
  pub upto : (z : Entry) → Among z (joined it) → IsUpTo it.before z
  pub rises : Rises (EntryPrecedes Forward) (joined it)
  pub closed : Rises ComesFirst it.closed
  pub opened : (t : List Entry) → Among t it.closed → ComesFirst t it.opened
  pub none : it.opened ≡ [] → it.closed ≡ []
  pub some : (t : List Entry) → Among t it.closed → 0 < length t

-- the entry comes behind the one before it
abbrev pub Follows : Option Entry → Entry → Type 0
Follows before e = IfSome before (λ b. EntryPrecedes Forward b e)

-- so it comes behind each one up to there
pub behind_all : (before : Option Entry) (z e : Entry) → Follows before e → IsUpTo before z
    → EntryPrecedes Forward z e
behind_all None z e follows never = absurd never
behind_all (Some b) z e follows (inl is) =
    subst (λ (x : Entry). EntryPrecedes Forward x e) (sym is) follows
behind_all (Some b) z e follows (inr lt) = chain Forward z b e lt follows

-- and with another key, each key up to there comes before its own
key_behind : (before : Option Entry) (z e : Entry) → Follows before e
    → has_new_key before e ≡ true → IsUpTo before z → KeyPrecedes z.key e.key
key_behind None z e follows new never = absurd never
key_behind (Some b) z e follows new upto =
    let differs : b.key ≡ e.key → ⊥ = λ same.
    both_ways _ (not-true _ new) ((bytes_eq-Decides b.key e.key).1 same) in
    let lt : KeyPrecedes b.key e.key = elim (less_parts b e follows) [
      | inl lt ↦ lt
      | inr falls ↦ absurd (differs falls.0)
    ] in
    elim upto [
      | inl is ↦ subst (λ (x : Entry). KeyPrecedes x.key e.key) (sym is) lt
      | inr less ↦ elim (less_parts z b less) [
        | inl before ↦ key_chain z.key b.key e.key before lt
        | inr falls ↦ subst (λ k. KeyPrecedes k e.key) (sym falls.0) lt
      ]
    ]

-- an element of two lists is one of either
pub among_append : {A : Type 0} (xs ys : List A) (z : A) → Among z (xs ++ ys)
    → Among z xs ⊎ Among z ys
among_append [] ys z a = inr a
among_append (x ∷ xs) ys z (inl e) = inl (inl e)
among_append (x ∷ xs) ys z (inr a) = elim (among_append xs ys z a)
    [ inl b ↦ inl (inr b) | inr b ↦ inr b ]

among_left : {A : Type 0} (xs ys : List A) (z : A) → Among z xs → Among z (xs ++ ys)
among_left [] ys z a = absurd a
among_left (x ∷ xs) ys z (inl e) = inl e
among_left (x ∷ xs) ys z (inr a) = inr (among_left xs ys z a)

among_right : {A : Type 0} (xs ys : List A) (z : A) → Among z ys → Among z (xs ++ ys)
among_right [] ys z a = a
among_right (x ∷ xs) ys z a = inr (among_right xs ys z a)

-- an entry of a table is one of all
pub among_flat : (tables : List (List Entry)) (t : List Entry) (z : Entry) → Among t tables
    → Among z t → Among z (flat tables)
among_flat [] t z in_t a = absurd in_t
among_flat (s ∷ ts) t z (inl e) a =
    among_left s (flat ts) z (subst (λ (l : List Entry). Among z l) (sym e) a)
among_flat (s ∷ ts) t z (inr later) a = among_right s (flat ts) z (among_flat ts t z later a)

-- an entry of all tables is one of a table
pub flat_among : (tables : List (List Entry)) (z : Entry) → Among z (flat tables)
    → (t : List Entry) × Among t tables × Among z t
flat_among [] z a = absurd a
flat_among (s ∷ ts) z a = elim (among_append s (flat ts) z a) [
  | inl here ↦ (s, inl refl, here)
  | inr later ↦ let it = flat_among ts z later in (it.0, inr it.1, it.2)
]

-- a list rises with an element more that comes behind all
pub rises_last : {A : Type 0} (R : A → A → Type 0) (xs : List A) (y : A) → Rises R xs
    → ((x : A) → Among x xs → R x y) → Rises R (xs ++ y ∷ [])
rises_last R [] y rises before = (λ z none. absurd none, tt)
rises_last R (x ∷ xs) y rises before = (
  λ z a. elim (among_append xs (y ∷ []) z a) [
    | inl there ↦ rises.0 z there
    | inr end ↦ elim end
        [ inl is ↦ subst (R x) is (before x (inl refl)) | inr none ↦ absurd none ]
  ],
  rises_last R xs y rises.1 (λ z a. before z (inr a)),
)

rises_left : {A : Type 0} (R : A → A → Type 0) (xs ys : List A) → Rises R (xs ++ ys) → Rises R xs
rises_left R [] ys rises = tt
rises_left R (x ∷ xs) ys rises =
    (λ z a. rises.0 z (among_left xs ys z a), rises_left R xs ys rises.1)

rises_right : {A : Type 0} (R : A → A → Type 0) (xs ys : List A) → Rises R (xs ++ ys) → Rises R ys
rises_right R [] ys rises = rises
rises_right R (x ∷ xs) ys rises = rises_right R xs ys rises.1

-- where all entries rise, those of each table do
pub rises_part : (tables : List (List Entry)) (t : List Entry)
    → Rises (EntryPrecedes Forward) (flat tables) → Among t tables
    → Rises (EntryPrecedes Forward) t
rises_part [] t rises a = absurd a
rises_part (s ∷ ts) t rises (inl e) =
    subst (λ (l : List Entry). Rises (EntryPrecedes Forward) l) e
    (rises_left (EntryPrecedes Forward) s (flat ts) rises)
rises_part (s ∷ ts) t rises (inr later) =
    rises_part ts t (rises_right (EntryPrecedes Forward) s (flat ts) rises) later

-- a list with an element is not empty
cons_not_nil : {A : Type 0} (x : A) (xs : List A) → x ∷ xs ≡ [] → ⊥
cons_not_nil x xs is = cc

push_not_nil : {A : Type 0} (xs : List A) (y : A) → xs ++ y ∷ [] ≡ [] → ⊥
push_not_nil [] y is = cons_not_nil y [] is
push_not_nil (x ∷ xs) y is = cons_not_nil x (xs ++ y ∷ []) is

-- where a new table begins, the open one has entries and the entry a new key
pub cut_new : (target : ℕ) (before : Option Entry) (opened : List Entry) (e : Entry)
    → is_cut target before opened e ≡ true → (0 < length opened) × (has_new_key before e ≡ true)
cut_new target before [] e cut = absurd (false≢true cut)
cut_new target before (x ∷ xs) e cut =
    let parts = and_parts _ (has_new_key before e) cut in
    (omega arith, parts.1)

-- a key before each of the open table comes before the next one
open_key : (closed : List (List Entry)) (opened : List Entry) (t : List Entry) (a e : Entry)
    → (opened ≡ [] → closed ≡ []) → Among t closed
    → ((z : Entry) → Among z opened → EntryPrecedes Forward z e)
    → ((z : Entry) → Among z opened → KeyPrecedes a.key z.key) → KeyPrecedes a.key e.key
open_key closed [] t a e none in_t early before =
    absurd (subst (λ (l : List (List Entry)). Among t l) (none refl) in_t)
open_key closed (x ∷ xs) t a e none in_t early before =
    precedes_upto a.key x.key e.key (before x (inl refl)) (not_behind x e (early x (inl refl)))

-- one entry more
module _ (it : Written) (turn : IsInTurn it) (e : Entry) (follows : Follows it.before e) where
  all_before : (z : Entry) → Among z (joined it) → EntryPrecedes Forward z e
  all_before z a = behind_all it.before z e follows (turn.upto z a)

  in_open : (z : Entry) → Among z it.opened → Among z (joined it)
  in_open z a = among_right (flat it.closed) it.opened z a

  in_closed : (t : List Entry) (z : Entry) → Among t it.closed → Among z t → Among z (joined it)
  in_closed t z in_t a = among_left (flat it.closed) it.opened z (among_flat it.closed t z in_t a)

  -- it is dropped
  turn_gone : IsInTurn (record { before = Some e; closed = it.closed; opened = it.opened })
  turn_gone = record {
    upto = λ z a. inr (all_before z a);
    rises = turn.rises;
    closed = turn.closed;
    opened = turn.opened;
    none = turn.none;
    some = turn.some;
  }

  upto_more : (z : Entry) → Among z (joined it ++ e ∷ []) → IsUpTo (Some e) z
  upto_more z a = elim (among_append (joined it) (e ∷ []) z a) [
    | inl there ↦ inr (all_before z there)
    | inr end ↦ elim end [ inl is ↦ inl (sym is) | inr none ↦ absurd none ]
  ]

  rises_more : Rises (EntryPrecedes Forward) (joined it ++ e ∷ [])
  rises_more = rises_last (EntryPrecedes Forward) (joined it) e turn.rises all_before

  -- it begins a table
  turn_cut : (target : ℕ) → is_cut target it.before it.opened e ≡ true → IsInTurn (record {
    before = Some e;
    closed = it.closed ++ it.opened ∷ [];
    opened = e ∷ [];
  })
  turn_cut target cut =
      let new = cut_new target it.before it.opened e cut in
      let same : flat (it.closed ++ it.opened ∷ []) ++ e ∷ [] ≡ joined it ++ e ∷ [] =
      ap (λ (l : List Entry). l ++ e ∷ []) (flat_more it.closed it.opened) in
      let key : (z : Entry) → Among z (joined it) → KeyPrecedes z.key e.key =
      λ z a. key_behind it.before z e follows new.1 (turn.upto z a) in
      record {
        upto = λ z a. upto_more z (subst (λ (l : List Entry). Among z l) same a);
        rises = subst (λ (l : List Entry). Rises (EntryPrecedes Forward) l) (sym same) rises_more;
        closed = rises_last ComesFirst it.closed it.opened turn.closed turn.opened;
        opened = λ t in_t a b in_a in_b. elim in_b [
          | inl is ↦ subst (λ (z : Entry). KeyPrecedes a.key z.key) is
              (elim (among_append it.closed (it.opened ∷ []) t in_t) [
                | inl early ↦ key a (in_closed t a early in_a)
                | inr end ↦ elim end [
                  | inl was ↦ key a
                      (in_open a (subst (λ (l : List Entry). Among a l) (sym was) in_a))
                  | inr none ↦ absurd none
                ]
              ])
          | inr none ↦ absurd none
        ];
        none = λ is. absurd (cons_not_nil e [] is);
        some = λ t in_t. elim (among_append it.closed (it.opened ∷ []) t in_t) [
          | inl early ↦ turn.some t early
          | inr end ↦ elim end [
            | inl was ↦ subst (λ (l : List Entry). 0 < length l) was new.0
            | inr none ↦ absurd none
          ]
        ];
      }

  -- it is one more of the open table
  turn_more : IsInTurn (record {
    before = Some e;
    closed = it.closed;
    opened = it.opened ++ e ∷ [];
  })
  turn_more =
      let same : flat it.closed ++ (it.opened ++ e ∷ []) ≡ joined it ++ e ∷ [] =
      sym (append_assoc (flat it.closed) it.opened (e ∷ [])) in
      record {
        upto = λ z a. upto_more z (subst (λ (l : List Entry). Among z l) same a);
        rises = subst (λ (l : List Entry). Rises (EntryPrecedes Forward) l) (sym same) rises_more;
        closed = turn.closed;
        opened = λ t in_t a b in_a in_b. elim (among_append it.opened (e ∷ []) b in_b) [
          | inl there ↦ turn.opened t in_t a b in_a there
          | inr end ↦ elim end [
            | inl is ↦ subst (λ (z : Entry). KeyPrecedes a.key z.key) is
                (open_key it.closed it.opened t a e turn.none in_t
                (λ z there. all_before z (in_open z there))
                (λ z there. turn.opened t in_t a z in_a there))
            | inr none ↦ absurd none
          ]
        ];
        none = λ is. absurd (push_not_nil it.opened e is);
        some = turn.some;
      }

head_follows : (before : Option Entry) (e : Entry) (es : List Entry)
    → IfSome before (λ b. (z : Entry) → Among z (e ∷ es) → EntryPrecedes Forward b z)
    → Follows before e
head_follows None e es early = tt
head_follows (Some b) e es early = early e (inl refl)

module _ (floor : ℕ) (deeper : List TableLine) (target : ℕ) where
  in_turn_from : (entries : List Entry) (it : Written) → IsInTurn it
      → Rises (EntryPrecedes Forward) entries
      → IfSome it.before (λ b. (z : Entry) → Among z entries → EntryPrecedes Forward b z)
      → IsInTurn (fold (with_next floor deeper target) it entries)
  in_turn_from [] it turn rises early = turn
  in_turn_from (e ∷ es) it turn rises early =
      let follows = head_follows it.before e es early in
      by_case floor deeper target
      (λ w. IsInTurn (fold (with_next floor deeper target) w es)) it e
      (λ gone. in_turn_from es _ (turn_gone it turn e follows) rises.1 rises.0)
      (λ stays cut. in_turn_from es _ (turn_cut it turn e follows target cut) rises.1 rises.0)
      (λ stays more. in_turn_from es _ (turn_more it turn e follows) rises.1 rises.0)

  -- of entries in order, what is written stands in order
  pub in_turn : (entries : List Entry) → Rises (EntryPrecedes Forward) entries
      → IsInTurn (written_of floor deeper target entries)
  in_turn entries rises = in_turn_from entries nothing_written (record {
    upto = λ z a. absurd a;
    rises = tt;
    closed = tt;
    opened = λ t a. absurd a;
    none = λ is. refl;
    some = λ t a. absurd a;
  }) rises tt

-- each entry of the open table is one up to the last
pub opened_upto : (it : Written) → IsInTurn it → (z : Entry) → Among z it.opened
    → IsUpTo it.before z
opened_upto it turn z a = turn.upto z (among_right (flat it.closed) it.opened z a)
