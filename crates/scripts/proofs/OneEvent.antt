-- The words of an event, of a junk and of a number spell no other.
use Rattle.std.proofs.Common.{◌≡◌, ℕ, List, [], ◌∷◌, ◌++◌, refl, sym, ap, ◌∙◌, inl, inr, arith}
use Rattle.std.proofs.Common.{Bool, true, false, map, codes, Option, Some, None, length}
use Rattle.std.specs.Fmt.{decimal}
use Rattle.disk.specs.declared.Junk.{Junk}
use Rattle.std.specs.Prelude.{All, IfSome, ◌==◌, ◌||◌, if◌then◌else◌}
use Rattle.std.specs.Str.{bytes_eq}
use Rattle.std.proofs.lemmas.Bool.Decides.{nat_tests}
use Rattle.std.proofs.lemmas.Grind.{common_steps}
use Rattle.std.proofs.lemmas.List.Elements.{All-head, All-tail}
use Rattle.kv_types.specs.declared.Edit.{Edit}
use Rattle.kv_types.specs.declared.mark.Mark.{Mark}
use Rattle.kv_types.specs.{BatchContent, Span, edits_of, mark_of}
use Rattle.script_words.specs.Words.{AreBytes, bound_text, bytes_text}
use Rattle.script_words.specs.Edits.{edit_word, AreBytesIn}
use Rattle.scripts.specs.Statements.{IsSpelled, CanBeSaid, MarkCanBeSaid, NumberCanBeSaid}
use Rattle.scripts.specs.Statements.{RangeCanBeSaid, mark_words, number_words, submit_name}
use Rattle.scripts.specs.Statements.{walk_name}
use Rattle.events.specs.declared.EventKind.{EventKind}
use Rattle.events.specs.declared.EventKind.TheVariants.{Submit, Get, Deliver, Tick}
use Rattle.events.specs.declared.EventKind.TheVariants.{Tend, Start, Stop}
use Rattle.events.specs.declared.EventKind.TheVariants.{Rows, Open, Close, Notice}
use Rattle.scripts.proofs.EventNames.{name_of, named, of_submit, of_walk}
use Rattle.scripts.proofs.FirstWords.{first_word, head, words_behind}
use Rattle.script_words.specs.EditsLemmas.{no_star, one_edit, one_text}
use Rattle.script_words.specs.JunksLemmas.{one_junk}
use Rattle.script_words.specs.WordsLemmas.{one_number}

records_are_unique : (a b : List Edit) → All AreBytesIn a → All AreBytesIn b
    → map edit_word a ≡ map edit_word b → a ≡ b
records_are_unique [] [] la lb e = refl
records_are_unique [] (d ∷ b) la lb e = absurd (grind (arith, common_steps))
records_are_unique (c ∷ a) [] la lb e = absurd (grind (arith, common_steps))
records_are_unique (c ∷ a) (d ∷ b) la lb e =
    rw (
      one_edit c d (All-head AreBytesIn c a la) (All-head AreBytesIn d b lb) (ap first_word e),
      records_are_unique a b (All-tail AreBytesIn c a la) (All-tail AreBytesIn d b lb)
          (ap words_behind e),
    ) refl

-- marks are the same where client and request are
same_mark : (a b c d : ℕ) → a ≡ c → b ≡ d
    → ◌≡◌ {A = Mark} (record { client = a; request = b }) (record { client = c; request = d })
same_mark a b c d clients requests = rw (clients, requests) refl

-- no two marks have one spelling, and what stands behind them is the same
one_mark : (m n : Option Mark) (v w : List (List ℕ)) → IfSome m MarkCanBeSaid
    → IfSome n MarkCanBeSaid → submit_name m ≡ submit_name n
    → mark_words m ++ v ≡ mark_words n ++ w → (m ≡ n) × (v ≡ w)
one_mark None None v w la lb name e = (refl, e)
one_mark None (Some n) v w la lb name e =
    let at : 115 ≡ 111 = ap head name in
    absurd (omega (arith, at))
one_mark (Some m) None v w la lb name e =
    let at : 111 ≡ 115 = ap head name in
    absurd (omega (arith, at))
one_mark (Some m) (Some n) v w la lb name e = (
  ap Some (same_mark m.client m.request n.client n.request
      (one_number m.client n.client la.0.1 lb.0.1 (ap first_word e))
      (one_number m.request n.request la.1.1 lb.1.1 (ap (λ l. first_word (words_behind l)) e))),
  ap (λ l. words_behind (words_behind l)) e,
)

same_submit : (m n : ℕ) (o p : Option Mark) (a b : List Edit) → m ≡ n → o ≡ p → a ≡ b
    → Submit m (record { mark = o; content = a }) ≡ Submit n (record { mark = p; content = b })
same_submit m n o p a b nodes marks edits = rw (nodes, marks, edits) refl

one_submit : (m n : ℕ) (a b : BatchContent) (words : List (List ℕ)) → CanBeSaid (Submit m a)
    → CanBeSaid (Submit n b) → IsSpelled (Submit m a) words → IsSpelled (Submit n b) words
    → Submit m a ≡ Submit n b
one_submit m n a b words la lb e f =
    let both = sym e ∙ f in
    let behind = one_mark (mark_of a) (mark_of b) (map edit_word (edits_of a))
    (map edit_word (edits_of b)) la.2 lb.2 (ap first_word both)
    (ap (λ w. words_behind (words_behind w)) both) in
    same_submit m n (mark_of a) (mark_of b) (edits_of a) (edits_of b)
    (one_number m n la.0 lb.0 (ap (λ w. first_word (words_behind w)) both)) behind.0
    (records_are_unique (edits_of a) (edits_of b) la.1 lb.1 behind.1)

one_get : (m n : ℕ) (k l : List ℕ) (o p : Option ℕ) (words : List (List ℕ)) → CanBeSaid (Get m k o)
    → CanBeSaid (Get n l p) → IsSpelled (Get m k o) words → IsSpelled (Get n l p) words
    → Get m k o ≡ Get n l p
one_get m n k l None None words la lb e f =
    let both = sym e ∙ f in
    rw (
      one_number m n la.0 lb.0 (ap (λ w. first_word (words_behind w)) both),
      one_text k l la.1 lb.1 (ap (λ w. first_word (words_behind (words_behind w))) both),
    ) refl
one_get m n k l None (Some y) words la lb e f =
    let size : 3 ≡ 4 = ap length (sym e ∙ f) in
    absurd (omega (arith, size))
one_get m n k l (Some x) None words la lb e f =
    let size : 4 ≡ 3 = ap length (sym e ∙ f) in
    absurd (omega (arith, size))
one_get m n k l (Some x) (Some y) words la lb e f =
    let both = sym e ∙ f in
    rw (
      one_number m n la.0 lb.0 (ap (λ w. first_word (words_behind w)) both),
      one_text k l la.1 lb.1 (ap (λ w. first_word (words_behind (words_behind w))) both),
      one_number x y la.2 lb.2
          (ap (λ w. first_word (words_behind (words_behind (words_behind w)))) both),
    ) refl

one_stop : (m n : ℕ) (j k : Junk) (words : List (List ℕ)) → CanBeSaid (Stop m j)
    → CanBeSaid (Stop n k) → IsSpelled (Stop m j) words → IsSpelled (Stop n k) words
    → Stop m j ≡ Stop n k
one_stop m n j k words la lb (inl p) (inl q) =
    let node = ap (λ w. first_word (words_behind w)) (sym p.1 ∙ q.1) in
    rw (p.0, q.0, one_number m n la.0 lb.0 node) refl
one_stop m n j k words la lb (inl p) (inr q) =
    let size : 2 ≡ 3 = ap length (sym p.1 ∙ q.2) in
    absurd (omega (arith, size))
one_stop m n j k words la lb (inr p) (inl q) =
    let size : 3 ≡ 2 = ap length (sym p.2 ∙ q.1) in
    absurd (omega (arith, size))
one_stop m n j k words la lb (inr p) (inr q) =
    let both = sym p.2 ∙ q.2 in
    let same = ap (λ w. first_word (words_behind (words_behind w))) both in
    rw (
      one_number m n la.0 lb.0 (ap (λ w. first_word (words_behind w)) both),
      one_junk j k q.0 la.1 lb.1 (rw same at p.1) q.1,
    ) refl

one_bound : (a b : Option (List ℕ)) → IfSome a AreBytes → IfSome b AreBytes
    → bound_text a ≡ bound_text b → a ≡ b
one_bound None None la lb e = refl
one_bound None (Some l) la lb e = absurd (no_star l e)
one_bound (Some k) None la lb e = absurd (no_star k (sym e))
one_bound (Some k) (Some l) la lb e = ap Some (one_text k l la lb e)

one_walk : (a b : Bool) → walk_name a ≡ walk_name b → a ≡ b
one_walk true true e = refl
one_walk true false e = let at : 98 ≡ 114 = ap head e in absurd (omega (arith, at))
one_walk false true e = let at : 114 ≡ 98 = ap head e in absurd (omega (arith, at))
one_walk false false e = refl

one_at : (a b : Option ℕ) → NumberCanBeSaid a → NumberCanBeSaid b
    → number_words a ≡ number_words b → a ≡ b
one_at None None la lb e = refl
one_at None (Some n) la lb e = let size : 0 ≡ 1 = ap length e in absurd (omega (arith, size))
one_at (Some m) None la lb e = let size : 1 ≡ 0 = ap length e in absurd (omega (arith, size))
one_at (Some m) (Some n) la lb e = ap Some (one_number m n la lb (ap first_word e))

-- the words of a walk behind its name
abbrev walk_words : Span → List (List ℕ) → List (List ℕ)
walk_words range behind =
    bytes_text range.from ∷ bound_text range.to ∷ decimal range.limit ∷ behind

same_range : (f g : List ℕ) (t u : Option (List ℕ)) (b c : Bool) (m n : ℕ) → f ≡ g → t ≡ u
    → b ≡ c → m ≡ n
    → ◌≡◌ {A = Span} (record { from = f; to = t; backward = b; limit = m })
    (record { from = g; to = u; backward = c; limit = n })
same_range f g t u b c m n froms tos backs limits = rw (froms, tos, backs, limits) refl

one_range : (r s : Span) (v w : List (List ℕ)) → RangeCanBeSaid r → RangeCanBeSaid s
    → r.backward ≡ s.backward → walk_words r v ≡ walk_words s w → r ≡ s
one_range r s v w lr ls backs e =
    same_range r.from s.from r.to s.to r.backward s.backward r.limit s.limit
    (one_text r.from s.from lr.0 ls.0 (ap first_word e))
    (one_bound r.to s.to lr.1 ls.1 (ap (λ l. first_word (words_behind l)) e)) backs
    (one_number r.limit s.limit lr.2 ls.2
    (ap (λ l. first_word (words_behind (words_behind l))) e))

same_walk : (m n : ℕ) (r s : Span) (o p : Option ℕ) → m ≡ n → r ≡ s → o ≡ p
    → Rows m r o ≡ Rows n s p
same_walk m n r s o p nodes ranges ats = rw (nodes, ranges, ats) refl

one_rows : (m n : ℕ) (r s : Span) (o p : Option ℕ) (words : List (List ℕ))
    → CanBeSaid (Rows m r o) → CanBeSaid (Rows n s p) → IsSpelled (Rows m r o) words
    → IsSpelled (Rows n s p) words → Rows m r o ≡ Rows n s p
one_rows m n r s o p words la lb e f =
    let both = sym e ∙ f in
    let behind : walk_words r (number_words o) ≡ walk_words s (number_words p) =
    ap (λ w. words_behind (words_behind w)) both in
    same_walk m n r s o p
    (one_number m n la.0 lb.0 (ap (λ w. first_word (words_behind w)) both))
    (one_range r s (number_words o) (number_words p) la.1 lb.1
    (one_walk r.backward s.backward (ap first_word both)) behind)
    (one_at o p la.2 lb.2 (ap (λ w. words_behind (words_behind (words_behind w))) behind))

one_opening : (m n : ℕ) (o p : Option ℕ) (words : List (List ℕ)) → CanBeSaid (Open m o)
    → CanBeSaid (Open n p) → IsSpelled (Open m o) words → IsSpelled (Open n p) words
    → Open m o ≡ Open n p
one_opening m n o p words la lb e f =
    let both = sym e ∙ f in
    rw (
      one_number m n la.0 lb.0 (ap (λ w. first_word (words_behind w)) both),
      one_at o p la.1 lb.1 (ap (λ w. words_behind (words_behind w)) both),
    ) refl

one_closing : (m n a b : ℕ) (words : List (List ℕ)) → CanBeSaid (Close m a)
    → CanBeSaid (Close n b) → IsSpelled (Close m a) words → IsSpelled (Close n b) words
    → Close m a ≡ Close n b
one_closing m n a b words la lb e f =
    let both = sym e ∙ f in
    rw (
      one_number m n la.0 lb.0 (ap (λ w. first_word (words_behind w)) both),
      one_number a b la.1 lb.1 (ap (λ w. first_word (words_behind (words_behind w))) both),
    ) refl

one_notice : (m n a b : ℕ) (words : List (List ℕ)) → CanBeSaid (Notice m a)
    → CanBeSaid (Notice n b) → IsSpelled (Notice m a) words → IsSpelled (Notice n b) words
    → Notice m a ≡ Notice n b
one_notice m n a b words la lb e f =
    let both = sym e ∙ f in
    rw (
      one_number m n la.0 lb.0 (ap (λ w. first_word (words_behind w)) both),
      one_number a b la.1 lb.1 (ap (λ w. first_word (words_behind (words_behind w))) both),
    ) refl

-- the number of a name among those of events
abbrev kind_number : List ℕ → ℕ
kind_number name =
    if bytes_eq name (codes "submit") || bytes_eq name (codes "once") then 1 else
    if bytes_eq name (codes "get") then 2 else
    if bytes_eq name (codes "rows") || bytes_eq name (codes "back") then 3 else
    if bytes_eq name (codes "open") then 4 else if bytes_eq name (codes "close") then 5 else
    if bytes_eq name (codes "deliver") then 6 else if bytes_eq name (codes "tick") then 7 else
    if bytes_eq name (codes "tend") then 8 else if bytes_eq name (codes "start") then 9 else
    if bytes_eq name (codes "notice") then 11 else 10

-- .. of an event
abbrev kind_of : EventKind → ℕ
kind_of (Submit node batch) = 1
kind_of (Get node key at) = 2
kind_of (Rows node range at) = 3
kind_of (Open node at) = 4
kind_of (Close node number) = 5
kind_of (Deliver place) = 6
kind_of (Tick node) = 7
kind_of (Tend node) = 8
kind_of (Start node) = 9
kind_of (Stop node junk) = 10
kind_of (Notice node epoch) = 11

kind_named : (what : EventKind) → kind_number (name_of what) ≡ kind_of what
kind_named (Submit node batch) =
    of_submit (λ name. kind_number name ≡ 1) refl refl (mark_of batch)
kind_named (Get node key at) = refl
kind_named (Rows node range at) =
    of_walk (λ name. kind_number name ≡ 3) refl refl range.backward
kind_named (Open node at) = refl
kind_named (Close node number) = refl
kind_named (Deliver place) = refl
kind_named (Tick node) = refl
kind_named (Tend node) = refl
kind_named (Start node) = refl
kind_named (Stop node junk) = refl
kind_named (Notice node epoch) = refl

-- the names of kinds all differ
apart : (a b : EventKind) (words : List (List ℕ)) → IsSpelled a words → IsSpelled b words
    → kind_of a ≡ kind_of b
apart a b words e f = sym (kind_named a)
    ∙ (ap kind_number (sym (named a words e) ∙ named b words f) ∙ kind_named b)

clash : {A : Type 0} (a b : ℕ) → a ≡ b → (a == b) ≡ false → A
clash a b same differ = absurd (grind (arith, nat_tests))

pub one_event : (a b : EventKind) (words : List (List ℕ)) → CanBeSaid a → CanBeSaid b
    → IsSpelled a words → IsSpelled b words → a ≡ b
one_event (Submit m a) (Submit n b) words la lb e f = one_submit m n a b words la lb e f
one_event (Get m k o) (Get n l p) words la lb e f = one_get m n k l o p words la lb e f
one_event (Rows m r o) (Rows n s p) words la lb e f = one_rows m n r s o p words la lb e f
one_event (Open m o) (Open n p) words la lb e f = one_opening m n o p words la lb e f
one_event (Close m a) (Close n b) words la lb e f = one_closing m n a b words la lb e f
one_event (Deliver m) (Deliver n) words la lb e f =
    rw (one_number m n la lb (ap (λ w. first_word (words_behind w)) (sym e ∙ f))) refl
one_event (Notice m a) (Notice n b) words la lb e f = one_notice m n a b words la lb e f
one_event (Tick m) (Tick n) words la lb e f =
    rw (one_number m n la lb (ap (λ w. first_word (words_behind w)) (sym e ∙ f))) refl
one_event (Tend m) (Tend n) words la lb e f =
    rw (one_number m n la lb (ap (λ w. first_word (words_behind w)) (sym e ∙ f))) refl
one_event (Start m) (Start n) words la lb e f =
    rw (one_number m n la lb (ap (λ w. first_word (words_behind w)) (sym e ∙ f))) refl
one_event (Stop m i) (Stop n j) words la lb e f = one_stop m n i j words la lb e f
one_event a b words la lb e f = clash (kind_of a) (kind_of b) (apart a b words e f) refl
