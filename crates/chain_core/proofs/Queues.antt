-- Requests that wait in order: those that are due are at the front.
use Rattle.std.proofs.Common.{◌≡◌, ℕ, suc, ◌≤◌, ◌<◌, List, [], ◌∷◌, ◌++◌, Bool, true}
use Rattle.std.proofs.Common.{false, not, refl, ap, arith, ◌∙◌, length}
use Rattle.std.specs.List.{insert}
use Rattle.std.specs.Prelude.{nat_le, if◌then◌else◌, IsTrue}
use Rattle.std.proofs.lemmas.Bool.{leb-false, lt-leb}
use Rattle.kv_types.specs.{Edits}
use Rattle.chain_model.specs.{due, not_due}
use Rattle.chain_core.specs.declared.pending_submit.PendingSubmit.{PendingSubmit}
use Rattle.chain_core.specs.States.{IsInOrder, asked, waiting, committed_responses}
use Rattle.chain_core.specs.Queues.{front, behind, place_behind}
use Rattle.chain_model.specs.Rules.{is_prior, queued}
use Rattle.chain_model.specs.RulesLemmas.{prior_below, prior_other, prior_parts, prior_trans}

lower : (a b : ℕ × ℕ) (m : ℕ) (ps : List PendingSubmit) → IsTrue (is_prior a b) → IsInOrder b m ps
    → IsInOrder a m ps
lower a b m [] le o = tt
lower a b m (p ∷ ps) le o = (prior_trans a b (asked p) le o.0, o.1, o.2)

-- above k none is due

none_due : (a : ℕ × ℕ) (m k : ℕ) (ps : List PendingSubmit) → k < a.0 → IsInOrder a m ps →
    (due {A = Edits} k (waiting ps) ≡ []) × (not_due k (waiting ps) ≡ waiting ps)
none_due a m k [] lt o = (refl, refl)
none_due a m k (p ∷ ps) lt o =
    let above : k < p.number = omega (arith, lt, (prior_parts a (asked p) o.0).0) in
    let rest = none_due (asked p) m k ps above o.2 in
    let later : nat_le p.number k ≡ false = lt-leb p.number k above in
    (rw (later, rest.0) refl, rw (later, rest.1) refl)

-- those due are the front
pub due_front : (a : ℕ × ℕ) (m k : ℕ) (ps : List PendingSubmit) → IsInOrder a m ps →
    due {A = Edits} k (waiting ps) ≡ committed_responses (front k ps)
due_front a m k [] o = refl
due_front a m k (p ∷ ps) o = go (nat_le p.number k) refl (due_front (asked p) m k ps o.2)
  where
    go : (b : Bool) → nat_le p.number k ≡ b →
        due {A = Edits} k (waiting ps) ≡ committed_responses (front k ps) →
        due {A = Edits} k (waiting (p ∷ ps)) ≡ committed_responses (front k (p ∷ ps))
    go true e rest = rw (e, rest) refl
    go false e rest =
        let above : k < p.number = leb-false p.number k e in
        rw (e, (none_due (asked p) m k ps above o.2).0) refl

-- the requests that are not due are behind the front
pub not_due_behind : (a : ℕ × ℕ) (m k : ℕ) (ps : List PendingSubmit) → IsInOrder a m ps →
    not_due k (waiting ps) ≡ waiting (behind k ps)
not_due_behind a m k [] o = refl
not_due_behind a m k (p ∷ ps) o = go (nat_le p.number k) refl (not_due_behind (asked p) m k ps o.2)
  where
    go : (b : Bool) → nat_le p.number k ≡ b → not_due k (waiting ps) ≡ waiting (behind k ps) →
        not_due k (waiting (p ∷ ps)) ≡ waiting (behind k (p ∷ ps))
    go true e rest = rw (e, rest) refl
    go false e rest =
        let above : k < p.number = leb-false p.number k e in
        rw (e, (none_due (asked p) m k ps above o.2).1) refl

pub behind_in_order : (a : ℕ × ℕ) (m k : ℕ) (ps : List PendingSubmit) → IsInOrder a m ps →
    IsInOrder a m (behind k ps)
behind_in_order a m k [] o = tt
behind_in_order a m k (p ∷ ps) o = go (nat_le p.number k) refl
    (behind_in_order (asked p) m k ps o.2)
  where
    go : (b : Bool) → nat_le p.number k ≡ b → IsInOrder (asked p) m (behind k ps) →
        IsInOrder a m (behind k (p ∷ ps))
    go true e rest =
        rw e (lower a (asked p) m (behind k ps) o.0 rest)
    go false e rest = rw e o

-- more numbers are left
pub raise : (a : ℕ × ℕ) (m k : ℕ) (ps : List PendingSubmit) → IsInOrder a m ps → m ≤ k
    → IsInOrder a k ps
raise a m k [] o le = tt
raise a m k (p ∷ ps) o le = (o.0, omega (arith, o.1, le), raise (asked p) m k ps o.2 le)

-- one more request waits, for the next number
pub push_in_order : (a : ℕ × ℕ) (m : ℕ) (ps : List PendingSubmit) (w : PendingSubmit)
    → IsInOrder a m ps → IsTrue (is_prior a (asked w)) → w.number ≡ suc m
    → IsInOrder a w.number (ps ++ w ∷ [])
push_in_order a m [] w o le e = (le, omega arith, tt)
push_in_order a m (p ∷ ps) w o le e = (
  o.0,
  omega (arith, o.1, e),
  push_in_order (asked p) m ps w o.2
      (prior_below (asked p) w.number w.request (omega (arith, o.1, e))) e,
)

-- a request in its place among those that wait
pub queue_in_order : (a : ℕ × ℕ) (m : ℕ) (w : PendingSubmit) (ps : List PendingSubmit)
    → IsTrue (is_prior a (asked w)) → w.number ≤ m → IsInOrder a m ps
    → IsInOrder a m (insert ps (place_behind w ps) w)
queue_in_order a m w [] le most o = (le, most, tt)
queue_in_order a m w (p ∷ ps) le most o =
    go (is_prior (asked p) (asked w)) refl
    (λ is. queue_in_order (asked p) m w ps is most o.2)
  where
    go : (b : Bool) → is_prior (asked p) (asked w) ≡ b
        → (is_prior (asked p) (asked w) ≡ true
        → IsInOrder (asked p) m (insert ps (place_behind w ps) w))
        → IsInOrder a m (insert (p ∷ ps) (if b then suc (place_behind w ps) else 0) w)
    go true e rest = (o.0, o.1, rest e)
    go false e rest = (le, most, (prior_other (asked p) (asked w) e, o.1, o.2))

-- .. as the model has it
pub waiting_queued : (w : PendingSubmit) (ps : List PendingSubmit)
    → waiting (insert ps (place_behind w ps) w) ≡ queued (asked w) (waiting ps)
waiting_queued w [] = refl
waiting_queued w (p ∷ ps) =
    go (is_prior (asked p) (asked w)) (waiting_queued w ps)
  where
    go : (b : Bool) → waiting (insert ps (place_behind w ps) w) ≡ queued (asked w) (waiting ps)
        → waiting (insert (p ∷ ps) (if b then suc (place_behind w ps) else 0) w)
        ≡ (if b then asked p ∷ queued (asked w) (waiting ps)
        else asked w ∷ asked p ∷ waiting ps)
    go true rest = ap (λ (l : List (ℕ × ℕ)). asked p ∷ l) rest
    go false rest = refl

-- the place is in the queue, or right behind it
pub place_within : (w : PendingSubmit) (ps : List PendingSubmit) → place_behind w ps ≤ length ps
place_within w [] = omega arith
place_within w (p ∷ ps) = go (is_prior (asked p) (asked w)) (place_within w ps)
  where
    go : (b : Bool) → place_behind w ps ≤ length ps
        → (if b then suc (place_behind w ps) else 0) ≤ suc (length ps)
    go true rest = omega (arith, rest)
    go false rest = omega arith

-- a request that was put at this place
pub inserted_at : (old new : List PendingSubmit) (w : PendingSubmit) (j k : ℕ)
    → new ≡ insert old j w → j ≡ k → new ≡ insert old k w
inserted_at old new w j k put same = put ∙ ap (λ (i : ℕ). insert old i w) same

pub waiting_push : (ps : List PendingSubmit) (w : PendingSubmit) →
    waiting (ps ++ w ∷ []) ≡ waiting ps ++ (w.number, w.request) ∷ []
waiting_push [] w = refl
waiting_push (p ∷ ps) w =
    ap (λ (l : List (ℕ × ℕ)). (p.number, p.request) ∷ l) (waiting_push ps w)

-- forgotten where gone is to stay where not
pub kept_where : (b : Bool) (ps : List PendingSubmit) →
    (if not b then [] else ps) ≡ (if b then ps else [])
kept_where true ps = refl
kept_where false ps = refl

-- requests that are forgotten, or stay, are in order
pub where_in_order : (b : Bool) (m : ℕ) (ps : List PendingSubmit) → IsInOrder (1, 0) m ps →
    IsInOrder (1, 0) m (if b then ps else [])
where_in_order true m ps o = o
where_in_order false m ps o = tt
