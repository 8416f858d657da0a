-- The one history: the longest list that a reply spoke of.
use Rattle.std.proofs.Common.{◌≡◌, ⊎_elim, ℕ, ◌<◌, ◌≤◌, max, List, [], ◌∷◌, length, take, Some}
use Rattle.std.proofs.Common.{true, sym, refl, subst, arith}
use Rattle.std.specs.List.{AllByRecursion}
use Rattle.std.proofs.lemmas.Bool.{cases_lt}
use Rattle.kv_types.specs.{IsPrefix, Marked, Part, has, place}
use Rattle.configurations.specs.{last_of}
use Rattle.chain_model.specs.Requests.{Closed, Committed, Opened, Refused, Response, Shows}
use Rattle.chain_model.specs.System.{SystemEvent, first_state, node_of, reached}
use Rattle.kv_types.specs.ListsLemmas.{begins-place, begins_nil, begins_shorter, part_begins}
use Rattle.kv_types.specs.ListsLemmas.{part_trans, take_begins}
use Rattle.chain_model.proofs.Configuration.{IsChain, last_epoch, someone}
use Rattle.chain_model.proofs.Submitted.{MayAnswer, accepted}
use Rattle.chain_model.proofs.Invariant.{ReplyOk, Safe, WorldOk, lists_of}
use Rattle.chain_model.proofs.Reached.{reached_ok}

-- a reply that agrees with the one list: the request submitted the acknowledged batch, then or
-- again
abbrev pub Speaks : {A : Type 0} → List (SystemEvent A) → List (Marked A) → Response A → Type 0
Speaks events B (Committed i n) = (b : _) × (MayAnswer events i b × (place B n ≡ Some b))
Speaks events B (Shows i s l) = (s ≤ length B) × (l ≡ take s B)
Speaks events B _ = Unit {0}

-- there is one list, of batches of any kind
pub record OneHistory {A : Type 0} (cs : List (List ℕ)) (events : List (SystemEvent A)) : Type 0
  where
    pub B : List (Marked A)
    pub taken : Part B (accepted cs events (first_state cs))
    pub speaks : AllByRecursion (Speaks events B) (reached cs events).replies
    pub stands : (x : ℕ) → has (last_of cs) x ≡ true → IsPrefix B (node_of cs events x).list

-- the number that a reply speaks of
abbrev number_of : {A : Type 0} → Response A → ℕ
number_of (Committed i n) = n
number_of (Shows i s l) = s
number_of (Opened i s) = 0
number_of (Closed i s) = 0
number_of (Refused i why) = 0

-- the greatest number that a reply speaks of
abbrev top : {A : Type 0} → List (Response A) → ℕ
top [] = 0
top (r ∷ rs) = max (number_of r) (top rs)

module _ {A : Type 0} (events : List (SystemEvent A)) (cs : List (List ℕ))
    (lists : ℕ → List (Marked A))
  where
    -- a reply of which the invariant holds
    abbrev GoodReply : Response A → Type 0
    GoodReply r = ReplyOk cs events lists r

    -- the list that a reply is about
    list_of : (r : Response A) → GoodReply r → (l : List (Marked A))
        × ((length l ≡ number_of r) × Safe lists (last_of cs) l)
    list_of (Committed i n) ok = (ok.0, (ok.1.0, ok.1.2))
    list_of (Shows i s l) ok = (l, (ok.0, ok.1))
    list_of (Opened i s) ok = ([], (refl, λ y k. begins_nil (lists y)))
    list_of (Closed i s) ok = ([], (refl, λ y k. begins_nil (lists y)))
    list_of (Refused i why) ok = ([], (refl, λ y k. begins_nil (lists y)))

    -- the longest list that a reply is about
    longest : (rs : List (Response A)) → AllByRecursion GoodReply rs → (l : List (Marked A))
        × ((length l ≡ top rs) × Safe lists (last_of cs) l)
    longest [] ok = ([], (refl, λ y k. begins_nil (lists y)))
    longest (r ∷ rs) ok =
        let a = list_of r ok.0 in
        let b = longest rs ok.1 in
        ⊎_elim
        (λ (lt : number_of r < top rs). (b.0, (omega (arith, b.1.0), b.1.1)))
        (λ (ge : top rs ≤ number_of r). (a.0, (omega (arith, a.1.0), a.1.1)))
        (cases_lt (number_of r) (top rs))

    module _ (z : ℕ) (last : has (last_of cs) z ≡ true) (B : List (Marked A))
        (safe : Safe lists (last_of cs) B) where
      agree : (r : Response A) → GoodReply r → number_of r ≤ length B → Speaks events B r
      agree (Committed i n) ok le =
          let p = ok.1.1 in (
            p.0,
            (
              p.1.0,
              begins-place n p.0 (begins_shorter ok.0 B (lists z) (ok.1.2 z last)
                  (safe z last) (omega (arith, ok.1.0))) p.1.1,
            ),
          )
      agree (Shows i s l) ok le =
          let begins : IsPrefix l B = begins_shorter l B (lists z) (ok.1 z last) (safe z last)
          (omega (arith, ok.0)) in
          (le, sym (subst (λ k. take k B ≡ l) ok.0 (take_begins l B begins)))
      agree (Opened i s) ok le = tt
      agree (Closed i s) ok le = tt
      agree (Refused i why) ok le = tt

      agree_all : (rs : List (Response A)) → AllByRecursion GoodReply rs → top rs ≤ length B
          → AllByRecursion (Speaks events B) rs
      agree_all [] ok le = tt
      agree_all (r ∷ rs) ok le = (agree r ok.0 (omega arith), agree_all rs ok.1 (omega arith))

-- it is the one list
pub one_history : {A : Type 0} (cs : List (List ℕ)) (events : List (SystemEvent A)) → IsChain cs
    → OneHistory cs events
one_history cs events lawful =
    let w = reached cs events in
    let told = accepted cs events (first_state cs) in
    let ok : WorldOk cs events told w = reached_ok cs lawful events in
    let z = someone (last_of cs) (last_epoch cs lawful).1.2 in
    let b = longest events cs (lists_of w) w.replies ok.replies in
    record {
      B = b.0;
      taken = part_trans b.0 (lists_of w z.0) told (part_begins (b.1.1 z.0 z.1))
          (ok.nodes z.0).sound.handed.part;
      speaks = agree_all events cs (lists_of w) z.0 z.1 b.0 b.1.1 w.replies ok.replies
          (omega (arith, b.1.0));
      stands = b.1.1;
    }
