-- What a node knows after a step, and the machine after it.
use Rattle.std.proofs.Common.{◌≡◌, ℕ, suc, ◌+◌, List, [], ◌∷◌, ◌++◌, length, Bool, true, max}
use Rattle.std.proofs.Common.{◌≤◌, ◌<◌, nat_le, le-leb, false, refl, sym, ap, subst, ◌∙◌}
use Rattle.std.proofs.Common.{length-append, arith}
use Rattle.std.specs.Prelude.{if◌then◌else◌, Option, Some, SomeIff}
use Rattle.kv_types.specs.{BatchContent, Edits, has}
use Rattle.configurations.specs.{is_tail}
use Rattle.chain_model.specs.{due, not_due, accept, append, on_ack, longer_for}
use Rattle.chain_model.specs.{ack, acknowledge, forward}
use Rattle.chain_model.specs.Rules.{adopt, moved, queued, repeat}
use Rattle.chain_model.specs.RulesLemmas.{prior_least}
use Rattle.chain_model.specs.Machine.{Answer, replied, silent}
use Rattle.chain_model.specs.Requests.{Committed}
use Rattle.std.specs.List.{insert}
use Rattle.std.proofs.lemmas.Bool.{cond-true, cond-false, lt-leb}
use Rattle.chain_core.specs.declared.pending_submit.PendingSubmit.{PendingSubmit}
use Rattle.chain_core.specs.States.{Machine, Core, CoreRefines, IsInOrder, waiting}
use Rattle.chain_core.specs.States.{committed_responses}
use Rattle.chain_core.specs.Queues.{front, behind, place_behind}
use Rattle.chain_core.specs.Decisions.{CoreFollows}
use Rattle.chain_core.proofs.Queues.{due_front, not_due_behind, waiting_push, push_in_order}
use Rattle.chain_core.proofs.Queues.{waiting_queued}

-- a tail commits its full list, another node what it had committed
pub committed_by : (b : Bool) (n : Machine) →
    (if b then record n { committed = length n.list } else n)
    ≡ record n { committed = if b then length n.list else n.committed }
committed_by true n = refl
committed_by false n = refl

-- the machine of node x after it adopted a configuration, of which it is the tail or not
abbrev pub adopted_at : ℕ → Machine → ℕ → List ℕ → Bool → Machine
adopted_at x n epoch ids tail =
    let committed = if tail then length n.list else n.committed in
    record (moved x n epoch ids) { committed = committed; successor_has = committed }

-- the requests that stay pending where the node stays
waiting_where : (b : Bool) (ps : List PendingSubmit) →
    (if b then waiting ps else []) ≡ waiting (if b then ps else [])
waiting_where true ps = refl
waiting_where false ps = refl

longer : (n : Machine) (batch : BatchContent) (count number : ℕ) → length n.list ≡ count →
    number ≡ suc count → length (n.list ++ batch ∷ []) ≡ number
longer n batch count number e next = omega (arith, length-append n.list (batch ∷ []), e, next)

-- the next number, as it was found
pub next_of : (o : Option ℕ) (P : Type 0) (old count number : ℕ) → SomeIff o P (old + 1) →
    o ≡ Some number → old ≡ count → number ≡ suc count
next_of o P old count number found some same =
    let at : P × (number ≡ old + 1) = subst (λ (q : Option ℕ). SomeIff q P (old + 1)) some found in
    omega (arith, at.1, same)

module _ (core : Core) (n : Machine) (is : CoreRefines core n) where
  -- after a batch of the head
  module _ (i : ℕ) (batch : BatchContent) (number c : ℕ) (next : number ≡ suc core.count)
      (ordered : IsInOrder (1, 0) core.count core.pending)
      (commits : c ≡ (if is_tail core.ids core.id then number else core.committed)) where
    abbrev pub all : List PendingSubmit
    all = core.pending ++ record { number = number; request = i } ∷ []

    pub follows_accept : (pending due : List PendingSubmit) → pending ≡ behind c all → due ≡ front c
        all →
        CoreFollows (record core { count = number; committed = c; pending = pending })
        (accept core.id n i batch) (committed_responses due)
    follows_accept pending answered left out =
        let asked : PendingSubmit = record { number = number; request = i } in
        let new : Core = record core { count = number; committed = c; pending = pending } in
        let c' = if is_tail n.ids core.id then length (n.list ++ batch ∷ []) else n.committed in
        let m : Machine = record (longer_for n i batch) { committed = c' } in
        let long = longer n batch core.count number is.count next in
        let same : c' ≡ c = rw (is.ids, long, is.committed) (sym commits) in
        let rises = push_in_order (1, 0) core.count core.pending asked ordered
        (prior_least (number, i) (omega (arith, next))) next in
        let waits : m.pending ≡ waiting all =
        rw (is.pending, is.count, ← next) (sym (waiting_push core.pending asked)) in
        let base : CoreFollows new (acknowledge m (forward core.id m (suc (length n.list))))
        (committed_responses answered) =
        record {
          is = record {
            epoch = is.epoch;
            ids = is.ids;
            count = long;
            committed = same;
            floor = is.floor;
            kept = is.kept;
            successor_has = is.successor_has;
            snapshots = is.snapshots;
            pending = ap (λ (k : ℕ). not_due k m.pending) same ∙ (ap (not_due c) waits
                ∙ (not_due_behind (1, 0) number c all rises ∙ ap waiting (sym left)));
            running = is.running;
          };
          replied = ap (λ (k : ℕ). due {A = Edits} k m.pending) same
              ∙ (ap (due {A = Edits} c) waits
              ∙ (due_front (1, 0) number c all rises ∙ ap committed_responses (sym out)));
        } in
        subst (λ (k : Machine). CoreFollows new
        (acknowledge k (forward core.id k (suc (length n.list)))) (committed_responses answered))
        (sym (committed_by (is_tail n.ids core.id) (longer_for n i batch))) base

  -- after a request that submits again a batch whose number is committed
  pub follows_known : (i k : ℕ) → k ≤ core.committed → CoreFollows core (repeat n i k)
      (committed_responses (record { number = k; request = i } ∷ []))
  follows_known i k le =
      let known : PendingSubmit = record { number = k; request = i } in
      let waits = silent (record n { pending = queued (k, i) n.pending }) in
      let replies = committed_responses (known ∷ []) in
      subst (λ (a : Answer Edits). CoreFollows core a replies)
      (sym (cond-true (nat_le k n.committed) (replied n (Committed i k)) waits
      (le-leb k n.committed (omega (arith, le, is.committed)))))
      (record { is = is; replied = refl })

  -- .. or is not
  pub follows_queued : (i k : ℕ) → core.committed < k → (pending : List PendingSubmit)
      → pending ≡ insert core.pending (place_behind (record { number = k; request = i })
      core.pending) (record { number = k; request = i })
      → CoreFollows (record core { pending = pending }) (repeat n i k) (committed_responses [])
  follows_queued i k lt pending put =
      let asked : PendingSubmit = record { number = k; request = i } in
      let m : Machine = record n { pending = queued (k, i) n.pending } in
      let new : Core = record core { pending = pending } in
      subst (λ (a : Answer Edits). CoreFollows new a (committed_responses []))
      (sym (cond-false (nat_le k n.committed) (replied n (Committed i k)) (silent m)
      (lt-leb k n.committed (omega (arith, lt, is.committed)))))
      (record {
        is = record {
          epoch = is.epoch;
          ids = is.ids;
          count = is.count;
          committed = is.committed;
          floor = is.floor;
          kept = is.kept;
          successor_has = is.successor_has;
          snapshots = is.snapshots;
          pending = ap (queued (k, i)) is.pending ∙ (sym (waiting_queued asked core.pending)
              ∙ ap waiting (sym put));
          running = is.running;
        };
        replied = refl;
      })

  -- after a batch of the predecessor
  pub follows_append : (batch : BatchContent) (number c : ℕ) → number ≡ suc core.count →
      c ≡ (if is_tail core.ids core.id then number else core.committed) →
      CoreRefines (record core { count = number; committed = c })
      (append core.id n (suc (length n.list)) batch).node
  follows_append batch number c next commits =
      let c' = if is_tail n.ids core.id then length (n.list ++ batch ∷ []) else n.committed in
      let m : Machine = record n { list = n.list ++ batch ∷ []; committed = c' } in
      let long = longer n batch core.count number is.count next in
      let same : c' ≡ c = rw (is.ids, long, is.committed) (sym commits) in
      let base : CoreRefines (record core { count = number; committed = c }) m = record {
        epoch = is.epoch;
        ids = is.ids;
        count = long;
        committed = same;
        floor = is.floor;
        kept = is.kept;
        successor_has = is.successor_has;
        snapshots = is.snapshots;
        pending = is.pending;
        running = is.running;
      } in
      subst (λ (k : Machine). CoreRefines (record core { count = number; committed = c }) k)
      (sym (committed_by (is_tail n.ids core.id) (record n { list = n.list ++ batch ∷ [] }))) base

  -- the state after the successor's report
  pub follows_told : (committed have c has : ℕ) (pending due : List PendingSubmit) →
      c ≡ max core.committed committed → has ≡ max core.successor_has have →
      IsInOrder (1, 0) core.count core.pending →
      pending ≡ behind c core.pending → due ≡ front c core.pending →
      CoreFollows (record core { committed = c; successor_has = has; pending = pending })
      (on_ack core.id n committed have) (committed_responses due)
  follows_told committed have c has pending answered greater more ordered left out =
      let same : max n.committed committed ≡ c =
      ap (λ (k : ℕ). max k committed) is.committed ∙ sym greater in
      record {
        is = record {
          epoch = is.epoch;
          ids = is.ids;
          count = is.count;
          committed = same;
          floor = is.floor;
          kept = is.kept;
          successor_has = ap (λ (k : ℕ). max k have) is.successor_has ∙ sym more;
          snapshots = is.snapshots;
          pending = ap (λ (k : ℕ). not_due k n.pending) same ∙ (ap (not_due c) is.pending
              ∙ (not_due_behind (1, 0) core.count c core.pending ordered ∙ ap waiting (sym left)));
          running = is.running;
        };
        replied = ap (λ (k : ℕ). due {A = Edits} k n.pending) same
            ∙ (ap (due {A = Edits} c) is.pending
            ∙ (due_front (1, 0) core.count c core.pending ordered
            ∙ ap committed_responses (sym out)));
      }

  -- the state after a later configuration was adopted
  pub follows_adopt : (epoch : ℕ) (ids : List ℕ) (c : ℕ) (waits pending due : List PendingSubmit) →
      c ≡ (if is_tail ids core.id then core.count else core.committed) →
      waits ≡ (if has ids core.id then core.pending else []) → IsInOrder (1, 0) core.count waits →
      pending ≡ behind c waits → due ≡ front c waits →
      CoreFollows (record core {
        epoch = epoch;
        ids = ids;
        committed = c;
        successor_has = c;
        pending = pending;
      }) (adopt core.id n epoch ids) (committed_responses due)
  follows_adopt epoch ids c waits pending answered commits stays ordered left out =
      let x = core.id in
      let new : Core = record core {
        epoch = epoch;
        ids = ids;
        committed = c;
        successor_has = c;
        pending = pending;
      } in
      let m : Machine = adopted_at x n epoch ids (is_tail ids x) in
      let same : m.committed ≡ c = rw (is.count, is.committed) (sym commits) in
      let same_pending : m.pending ≡ waiting waits =
      rw (is.pending, stays) (waiting_where (has ids x) core.pending) in
      let base : CoreFollows new (acknowledge m (ack x m)) (committed_responses answered) = record {
        is = record {
          epoch = refl;
          ids = refl;
          count = is.count;
          committed = same;
          floor = is.floor;
          kept = is.kept;
          successor_has = same;
          snapshots = is.snapshots;
          pending = ap (λ (k : ℕ). not_due k m.pending) same ∙ (ap (not_due c) same_pending
              ∙ (not_due_behind (1, 0) core.count c waits ordered ∙ ap waiting (sym left)));
          running = is.running;
        };
        replied = ap (λ (k : ℕ). due {A = Edits} k m.pending) same
            ∙ (ap (due {A = Edits} c) same_pending
            ∙ (due_front (1, 0) core.count c waits ordered ∙ ap committed_responses (sym out)));
      } in
      subst (λ (m : Machine). CoreFollows new
      (let k : Machine = record m { successor_has = m.committed } in acknowledge k (ack x k))
      (committed_responses answered))
      (sym (committed_by (is_tail ids x) (moved x n epoch ids))) base
