-- The frames and replies of a node satisfy the invariant.
use Rattle.std.proofs.Common.{◌≡◌, ⊎_elim, ℕ, zero, suc, ◌≤◌, List, [], ◌∷◌, take, Option, Some}
use Rattle.std.proofs.Common.{None, true, nat_le, sym, refl, subst, arith, length-take-le}
use Rattle.std.proofs.Common.{leb-true}
use Rattle.std.specs.List.{AllByRecursion}
use Rattle.std.specs.Prelude.{IsTrue}
use Rattle.std.proofs.lemmas.Bool.{cond_both}
use Rattle.kv_types.specs.{AllDifferent, Marked, Part, has, place}
use Rattle.configurations.specs.{at_epoch, is_tail, last_of, predecessor, successor}
use Rattle.configurations.specs.NodeLists.{IsBeforeIn}
use Rattle.chain_model.specs.declared.refusal.Refusal.{Refusal}
use Rattle.chain_model.specs.Messages.{Message}
use Rattle.chain_model.specs.Requests.{Committed}
use Rattle.chain_model.specs.Machine.{Answer, MachineState, dropped_for, due, not_due, refused}
use Rattle.chain_model.specs.Machine.{silent}
use Rattle.chain_model.specs.Rules.{ack_to, acknowledge, forward, forward_to, forwards, is_prior}
use Rattle.chain_model.specs.System.{SystemEvent}
use Rattle.chain_model.specs.Order.{WasCommitted}
use Rattle.chain_model.specs.Retention.{AreInTurnFrom}
use Rattle.chain_model.specs.RulesLemmas.{prior_trans}
use Rattle.kv_types.specs.ListsLemmas.{begins-place, begins_trans, every_append, place_take}
use Rattle.kv_types.specs.ListsLemmas.{take_less}
use Rattle.chain_model.proofs.Configuration.{IsChain, all_different, before_back, before_left}
use Rattle.chain_model.proofs.Configuration.{before_part, has_part, last_epoch, later_part}
use Rattle.chain_model.proofs.Configuration.{predecessor_before, successor_is_in}
use Rattle.chain_model.proofs.Invariant.{FrameOk, IsPending, NodeOk, ReplyOk, Safe, SoundNode}

-- the requirement on an answer
pub record AnswerOk {A : Type 0} (cs : List (List ℕ)) (events : List (SystemEvent A))
    (h : List (Marked A))
    (lists : ℕ → List (Marked A)) (x : ℕ) (a : Answer A) : Type 0 where
  pub node : NodeOk cs events h lists x a.node
  pub frames : AllByRecursion (FrameOk cs events lists) a.frames
  pub replies : AllByRecursion (ReplyOk cs events lists) a.replies

-- the new list of a node in the world, and the batches that a tail commits by it
pub record Lands {A : Type 0} (cs : List (List ℕ)) (events : List (SystemEvent A))
    (lists : ℕ → List (Marked A)) (x : ℕ) (n : MachineState A) : Type 0 where
  pub list : lists x ≡ n.list
  pub tail : is_tail (at_epoch cs n.epoch) x ≡ true → WasCommitted cs events n.epoch n.list

-- `lists` are the lists of all nodes after the step.
module _ {A : Type 0} (cs : List (List ℕ)) (lawful : IsChain cs) (events : List (SystemEvent A))
    (h : List (Marked A)) (lists : ℕ → List (Marked A)) (x : ℕ) where
  -- the order of a smaller configuration is that of the first
  pub before_first : (n : MachineState A) → SoundNode cs events h lists x n → (y z : ℕ)
      → IsBeforeIn n.ids y z → IsBeforeIn (at_epoch cs 0) y z
  before_first n s y z b = before_part (at_epoch cs n.epoch) (at_epoch cs 0) y z
      (later_part cs 0 n.epoch lawful (omega arith) s.in_range)
      (subst (λ c. IsBeforeIn c y z) s.knows b)

  -- the order of the first configuration is that of a smaller one
  pub before_known : (n : MachineState A) → SoundNode cs events h lists x n → (y z : ℕ)
      → has n.ids y ≡ true → has n.ids z ≡ true → IsBeforeIn (at_epoch cs 0) y z → IsBeforeIn n.ids
      y z
  before_known n s y z ky kz b =
      before_back n.ids (at_epoch cs 0) y z (subst (λ c. Part c (at_epoch cs 0)) (sym s.knows)
      (later_part cs 0 n.epoch lawful (omega arith) s.in_range))
      (all_different cs 0 lawful (omega (arith, s.in_range))) ky kz b

  -- a node's configuration has different ids
  pub different : (n : MachineState A) → SoundNode cs events h lists x n → AllDifferent n.ids
  different n s = subst (λ c. AllDifferent c) (sym s.knows)
      (all_different cs n.epoch lawful s.in_range)

  -- every node of the last configuration has the batches that a node's configuration has
  pub safe_last : (n : MachineState A) → SoundNode cs events h lists x n → (l : List (Marked A))
      → Safe lists n.ids l → Safe lists (last_of cs) l
  safe_last n s l safe y k =
      let last = last_epoch cs lawful in
      let its : has (at_epoch cs n.epoch) y ≡ true = has_part (at_epoch cs last.0)
      (at_epoch cs n.epoch) y
      (later_part cs n.epoch last.0 lawful (omega (arith, last.1.0, s.in_range))
      (omega (arith, last.1.0))) (subst (λ c. has c y ≡ true) last.1.1 k) in
      safe y (subst (λ c. has c y ≡ true) (sym s.knows) its)

  -- a node in its own configuration is in every earlier one
  pub kept_earlier : (n : MachineState A) → SoundNode cs events h lists x n → (e : ℕ) → e ≤ n.epoch
      → has n.ids x ≡ true → has (at_epoch cs e) x ≡ true
  kept_earlier n s e le k = has_part (at_epoch cs n.epoch) (at_epoch cs e) x
      (later_part cs e n.epoch lawful le s.in_range) (subst (λ c. has c x ≡ true) s.knows k)

  -- an acknowledgement reports a committed length
  pub ack_ok : (n : MachineState A) → SoundNode cs events h lists x n → (o : Option ℕ)
      → predecessor n.ids x ≡ o → AllByRecursion (FrameOk cs events lists) (ack_to o x n)
  ack_ok n s None from = tt
  ack_ok n s (Some p) from = (
    (
      subst (λ c. has c p ≡ true) s.knows
          (before_left n.ids p x (predecessor_before n.ids x p from)),
      (
        take n.committed n.list,
        (
          length-take-le n.committed n.list s.committed_le,
          subst
              (λ c. Safe lists c (take n.committed n.list)) s.knows s.safe,
          (s.known.0, (s.known.1.0, s.known.1.2)),
        ),
      ),
    ),
    tt,
  )

  -- a batch of the list is in all lists before
  pub forward_ok : (n : MachineState A) → SoundNode cs events h lists x n → lists x ≡ n.list
      → (k : ℕ) (o : Option ℕ) (b : Option (Marked A)) → successor n.ids x ≡ o → place n.list k ≡ b
      → AllByRecursion (FrameOk cs events lists) (forward_to o x n k b)
  forward_ok n s here k None b next e = tt
  forward_ok n s here k (Some to) None next e = tt
  forward_ok n s here k (Some to) (Some b) next e = (
    (
      subst (λ c. has c to ≡ true) s.knows (successor_is_in n.ids x to next),
      λ z. ⊎_elim
          (λ is. subst (λ y. place (lists y) k ≡ Some b) (sym is)
          (subst (λ l. place l k ≡ Some b) (sym here) e))
          (λ b'. begins-place k b
          (s.behind z b'.0 (subst (λ c. has c z ≡ true) (sym s.knows) b'.1)) e),
    ),
    tt,
  )

  -- so are several in a row
  pub forwards_ok : (n : MachineState A) → SoundNode cs events h lists x n → lists x ≡ n.list
      → (k count : ℕ) → AllByRecursion (FrameOk cs events lists) (forwards x n k count)
  forwards_ok n s here k zero = tt
  forwards_ok n s here k (suc count) =
      every_append (FrameOk cs events lists) (forward x n (suc k)) (forwards x n (suc k) count)
      (forward_ok n s here (suc k) (successor n.ids x) (place n.list (suc k)) refl refl)
      (forwards_ok n s here (suc k) count)

  -- the acknowledgement of a request whose batch is committed is true
  pub committed_ok : (n : MachineState A) → SoundNode cs events h lists x n → (p : ℕ × ℕ)
      → p.0 ≤ n.committed → IsPending events n.list p → ReplyOk cs events lists (Committed p.1 p.0)
  committed_ok n s p small pending = (
    take p.0 n.list,
    (
      length-take-le p.0 n.list (omega (arith, s.committed_le)),
      (
        pending.0,
        (pending.1.0, place_take p.0 n.list p.0 pending.0 pending.1.1 (omega arith)),
      ),
      safe_last n s (take p.0 n.list)
          (λ y k. begins_trans (take_less p.0 n.committed n.list small) (s.safe y k)),
    ),
  )

  -- the replies to requests whose batches are committed are true
  pub due_ok : (n : MachineState A) → SoundNode cs events h lists x n → (ps : List (ℕ × ℕ))
      → AllByRecursion (IsPending events n.list) ps
      → AllByRecursion (ReplyOk cs events lists) (due n.committed ps)
  due_ok n s [] pending = tt
  due_ok n s (p ∷ ps) pending =
      cond_both (nat_le p.0 n.committed) (Committed p.1 p.0 ∷ due n.committed ps)
      (due n.committed ps) (λ rs. AllByRecursion (ReplyOk cs events lists) rs)
      (λ le. (
        committed_ok n s p (leb-true p.0 n.committed le) pending.0,
        due_ok n s ps pending.1,
      ))
      (λ gt. due_ok n s ps pending.1)

  -- requests of greater numbers stay pending
  pub not_due_ok : (l : List (Marked A)) (k : ℕ) (ps : List (ℕ × ℕ))
      → AllByRecursion (IsPending events l) ps
      → AllByRecursion (IsPending events l) (not_due k ps)
  not_due_ok l k [] pending = tt
  not_due_ok l k (p ∷ ps) pending =
      cond_both (nat_le p.0 k) (not_due k ps) (p ∷ not_due k ps)
      (λ rs. AllByRecursion (IsPending events l) rs)
      (λ le. not_due_ok l k ps pending.1)
      (λ gt. (pending.0, not_due_ok l k ps pending.1))

  -- requests behind q are behind one that goes before q
  pub rises_less : (p q : ℕ × ℕ) (ps : List (ℕ × ℕ)) → IsTrue (is_prior p q) → AreInTurnFrom q ps
      → AreInTurnFrom p ps
  rises_less p q [] le up = tt
  rises_less p q (r ∷ ps) le up = (prior_trans p q r le up.0, up.1)

  -- the requests that stay pending stay in order
  rises_not_due : (k : ℕ) (o : ℕ × ℕ) (ps : List (ℕ × ℕ)) → AreInTurnFrom o ps
      → AreInTurnFrom o (not_due k ps)
  rises_not_due k o [] up = tt
  rises_not_due k o (p ∷ ps) up =
      cond_both (nat_le p.0 k) (not_due k ps) (p ∷ not_due k ps) (AreInTurnFrom o)
      (λ le. rises_not_due k o ps (rises_less o p ps up.0 up.1))
      (λ gt. (up.0, rises_not_due k p ps up.1))

  -- replies to those who wait keep the invariant
  pub acknowledge_ok : (n : MachineState A) (fs : List (Message A)) → NodeOk cs events h lists x n
      → AllByRecursion (FrameOk cs events lists) fs
      → AnswerOk cs events h lists x (acknowledge n fs)
  acknowledge_ok n fs ok sent = record {
    node = record {
      sound = ok.sound;
      pending = not_due_ok n.list n.committed n.pending
          ok.pending;
      tail = ok.tail;
      snapshots = ok.snapshots;
      rising = rises_not_due n.committed (1, 0) n.pending ok.rising;
      resend = ok.resend;
    };
    frames = sent;
    replies = due_ok n ok.sound n.pending ok.pending;
  }

  -- a step without frames and replies keeps the invariant
  pub silent_ok : (n : MachineState A) → NodeOk cs events h lists x n → AnswerOk cs events h lists x
      (silent n)
  silent_ok n ok = record { node = ok; frames = tt; replies = tt }

  -- a drop keeps the invariant
  pub dropped_ok : (n : MachineState A) → NodeOk cs events h lists x n → (r : _)
      → AnswerOk cs events h lists x (dropped_for n r)
  dropped_ok n ok r = record { node = ok; frames = tt; replies = tt }

  -- a refusal keeps the invariant
  pub refused_ok : (n : MachineState A) (i : ℕ) → NodeOk cs events h lists x n → (code : Refusal)
      → AnswerOk cs events h lists x (refused n i code)
  refused_ok n i ok code = record { node = ok; frames = tt; replies = (tt, tt) }
