-- A batch that is appended, and what a tail commits, keep the invariant.
use Rattle.std.proofs.Common.{◌≡◌, ◌⊎◌, inl, inr, ⊎_elim, nat_le, leb-true, ℕ, zero, suc, ◌≤◌}
use Rattle.std.proofs.Common.{List, [], ◌∷◌, ◌++◌, length, Some, true, false, cond, sym, refl}
use Rattle.std.proofs.Common.{◌∙◌, subst, arith, take_all, length-append}
use Rattle.std.specs.List.{AllByRecursion}
use Rattle.std.specs.Prelude.{IsTrue}
use Rattle.std.proofs.lemmas.Bool.{cond_both, false≢true}
use Rattle.kv_types.specs.{IsPrefix, Marked, Part, has, place}
use Rattle.configurations.specs.{at_epoch, is_head, is_tail, predecessor, successor}
use Rattle.configurations.specs.NodeLists.{IsBeforeIn}
use Rattle.chain_model.specs.Machine.{Answer, MachineState, replied, silent}
use Rattle.chain_model.specs.Rules.{accept, ack, append, forward, is_prior, longer_for}
use Rattle.chain_model.specs.Rules.{queued, repeat, submit}
use Rattle.chain_model.specs.Rules.{tail_commits, receive_forward}
use Rattle.chain_model.specs.System.{SystemEvent}
use Rattle.chain_model.specs.Order.{WasCommitted}
use Rattle.chain_model.specs.Retention.{AreInTurnFrom}
use Rattle.chain_model.specs.RulesLemmas.{prior_below, prior_least, prior_other}
use Rattle.kv_types.specs.ListsLemmas.{begins_more, begins_next, begins_refl, every_append}
use Rattle.kv_types.specs.ListsLemmas.{every_map, none_at_zero, place-bounds, place_in}
use Rattle.kv_types.specs.ListsLemmas.{place_last, take_of_begins}
use Rattle.chain_model.proofs.Configuration.{IsChain, before_left, before_predecessor}
use Rattle.chain_model.proofs.Configuration.{before_tail, none_before_head, none_before_itself}
use Rattle.chain_model.proofs.Configuration.{predecessor_before, tail_has}
use Rattle.chain_model.proofs.Submitted.{AreAnswers, WasHandedIn, among_place}
use Rattle.chain_model.specs.Requests.{Committed}
use Rattle.kv_types.specs.MarksLemmas.{held_is}
use Rattle.chain_model.proofs.Marks.{IsNext, Taken, rises_next, taken_begins}
use Rattle.chain_model.proofs.Invariant.{FrameOk, IsPending, NodeOk, Sound, SoundNode}
use Rattle.chain_model.proofs.Cases.{submit_cases, take_forward_cases}
use Rattle.chain_model.proofs.Sends.{AnswerOk, Lands, ack_ok, acknowledge_ok, before_first}
use Rattle.chain_model.proofs.Sends.{committed_ok}
use Rattle.chain_model.proofs.Sends.{before_known, different, forward_ok, refused_ok}

-- places are counted from 1
place_from_one : {X : Type 0} (l : List X) (k : ℕ) (x : X) → place l k ≡ Some x → 1 ≤ k
place_from_one l zero x at = absurd (none_at_zero l x at)
place_from_one l (suc k) x at = omega arith

-- `lists` are the lists of all nodes after the step.
module _ {A : Type 0} (cs : List (List ℕ)) (lawful : IsChain cs) (events : List (SystemEvent A))
    (h : List (Marked A)) (lists : ℕ → List (Marked A)) (x : ℕ) where
  -- a tail may commit its full list
  pub tail_sound : (n : MachineState A) → Lands cs events lists x n → is_tail n.ids x ≡ true
      → SoundNode cs events h lists x n → Sound cs events h lists x n.list n.epoch n.ids
      (length n.list) n.floor n.kept
  tail_sound n here is s = record {
    in_range = s.in_range;
    knows = s.knows;
    behind = s.behind;
    safe = λ y k. subst (λ m. IsPrefix m (lists y))
        (sym (take_all (length n.list) n.list (omega arith)))
        (⊎_elim (λ same. subst (λ z. IsPrefix n.list (lists z)) (sym same)
        (subst (λ m. IsPrefix n.list m) (sym here.list) (begins_refl n.list)))
        (λ before. s.behind y (before_first cs lawful events h lists x n s y x before) k)
        (before_tail n.ids y x is k));
    known = (
      n.epoch,
      (
        omega arith,
        λ first. tail_has (at_epoch cs n.epoch) x
            (subst (λ c. is_tail c x ≡ true) s.knows is),
        subst (WasCommitted cs events n.epoch)
            (sym (take_all (length n.list) n.list (omega arith)))
            (here.tail (subst (λ c. is_tail c x ≡ true) s.knows is)),
      ),
    );
    kept_le = s.kept_le;
    floor_le = omega (arith, s.floor_le, s.committed_le);
    committed_le = omega arith;
    handed = s.handed;
  }

  -- the new list of a tail that commits is its list before
  pub lands_tail : (n : MachineState A) → Lands cs events lists x (tail_commits x n)
      → Lands cs events lists x n
  lands_tail n at = cond_both (is_tail n.ids x) (record n { committed = length n.list }) n
      (λ m. Lands cs events lists x m → Lands cs events lists x n)
      (λ is at. record { list = at.list; tail = at.tail }) (λ not at. at) at

  -- a tail that commits its full list keeps the invariant
  pub tail_ok : (n : MachineState A) → Lands cs events lists x n → SoundNode cs events h lists x n
      → AllByRecursion (IsPending events n.list) n.pending
      → AllByRecursion (λ s. n.floor ≤ s) n.snapshots
      → AreInTurnFrom (1, 0) n.pending
      → (n.running ≡ true → is_tail n.ids x ≡ false → n.committed ≤ n.successor_has)
      → NodeOk cs events h lists x (tail_commits x n)
  tail_ok n here s pending snapshots rising resend =
      cond_both (is_tail n.ids x) (record n { committed = length n.list }) n
      (λ m. NodeOk cs events h lists x m)
      (λ is. record {
        sound = tail_sound n here is s;
        pending = pending;
        tail = λ up t. refl;
        snapshots = snapshots;
        rising = rising;
        resend = λ up t. absurd (false≢true (sym t ∙ is));
      })
      (λ not. record {
        sound = s;
        pending = pending;
        tail = λ up t. absurd (false≢true (sym not ∙ t));
        snapshots = snapshots;
        rising = rising;
        resend = resend;
      })

  -- one more batch, which is next in the list of every node before
  pub append_sound : (n : MachineState A) (b : Marked A) → SoundNode cs events h lists x n
      → has n.ids x ≡
      true
      → ((z : ℕ) → IsBeforeIn n.ids z x → place (lists z) (suc (length n.list)) ≡ Some b)
      → Taken (n.list ++ b ∷ []) h → Sound cs events h lists x (n.list ++ b ∷ []) n.epoch n.ids
      n.committed n.floor n.kept
  append_sound n b s has_x next part = record {
    in_range = s.in_range;
    knows = s.knows;
    behind = λ z before k. begins_next b (s.behind z before k)
        (next z (before_known cs lawful events h lists x n s z x k has_x before));
    safe = λ y k. subst (λ m. IsPrefix m (lists y))
        (sym (take_of_begins n.committed n.list (n.list ++ b ∷ []) (begins_more n.list (b ∷ []))
        s.committed_le)) (s.safe y k);
    known = (
      s.known.0,
      (
        s.known.1.0,
        s.known.1.1,
        subst (WasCommitted cs events s.known.0)
            (sym (take_of_begins n.committed n.list (n.list ++ b ∷ []) (begins_more n.list (b ∷ []))
            s.committed_le)) s.known.1.2,
      ),
    );
    kept_le = s.kept_le;
    floor_le = s.floor_le;
    committed_le = omega (arith, s.committed_le, length-append n.list (b ∷ []));
    handed = part;
  }

  -- a request pending for a list is pending for a longer one
  pub pending_longer : (l : List (Marked A)) (b : Marked A) (ps : List (ℕ × ℕ))
      → AllByRecursion (IsPending events l) ps → AllByRecursion (IsPending events (l ++ b ∷ [])) ps
  pending_longer l b ps pending = every_map (IsPending events l) (IsPending events (l ++ b ∷ []))
      ps (λ p is. (is.0, (is.1.0, place_in l (b ∷ []) p.0 is.0 is.1.1))) pending

  -- a request that all go before may follow them
  rises_append : (p q : ℕ × ℕ) (ps : List (ℕ × ℕ)) → IsTrue (is_prior p q) → AreInTurnFrom p ps
      → AllByRecursion (λ (r : ℕ × ℕ). IsTrue (is_prior r q)) ps → AreInTurnFrom p (ps ++ q ∷ [])
  rises_append p q [] le up each = (le, tt)
  rises_append p q (r ∷ ps) le up each = (up.0, rises_append r q ps each.0 up.1 each.1)

  -- a request that waits for the next number waits last
  last_rises : (n : MachineState A) (i : ℕ) → NodeOk cs events h lists x n
      → AreInTurnFrom (1, 0) (n.pending ++ (suc (length n.list), i) ∷ [])
  last_rises n i ok =
      let last : ℕ × ℕ = (suc (length n.list), i) in
      rises_append (1, 0) last n.pending (prior_least last (omega arith)) ok.rising
      (every_map (IsPending events n.list) (λ (p : ℕ × ℕ). IsTrue (is_prior p last)) n.pending
      (λ p is. prior_below p last.0 i (omega (arith, place-bounds n.list p.0 is.0 is.1.1)))
      ok.pending)

  -- the requirement on an answer, once the node's new list is known
  abbrev pub Keeps : Answer A → Type 0
  Keeps a = Lands cs events lists x a.node → AnswerOk cs events h lists x a

  -- frames of a batch that is passed on
  passed_on : (m : MachineState A) → NodeOk cs events h lists x m → lists x ≡ m.list → (k : ℕ)
      → AllByRecursion (FrameOk cs events lists) (forward x m k)
  passed_on m ok here k =
      forward_ok cs lawful events h lists x m ok.sound here k (successor m.ids x) (place m.list k)
      refl refl

  -- the head accepts a batch
  accept_ok : (n : MachineState A) (i : ℕ) (b : Marked A) → NodeOk cs events h lists x n
      → WasHandedIn events i b → Part (n.list ++ b ∷ []) h → is_head n.ids x ≡ true
      → has n.ids x ≡ true → IsNext n.list b.mark → Keeps (accept x n i b)
  accept_ok n i b ok brought part head kept next at =
      let taken : Taken (n.list ++ b ∷ []) h =
      record { part = part; rises = rises_next n.list b ok.sound.handed.rises next } in
      let more = longer_for n i b in
      let m = tail_commits x more in
      let size = suc (length n.list) in
      let first : (z : ℕ) → IsBeforeIn n.ids z x → place (lists z) size ≡ Some b =
      λ z before. absurd
      (none_before_head n.ids z x (different cs lawful events h lists x n ok.sound) head
      before) in
      let waits : AllByRecursion (IsPending events more.list) more.pending =
      every_append (IsPending events more.list) n.pending ((size, i) ∷ [])
      (pending_longer n.list b n.pending ok.pending)
      ((b, (inl brought, place_last n.list b)), tt) in
      let ok' : NodeOk cs events h lists x m =
      tail_ok more (lands_tail more (record { list = at.list; tail = at.tail }))
      (append_sound n b ok.sound kept first taken) waits ok.snapshots (last_rises n i ok)
      ok.resend in
      acknowledge_ok cs lawful events h lists x m (forward x m size) ok'
      (passed_on m ok' at.list size)

  -- one more pending request, in its place
  pending_queued : (l : List (Marked A)) (p : ℕ × ℕ) (ps : List (ℕ × ℕ)) → IsPending events l p
      → AllByRecursion (IsPending events l) ps → AllByRecursion (IsPending events l) (queued p ps)
  pending_queued l p [] is pending = (is, tt)
  pending_queued l p (q ∷ ps) is pending =
      cond_both (is_prior q p) (q ∷ queued p ps) (p ∷ q ∷ ps)
      (AllByRecursion (IsPending events l))
      (λ behind. (pending.0, pending_queued l p ps is pending.1)) (λ before. (is, pending))

  -- .. keeps them in order
  rises_queued : (o p : ℕ × ℕ) (ps : List (ℕ × ℕ)) → IsTrue (is_prior o p) → AreInTurnFrom o ps
      → AreInTurnFrom o (queued p ps)
  rises_queued o p [] le up = (le, tt)
  rises_queued o p (q ∷ ps) le up =
      cond_both (is_prior q p) (q ∷ queued p ps) (p ∷ q ∷ ps) (AreInTurnFrom o)
      (λ is. (up.0, rises_queued q p ps is up.1))
      (λ not. (le, (prior_other q p not, up.1)))

  -- a request that submits again the batch at a place of the list
  repeat_ok : (n : MachineState A) (i k : ℕ) → NodeOk cs events h lists x n
      → IsPending events n.list (k, i) → Keeps (repeat n i k)
  repeat_ok n i k ok is at =
      cond_both (nat_le k n.committed) (replied n (Committed i k))
      (silent (record n { pending = queued (k, i) n.pending })) (AnswerOk cs events h lists x)
      (λ le. record {
        node = ok;
        frames = tt;
        replies = (
          committed_ok cs lawful events h lists x n ok.sound (k, i)
              (leb-true k n.committed le) is,
          tt,
        );
      })
      (λ gt. record {
        node = record {
          sound = ok.sound;
          pending = pending_queued n.list (k, i) n.pending is ok.pending;
          tail = ok.tail;
          snapshots = ok.snapshots;
          rising = rises_queued (1, 0) (k, i) n.pending
              (prior_least (k, i) (place_from_one n.list k is.0 is.1.1)) ok.rising;
          resend = ok.resend;
        };
        frames = tt;
        replies = tt;
      })

  -- a batch that is submitted
  pub submit_ok : (n : MachineState A) (i : ℕ) (b : Marked A) → NodeOk cs events h lists x n
      → WasHandedIn events i b → Part (n.list ++ b ∷ []) h → AreAnswers events n.list i b
      → Keeps (submit x n i b)
  submit_ok n i b ok brought part again =
      submit_cases Keeps x n i b (λ why at. refused_ok cs lawful events h lists x n i ok why)
      (λ kept head next. accept_ok n i b ok brought part head kept next)
      (λ k m is held.
      let one = held_is n.list m.client (m.request, k) held in
      repeat_ok n i k ok (
        one.0,
        (
          inr (again one.0 m (among_place one.0 n.list k one.1.0) one.1.1 is),
          one.1.0,
        ),
      ))

  -- the next batch of p, and of all before p, is the next batch of all before this node
  append_ok : (n : MachineState A) (k : ℕ) (b : Marked A) (p : ℕ) → NodeOk cs events h lists x n
      → has n.ids x ≡ true → predecessor n.ids x ≡ Some p
      → ((z : ℕ) → ((z ≡ p) ⊎ IsBeforeIn n.ids z p) → place (lists z) k ≡ Some b)
      → ((p ≡ x → ⊥) → Taken (lists p) h) → k ≡ suc (length n.list) → Keeps (append x n k b)
  append_ok n k b p ok has_x is_pred tells part number at =
      let more : MachineState A = record n { list = n.list ++ b ∷ [] } in
      let m = tail_commits x more in
      let differ = different cs lawful events h lists x n ok.sound in
      let before_p : IsBeforeIn n.ids p x = predecessor_before n.ids x p is_pred in
      let before_0 : IsBeforeIn (at_epoch cs 0) p x =
      before_first cs lawful events h lists x n ok.sound p x before_p in
      let other : p ≡ x → ⊥ =
      λ is. none_before_itself n.ids x differ (subst (λ z. IsBeforeIn n.ids z x) is before_p) in
      let next : (z : ℕ) → IsBeforeIn n.ids z x → place (lists z) (suc (length n.list)) ≡ Some b =
      λ z before. subst (λ j. place (lists z) j ≡ Some b) number
      (tells z (before_predecessor n.ids z x p differ is_pred before)) in
      let begins : IsPrefix (n.list ++ b ∷ []) (lists p) =
      begins_next b (ok.sound.behind p before_0 (before_left n.ids p x before_p))
      (next p before_p) in
      let handed : Taken (n.list ++ b ∷ []) h =
      taken_begins (n.list ++ b ∷ []) (lists p) h begins (part other) in
      let ok' : NodeOk cs events h lists x m =
      tail_ok more (lands_tail more (record { list = at.list; tail = at.tail }))
      (append_sound n b ok.sound has_x next handed)
      (pending_longer n.list b n.pending ok.pending) ok.snapshots ok.rising ok.resend in
      let acks : AllByRecursion (FrameOk cs events lists) (cond (is_tail m.ids x) (ack x m) []) =
      cond_both (is_tail m.ids x) (ack x m) [] (AllByRecursion (FrameOk cs events lists))
      (λ t. ack_ok cs lawful events h lists x m ok'.sound (predecessor m.ids x) refl) (λ t. tt) in
      record {
        node = ok';
        frames = every_append (FrameOk cs events lists) (forward x m k)
            (cond (is_tail m.ids x) (ack x m) []) (passed_on m ok' at.list k) acks;
        replies = tt;
      }

  -- a batch that the predecessor forwards
  pub take_forward_ok : (n : MachineState A) (k : ℕ) (b : Marked A) (p : ℕ)
      → NodeOk cs events h lists x n
      → has n.ids x ≡ true → predecessor n.ids x ≡ Some p
      → ((z : ℕ) → ((z ≡ p) ⊎ IsBeforeIn n.ids z p) → place (lists z) k ≡ Some b)
      → ((p ≡ x → ⊥) → Taken (lists p) h) → Keeps (receive_forward x n k b)
  take_forward_ok n k b p ok has_x is_pred tells part =
      take_forward_cases Keeps x n k b (append_ok n k b p ok has_x is_pred tells part)
      (λ at. record {
        node = ok;
        frames = ack_ok cs lawful events h lists x n ok.sound (predecessor n.ids x) refl;
        replies = tt;
      })
