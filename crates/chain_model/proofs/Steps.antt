-- Each frame, notice and tick of a node keeps the invariant.
use Rattle.std.proofs.Common.{◌≡◌, inl, inr, ⊎_elim, ℕ, ◌<◌, ◌≤◌, max, List, [], length, take}
use Rattle.std.proofs.Common.{true, cond, nat_lt, sym, refl, ◌∙◌, ap, subst, arith}
use Rattle.std.specs.List.{AllByRecursion}
use Rattle.std.proofs.lemmas.Bool.{cond_both, false≢true, cases_lt}
use Rattle.kv_types.specs.{IsPrefix, Marked, Part, has}
use Rattle.configurations.specs.{at_epoch, is_tail, predecessor}
use Rattle.chain_model.specs.declared.drop_reason.DropReason.TheVariants as reason
use Rattle.chain_model.specs.Messages.{Ack, Forward, Message}
use Rattle.chain_model.specs.Machine.{MachineState}
use Rattle.chain_model.specs.Rules.{ack, adopted, forwards, moved, notice, on_ack, receive, tick}
use Rattle.chain_model.specs.Rules.{acked}
use Rattle.chain_model.specs.System.{SystemEvent}
use Rattle.chain_model.specs.Order.{CommittedBy, WasCommitted}
use Rattle.chain_model.specs.Retention.{AreInTurnFrom}
use Rattle.kv_types.specs.ListsLemmas.{begins-length, every_append, take_begins}
use Rattle.chain_model.proofs.Configuration.{IsChain, before_left, has_part, later_part}
use Rattle.chain_model.proofs.Marks.{Taken}
use Rattle.chain_model.proofs.Invariant.{FrameOk, IsKnown, IsPending, NodeOk, Safe, SoundNode}
use Rattle.chain_model.proofs.Cases.{ack_cases, forward_cases, notice_cases, take_ack_cases}
use Rattle.chain_model.proofs.Cases.{tick_cases}
use Rattle.chain_model.proofs.Growth.{take_ack_list}
use Rattle.chain_model.proofs.Sends.{AnswerOk, Lands, ack_ok, acknowledge_ok, before_first}
use Rattle.chain_model.proofs.Sends.{dropped_ok, forwards_ok, kept_earlier}
use Rattle.chain_model.proofs.Appends.{Keeps, lands_tail, tail_sound, take_forward_ok}

-- a property of two numbers holds for the greater
greater : (a b : ℕ) (P : ℕ → Type 0) → P a → P b → P (max a b)
greater a b P pa pb =
    ⊎_elim
    (λ (lt : a < b). let is : b ≡ max a b = omega (arith, lt) in subst P is pb)
    (λ (ge : b ≤ a). let is : a ≡ max a b = omega (arith, ge) in subst P is pa)
    (cases_lt a b)

-- `lists` are the lists of all nodes after the step.
module _ {A : Type 0} (cs : List (List ℕ)) (lawful : IsChain cs) (events : List (SystemEvent A))
    (h : List (Marked A)) (lists : ℕ → List (Marked A)) (x : ℕ) where
  -- the new committed number is the greater of the old one and the reported one
  told_sound : (n : MachineState A) (committed have : ℕ) → NodeOk cs events h lists x n
      → lists x ≡ n.list → has n.ids x ≡ true
      → ((l : List (Marked A)) × ((length l ≡ committed) × Safe lists n.ids l
      × CommittedBy cs events n.epoch l))
      → SoundNode cs events h lists x (acked n committed have)
  told_sound n committed have ok here has_x tells =
      let l = tells.0 in
      let by = tells.1.2 in
      let begins : IsPrefix l n.list = subst (λ m. IsPrefix l m) here (tells.1.1 x has_x) in
      let is : take committed n.list ≡ l =
      subst (λ k. take k n.list ≡ l) tells.1.0 (take_begins l n.list begins) in
      let known : IsKnown cs events x n.epoch (take committed n.list) = (
        by.0,
        (
          by.1.0,
          λ first. kept_earlier cs lawful events h lists x n ok.sound by.0 by.1.0 has_x,
          subst (WasCommitted cs events by.0) (sym is) by.1.1,
        ),
      ) in
      let safe : Safe lists n.ids (take committed n.list) =
      subst (λ m. Safe lists n.ids m) (sym is) tells.1.1 in
      record {
        in_range = ok.sound.in_range;
        knows = ok.sound.knows;
        behind = ok.sound.behind;
        safe = greater n.committed committed (λ k. Safe lists n.ids (take k n.list)) ok.sound.safe
            safe;
        known = greater n.committed committed (λ k. IsKnown cs events x n.epoch (take k n.list))
            ok.sound.known known;
        kept_le = ok.sound.kept_le;
        floor_le = omega (arith, ok.sound.floor_le);
        committed_le = omega (arith, ok.sound.committed_le, begins-length begins, tells.1.0);
        handed = ok.sound.handed;
      }

  -- the committed number is reported to the predecessor
  pass_on_ok : (n : MachineState A) (committed have : ℕ) → NodeOk cs events h lists x n
      → SoundNode cs events h lists x (acked n committed have) → committed ≤ have
      → AnswerOk cs events h lists x (on_ack x n committed have)
  pass_on_ok n committed have ok sound low =
      let m = acked n committed have in
      let grew = nat_lt n.committed committed in
      let ok' : NodeOk cs events h lists x m = record {
        sound = sound;
        pending = ok.pending;
        tail = λ up t. omega (arith, ok.tail up t, sound.committed_le);
        snapshots = ok.snapshots;
        rising = ok.rising;
        resend = λ up t. omega (arith, ok.resend up t);
      } in
      acknowledge_ok cs lawful events h lists x m (cond grew (ack x m) []) ok'
      (cond_both grew (ack x m) [] (AllByRecursion (FrameOk cs events lists))
      (λ t. ack_ok cs lawful events h lists x m sound (predecessor m.ids x) refl) (λ t. tt))

  -- a frame
  pub receive_ok : (n : MachineState A) (f : Message A) → NodeOk cs events h lists x n
      → FrameOk cs events lists f → ((z : ℕ) → (z ≡ x → ⊥) → Taken (lists z) h)
      → Keeps cs lawful events h lists x (receive x n f)
  receive_ok n (Forward to e p k b) ok sent parts =
      forward_cases (Keeps cs lawful events h lists x) x n to e p k b
      (λ why at. dropped_ok cs lawful events h lists x n ok why)
      (λ has_x now is. take_forward_ok cs lawful events h lists x n k b p ok has_x is
      (λ z or. sent.1 z (⊎_elim (λ same. inl same)
      (λ before. inr (
        before_first cs lawful events h lists x n ok.sound z p before,
        subst (λ c. has c z ≡ true) (ok.sound.knows ∙ ap (λ j. at_epoch cs j) (sym now))
            (before_left n.ids z p before),
      )) or))
      (λ other. parts p other))
  receive_ok n (Ack to e s committed have) ok sent parts =
      ack_cases (Keeps cs lawful events h lists x) x n to e s committed have
      (λ why at. dropped_ok cs lawful events h lists x n ok why)
      (λ has_x now is at.
      let l = sent.1.0 in
      let by = sent.1.1.2 in
      let safe : Safe lists n.ids l =
      subst (λ c. Safe lists c l) (ap (λ j. at_epoch cs j) now ∙ sym ok.sound.knows) sent.1.1.1 in
      let here : lists x ≡ n.list = at.list ∙ take_ack_list x n committed have in
      take_ack_cases (AnswerOk cs events h lists x) x n committed have
      (λ low. pass_on_ok n committed have ok
      (told_sound n committed have ok here has_x
      (l, (sent.1.1.0, safe, (by.0, (omega (arith, by.1.0, now), by.1.1))))) low)
      (dropped_ok cs lawful events h lists x n ok reason.BadAck))

  -- at a later epoch fewer nodes are spoken of
  moved_sound : (n : MachineState A) (e : ℕ) → e < length cs → NodeOk cs events h lists x n →
      n.epoch < e
      → SoundNode cs events h lists x (moved x n e (at_epoch cs e))
  moved_sound n e in_range ok later =
      let ids = at_epoch cs e in
      let smaller : Part ids n.ids =
      subst (λ c. Part ids c) (sym ok.sound.knows)
      (later_part cs n.epoch e lawful (omega (arith, later)) in_range) in
      record {
        in_range = in_range;
        knows = refl;
        behind = λ z before k. ok.sound.behind z before (has_part ids n.ids z smaller k);
        safe = λ y k. ok.sound.safe y (has_part ids n.ids y smaller k);
        known = (
          ok.sound.known.0,
          (omega (arith, ok.sound.known.1.0, later), ok.sound.known.1.1, ok.sound.known.1.2),
        );
        kept_le = ok.sound.kept_le;
        floor_le = ok.sound.floor_le;
        committed_le = ok.sound.committed_le;
        handed = ok.sound.handed;
      }

  -- a node that adopted a configuration
  adopted_ok : (n : MachineState A) (e : ℕ) → NodeOk cs events h lists x n
      → SoundNode cs events h lists x (moved x n e (at_epoch cs e))
      → Lands cs events lists x (moved x n e (at_epoch cs e))
      → NodeOk cs events h lists x (adopted x n e (at_epoch cs e))
  adopted_ok n e ok sound lands =
      let ids = at_epoch cs e in
      let to : MachineState A = moved x n e ids in
      let pending : AllByRecursion (IsPending events n.list) to.pending =
      cond_both (has ids x) n.pending [] (AllByRecursion (IsPending events n.list))
      (λ stays. ok.pending) (λ gone. tt) in
      let rising : AreInTurnFrom (1, 0) to.pending =
      cond_both (has ids x) n.pending [] (AreInTurnFrom (1, 0)) (λ stays. ok.rising) (λ gone. tt) in
      cond_both (is_tail ids x) (record to { committed = length n.list }) to
      (λ m. NodeOk cs events h lists x (record m { successor_has = m.committed }))
      (λ is. record {
        sound = tail_sound cs lawful events h lists x to lands is sound;
        pending = pending;
        tail = λ up t. refl;
        snapshots = ok.snapshots;
        rising = rising;
        resend = λ up t. omega arith;
      })
      (λ not. record {
        sound = sound;
        pending = pending;
        tail = λ up t. absurd (false≢true (sym not ∙ t));
        snapshots = ok.snapshots;
        rising = rising;
        resend = λ up t. omega arith;
      })

  -- a notice
  pub notice_ok : (n : MachineState A) (e : ℕ) → e < length cs → NodeOk cs events h lists x n
      → Keeps cs lawful events h lists x (notice x n e (at_epoch cs e))
  notice_ok n e in_range ok =
      let ids = at_epoch cs e in
      let to = moved x n e ids in
      let m = adopted x n e ids in
      notice_cases (Keeps cs lawful events h lists x) x n e ids
      (λ why at. dropped_ok cs lawful events h lists x n ok why)
      (λ later at.
      let lands : Lands cs events lists x to =
      lands_tail cs lawful events h lists x to (record { list = at.list; tail = at.tail }) in
      let ok' : NodeOk cs events h lists x m =
      adopted_ok n e ok (moved_sound n e in_range ok later) lands in
      acknowledge_ok cs lawful events h lists x m (ack x m) ok'
      (ack_ok cs lawful events h lists x m ok'.sound (predecessor m.ids x) refl))

  -- a tick
  pub tick_ok : (n : MachineState A) → NodeOk cs events h lists x n
      → Keeps cs lawful events h lists x (tick x n)
  tick_ok n ok =
      tick_cases (Keeps cs lawful events h lists x) x n
      (λ at. record {
        node = ok;
        frames = every_append (FrameOk cs events lists) (forwards x n n.successor_has 16) (ack x n)
            (forwards_ok cs lawful events h lists x n ok.sound at.list n.successor_has 16)
            (ack_ok cs lawful events h lists x n ok.sound (predecessor n.ids x) refl);
        replies = tt;
      })
      (λ at. dropped_ok cs lawful events h lists x n ok reason.Removed)
