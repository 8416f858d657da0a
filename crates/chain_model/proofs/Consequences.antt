-- Consequences of the invariant of every world.
use Rattle.std.proofs.Common.{All, ◌≡◌, inl, inr, ⊎_elim, ℕ, suc, ◌≤◌, List, [], ◌∷◌, length, map}
use Rattle.std.proofs.Common.{take, ap₂, refl, None, true, not, nat_le, nat_lt, sym, ◌∙◌, ap}
use Rattle.std.proofs.Common.{subst, arith, take_all, length-take-le, le-leb, le-ltb}
use Rattle.std.proofs.lemmas.Bool.{cond-true, cond-false, not_from_true}
use Rattle.std.proofs.lemmas.List.Elements.{All-from_recursion}
use Rattle.kv_types.specs.{IsPrefix, Marked, Part, has}
use Rattle.configurations.specs.{at_epoch, is_tail, last_of}
use Rattle.configurations.specs.NodeLists.{IsBeforeIn, leaves_out}
use Rattle.chain_model.specs.declared.refusal.Refusal.TheVariants as refusal
use Rattle.chain_model.specs.Messages.{Ack, Forward, Message, addressee, epoch_of}
use Rattle.chain_model.specs.Requests.{Close, Closed, Committed, Open, Opened, Read, Refused}
use Rattle.chain_model.specs.Requests.{Response, Shows, Submit}
use Rattle.chain_model.specs.Machine.{Answer, MachineState, refused, replied}
use Rattle.chain_model.specs.Rules.{if_readable, read}
use Rattle.chain_model.specs.System.{Answered, Ask, Deliver, SystemEvent, Lost, Notice, Outcome}
use Rattle.chain_model.specs.System.{Start}
use Rattle.chain_model.specs.System.{Stop, Tend, Tick, SystemState, answers, node_of, outcome}
use Rattle.chain_model.specs.System.{first_state, reached}
use Rattle.chain_model.specs.Headline.{batches, submitted}
use Rattle.chain_model.specs.Order.{InOrder, IsInSubmittedOrder, AckIsTrue, ForwardIsTrue}
use Rattle.chain_model.specs.Freshness.{IsAtMost, ReadsFresh}
use Rattle.chain_model.specs.Retention.{KeepsEnough}
use Rattle.kv_types.specs.ListsLemmas.{begins-length, begins_refl, begins_trans}
use Rattle.kv_types.specs.ListsLemmas.{every_map, part_more, part_trans}
use Rattle.chain_model.proofs.Configuration.{IsChain, before_part, before_tail, created_has}
use Rattle.chain_model.proofs.Configuration.{last_epoch}
use Rattle.chain_model.proofs.Configuration.{later_leaves_out, later_part, tail_has}
use Rattle.chain_model.proofs.Submitted.{accepted, accepted_part, handed}
use Rattle.chain_model.proofs.Invariant.{FrameOk, ReplyOk, WorldOk, lists_of}
use Rattle.chain_model.proofs.WorldGrowth.{only_grows}
use Rattle.chain_model.proofs.Queries.{least_above}
use Rattle.chain_model.proofs.Reached.{reached_ok}

-- a sublist of images is the image of a sublist
part_of_map : {A B : Type 0} (f : A → B) (l : List B) (m : List A) → Part l (map f m)
    → (k : List A) × (Part k m × (map f k ≡ l))
part_of_map f [] m p = ([], (tt, refl))
part_of_map f (x ∷ l) [] p = absurd p
part_of_map f (x ∷ l) (y ∷ m) (inl p) =
    let rest = part_of_map f l m p.1 in
    (y ∷ rest.0, (inl (refl, rest.1.0), ap₂ (λ z (zs : List _). z ∷ zs) (sym p.0) rest.1.1))
part_of_map f (x ∷ l) (y ∷ m) (inr p) =
    let rest = part_of_map f (x ∷ l) m p in
    (rest.0, (part_more rest.0 m y rest.1.0, rest.1.1))

-- the submitted batches, without places
handed_batches : {A : Type 0} (i : ℕ) (es : List (SystemEvent A)) → batches (submitted i es) ≡
    handed es
handed_batches i [] = refl
handed_batches i (Ask x j (Submit b) went ∷ es) = ap (λ r. b ∷ r) (handed_batches (suc i) es)
handed_batches i (Ask x j (Read at) went ∷ es) = handed_batches (suc i) es
handed_batches i (Ask x j (Open at) went ∷ es) = handed_batches (suc i) es
handed_batches i (Ask x j (Close s) went ∷ es) = handed_batches (suc i) es
handed_batches i (Tick x went ∷ es) = handed_batches (suc i) es
handed_batches i (Tend x rises gives_up went ∷ es) = handed_batches (suc i) es
handed_batches i (Notice x e went ∷ es) = handed_batches (suc i) es
handed_batches i (Deliver p went ∷ es) = handed_batches (suc i) es
handed_batches i (Start x went ∷ es) = handed_batches (suc i) es
handed_batches i (Stop x ∷ es) = handed_batches (suc i) es
handed_batches i (Lost ∷ es) = handed_batches (suc i) es

-- a sublist of the batches is the image of a sublist of the batches with places
taken_of : {A : Type 0} (events : List (SystemEvent A)) (l : List (Marked A))
    → Part l (handed events)
    → IsInSubmittedOrder events l
taken_of events l part = part_of_map (λ (p : ℕ × _). p.1) l (submitted 1 events)
    (subst (λ m. Part l m) (sym (handed_batches 1 events)) part)

-- a good frame is to a node of its epoch
is_addressed : {A : Type 0} (cs : List (List ℕ)) (events : List (SystemEvent A))
    (lists : ℕ → List (Marked A))
    (f : Message A) → FrameOk cs events lists f → has (at_epoch cs (epoch_of f)) (addressee f) ≡
    true
is_addressed cs events lists (Forward to e from number batch) ok = ok.0
is_addressed cs events lists (Ack to e from committed have) ok = ok.0

-- a good Forward is true
tells_true : {A : Type 0} (cs : List (List ℕ)) (events : List (SystemEvent A))
    (lists : ℕ → List (Marked A))
    (f : Message A) → FrameOk cs events lists f → ForwardIsTrue cs lists f
tells_true cs events lists (Forward to e from number batch) ok = ok.1
tells_true cs events lists (Ack to e from committed have) ok = tt

-- a good Ack reports a committed length
tells_committed : {A : Type 0} (cs : List (List ℕ)) (events : List (SystemEvent A))
    (lists : ℕ → List (Marked A)) (f : Message A) → FrameOk cs events lists f
    → AckIsTrue cs events f
tells_committed cs events lists (Forward to e from number batch) ok = tt
tells_committed cs events lists (Ack to e from committed have) ok = (ok.1.0, (ok.1.1.0, ok.1.1.2))

module _ {A : Type 0} (cs : List (List ℕ)) (lawful : IsChain cs) where
  -- all that holds after every run
  holds : (events : List (SystemEvent A))
      → WorldOk cs events (accepted cs events (first_state cs)) (reached cs events)
  holds events = reached_ok cs lawful events

  -- a node goes by the configuration of its epoch
  known : (events : List (SystemEvent A)) (x : ℕ) → (node_of cs events x).ids ≡ at_epoch cs
      (node_of cs events x).epoch
  known events x = ((holds events).nodes x).sound.knows

  -- every node of the configuration has the batches that a node knows as committed
  safe : (events : List (SystemEvent A)) (x y : ℕ) → has (at_epoch cs (node_of cs events x).epoch) y
      ≡ true → IsPrefix (take (node_of cs events x).committed (node_of cs events x).list)
      (node_of cs events y).list
  safe events x y k = ((holds events).nodes x).sound.safe y
      (subst (λ c. has c y ≡ true) (sym (known events x)) k)

  -- lists begin one another along the chain
  order : (events : List (SystemEvent A)) (x y : ℕ) → IsBeforeIn (at_epoch cs 0) x y
      → has (at_epoch cs (node_of cs events y).epoch) x ≡ true
      → IsPrefix (node_of cs events y).list (node_of cs events x).list
  order events x y before k = ((holds events).nodes y).sound.behind x before
      (subst (λ c. has c x ≡ true) (sym (known events y)) k)

  -- at a tail
  tail_safe : (events : List (SystemEvent A)) (t y : ℕ)
      → is_tail (at_epoch cs (node_of cs events t).epoch) t ≡ true
      → has (at_epoch cs (node_of cs events t).epoch) y ≡ true
      → IsPrefix (node_of cs events t).list (node_of cs events y).list
  tail_safe events t y is k =
      let s = ((holds events).nodes t).sound in
      let n = node_of cs events t in
      ⊎_elim
      (λ same. subst (λ z. IsPrefix n.list (node_of cs events z).list) (sym same)
      (begins_refl n.list))
      (λ before. order events y t (before_part (at_epoch cs n.epoch) (at_epoch cs 0) y t
      (later_part cs 0 n.epoch lawful (omega arith) s.in_range) before) k)
      (before_tail (at_epoch cs n.epoch) y t is k)

  -- the order of lists, and the truth of frames
  pub in_order : (events : List (SystemEvent A)) → InOrder cs events
  in_order events =
      let lists = lists_of (reached cs events) in
      let frames = (reached cs events).frames in
      let each : (P : Message A → Type 0) → ((f : Message A) → FrameOk cs events lists f → P f)
      → All P frames =
      λ P tells. All-from_recursion P frames
      (every_map (FrameOk cs events lists) P frames tells (holds events).frames) in
      record {
        lists = order events;
        addressed = each (λ f. has (at_epoch cs (epoch_of f)) (addressee f) ≡ true)
            (is_addressed cs events lists);
        created = each (λ f. has (at_epoch cs 0) (addressee f) ≡ true)
            (λ f ok. created_has cs (epoch_of f) (addressee f) lawful
            (is_addressed cs events lists f ok));
        forwards = each (ForwardIsTrue cs lists) (tells_true cs events lists);
        acks = each (AckIsTrue cs events) (tells_committed cs events lists);
        stays = λ e l c y k.
            let n = node_of cs c.before c.tail in
            let has_y : has (at_epoch cs n.epoch) y ≡ true =
            subst (λ i. has (at_epoch cs i) y ≡ true) (sym c.epoch) k in
            let is_tail_n : is_tail (at_epoch cs n.epoch) c.tail ≡ true =
            subst (λ i. is_tail (at_epoch cs i) c.tail ≡ true) (sym c.epoch) c.is in
            begins_trans c.begins (begins_trans (tail_safe c.before c.tail y is_tail_n has_y)
            (subst (λ es. IsPrefix (node_of cs c.before y).list (node_of cs es y).list) c.whole
            ((only_grows cs c.before c.later).nodes y).list));
        known = λ x. let k = ((holds events).nodes x).sound.known in (k.0, (k.1.0, k.1.1, k.1.2));
        committed = safe events;
        taken = λ x.
            let l = (node_of cs events x).list in
            taken_of events l (part_trans l (accepted cs events (first_state cs)) (handed events)
            ((holds events).nodes x).sound.handed.part (accepted_part cs events (first_state cs)));
        marks = λ x. ((holds events).nodes x).sound.handed.rises;
        epochs = λ x. ((holds events).nodes x).sound.in_range;
        configured = known events;
        notices = λ x e later in_range. subst (λ c. leaves_out (at_epoch cs e) c ≡ true)
            (sym (known events x)) (later_leaves_out cs (node_of cs events x).epoch e lawful
            later in_range);
      }

  -- no reply is of more than a last node has
  up_to : (events : List (SystemEvent A)) (t : ℕ) → has (last_of cs) t ≡ true → (r : Response A)
      → ReplyOk cs events (lists_of (reached cs events)) r
      → IsAtMost (length (node_of cs events t).list) r
  up_to events t k (Committed i n) ok = omega (arith, begins-length (ok.1.2 t k), ok.1.0)
  up_to events t k (Shows i n l) ok = omega (arith, begins-length (ok.1 t k), ok.0)
  up_to events t k (Opened i s) ok = omega (arith, begins-length (ok.1.1 t k), ok.1.0)
  up_to events t k (Closed i s) ok = tt
  up_to events t k (Refused i why) ok = tt

  -- a number that can be read is read
  shows : (n : MachineState A) (t i : ℕ) (s : ℕ) (a : Answer A) → has n.ids t ≡ true → n.floor ≤ s
      → s ≤ n.committed → if_readable t n i s a ≡ a
  shows n t i s a k low high =
      cond-false (not (has n.ids t)) (refused n i refusal.Removed) _ (not_from_true (has n.ids t) k)
      ∙ cond-false (nat_lt s n.floor) (refused n i refusal.TooOld) _ (le-ltb s n.floor low)
      ∙ cond-true (nat_le s n.committed) a (refused n i refusal.NotCommitted)
      (le-leb s n.committed high)

  -- a running node whose full list is committed reads it all
  shows_whole : (w : SystemState A) (t i : ℕ) → (w.nodes t).running ≡ true
      → has (w.nodes t).ids t ≡ true → (w.nodes t).floor ≤ (w.nodes t).committed
      → (w.nodes t).committed ≡ length (w.nodes t).list
      → (outcome w cs (Ask t i (Read None) Answered)).replies ≡ Shows i (length (w.nodes t).list)
      (w.nodes t).list ∷ []
  shows_whole w t i up k low whole =
      let n = w.nodes t in
      let a : Answer A = replied n (Shows i n.committed (take n.committed n.list)) in
      ap (λ (o : Outcome A). o.replies) (cond-true n.running (answers t (read t n i None))
      (answers t (refused n i refusal.NotRunning)) up)
      ∙ ap (λ (a : Answer A). a.replies) (shows n t i n.committed a k low (omega arith))
      ∙ ap (λ l. Shows i n.committed l ∷ []) (take_all n.committed n.list (omega (arith, whole)))
      ∙ ap (λ s. Shows i s n.list ∷ []) whole

  -- the reads at the last tail
  pub reads_fresh : (events : List (SystemEvent A)) → ReadsFresh cs events
  reads_fresh events t is at_last up =
      let w = reached cs events in
      let n = node_of cs events t in
      let ok = (holds events).nodes t in
      let last = last_epoch cs lawful in
      let now : n.epoch ≡ last.0 = omega (arith, at_last, last.1.0) in
      let knows : n.ids ≡ last_of cs = ok.sound.knows ∙ ap (at_epoch cs) now ∙ sym last.1.1 in
      let k : has (last_of cs) t ≡ true = tail_has (last_of cs) t is in
      let whole : n.committed ≡ length n.list =
      ok.tail up (subst (λ c. is_tail c t ≡ true) (sym knows) is) in
      record {
        shows = λ i. shows_whole w t i up (subst (λ c. has c t ≡ true) (sym knows) k)
            ok.sound.floor_le whole;
        before = All-from_recursion (IsAtMost (length n.list)) w.replies
            (every_map (ReplyOk cs events (lists_of w)) (IsAtMost (length n.list)) w.replies
            (up_to events t k) (holds events).replies);
      }

  -- the batches that a node keeps are enough
  pub keeps_enough : (events : List (SystemEvent A)) → KeepsEnough cs events
  keeps_enough events = record {
    others = λ x y k.
        let s = ((holds events).nodes x).sound in
        omega (
          arith,
          s.kept_le,
          s.floor_le,
          begins-length (safe events x y k),
          length-take-le
              (node_of cs events x).committed (node_of cs events x).list s.committed_le,
        );
    resend = λ x up not. let ok = (holds events).nodes x in
        omega (arith, ok.resend up not, ok.sound.kept_le, ok.sound.floor_le);
    ordered = λ x.
        let ok = (holds events).nodes x in
        let n = node_of cs events x in
        record {
          kept = ok.sound.kept_le;
          floor = ok.sound.floor_le;
          committed = ok.sound.committed_le;
          pending = ok.rising;
          readable = least_above n.floor n.committed n.snapshots ok.sound.floor_le ok.snapshots;
        };
  }
