-- The lines of an outcome: those of the node itself, and then those of its replies; and what lines
-- an event has, whatever its node is.
use Rattle.std.proofs.Common.{◌≡◌, ◌≤◌, ℕ, suc, List, [], ◌∷◌, ◌++◌, length, Option, Some, None}
use Rattle.std.proofs.Common.{true, refl, sym, ap, ap₂, subst, ◌∙◌, append_assoc, arith}
use Rattle.configurations.specs.{Configurations, at_epoch}
use Rattle.kv_types.specs.{Edits, has}
use Rattle.disk.specs.declared.Junk.{Junk}
use Rattle.disk.specs.declared.disk.Disk.{Ghosts}
use Rattle.chain_model.specs as model_frame
use Rattle.chain_model.specs.declared.DropReason.{DropReason}
use Rattle.chain_model.specs.declared.DropReason.TheVariants as reason
use Rattle.chain_core.specs.declared.Input.{Input}
use Rattle.chain_core.specs.declared.Input.TheVariants as input
use Rattle.chain_core.specs.declared.Sent.{Sent}
use Rattle.link_messages.specs.declared.Frame.{Frame}
use Rattle.link_messages.specs.declared.Frame.TheVariants as frame
use Rattle.node.specs.declared.Output.{Output}
use Rattle.node.specs.declared.Reply.{Reply}
use Rattle.carriers.specs.{HasCarried, Transmission}
use Rattle.carriers.specs.declared.Carrier.{Ghosts as Carriers}
use Rattle.carriers.specs.declared.Delivery.TheVariants as delivery
use Rattle.carriers.specs.declared.NodeInput.{NodeInput}
use Rattle.carriers.specs.declared.NodeInput.TheVariants as to_node
use Rattle.events.specs.declared.EventKind.{EventKind}
use Rattle.events.specs.declared.EventKind.TheVariants.{Submit, Get, Rows, Open, Close, Deliver}
use Rattle.events.specs.declared.EventKind.TheVariants.{Notice, Tick, Tend, Start, Stop}
use Rattle.lab.specs.declared.input.StepOutcome.{StepOutcome}
use Rattle.lab.specs.declared.input.StepOutcome.TheVariants as done
use Rattle.lab.specs.declared.report.Line.{Line}
use Rattle.lab.specs.declared.report.Line.TheVariants as line
use Rattle.lab.specs.declared.sim_node.SimNode.{SimNode}
use Rattle.lab.specs.Arrivals.{RepliesFollow, replies_heard}
use Rattle.lab.specs.Deliveries.{HasNoDelivery, IsCarriedEvent, IsDeliverable}
use Rattle.lab.specs.Events.{MayBeLost, NamesNode, dropped_lines, epoch_in, reply_count}
use Rattle.lab.specs.LinesSoFar.{AreEventLines, BeginsWithLine, IsNoticeLine, IsOneLine}
use Rattle.lab.specs.LinesSoFar.{IsStartLine, IsStopLine, IsTendLine, sim_node_ids}
use Rattle.lab.specs.declared.node_state.NodeState.{NodeState}
use Rattle.lab.specs.declared.node_state.NodeState.TheVariants.{Up, Down}
use Rattle.lab.specs.Dispatches.{IsOutcomeOf}
use Rattle.lab.specs.Outcomes.{IsDrop}
use Rattle.lab.specs.OutcomeLines.{adopted_lines, lines_before_replies, outcome_lines, own_lines}
use Rattle.lab.specs.OutcomeLines.{replies_by, sent_as, sent_lines}
use Rattle.lab.specs.Worlds.{HasNoNode}
use Rattle.lab.proofs.Arrivals.{RepliesArrive, arrive_behind, count_both, few_heard}
use Rattle.lab.proofs.Arrivals.{follows_arrive, none_follow, replied}
use Rattle.lab.proofs.SimNodes.{has_one}

-- ---- replies stand last

pub outcome_are : (x : ℕ) (told : Option ℕ) (before : ℕ) (did : StepOutcome) →
    own_lines x told before did ++ replied (replies_by did) ≡ outcome_lines x told before did
outcome_are x told before (done.Answered output) =
    let dropped = dropped_lines output.dropped in
    let adopted = adopted_lines x told output.dropped in
    let sent = sent_lines before output.frames in
    append_assoc dropped (adopted ++ sent) (replied output.replies)
    ∙ ap (λ (l : List Line). dropped ++ l)
    (append_assoc adopted sent (replied output.replies))
outcome_are x told before (done.Started epoch count committed) = refl
outcome_are x told before (done.Stopped cause) = refl
outcome_are x told before (done.Tended answer) = refl

drop_count : (why : Option DropReason) → reply_count (dropped_lines why) ≡ 0
drop_count None = refl
drop_count (Some why) = refl

adoption_count : (x : ℕ) (told : Option ℕ) (why : Option DropReason) →
    reply_count (adopted_lines x told why) ≡ 0
adoption_count x None why = refl
adoption_count x (Some epoch) None = refl
adoption_count x (Some epoch) (Some why) = refl

frame_count : (p to : ℕ) (it : Frame) (lines : List Line) →
    reply_count (sent_as p to it ∷ lines) ≡ reply_count lines
frame_count p to (frame.Forward epoch from number batch) lines = refl
frame_count p to (frame.Ack epoch from committed have) lines = refl
frame_count p to other lines = refl

sent_count : (before : ℕ) (sent : List Sent) → reply_count (sent_lines before sent) ≡ 0
sent_count before [] = refl
sent_count before (s ∷ sent) =
    frame_count (suc before) s.to s.frame (sent_lines (suc before) sent)
    ∙ sent_count (suc before) sent

-- no others are of replies
pub no_replies : (x : ℕ) (told : Option ℕ) (before : ℕ) (did : StepOutcome) →
    reply_count (own_lines x told before did) ≡ 0
no_replies x told before (done.Answered output) =
    let adopted = adopted_lines x told output.dropped in
    let sent = sent_lines before output.frames in
    omega (
      arith,
      count_both (dropped_lines output.dropped) (adopted ++ sent),
      count_both adopted sent,
      drop_count output.dropped,
      adoption_count x told output.dropped,
      sent_count before output.frames,
    )
no_replies x told before (done.Started epoch count committed) = refl
no_replies x told before (done.Stopped cause) = refl
no_replies x told before (done.Tended answer) = refl

-- so much arrives of an outcome's lines, where a faithful carrier carried its replies
pub outcome_arrives : {C : Type 0} (h : Carriers C) (old new : C) (x : ℕ) (told : Option ℕ)
    (before : ℕ) (did : StepOutcome) (lines : List Line) →
    RepliesFollow (HasCarried h old new) x (replies_by did) (own_lines x told before did) lines →
    h.is_faithful old →
    RepliesArrive h.loses (HasCarried h old new) x (outcome_lines x told before did) lines
outcome_arrives h old new x told before did lines follow faithful =
    let own = own_lines x told before did in
    let asks = HasCarried h old new in
    subst (λ (l : List Line). RepliesArrive h.loses asks x l lines)
    (outcome_are x told before did)
    (subst (RepliesArrive h.loses asks x (own ++ replied (replies_by did))) (sym follow.lines)
    (arrive_behind h.loses asks x own (replied (replies_by did))
    (replied (replies_heard follow.each)) (no_replies x told before did)
    (follows_arrive x h old new (replies_by did) own lines follow faithful)))

-- an outcome of one line, which has no replies
pub alone_follows : (asks : List Transmission → Type 0) (x : ℕ) (told : Option ℕ) (before : ℕ)
    (did : StepOutcome) (own found : Line) (lines : List Line) → asks [] →
    own_lines x told before did ≡ own ∷ [] → replies_by did ≡ [] → found ≡ own →
    lines ≡ found ∷ [] → RepliesFollow asks x (replies_by did) (own_lines x told before did) lines
alone_follows asks x told before did own found lines none is no_more same are =
    subst (λ (l : List Reply). RepliesFollow asks x l (own_lines x told before did) lines)
    (sym no_more) (subst (RepliesFollow asks x [] (own_lines x told before did))
    (is ∙ sym (are ∙ ap (λ (l : Line). l ∷ []) same))
    (none_follow asks x (own_lines x told before did) none))

-- ---- the lines of an event, whatever its node is

-- an outcome has one line, of which this is so, and no replies
record HasOneLine (is_so : Line → Type 0) (x : ℕ) (told : Option ℕ) (before : ℕ)
    (did : StepOutcome) : Type 0 where
  own : Line
  are : own_lines x told before did ≡ own ∷ []
  none : length (replies_by did) ≡ 0
  is : is_so own

one_line : (is_so : Line → Type 0) (x : ℕ) (told : Option ℕ) (before : ℕ) (did : StepOutcome)
    (heard : List Reply) (lines : List Line) → HasOneLine is_so x told before did →
    lines ≡ own_lines x told before did ++ replied heard →
    length heard ≤ length (replies_by did) → IsOneLine is_so lines
one_line is_so x told before did [] lines one are few =
    subst (IsOneLine is_so)
    (sym (are ∙ ap (λ (l : List Line). l ++ []) one.are)) one.is
one_line is_so x told before did (reply ∷ heard) lines one are few =
    absurd (omega (arith, few, one.none))

-- an input was dropped
drop_lines : (x : ℕ) (told : Option ℕ) (before : ℕ) (why : DropReason) (output : Output) →
    IsDrop why output → lines_before_replies x told before output ≡ line.Dropped why ∷ []
drop_lines x told before why output is =
    ap₂ (λ (d : Option DropReason) (f : List Sent). dropped_lines d
    ++ (adopted_lines x told d ++ sent_lines before f)) is.dropped is.frames
    ∙ alone told
  where
    alone : (told : Option ℕ) → line.Dropped why ∷ (adopted_lines x told (Some why) ++ [])
        ≡ line.Dropped why ∷ []
    alone None = refl
    alone (Some epoch) = refl

-- a notice begins with its drop or its adoption
notice_begins : (x epoch : ℕ) (why : Option DropReason) (sent more : List Line) →
    BeginsWithLine (IsNoticeLine x epoch)
    ((dropped_lines why ++ (adopted_lines x (Some epoch) why ++ sent)) ++ more)
notice_begins x epoch None sent more = (refl, refl)
notice_begins x epoch (Some why) sent more = tt

-- the lines of a start, a stop, a tend and a notice, by the outcome of the node that took it
module _ {D : Type 0} {g : Ghosts D} where
  start_line : (old : NodeState D g) (x : ℕ) (told : Option ℕ) (before : ℕ) (did : StepOutcome) →
      IsOutcomeOf old to_node.Start did → HasOneLine (IsStartLine x) x told before did
  start_line (Up node) x told before (done.Answered output) is = record {
    own = line.Dropped reason.Running;
    are = drop_lines x told before reason.Running output is;
    none = ap length is.replied;
    is = refl;
  }
  start_line (Down disk) x told before (done.Started epoch count committed) is = record {
    own = line.Started x epoch count committed;
    are = refl;
    none = refl;
    is = refl;
  }
  start_line (Down disk) x told before (done.Stopped cause) is =
      record { own = line.Stopped x cause; are = refl; none = refl; is = refl }
  start_line old x told before did is = absurd is

  stop_line : (old : NodeState D g) (junk : Junk) (x : ℕ) (told : Option ℕ) (before : ℕ)
      (did : StepOutcome) → IsOutcomeOf old (to_node.Stop junk) did →
      HasOneLine (IsStopLine x) x told before did
  stop_line (Up node) junk x told before (done.Stopped cause) is =
      record { own = line.Stopped x cause; are = refl; none = refl; is = (refl, is) }
  stop_line (Down disk) junk x told before (done.Answered output) is = record {
    own = line.Dropped reason.NotRunning;
    are = drop_lines x told before reason.NotRunning output is;
    none = ap length is.replied;
    is = refl;
  }
  stop_line old junk x told before did is = absurd is

  tend_line : (old : NodeState D g) (x : ℕ) (told : Option ℕ) (before : ℕ) (did : StepOutcome) →
      IsOutcomeOf old to_node.Tend did → HasOneLine (IsTendLine x) x told before did
  tend_line (Up node) x told before (done.Stopped cause) is =
      record { own = line.Stopped x cause; are = refl; none = refl; is = refl }
  tend_line (Up node) x told before (done.Tended answer) is =
      record { own = line.Tended answer; are = refl; none = refl; is = tt }
  tend_line (Down disk) x told before (done.Answered output) is = record {
    own = line.Dropped reason.NotRunning;
    are = drop_lines x told before reason.NotRunning output is;
    none = ap length is.replied;
    is = refl;
  }
  tend_line old x told before did is = absurd is

  notice_lines : (old : NodeState D g) (x epoch before : ℕ) (inp : Input) (did : StepOutcome)
      (more : List Line) → IsOutcomeOf old (to_node.Step inp) did →
      BeginsWithLine (IsNoticeLine x epoch) (own_lines x (Some epoch) before did ++ more)
  notice_lines (Up node) x epoch before inp (done.Answered output) more is =
      notice_begins x epoch output.dropped (sent_lines before output.frames) more
  notice_lines (Up node) x epoch before inp (done.Stopped cause) more is = refl
  notice_lines (Down disk) x epoch before inp (done.Answered output) more is =
      notice_begins x epoch output.dropped (sent_lines before output.frames) more
  notice_lines old x epoch before inp did more is = absurd is

-- what a carrier carries may have any
pub by_kind : (kind : EventKind) (lines : List Line) →
    ((IsCarriedEvent kind → ⊥) → AreEventLines kind lines) → AreEventLines kind lines
by_kind (Submit node batch) lines are = tt
by_kind (Get node key at) lines are = tt
by_kind (Rows node range at) lines are = tt
by_kind (Open node at) lines are = tt
by_kind (Close node number) lines are = tt
by_kind (Deliver p) lines are = tt
by_kind (Notice node epoch) lines are = are (λ is. is)
by_kind (Tick node) lines are = tt
by_kind (Tend node) lines are = are (λ is. is)
by_kind (Start node) lines are = are (λ is. is)
by_kind (Stop node junk) lines are = are (λ is. is)

module _ (cs : Configurations) (frames : List (model_frame.Message Edits)) (i : ℕ) where
  -- an event had nothing to deliver, or was lost
  pub nothing_lines : (kind : EventKind) → HasNoDelivery cs frames kind →
      AreEventLines kind (line.Nothing ∷ [])
  nothing_lines (Notice node epoch) none = tt
  nothing_lines (Tend node) none = absurd none
  nothing_lines (Start node) none = absurd none
  nothing_lines (Stop node junk) none = absurd none
  nothing_lines other none = tt

  pub lost_lines : (kind : EventKind) → MayBeLost frames kind →
      AreEventLines kind (line.Lost ∷ [])
  lost_lines (Notice node epoch) may = absurd may
  lost_lines (Tend node) may = absurd may
  lost_lines (Start node) may = absurd may
  lost_lines (Stop node junk) may = absurd may
  lost_lines other may = tt

  module _ (x : ℕ) (node_input : NodeInput) where
    -- a node took it
    pub dispatched_lines : {D : Type 0} {g : Ghosts D} (old : NodeState D g)
        (asks : List Transmission → Type 0)
        (kind : EventKind) (before : ℕ) (did : StepOutcome) (lines : List Line) →
        IsDeliverable cs frames i kind (delivery.To x node_input) →
        IsOutcomeOf old node_input did →
        RepliesFollow asks x (replies_by did)
        (own_lines x (epoch_in kind) before did) lines → AreEventLines kind lines
    dispatched_lines old asks (Notice node epoch) before did lines is outcome follow =
        subst (λ (n : ℕ). BeginsWithLine (IsNoticeLine n epoch) lines) is.same
        (subst (BeginsWithLine (IsNoticeLine x epoch)) (sym follow.lines)
        (notice_lines old x epoch before (input.Notice epoch (at_epoch cs epoch)) did
        (replied (replies_heard follow.each))
        (subst (λ (k : NodeInput). IsOutcomeOf old k did) is.is outcome)))
    dispatched_lines old asks (Tend node) before did lines is outcome follow =
        subst (λ (n : ℕ). IsOneLine (IsTendLine n) lines) is.0
        (one_line (IsTendLine x) x None before did (replies_heard follow.each) lines
        (tend_line old x None before did
        (subst (λ (k : NodeInput). IsOutcomeOf old k did) is.1 outcome))
        follow.lines (few_heard asks x (replies_by did) _ lines follow))
    dispatched_lines old asks (Start node) before did lines is outcome follow =
        subst (λ (n : ℕ). IsOneLine (IsStartLine n) lines) is.0
        (one_line (IsStartLine x) x None before did (replies_heard follow.each) lines
        (start_line old x None before did
        (subst (λ (k : NodeInput). IsOutcomeOf old k did) is.1 outcome))
        follow.lines (few_heard asks x (replies_by did) _ lines follow))
    dispatched_lines old asks (Stop node junk) before did lines is outcome follow =
        subst (λ (n : ℕ). IsOneLine (IsStopLine n) lines) is.0
        (one_line (IsStopLine x) x None before did (replies_heard follow.each) lines
        (stop_line old junk x None before did
        (subst (λ (k : NodeInput). IsOutcomeOf old k did) is.1 outcome)) follow.lines
        (few_heard asks x (replies_by did) _ lines follow))
    dispatched_lines old asks other before did lines is outcome follow = tt

    has_it : {D : Type 0} {g : Ghosts D} (sims : List (SimNode D g)) (ids : Configurations)
        (node : ℕ) → sim_node_ids sims ≡ at_epoch ids 0 → has (at_epoch ids 0) node ≡ true →
        x ≡ node → has (sim_node_ids sims) x ≡ true
    has_it sims ids node its named is =
        subst (λ (l : List ℕ). has l x ≡ true) (sym its)
        (subst (λ (n : ℕ). has (at_epoch ids 0) n ≡ true) (sym is) named)

    -- the world has the node
    pub absent_lines : {D : Type 0} {g : Ghosts D} (kind : EventKind) (sims : List (SimNode D g))
        (ids : Configurations) → sim_node_ids sims ≡ at_epoch ids 0 → NamesNode ids kind →
        IsDeliverable cs frames i kind (delivery.To x node_input) → HasNoNode sims x →
        AreEventLines kind (line.Nothing ∷ [])
    absent_lines (Notice node epoch) sims ids its named is none = tt
    absent_lines (Tend node) sims ids its named is none =
        absurd (has_one sims x (has_it sims ids node its named is.0) none)
    absent_lines (Start node) sims ids its named is none =
        absurd (has_one sims x (has_it sims ids node its named is.0) none)
    absent_lines (Stop node junk) sims ids its named is none =
        absurd (has_one sims x (has_it sims ids node its named is.0) none)
    absent_lines other sims ids its named is none = tt
