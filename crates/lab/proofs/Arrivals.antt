-- Lines of a node that arrive by a faithful carrier, and replies that are carried one after
-- another.
use Rattle.std.proofs.Common.{◌≡◌, ◌⊎◌, ◌≤◌, ℕ, suc, ◌+◌, Bool, List, [], ◌∷◌, ◌++◌, length, Option}
use Rattle.std.proofs.Common.{Some, None, true, false, inl, inr, refl, sym, ap, ap₂}
use Rattle.std.proofs.Common.{subst, ◌∙◌, arith, append-nil, append_assoc, map}
use Rattle.std.proofs.lemmas.List.{length-map, map-append}
use Rattle.std.proofs.lemmas.List.Concat.{flat_map-append}
use Rattle.std.proofs.lemmas.List.Elements.{All-cons, All-head, All-nil, All-tail}
use Rattle.std.specs.Prelude.{All, not}
use Rattle.std.specs.List.{cons_option}
use Rattle.link_messages.specs.{frame_bytes}
use Rattle.carriers.specs.declared.Carrier.{Ghosts as Carriers}
use Rattle.carriers.specs.declared.Peer.TheVariants.{Client, Node}
use Rattle.carriers.specs.declared.Received.TheVariants as received
use Rattle.carriers.specs.{HasCarried, HasCarriedOne, IsHeard, IsReceivedOf, IsUnaltered}
use Rattle.carriers.specs.{Transmission}
use Rattle.carriers.specs.{one_transmission, reply_frame, reply_in, unless_lost}
use Rattle.node.specs.declared.Reply.{Reply}
use Rattle.node.specs.declared.Reply.TheVariants as reply
use Rattle.lab.specs.declared.report.Line.{Line}
use Rattle.lab.specs.declared.report.Line.TheVariants as line
use Rattle.lab.specs.Arrivals.{CarriedReply, RepliesFollow, replies_carried, replies_heard}
use Rattle.lab.specs.Events.{arrived, reply_count}
use Rattle.lab.specs.Transmissions.{replies_sent, reply_sent}
use Rattle.lab.proofs.Transmissions.{carried_both}

-- These lines arrive of those that a node gave: of each reply it is told whether it did, and where
-- nothing may be lost each did. The carrier was asked for each, and lost those that did not.
pub record RepliesArrive (loses : Type 0) (asks : List Transmission → Type 0) (node : ℕ)
    (given got : List Line) : Type 0 where
  pub told : List Bool
  pub each : length told ≡ reply_count given
  pub kept : got ≡ arrived told given
  pub all : (loses → ⊥) → All (λ b. b ≡ true) told
  pub asked : asks (replies_sent node told given)

-- how many replies two lists have
pub count_both : (a b : List Line) → reply_count (a ++ b) ≡ reply_count a + reply_count b
count_both [] b = omega arith
count_both (line.Replied reply ∷ a) b = omega (arith, count_both a b)
count_both (other ∷ a) b = count_both a b

-- ---- behind lines that are no replies

-- those are kept
pass_others : (told : List Bool) (before given : List Line) → reply_count before ≡ 0 →
    arrived told (before ++ given) ≡ before ++ arrived told given
pass_others told [] given none = refl
pass_others told (line.Replied reply ∷ before) given none = absurd (omega (arith, none))
pass_others told (other ∷ before) given none =
    ap (λ (l : List Line). other ∷ l) (pass_others told before given none)

-- and are not carried
skip_others : (node : ℕ) (told : List Bool) (before given : List Line) → reply_count before ≡ 0 →
    replies_sent node told (before ++ given) ≡ replies_sent node told given
skip_others node told [] given none = refl
skip_others node told (line.Replied reply ∷ before) given none = absurd (omega (arith, none))
skip_others node told (other ∷ before) given none = skip_others node told before given none

pub arrive_behind : (loses : Type 0) (asks : List Transmission → Type 0) (node : ℕ)
    (before given got : List Line) → reply_count before ≡ 0 →
    RepliesArrive loses asks node given got →
    RepliesArrive loses asks node (before ++ given) (before ++ got)
arrive_behind loses asks node before given got none have = record {
  told = have.told;
  each = omega (arith, have.each, count_both before given, none);
  kept = ap (λ (l : List Line). before ++ l) have.kept
      ∙ sym (pass_others have.told before given none);
  all = have.all;
  asked = subst asks (sym (skip_others node have.told before given none)) have.asked;
}

-- ---- replies that a faithful carrier carried

-- the lines of replies
abbrev pub replied : List Reply → List Line
replied replies = map (λ reply. line.Replied reply) replies

-- whether it arrived
abbrev arrived_so : Option (List ℕ) → Bool
arrived_so None = false
arrived_so (Some bytes) = true

-- of each whether it did
abbrev told_of : List CarriedReply → List Bool
told_of each = map (λ it. arrived_so it.got) each

-- the bytes of a reply
abbrev own_bytes : Reply → List ℕ
own_bytes reply = frame_bytes (reply_frame reply)

-- they arrived, or were lost
own_so : (bytes : List ℕ) (got : Option (List ℕ)) → (got ≡ None) ⊎ (got ≡ Some bytes) →
    got ≡ unless_lost (not (arrived_so got)) bytes
own_so bytes got (inl none) =
    subst (λ (o : Option (List ℕ)). o ≡ unless_lost (not (arrived_so o)) bytes) (sym none) refl
own_so bytes got (inr own) =
    subst (λ (o : Option (List ℕ)). o ≡ unless_lost (not (arrived_so o)) bytes) (sym own) refl

-- a reply is the one that its frame spells
spelled_so : (it : Reply) → reply_in (received.Frame (reply_frame it)) ≡ Some it
spelled_so (reply.Committed i n) = refl
spelled_so (reply.Value i n value) = refl
spelled_so (reply.Rows i n page) = refl
spelled_so (reply.Opened i n) = refl
spelled_so (reply.Closed i n) = refl
spelled_so (reply.Refused i why) = refl

heard_none : (it : Reply) (got : Option (List ℕ)) (heard : Option Reply) → IsHeard it got heard →
    got ≡ None → heard ≡ None
heard_none it got heard is none =
    let lost : IsReceivedOf (reply_frame it) None is.0 =
    subst (λ (o : Option (List ℕ)). IsReceivedOf (reply_frame it) o is.0) none is.1 in
    is.2 ∙ ap reply_in (lost.1 (λ own. absurd cc))

heard_own : (it : Reply) (got : Option (List ℕ)) (heard : Option Reply) → IsHeard it got heard →
    got ≡ Some (own_bytes it) → heard ≡ Some it
heard_own it got heard is own = is.2 ∙ ap reply_in (is.1.0 own) ∙ spelled_so it

-- one reply more is heard, or is not
heard_more : (it : Reply) (got : Option (List ℕ)) (heard : Option Reply) → IsHeard it got heard →
    (got ≡ None) ⊎ (got ≡ Some (own_bytes it)) → (rest : List Reply) (told : List Bool) (given :
    List Line) →
    replied rest ≡ arrived told given → replied (cons_option heard rest)
    ≡ arrived (arrived_so got ∷ told) (line.Replied it ∷ given)
heard_more it got heard is (inl none) rest told given same =
    subst (λ (o : Option Reply). replied (cons_option o rest)
    ≡ arrived (arrived_so got ∷ told) (line.Replied it ∷ given))
    (sym (heard_none it got heard is none)) (subst (λ (o : Option (List ℕ)).
    replied rest ≡ arrived (arrived_so o ∷ told) (line.Replied it ∷ given)) (sym none) same)
heard_more it got heard is (inr own) rest told given same =
    subst (λ (o : Option Reply). replied (cons_option o rest)
    ≡ arrived (arrived_so got ∷ told) (line.Replied it ∷ given))
    (sym (heard_own it got heard is own)) (subst (λ (o : Option (List ℕ)).
    replied (it ∷ rest) ≡ arrived (arrived_so o ∷ told) (line.Replied it ∷ given)) (sym own)
    (ap (λ (l : List Line). line.Replied it ∷ l) same))

module _ (node : ℕ) where
  -- the transmission of one reply
  abbrev carried_as : CarriedReply → Transmission
  carried_as it = record {
    from = Node node;
    to = Client;
    bytes = own_bytes it.reply;
    got = it.got;
  }

  -- those that were heard are those that arrived
  heard_all : (each : List CarriedReply) → All IsUnaltered (replies_carried node each) →
      replied (replies_heard each)
      ≡ arrived (told_of each) (replied (map (λ (it : CarriedReply). it.reply) each))
  heard_all [] all = refl
  heard_all (it ∷ each) all = heard_more it.reply it.got it.heard it.is
      (All-head IsUnaltered (carried_as it) (replies_carried node each) all) (replies_heard each)
      (told_of each) (replied (map (λ (c : CarriedReply). c.reply) each))
      (heard_all each (All-tail IsUnaltered (carried_as it) (replies_carried node each) all))

  -- and were carried as they were sent
  carried_all : (each : List CarriedReply) → All IsUnaltered (replies_carried node each) →
      replies_carried node each
      ≡ replies_sent node (told_of each) (replied (map (λ (it : CarriedReply). it.reply) each))
  carried_all [] all = refl
  carried_all (it ∷ each) all = ap₂ (λ (o : Option (List ℕ)) (l : List Transmission).
      one_transmission (Node node) Client (own_bytes it.reply) o ++ l)
      (own_so (own_bytes it.reply) it.got
      (All-head IsUnaltered (carried_as it) (replies_carried node each) all))
      (carried_all each (All-tail IsUnaltered (carried_as it) (replies_carried node each) all))

  count_all : (each : List CarriedReply) → length (told_of each)
      ≡ reply_count (replied (map (λ (it : CarriedReply). it.reply) each))
  count_all [] = refl
  count_all (it ∷ each) = omega (arith, count_all each)

  some_so : (got : Option (List ℕ)) → (got ≡ None → ⊥) → arrived_so got ≡ true
  some_so None is = absurd (is refl)
  some_so (Some bytes) is = refl

  -- where nothing may be lost each arrived
  none_lost : (loses : Type 0) → (loses → ⊥) → (each : List CarriedReply) →
      All (λ (t : Transmission). t.got ≡ None → loses) (replies_carried node each) →
      All (λ (b : Bool). b ≡ true) (told_of each)
  none_lost loses loses_not [] all = All-nil (λ (b : Bool). b ≡ true)
  none_lost loses loses_not (it ∷ each) all =
      All-cons (λ (b : Bool). b ≡ true) (arrived_so it.got) (told_of each) (some_so it.got
      (λ none. loses_not (All-head (λ (t : Transmission). t.got ≡ None → loses) (carried_as it)
      (replies_carried node each) all none))) (none_lost loses loses_not each
      (All-tail (λ (t : Transmission). t.got ≡ None → loses) (carried_as it)
      (replies_carried node each) all))

  pub follows_arrive : {C : Type 0} (h : Carriers C) (old new : C) (replies : List Reply)
      (before now : List Line)
      (follow : RepliesFollow (HasCarried h old new) node replies before now) →
      h.is_faithful old → RepliesArrive h.loses (HasCarried h old new) node (replied replies)
      (replied (replies_heard follow.each))
  follows_arrive h old new replies before now follow faithful =
      let each = follow.each in
      let own = follow.asked.unaltered faithful in
      subst (λ (l : List Reply). RepliesArrive h.loses (HasCarried h old new) node (replied l)
      (replied (replies_heard each))) follow.of (record {
        told = told_of each;
        each = count_all each;
        kept = heard_all each own;
        all = λ loses_not. none_lost h.loses loses_not each follow.asked.lost;
        asked = subst (HasCarried h old new) (carried_all each own) follow.asked;
      })

-- ---- replies that are carried one after another

pub none_follow : (asks : List Transmission → Type 0) (node : ℕ) (before : List Line) → asks [] →
    RepliesFollow asks node [] before before
none_follow asks node before none =
    record { each = []; of = refl; asked = none; lines = sym (append-nil before) }

pub one_follows : {C : Type 0} (h : Carriers C) (old new : C) (node : ℕ) (it : Reply)
    (heard : Option Reply) (before now : List Line) →
    HasCarriedOne h old new (Node node) Client (own_bytes it) (λ got. IsHeard it got heard) →
    now ≡ before ++ replied (cons_option heard []) →
    RepliesFollow (HasCarried h old new) node (it ∷ []) before now
one_follows h old new node it heard before now carried are = record {
  each = record { reply = it; got = carried.0; heard = heard; is = carried.2 } ∷ [];
  of = refl;
  asked = carried.1;
  lines = are;
}

cons_both : (heard : Option Reply) (a b : List Reply) →
    cons_option heard (a ++ b) ≡ cons_option heard a ++ b
cons_both None a b = refl
cons_both (Some it) a b = refl

heard_both : (a b : List CarriedReply) →
    replies_heard (a ++ b) ≡ replies_heard a ++ replies_heard b
heard_both [] b = refl
heard_both (it ∷ a) b = ap (λ (l : List Reply). cons_option it.heard l) (heard_both a b)
    ∙ cons_both it.heard (replies_heard a) (replies_heard b)

pub both_follow : {C : Type 0} (h : Carriers C) (old mid new : C) (node : ℕ)
    (first more : List Reply) (before then now : List Line) →
    RepliesFollow (HasCarried h old mid) node first before then →
    RepliesFollow (HasCarried h mid new) node more then now →
    RepliesFollow (HasCarried h old new) node (first ++ more) before now
both_follow h old mid new node first more before then now one two =
    let a = replies_heard one.each in
    let b = replies_heard two.each in
    record {
      each = one.each ++ two.each;
      of = map-append (λ (it : CarriedReply). it.reply) one.each two.each
          ∙ ap₂ (λ (l r : List Reply). l ++ r) one.of two.of;
      asked = subst (HasCarried h old new) (sym (flat_map-append
          (λ (it : CarriedReply). reply_sent node it.reply (λ bytes. it.got)) one.each two.each))
          (carried_both h old mid new (replies_carried node one.each)
          (replies_carried node two.each) one.asked two.asked);
      lines = two.lines ∙ ap (λ (l : List Line). l ++ replied b) one.lines
          ∙ append_assoc before (replied a) (replied b)
          ∙ ap (λ (l : List Line). before ++ l)
          (sym (map-append (λ (it : Reply). line.Replied it) a b)
          ∙ ap replied (sym (heard_both one.each two.each)));
    }

-- no more were heard than there were
few_more : (heard : Option Reply) (l : List Reply) (n : ℕ) → length l ≤ n →
    length (cons_option heard l) ≤ suc n
few_more None l n few = omega (arith, few)
few_more (Some it) l n few = omega (arith, few)

few_each : (each : List CarriedReply) → length (replies_heard each) ≤ length each
few_each [] = omega arith
few_each (it ∷ each) = few_more it.heard (replies_heard each) (length each) (few_each each)

pub few_heard : (asks : List Transmission → Type 0) (node : ℕ) (replies : List Reply)
    (before now : List Line) (follow : RepliesFollow asks node replies before now) →
    length (replies_heard follow.each) ≤ length replies
few_heard asks node replies before now follow = omega (
  arith,
  few_each follow.each,
  length-map follow.each (λ (it : CarriedReply). it.reply),
  ap length follow.of,
)
