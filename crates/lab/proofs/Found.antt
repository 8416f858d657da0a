-- What is found on the way of an event to its node.
use Rattle.std.proofs.Common.{◌≡◌, ◌⊎◌, ◌∙◌, ℕ, Bool, List, [], ◌++◌, Option, Some, None, true}
use Rattle.std.proofs.Common.{false}
use Rattle.std.proofs.Common.{Result, Ok, Err, inl, inr, refl, sym, ap, subst}
use Rattle.std.proofs.lemmas.List.Elements.{All-head}
use Rattle.std.specs.Prelude.{All, IfOk, IsSome}
use Rattle.std.specs.List.{AllZip}
use Rattle.kv_types.specs.{Edits, place}
use Rattle.configurations.specs.{Configurations}
use Rattle.chain_model.specs.{Message as ModelFrame}
use Rattle.link_messages.specs.declared.Frame.{Frame}
use Rattle.link_messages.specs.declared.Frame.TheVariants as frame
use Rattle.link_messages.specs.{frame_bytes}
use Rattle.link_messages.specs.Stream.{OneSpelling}
use Rattle.carriers.specs.declared.Delivery.{Delivery}
use Rattle.carriers.specs.declared.Delivery.TheVariants as delivery
use Rattle.carriers.specs.declared.NodeInput.{NodeInput}
use Rattle.carriers.specs.declared.Peer.{Peer}
use Rattle.carriers.specs.declared.Peer.TheVariants.{Client, Node}
use Rattle.carriers.specs.declared.Received.{Received}
use Rattle.carriers.specs.declared.Received.TheVariants as received
use Rattle.carriers.specs.Carriers.{IsReadFrom, IsSpelling}
use Rattle.carriers.specs.declared.Carrier.{Ghosts as Carriers}
use Rattle.carriers.specs.{ArrivesAt, HasCarried, HasCarriedOne, IsReceived, IsReceivedOf}
use Rattle.carriers.specs.{IsUnaltered, Transmission, delivery_from}
use Rattle.carriers.specs.{input_of, one_transmission, request_input, unless_lost}
use Rattle.events.specs.declared.EventKind.{EventKind}
use Rattle.events.specs.declared.EventKind.TheVariants.{Submit, Get, Rows, Open, Close, Deliver}
use Rattle.events.specs.declared.EventKind.TheVariants.{Notice, Tick, Tend, Start, Stop}
use Rattle.lab.specs.declared.delivery.Posted.{Posted}
use Rattle.lab.specs.Deliveries.{Brings, HasNoDelivery, IsBrought, IsCarriedEvent, IsDeliverable}
use Rattle.lab.specs.Deliveries.{IsDeliveryOf, IsPostedTo, IsRequestTo}
use Rattle.lab.specs.Events.{MayBeLost}
use Rattle.lab.specs.Transmissions.{frame_sent, posted_sent, request_sent}
use Rattle.lab.specs.Worlds.{PostedRefines}
use Rattle.lab.proofs.Places.{none_kept, some_kept}
use Rattle.lab.proofs.Transmissions.{carried_none}

-- whether what was sent to a node was lost
abbrev pub delivery_lost : Delivery → Bool
delivery_lost delivery.Nothing = false
delivery_lost delivery.Lost = true
delivery_lost (delivery.To x got) = false

-- the bytes arrived as they were sent, or were lost
abbrev IsOwn : List ℕ → Option (List ℕ) → Type 0
IsOwn bytes got = (got ≡ None) ⊎ (got ≡ Some bytes)

-- .. so they are delivered to this node as this input, or are lost
abbrev ArrivesOwn : ℕ → NodeInput → List ℕ → Option (List ℕ) → Delivery → Type 0
ArrivesOwn node sent bytes got it = ((got ≡ None) × (it ≡ delivery.Lost))
    ⊎ ((got ≡ Some bytes) × (it ≡ delivery.To node sent))

-- ---- what was not altered

-- of a frame that was sent and did not arrive nothing is received
received_none : (sent : Frame) (it : Received) → IsReceivedOf sent None it → it ≡ received.Lost
received_none sent it is = is.1 (λ own. absurd cc)

request_own : (node : ℕ) (sent : Frame) (got : Option (List ℕ)) (it : Delivery) →
    IsOwn (frame_bytes sent) got → IsRequestTo node sent got it →
    ArrivesOwn node (request_input sent) (frame_bytes sent) got it
request_own node sent got it (inl none) is = inl (
  none,
  is.2 ∙ ap (delivery_from request_input node) (received_none sent is.0
      (subst (λ (o : Option (List ℕ)). IsReceivedOf sent o is.0) none is.1)),
)
request_own node sent got it (inr own) is =
    inr (own, is.2 ∙ ap (delivery_from request_input node) (is.1.0 own))

-- what was read from a frame's spelling is that frame
read_as : OneSpelling → (bytes : List ℕ) (sent : Frame) → IsSpelling bytes sent →
    (it : Received) → IsReadFrom bytes it → it ≡ received.Frame sent
read_as one bytes sent spelled (received.Frame got) read = ap (λ (f : Frame). received.Frame f)
    (one got sent [] [] read.0 spelled.0
    (ap (λ (l : List ℕ). l ++ []) (sym read.1 ∙ spelled.1))).0
read_as one bytes sent spelled received.Unreadable read = absurd (read sent spelled)
read_as one bytes sent spelled received.Lost read = absurd read

posted_own : OneSpelling → (posted : Posted) (sent : Frame) →
    IsSpelling posted.bytes.items sent → (got : Option (List ℕ)) (it : Delivery) →
    IsOwn posted.bytes.items got → IsPostedTo (Some posted) got it →
    ArrivesOwn posted.to (input_of sent) posted.bytes.items got it
posted_own one posted sent spelled got it (inl none) is = inl (
  none,
  is.2 ∙ ap (delivery_from input_of posted.to)
      (subst (λ (o : Option (List ℕ)). IsReceived o is.0) none is.1),
)
posted_own one posted sent spelled got it (inr own) is = inr (
  own,
  is.2 ∙ ap (delivery_from input_of posted.to)
      (read_as one posted.bytes.items sent spelled is.0
      (subst (λ (o : Option (List ℕ)). IsReceived o is.0) own is.1)),
)

-- the only transmission of a list was not altered
unaltered_one : (from to : Peer) (bytes : List ℕ) (got : Option (List ℕ)) →
    All IsUnaltered (one_transmission from to bytes got) → IsOwn bytes got
unaltered_one from to bytes got all = All-head IsUnaltered
    (record { from = from; to = to; bytes = bytes; got = got }) [] all

-- ---- what a call of a carrier brings

-- a request
pub request_brings : {E C : Type 0} (h : Carriers C) (old new : C) (cs : Configurations)
    (posted : List Posted) (i : ℕ) (kind : EventKind) (node : ℕ) (sent was : Frame) → was ≡ sent →
    ((arrives : List ℕ → Option (List ℕ)) →
    frame_sent posted i kind arrives ≡ request_sent node sent arrives) →
    ((got : Option (List ℕ)) (it : Delivery) → IsRequestTo node sent got it →
    IsBrought cs posted i kind got it) → (r : Result Delivery E) →
    IfOk r (λ it. HasCarriedOne h old new Client (Node node) (frame_bytes was)
    (λ got. ArrivesAt request_input node (IsReceivedOf was got) it)) →
    IfOk r (Brings h old new cs posted i kind)
request_brings h old new cs posted i kind node sent was same sends brings (Ok it) is =
    let was_carried = subst (λ (f : Frame). HasCarriedOne h old new Client (Node node)
    (frame_bytes f) (λ got. ArrivesAt request_input node (IsReceivedOf f got) it)) same is in
    record {
      got = was_carried.0;
      carried = subst (HasCarried h old new) (sym (sends (λ bytes. was_carried.0))) was_carried.1;
      brought = brings was_carried.0 it was_carried.2;
    }
request_brings h old new cs posted i kind node sent was same sends brings (Err e) is = tt

-- a posted frame
pub posted_brings : {E C : Type 0} (h : Carriers C) (old new : C) (cs : Configurations)
    (posted : List Posted) (i p : ℕ) (at : Posted) → place posted p ≡ Some at →
    (bytes : List ℕ) → bytes ≡ at.bytes.items → (r : Result Delivery E) →
    IfOk r (λ it. HasCarriedOne h old new (Node at.from) (Node at.to) bytes
    (λ got. ArrivesAt input_of at.to (IsReceived got) it)) →
    IfOk r (Brings h old new cs posted i (Deliver p))
posted_brings h old new cs posted i p at there bytes same (Ok it) is = record {
  got = is.0;
  carried = subst (λ (o : Option Posted). HasCarried h old new (posted_sent o (λ bytes. is.0)))
      (sym there) (subst (λ (b : List ℕ).
      HasCarried h old new (one_transmission (Node at.from) (Node at.to) b is.0)) same is.1);
  brought = subst (λ (o : Option Posted). IsPostedTo o is.0 it) (sym there) is.2;
}
posted_brings h old new cs posted i p at there bytes same (Err e) is = tt

-- an event that is not carried
pub uncarried_brings : {C : Type 0} (h : Carriers C) (now : C) (cs : Configurations)
    (posted : List Posted) (i : ℕ) (kind : EventKind) (it : Delivery) →
    ((arrives : List ℕ → Option (List ℕ)) → frame_sent posted i kind arrives ≡ []) →
    IsBrought cs posted i kind None it → Brings h now now cs posted i kind it
uncarried_brings h now cs posted i kind it none is = record {
  got = None;
  carried = subst (HasCarried h now now) (sym (none (λ bytes. None))) (carried_none h now);
  brought = is;
}

-- ---- by a faithful carrier, where the posted frames are those of a run

-- bytes of these posted frames and of this event, of which so much arrived, are those of a run
abbrev ArriveInRun : List (ModelFrame Edits) → List Posted → ℕ → EventKind
    → Option (List ℕ) → Type 0
ArriveInRun frames posted i kind got = OneSpelling × AllZip PostedRefines posted frames
    × All IsUnaltered (frame_sent posted i kind (λ bytes. got))

module _ (cs : Configurations) (frames : List (ModelFrame Edits)) (i : ℕ) where
  -- a request or a frame that was sent is found on its way, or is lost
  sent_found : (kind : EventKind) (node : ℕ) (sent : NodeInput) (bytes : List ℕ)
      (got : Option (List ℕ)) → MayBeLost frames kind → IsDeliveryOf cs frames i kind node sent →
      (it : Delivery) → ArrivesOwn node sent bytes got it → IsDeliverable cs frames i kind it
  sent_found kind node sent bytes got may brings it (inl lost) =
      subst (IsDeliverable cs frames i kind) (sym lost.1) may
  sent_found kind node sent bytes got may brings it (inr own) =
      subst (IsDeliverable cs frames i kind) (sym own.1) brings

  request_found : (kind : EventKind) (node : ℕ) (sent : Frame) (got : Option (List ℕ)) →
      MayBeLost frames kind → IsDeliveryOf cs frames i kind node (request_input sent) →
      (it : Delivery) → All IsUnaltered (request_sent node sent (λ bytes. got)) →
      IsRequestTo node sent got it → IsDeliverable cs frames i kind it
  request_found kind node sent got may brings it all is =
      sent_found kind node (request_input sent) (frame_bytes sent) got may brings it
      (request_own node sent got it
      (unaltered_one Client (Node node) (frame_bytes sent) got all) is)

  -- what a place has that was posted
  posted_found : OneSpelling → (posted : List Posted) (p : ℕ) →
      AllZip PostedRefines posted frames → (got : Option (List ℕ)) (o : Option Posted) →
      place posted p ≡ o → All IsUnaltered (posted_sent o (λ bytes. got)) →
      (it : Delivery) → IsPostedTo o got it → IsDeliverable cs frames i (Deliver p) it
  posted_found one posted p each got None has all it is =
      subst (IsDeliverable cs frames i (Deliver p)) (sym is) (none_kept posted frames p each has)
  posted_found one posted p each got (Some x) has all it is =
      let kept = some_kept posted frames p x each has in
      sent_found (Deliver p) x.to (input_of kept.kept.it) x.bytes.items got
      (subst (λ (found : Option (ModelFrame Edits)). IsSome found) (sym kept.there) refl)
      (record {
        frame = kept.frame;
        there = kept.there;
        it = kept.kept.it;
        same = kept.kept.same;
        is = refl;
      }) it (posted_own one x kept.kept.it (kept.kept.lawful, kept.kept.bytes) got it
      (unaltered_one (Node x.from) (Node x.to) x.bytes.items got all) is)

  -- what hangs on no frame
  frameless : (kind : EventKind) → (HasNoDelivery cs [] kind → HasNoDelivery cs frames kind) →
      (MayBeLost [] kind → MayBeLost frames kind) → ((x : ℕ) (got : NodeInput) →
      IsDeliveryOf cs [] i kind x got → IsDeliveryOf cs frames i kind x got) → (it : Delivery) →
      IsDeliverable cs [] i kind it → IsDeliverable cs frames i kind it
  frameless kind none lost brings delivery.Nothing is = none is
  frameless kind none lost brings delivery.Lost is = lost is
  frameless kind none lost brings (delivery.To x got) is = brings x got is

-- what is brought can be delivered in the run
pub found_of : (cs : Configurations) (posted : List Posted) (i : ℕ) (kind : EventKind)
    (got : Option (List ℕ)) (it : Delivery) → IsBrought cs posted i kind got it →
    (frames : List (ModelFrame Edits)) →
    (IsCarriedEvent kind → ArriveInRun frames posted i kind got) → IsDeliverable cs frames i kind it
found_of cs posted i (Submit node batch) got it is frames run =
    request_found cs frames i (Submit node batch) node (frame.Submit i batch) got tt (refl, refl)
    it (run tt).2 is
found_of cs posted i (Get node key at) got it is frames run =
    request_found cs frames i (Get node key at) node (frame.Get i at key) got tt (refl, refl) it
    (run tt).2 is
found_of cs posted i (Rows node range at) got it is frames run =
    request_found cs frames i (Rows node range at) node (frame.Rows i at range) got tt (refl, refl)
    it (run tt).2 is
found_of cs posted i (Open node at) got it is frames run =
    request_found cs frames i (Open node at) node (frame.Open i at) got tt (refl, refl) it
    (run tt).2 is
found_of cs posted i (Close node number) got it is frames run =
    request_found cs frames i (Close node number) node (frame.Close i number) got tt (refl, refl)
    it (run tt).2 is
found_of cs posted i (Deliver p) got it is frames run =
    posted_found cs frames i (run tt).0 posted p (run tt).1 got (place posted p) refl (run tt).2
    it is
found_of cs posted i (Notice node epoch) got it is frames run =
    frameless cs frames i (Notice node epoch) (λ none. none) (λ lost. lost) (λ x input to. to) it is
found_of cs posted i (Tick node) got it is frames run =
    frameless cs frames i (Tick node) (λ none. none) (λ lost. lost) (λ x input to. to) it is
found_of cs posted i (Tend node) got it is frames run =
    frameless cs frames i (Tend node) (λ none. none) (λ lost. lost) (λ x input to. to) it is
found_of cs posted i (Start node) got it is frames run =
    frameless cs frames i (Start node) (λ none. none) (λ lost. lost) (λ x input to. to) it is
found_of cs posted i (Stop node junk) got it is frames run =
    frameless cs frames i (Stop node junk) (λ none. none) (λ lost. lost) (λ x input to. to) it is

-- .. whatever was posted, if the event is not carried
pub found_uncarried : (cs : Configurations) (posted : List Posted) (i : ℕ) (kind : EventKind)
    (got : Option (List ℕ)) (it : Delivery) → IsBrought cs posted i kind got it →
    (IsCarriedEvent kind → ⊥) → IsDeliverable cs [] i kind it
found_uncarried cs posted i kind got it is certain =
    found_of cs posted i kind got it is [] (λ carried. absurd (certain carried))

-- ---- what the carrier was asked, where it altered nothing

own_unaltered : (node : ℕ) (sent : NodeInput) (bytes : List ℕ) (got : Option (List ℕ)) (it :
    Delivery) →
    ArrivesOwn node sent bytes got it → got ≡ unless_lost (delivery_lost it) bytes
own_unaltered node sent bytes got it (inl lost) = lost.0
    ∙ ap (λ (b : Bool). unless_lost b bytes) (sym (ap delivery_lost lost.1))
own_unaltered node sent bytes got it (inr own) = own.0
    ∙ ap (λ (b : Bool). unless_lost b bytes) (sym (ap delivery_lost own.1))

request_unaltered : (node : ℕ) (sent : Frame) (got : Option (List ℕ)) (it : Delivery) →
    IsRequestTo node sent got it → All IsUnaltered (request_sent node sent (λ bytes. got)) →
    request_sent node sent (λ bytes. got)
    ≡ request_sent node sent (unless_lost (delivery_lost it))
request_unaltered node sent got it is all = ap (one_transmission Client (Node node) (frame_bytes
    sent))
    (own_unaltered node (request_input sent) (frame_bytes sent) got it
    (request_own node sent got it
    (unaltered_one Client (Node node) (frame_bytes sent) got all) is))

-- bytes that were read were not lost
read_arrives : (node : ℕ) (bytes : List ℕ) (it : Received) → IsReadFrom bytes it →
    delivery_lost (delivery_from input_of node it) ≡ false
read_arrives node bytes (received.Frame got) is = refl
read_arrives node bytes received.Unreadable is = refl
read_arrives node bytes received.Lost is = absurd is

posted_bytes_unaltered : (posted : Posted) (got : Option (List ℕ)) (it : Delivery) →
    IsOwn posted.bytes.items got → IsPostedTo (Some posted) got it →
    got ≡ unless_lost (delivery_lost it) posted.bytes.items
posted_bytes_unaltered posted got it (inl none) is = none
    ∙ ap (λ (b : Bool). unless_lost b posted.bytes.items)
    (sym (ap delivery_lost is.2 ∙ ap (λ (r : Received).
    delivery_lost (delivery_from input_of posted.to r))
    (subst (λ (o : Option (List ℕ)). IsReceived o is.0) none is.1)))
posted_bytes_unaltered posted got it (inr own) is = own
    ∙ ap (λ (b : Bool). unless_lost b posted.bytes.items)
    (sym (ap delivery_lost is.2 ∙ read_arrives posted.to posted.bytes.items is.0
    (subst (λ (o : Option (List ℕ)). IsReceived o is.0) own is.1)))

posted_unaltered : (o : Option Posted) (got : Option (List ℕ)) (it : Delivery) → IsPostedTo o got it
    →
    All IsUnaltered (posted_sent o (λ bytes. got)) →
    posted_sent o (λ bytes. got) ≡ posted_sent o (unless_lost (delivery_lost it))
posted_unaltered None got it is all = refl
posted_unaltered (Some x) got it is all =
    ap (one_transmission (Node x.from) (Node x.to) x.bytes.items) (posted_bytes_unaltered x got it
    (unaltered_one (Node x.from) (Node x.to) x.bytes.items got all) is)

pub sent_unaltered : (cs : Configurations) (posted : List Posted) (i : ℕ) (kind : EventKind)
    (got : Option (List ℕ)) (it : Delivery) → IsBrought cs posted i kind got it →
    All IsUnaltered (frame_sent posted i kind (λ bytes. got)) →
    frame_sent posted i kind (λ bytes. got)
    ≡ frame_sent posted i kind (unless_lost (delivery_lost it))
sent_unaltered cs posted i (Submit node batch) got it is all =
    request_unaltered node (frame.Submit i batch) got it is all
sent_unaltered cs posted i (Get node key at) got it is all =
    request_unaltered node (frame.Get i at key) got it is all
sent_unaltered cs posted i (Rows node range at) got it is all =
    request_unaltered node (frame.Rows i at range) got it is all
sent_unaltered cs posted i (Open node at) got it is all =
    request_unaltered node (frame.Open i at) got it is all
sent_unaltered cs posted i (Close node number) got it is all =
    request_unaltered node (frame.Close i number) got it is all
sent_unaltered cs posted i (Deliver p) got it is all = posted_unaltered (place posted p) got it is
    all
sent_unaltered cs posted i (Notice node epoch) got it is all = refl
sent_unaltered cs posted i (Tick node) got it is all = refl
sent_unaltered cs posted i (Tend node) got it is all = refl
sent_unaltered cs posted i (Start node) got it is all = refl
sent_unaltered cs posted i (Stop node junk) got it is all = refl

-- ---- what was lost

lost_received : (means : Frame → NodeInput) (node : ℕ) (it : Received) →
    delivery.Lost ≡ delivery_from means node it → it ≡ received.Lost
lost_received means node (received.Frame frame) is = absurd cc
lost_received means node received.Unreadable is = absurd cc
lost_received means node received.Lost is = refl

none_read : (got : Option (List ℕ)) → IsReceived got received.Lost → got ≡ None
none_read None is = refl
none_read (Some bytes) is = absurd is

request_none : (sent : Frame) (got : Option (List ℕ)) → IsReceivedOf sent got received.Lost →
    got ≡ None
request_none sent got is = none_read got (is.1 (λ own. let same = is.0 own in absurd cc))

-- it was not brought
request_lost : (node : ℕ) (sent : Frame) (got : Option (List ℕ)) (it : Delivery) →
    it ≡ delivery.Lost → IsRequestTo node sent got it → got ≡ None
request_lost node sent got it lost is = request_none sent got
    (subst (IsReceivedOf sent got) (lost_received request_input node is.0 (sym lost ∙ is.2)) is.1)

module _ (loses : Type 0) where
  -- a lost transmission of a carrier that perhaps loses something
  abbrev Loses : Transmission → Type 0
  Loses it = it.got ≡ None → loses

  loses_request : (node : ℕ) (sent : Frame) (got : Option (List ℕ)) (it : Delivery) →
      it ≡ delivery.Lost → All Loses (request_sent node sent (λ bytes. got)) →
      IsRequestTo node sent got it → loses
  loses_request node sent got it lost all is = All-head Loses
      (record { from = Client; to = Node node; bytes = frame_bytes sent; got = got }) [] all
      (request_lost node sent got it lost is)

  loses_posted : (o : Option Posted) (got : Option (List ℕ)) (it : Delivery) →
      it ≡ delivery.Lost → All Loses (posted_sent o (λ bytes. got)) → IsPostedTo o got it → loses
  loses_posted None got it lost all is = let same = sym lost ∙ is in absurd cc
  loses_posted (Some x) got it lost all is = All-head Loses
      (record { from = Node x.from; to = Node x.to; bytes = x.bytes.items; got = got }) [] all
      (none_read got
      (subst (IsReceived got) (lost_received input_of x.to is.0 (sym lost ∙ is.2)) is.1))

  -- only a carrier that may lose something brings that an event was lost
  pub lost_loses : (cs : Configurations) (posted : List Posted) (i : ℕ) (kind : EventKind)
      (got : Option (List ℕ)) (it : Delivery) → it ≡ delivery.Lost →
      All Loses (frame_sent posted i kind (λ bytes. got)) → IsBrought cs posted i kind got it →
      loses
  lost_loses cs posted i (Submit node batch) got it lost all is =
      loses_request node (frame.Submit i batch) got it lost all is
  lost_loses cs posted i (Get node key at) got it lost all is =
      loses_request node (frame.Get i at key) got it lost all is
  lost_loses cs posted i (Rows node range at) got it lost all is =
      loses_request node (frame.Rows i at range) got it lost all is
  lost_loses cs posted i (Open node at) got it lost all is =
      loses_request node (frame.Open i at) got it lost all is
  lost_loses cs posted i (Close node number) got it lost all is =
      loses_request node (frame.Close i number) got it lost all is
  lost_loses cs posted i (Deliver p) got it lost all is =
      loses_posted (place posted p) got it lost all is
  lost_loses cs posted i (Notice node epoch) got it lost all is =
      absurd (subst (IsDeliverable cs [] i (Notice node epoch)) lost is)
  lost_loses cs posted i (Tick node) got it lost all is =
      absurd (subst (IsDeliverable cs [] i (Tick node)) lost is)
  lost_loses cs posted i (Tend node) got it lost all is =
      absurd (subst (IsDeliverable cs [] i (Tend node)) lost is)
  lost_loses cs posted i (Start node) got it lost all is =
      absurd (subst (IsDeliverable cs [] i (Start node)) lost is)
  lost_loses cs posted i (Stop node junk) got it lost all is =
      absurd (subst (IsDeliverable cs [] i (Stop node junk)) lost is)
