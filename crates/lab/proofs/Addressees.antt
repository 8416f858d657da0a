-- Frames are to nodes of configuration 0, and each one that is sent is posted, in range.
use Rattle.std.proofs.Common.{◌≡◌, ℕ, zero, suc, ◌≤◌, List, [], ◌∷◌, ◌++◌, map}
use Rattle.std.proofs.Common.{Option, Some, None, true, refl, sym, ap, subst, ◌∙◌, arith}
use Rattle.std.proofs.Common.{inl}
use Rattle.std.specs.List.{AllZip, AllByRecursion}
use Rattle.std.proofs.lemmas.List.Elements.{All-weaker, recursion_from_All}
use Rattle.kv_types.specs.{BatchContent, Edits, has, place}
use Rattle.configurations.specs.{Configurations, at_epoch}
use Rattle.chain_model.specs.{Message as ModelFrame, addressee}
use Rattle.chain_model.specs.{InOrder, ForwardIsTrue, SystemEvent as ModelEvent, reached}
use Rattle.chain_model.specs.{node_of, Message}
use Rattle.link_messages.specs.declared.Frame.{Frame}
use Rattle.link_messages.specs.declared.Frame.TheVariants as frame
use Rattle.link_messages.specs.{HasBounds}
use Rattle.chain_core.specs.declared.Sent.{Sent}
use Rattle.chain_core.specs.{AreFrames, frame_as}
use Rattle.lab.specs.declared.delivery.Posted.{Posted}
use Rattle.lab.specs.Posting.{IsPosted}
use Rattle.lab.specs.Worlds.{PostedRefines}
use Rattle.lab.proofs.Places.{place_zero, place_each}

-- ---- addressees

-- a frame to node x has this addressee
same_addressee : (x : ℕ) (it : Frame) (f : ModelFrame Edits) → frame_as x it ≡ Some f →
    addressee f ≡ x
same_addressee x (frame.Forward epoch from number batch) f is =
    subst (λ (o : Option (ModelFrame Edits)). IsTo o) is refl
  where
    IsTo : Option (ModelFrame Edits) → Type 0
    IsTo None = Unit {0}
    IsTo (Some g) = addressee g ≡ x
same_addressee x (frame.Ack epoch from committed have) f is =
    subst (λ (o : Option (ModelFrame Edits)). IsTo o) is refl
  where
    IsTo : Option (ModelFrame Edits) → Type 0
    IsTo None = Unit {0}
    IsTo (Some g) = addressee g ≡ x
same_addressee x (frame.Notice epoch config) f is = absurd (cc)
same_addressee x (frame.Submit request batch) f is = absurd (cc)
same_addressee x (frame.Get request at key) f is = absurd (cc)
same_addressee x (frame.Rows request at range) f is = absurd (cc)
same_addressee x (frame.Open request at) f is = absurd (cc)
same_addressee x (frame.Close request number) f is = absurd (cc)
same_addressee x (frame.Committed request number) f is = absurd (cc)
same_addressee x (frame.Value request number value) f is = absurd (cc)
same_addressee x (frame.RowsAre request number page) f is = absurd (cc)
same_addressee x (frame.Opened request number) f is = absurd (cc)
same_addressee x (frame.Refused request why) f is = absurd (cc)
same_addressee x (frame.Closed request number) f is = absurd (cc)

-- the addressee of a frame that was sent is of configuration 0
pub addressed : (cs : Configurations) (es : List (ModelEvent Edits)) → InOrder cs es →
    (p x : ℕ) (it : Frame) (f : ModelFrame Edits) →
    place (reached cs es).frames p ≡ Some f → frame_as x it ≡ Some f →
    has (at_epoch cs 0) x ≡ true
addressed cs es order p x it f there is =
    let IsCreated : ModelFrame Edits → Type 0 =
    λ g. has (at_epoch cs 0) (addressee g) ≡ true in
    subst (λ (y : ℕ). has (at_epoch cs 0) y ≡ true) (same_addressee x it f is)
    (place_each IsCreated (reached cs es).frames p f order.created there)

-- ---- ranges

-- a Forward's number is that of a batch
abbrev pub IsNumbered : ModelFrame Edits → Type 0
IsNumbered (Message.Forward to epoch from number batch) = 1 ≤ number
IsNumbered (Message.Ack to epoch from committed have) = Unit {0}

-- .. since it is the place of one
numbered : (cs : Configurations) (lists : ℕ → List BatchContent) (f : ModelFrame Edits) →
    ForwardIsTrue cs lists f → IsNumbered f
numbered cs lists (Message.Forward to epoch from zero batch) tells =
    absurd (no_batch (sym (place_zero (lists from)) ∙ tells from (inl refl)))
  where
    no_batch : None ≡ Some batch → ⊥
    no_batch e = cc
numbered cs lists (Message.Forward to epoch from (suc number) batch) tells = omega arith
numbered cs lists (Message.Ack to epoch from committed have) tells = tt

pub all_numbered : (cs : Configurations) (es : List (ModelEvent Edits)) → InOrder cs es →
    AllByRecursion IsNumbered (reached cs es).frames
all_numbered cs es order =
    recursion_from_All IsNumbered (reached cs es).frames
    (All-weaker (ForwardIsTrue cs (λ z. (node_of cs es z).list)) IsNumbered
    (numbered cs (λ z. (node_of cs es z).list)) (reached cs es).frames order.forwards)

-- of a joined list, each of the second
pub back : {A : Type 0} (P : A → Type 0) (xs ys : List A) → AllByRecursion P (xs ++ ys) →
    AllByRecursion P ys
back P [] ys all = all
back P (x ∷ xs) ys all = back P xs ys all.1

-- such a frame has its bounds
bounds : (to : ℕ) (it : Frame) (f : ModelFrame Edits) → frame_as to it ≡ Some f →
    IsNumbered f → HasBounds it
bounds to (frame.Forward epoch from number batch) f is numbered =
    subst (λ (o : Option (ModelFrame Edits)). IsIn o) (sym is) numbered
  where
    IsIn : Option (ModelFrame Edits) → Type 0
    IsIn None = Unit {0}
    IsIn (Some g) = IsNumbered g
bounds to (frame.Ack epoch from committed have) f is numbered = tt
bounds to (frame.Notice epoch config) f is numbered = tt
bounds to (frame.Submit request batch) f is numbered = tt
bounds to (frame.Get request at key) f is numbered = tt
bounds to (frame.Rows request at range) f is numbered = tt
bounds to (frame.Open request at) f is numbered = tt
bounds to (frame.Close request number) f is numbered = tt
bounds to (frame.Committed request number) f is numbered = tt
bounds to (frame.Value request number value) f is numbered = tt
bounds to (frame.RowsAre request number page) f is numbered = absurd (cc)
bounds to (frame.Opened request number) f is numbered = tt
bounds to (frame.Refused request why) f is numbered = tt
bounds to (frame.Closed request number) f is numbered = tt

-- the frames that are sent are posted
pub kept_all : (x : ℕ) (more : List Posted) (sent : List Sent)
    (frames : List (ModelFrame Edits)) → AllZip (IsPosted x) more sent →
    AreFrames sent frames → AllByRecursion IsNumbered frames → AllZip PostedRefines more frames
kept_all x [] [] [] posted are numbered = tt
kept_all x [] [] (f ∷ frames) posted are numbered = absurd (cc)
kept_all x [] (s ∷ sent) frames posted are numbered = absurd posted
kept_all x (p ∷ more) [] frames posted are numbered = absurd posted
kept_all x (p ∷ more) (s ∷ sent) [] posted are numbered = absurd (cc)
kept_all x (p ∷ more) (s ∷ sent) (f ∷ frames) posted are numbered =
    let first : frame_as s.to s.frame ≡ Some f = cc in
    let others : map (λ (it : Sent). frame_as it.to it.frame) sent ≡ map Some frames = cc in (
      record {
        it = s.frame;
        same = ap (λ (to : ℕ). frame_as to s.frame) posted.0.to ∙ first;
        lawful = posted.0.lawful (bounds s.to s.frame f first numbered.0);
        bytes = posted.0.bytes;
      },
      kept_all x more sent frames posted.1 others numbered.1,
    )
