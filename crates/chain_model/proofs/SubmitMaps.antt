-- A submit does not look into the contents of batches: it goes with every map of them.
use Rattle.std.proofs.Common.{◌≡◌, ℕ, zero, suc, ◌-◌, ◌^◌, List, [], ◌∷◌, ◌++◌, length, map}
use Rattle.std.proofs.Common.{option_map, Option, Some, None, Bool, true, false, cond, not, ◌==◌}
use Rattle.std.proofs.Common.{nat_le, nat_lt, sym, refl, ◌∙◌, ap, ap₂}
use Rattle.std.proofs.lemmas.List.{length-map, map-append}
use Rattle.kv_types.specs.{Marked, has, mark_held, place}
use Rattle.kv_types.specs.declared.mark.Mark.{Mark}
use Rattle.kv_types.specs.Marks.{last_mark, own_mark}
use Rattle.configurations.specs.{is_head, is_tail, successor}
use Rattle.chain_model.specs.declared.refusal.Refusal.TheVariants as refusal
use Rattle.chain_model.specs.declared.drop_reason.DropReason.{DropReason}
use Rattle.chain_model.specs.Messages.{Ack, Message}
use Rattle.chain_model.specs.Requests.{Committed, Response}
use Rattle.chain_model.specs.Machine.{Answer, MachineState, due, not_due}
use Rattle.chain_model.specs.Machine.{refused}
use Rattle.chain_model.specs.Machine.{replied}
use Rattle.chain_model.specs.Rules.{accept, ack, ack_to, acknowledge}
use Rattle.chain_model.specs.Rules.{forward, forward_to, forwards}
use Rattle.chain_model.specs.Rules.{longer_for}
use Rattle.chain_model.specs.Rules.{submit, tail_commits}
use Rattle.std.specs.Option.{option_or}
use Rattle.chain_model.specs.Machine.{silent}
use Rattle.chain_model.specs.Rules.{accept_if_room, queued, repeat, submit_after, submit_marked}
use Rattle.chain_model.specs.Maps.{answer_map, frame_map, marked_map, node_map, reply_map}

-- a function of one of two values is one of two values
pub cond_of : {X Y : Type 0} (g : X → Y) (t t' : Bool) (u v : X) (u' v' : Y) → t ≡ t' → g u ≡ u'
    → g v ≡ v' → g (cond t u v) ≡ cond t' u' v'
cond_of g true t' u v u' v' e p q = p ∙ ap (λ b. cond b u' v') e
cond_of g false t' u v u' v' e p q = q ∙ ap (λ b. cond b u' v') e

-- the element at a place of the images is the image of the element there
pub map-place_of : {X Y : Type 0} (g : X → Y) (l : List X) (n : ℕ)
    → place (map g l) n ≡ option_map g (place l n)
map-place_of g [] n = refl
map-place_of g (x ∷ l) zero = refl
map-place_of g (x ∷ l) (suc zero) = refl
map-place_of g (x ∷ l) (suc (suc n)) = map-place_of g l (suc n)

-- the answer of a node that has appended batch k
abbrev pub sent : {A : Type 0} → ℕ → ℕ → MachineState A → Answer A
sent x k m = record {
  node = m;
  frames = forward x m k ++ cond (is_tail m.ids x) (ack x m) [];
  replies = [];
  dropped = None;
}

module _ {A B : Type 0} (f : A → B) where
  -- images are as many
  pub size : (n : MachineState A) → length (map (marked_map f) n.list) ≡ length n.list
  size n = length-map n.list (marked_map f)

  -- a Forward commutes with the map
  forward_to_map : (o : Option ℕ) (x : ℕ) (n : MachineState A) (k : ℕ) (b : Option (Marked A))
      → map (frame_map f) (forward_to o x n k b)
      ≡ forward_to o x (node_map f n) k (option_map (marked_map f) b)
  forward_to_map None x n k b = refl
  forward_to_map (Some s) x n k None = refl
  forward_to_map (Some s) x n k (Some b) = refl

  -- the Forward of a batch of the list commutes with the map
  pub forward_map : (x : ℕ) (n : MachineState A) (k : ℕ) → map (frame_map f) (forward x n k)
      ≡ forward x
      (node_map f n) k
  forward_map x n k = forward_to_map (successor n.ids x) x n k (place n.list k)
      ∙ ap (λ b. forward_to (successor n.ids x) x (node_map f n) k b)
      (sym (map-place_of (marked_map f) n.list k))

  -- several Forwards in a row commute with the map
  pub forwards_map : (x : ℕ) (n : MachineState A) (k count : ℕ) → map (frame_map f)
      (forwards x n k count)
      ≡ forwards x (node_map f n) k count
  forwards_map x n k zero = refl
  forwards_map x n k (suc count) =
      map-append (frame_map f) (forward x n (suc k)) (forwards x n (suc k) count)
      ∙ ap₂ (λ (p q : List (Message B)). p ++ q) (forward_map x n (suc k))
      (forwards_map x n (suc k) count)

  -- an Ack goes with it
  pub ack_to_map : (o : Option ℕ) (x : ℕ) (n : MachineState A) → map (frame_map f) (ack_to o x n) ≡
      ack_to o
      x (node_map f n)
  ack_to_map None x n = refl
  ack_to_map (Some p) x n = ap (λ k. Ack p n.epoch x n.committed k ∷ []) (sym (size n))

  -- replies that are due do not look into batches
  due_map : (k : ℕ) (ps : List (ℕ × ℕ)) → map (reply_map f) (due k ps) ≡ due k ps
  due_map k [] = refl
  due_map k (p ∷ ps) =
      cond_of (map (reply_map f)) (nat_le p.0 k) (nat_le p.0 k) (Committed p.1 p.0 ∷ due k ps)
      (due k ps) (Committed p.1 p.0 ∷ due k ps) (due k ps) refl
      (ap (λ rs. Committed p.1 p.0 ∷ rs) (due_map k ps)) (due_map k ps)

  -- two answers of one node are one if frames and replies are
  pub answer : {C : Type 0} (n : MachineState C) (fs fs' : List (Message C))
      (rs rs' : List (Response C))
      (d : Option DropReason) → fs ≡ fs' → rs ≡ rs'
      → ◌≡◌ {A = Answer C} (record { node = n; frames = fs; replies = rs; dropped = d })
      (record { node = n; frames = fs'; replies = rs'; dropped = d })
  answer n fs fs' rs rs' d p q = λ j. record { node = n; frames = p j; replies = q j; dropped = d }

  -- replies to those who wait
  pub acknowledge_map : (n : MachineState A) (fs : List (Message A)) (fs' : List (Message B))
      → map (frame_map f) fs ≡ fs' → answer_map f (acknowledge n fs) ≡ acknowledge
      (node_map f n) fs'
  acknowledge_map n fs fs' e =
      answer (record (node_map f n) { pending = not_due n.committed n.pending })
      (map (frame_map f) fs) fs' (map (reply_map f) (due n.committed n.pending))
      (due n.committed n.pending) None e (due_map n.committed n.pending)

  -- a tail that commits
  pub tail_map : (x : ℕ) (n : MachineState A) → node_map f (tail_commits x n) ≡ tail_commits x
      (node_map f n)
  tail_map x n =
      cond_of (node_map f) (is_tail n.ids x) (is_tail n.ids x)
      (record n { committed = length n.list }) n
      (record (node_map f n) { committed = length (map (marked_map f) n.list) }) (node_map f n) refl
      (ap (λ k. record (node_map f n) { committed = k }) (sym (size n))) refl

  -- three tests in turn, the last of which may be another test of the same outcome
  pub three : {X Y : Type 0} (g : X → Y) (s t u u' : Bool) (a b c d : X) (a' b' c' d' : Y) → u ≡ u'
      → g a ≡ a' → g b ≡ b' → g c ≡ c' → g d ≡ d'
      → g (cond s a (cond t b (cond u c d))) ≡ cond s a' (cond t b' (cond u' c' d'))
  three g s t u u' a b c d a' b' c' d' same ea eb ec ed =
      cond_of g s s a (cond t b (cond u c d)) a' (cond t b' (cond u' c' d')) refl ea
      (cond_of g t t b (cond u c d) b' (cond u' c' d') refl eb
      (cond_of g u u' c d c' d' same ec ed))

  -- the head accepts a batch
  accept_map : (x : ℕ) (n : MachineState A) (i : ℕ) (b : Marked A)
      → answer_map f (accept x n i b) ≡ accept x (node_map f n) i (marked_map f b)
  accept_map x n i b =
      let n' : MachineState B = node_map f n in
      let m = tail_commits x (longer_for n i b) in
      let k = suc (length n.list) in
      let appends : node_map f (longer_for n i b)
      ≡ longer_for n' i (marked_map f b) = λ j. record n' {
        list = map-append (marked_map f) n.list (b ∷ []) j;
        pending = n.pending ++ (suc (sym (size n) j), i) ∷ [];
      } in
      let same : node_map f m ≡ tail_commits x (longer_for n' i (marked_map f b)) =
      tail_map x (longer_for n i b) ∙ ap (tail_commits x) appends in
      acknowledge_map m (forward x m k) (forward x (node_map f m) k) (forward_map x m k)
      ∙ ap₂ (λ (o : MachineState B) (s : ℕ). acknowledge o (forward x o (suc s))) same
      (sym (size n))

  -- the head accepts a batch if a number is left
  room_map : (x : ℕ) (n : MachineState A) (i : ℕ) (b : Marked A)
      → answer_map f (accept_if_room x n i b) ≡ accept_if_room x (node_map f n) i (marked_map f b)
  room_map x n i b =
      let n' : MachineState B = node_map f n in
      let most = 2 ^ 63 - 1 in
      cond_of (answer_map f) (length n.list == most) (length n'.list == most)
      (refused n i refusal.Exhausted) (accept x n i b) (refused n' i refusal.Exhausted)
      (accept x n' i (marked_map f b)) (ap (λ k. k == most) (sym (size n))) refl
      (accept_map x n i b)

  -- a batch that the head has
  repeat_map : (n : MachineState A) (i k : ℕ)
      → answer_map f (repeat n i k) ≡ repeat (node_map f n) i k
  repeat_map n i k =
      let n' : MachineState B = node_map f n in
      let waits = nat_le k n.committed in
      cond_of (answer_map f) waits waits (replied n (Committed i k))
      (silent (record n { pending = queued (k, i) n.pending })) (replied n' (Committed i k))
      (silent (record n' { pending = queued (k, i) n'.pending })) refl refl refl

  -- the marks of a list stay
  last_map : (k : ℕ) (l : List (Marked A)) (c : ℕ)
      → last_mark k (map (marked_map f) l) c ≡ last_mark k l c
  last_map k [] c = refl
  last_map k (b ∷ l) c = ap (λ o. option_or o (own_mark b.mark c k)) (last_map (suc k) l c)

  -- a batch by the mark that is held
  after_map : (x : ℕ) (n : MachineState A) (i : ℕ) (b : Marked A) (r : ℕ) (h : Option (ℕ × ℕ))
      → answer_map f (submit_after x n i b r h) ≡ submit_after x (node_map f n) i (marked_map f b) r
      h
  after_map x n i b r None = room_map x n i b
  after_map x n i b r (Some h) =
      let n' : MachineState B = node_map f n in
      let b' : Marked B = marked_map f b in
      let less = nat_lt h.0 r in
      let same = h.0 == r in
      let old = refused n i refusal.OldRequest in
      let old' = refused n' i refusal.OldRequest in
      cond_of (answer_map f) less less (accept_if_room x n i b) (cond same (repeat n i h.1) old)
      (accept_if_room x n' i b') (cond same (repeat n' i h.1) old') refl (room_map x n i b)
      (cond_of (answer_map f) same same (repeat n i h.1) old (repeat n' i h.1) old' refl
      (repeat_map n i h.1) refl)

  -- a batch by the mark that it bears
  by_mark_map : (x : ℕ) (n : MachineState A) (i : ℕ) (b : Marked A) (o : Option Mark)
      → answer_map f (submit_marked x n i b o)
      ≡ submit_marked x (node_map f n) i (marked_map f b) o
  by_mark_map x n i b None = room_map x n i b
  by_mark_map x n i b (Some m) =
      after_map x n i b m.request (mark_held n.list m.client)
      ∙ ap (λ h. submit_after x (node_map f n) i (marked_map f b) m.request h)
      (sym (last_map 1 n.list m.client))

  -- a submit
  pub submit_map : (x : ℕ) (n : MachineState A) (i : ℕ) (b : Marked A)
      → answer_map f (submit x n i b) ≡ submit x (node_map f n) i (marked_map f b)
  submit_map x n i b =
      let n' : MachineState B = node_map f n in
      let b' : Marked B = marked_map f b in
      let gone = not (has n.ids x) in
      let other = not (is_head n.ids x) in
      cond_of (answer_map f) gone gone (refused n i refusal.Removed)
      (cond other (refused n i refusal.NotHead) (submit_marked x n i b b.mark))
      (refused n' i refusal.Removed)
      (cond other (refused n' i refusal.NotHead) (submit_marked x n' i b' b.mark)) refl refl
      (cond_of (answer_map f) other other (refused n i refusal.NotHead)
      (submit_marked x n i b b.mark) (refused n' i refusal.NotHead)
      (submit_marked x n' i b' b.mark) refl refl (by_mark_map x n i b b.mark))
