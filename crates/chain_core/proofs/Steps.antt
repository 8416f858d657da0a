-- What a step leaves and sends.
use Rattle.std.proofs.Common.{◌≡◌, ℕ, zero, suc, ◌+◌, List, [], ◌∷◌, ◌++◌, length, Option}
use Rattle.std.proofs.Common.{Some, None, refl, sym, ap, subst, ◌∙◌, append_assoc, append-nil}
use Rattle.std.proofs.Common.{arith}
use Rattle.std.specs.Prelude.{if◌then◌else◌, nat_lt, nat_le}
use Rattle.kv_types.specs.{BatchContent, Edits, place}
use Rattle.configurations.specs.{is_tail, predecessor, successor}
use Rattle.chain_model.specs.{Message, Answer, not_due, ack}
use Rattle.chain_model.specs.{ack_to, acknowledge, forward, forward_to, forwards, longer_for, acked}
use Rattle.chain_core.specs.declared.done.Done.TheVariants as done
use Rattle.chain_core.specs.States.{Machine}
use Rattle.chain_core.specs.Steps.{StepLeaves, StepsLeave, StandsLast, OneByOne}
use Rattle.chain_model.specs.Rules.{moved, queued}
use Rattle.chain_model.specs.Machine.{replied, silent}
use Rattle.chain_model.specs.Requests.{Committed}
use Rattle.std.proofs.lemmas.Bool.{cond_both}
use Rattle.chain_core.proofs.After.{adopted_at, committed_by}

-- frames do not depend on the pending requests
same_forward : (s : Option ℕ) (x k : ℕ) (b : Option BatchContent) (n : Machine)
    (ps : List (ℕ × ℕ)) →
    forward_to s x n k b ≡ forward_to s x (record n { pending = ps }) k b
same_forward None x k b n ps = refl
same_forward (Some s) x k None n ps = refl
same_forward (Some s) x k (Some b) n ps = refl

same_ack : (p : Option ℕ) (x : ℕ) (n : Machine) (ps : List (ℕ × ℕ)) →
    ack_to p x n ≡ ack_to p x (record n { pending = ps })
same_ack None x n ps = refl
same_ack (Some p) x n ps = refl

module _ (x : ℕ) (n : Machine) (batch : BatchContent) where
  abbrev long : List BatchContent
  long = n.list ++ batch ∷ []

  abbrev next : ℕ
  next = suc (length n.list)

  abbrev c : ℕ
  c = if is_tail n.ids x then length long else n.committed

  accepted : (i : ℕ) → StepLeaves x n batch (done.Accepted i)
      (acknowledge (record (longer_for n i batch) { committed = c })
      (forward x (record (longer_for n i batch) { committed = c }) next))
  accepted i =
      let m : Machine = record (longer_for n i batch) { committed = c } in record {
        list = refl;
        epoch = refl;
        ids = refl;
        floor = refl;
        kept = refl;
        snapshots = refl;
        frames = same_forward (successor n.ids x) x next (place long next) m
            (not_due m.committed m.pending);
        dropped = refl;
      }

  adopted_one : (epoch : ℕ) (ids : List ℕ) → StepLeaves x n batch (done.Adopted epoch ids)
      (acknowledge (adopted_at x n epoch ids (is_tail ids x))
      (ack x (adopted_at x n epoch ids (is_tail ids x))))
  adopted_one epoch ids =
      let m : Machine = adopted_at x n epoch ids (is_tail ids x) in record {
        list = refl;
        epoch = refl;
        ids = refl;
        floor = refl;
        kept = refl;
        snapshots = refl;
        frames = same_ack (predecessor ids x) x m (not_due m.committed m.pending);
        dropped = refl;
      }

pub steps_leave : StepsLeave
steps_leave x n batch (done.Accepted i) =
    subst (λ (m : Machine). StepLeaves x n batch (done.Accepted i)
    (acknowledge m (forward x m (suc (length n.list)))))
    (sym (committed_by (is_tail n.ids x) (longer_for n i batch))) (accepted x n batch i)
steps_leave x n batch (done.Repeated i k) =
    cond_both (nat_le k n.committed) (replied n (Committed i k))
    (silent (record n { pending = queued (k, i) n.pending }))
    (StepLeaves x n batch (done.Repeated i k))
    (λ le. record {
      list = refl;
      epoch = refl;
      ids = refl;
      floor = refl;
      kept = refl;
      snapshots = refl;
      frames = refl;
      dropped = refl;
    })
    (λ gt. record {
      list = refl;
      epoch = refl;
      ids = refl;
      floor = refl;
      kept = refl;
      snapshots = refl;
      frames = refl;
      dropped = refl;
    })
steps_leave x n batch done.Appended =
    let answer : Machine → Answer Edits = λ m. record {
      node = m;
      frames = forward x m (suc (length n.list)) ++ (if is_tail m.ids x then ack x m else []);
      replies = [];
      dropped = None;
    } in
    let c = if is_tail n.ids x then length (n.list ++ batch ∷ []) else n.committed in
    let m : Machine = record n { list = n.list ++ batch ∷ []; committed = c } in
    let base : StepLeaves x n batch done.Appended (answer m) = record {
      list = refl;
      epoch = refl;
      ids = refl;
      floor = refl;
      kept = refl;
      snapshots = refl;
      frames = refl;
      dropped = refl;
    } in
    subst (λ (k : Machine). StepLeaves x n batch done.Appended (answer k))
    (sym (committed_by (is_tail n.ids x) (record n { list = n.list ++ batch ∷ [] }))) base
steps_leave x n batch (done.Acked committed have) =
    let m : Machine = acked n committed have in
    record {
      list = refl;
      epoch = refl;
      ids = refl;
      floor = refl;
      kept = refl;
      snapshots = refl;
      frames = ap
          (λ (fs : List (Message Edits)). if nat_lt n.committed committed then fs else [])
          (same_ack (predecessor n.ids x) x m (not_due m.committed m.pending));
      dropped = refl;
    }
steps_leave x n batch (done.Adopted epoch ids) =
    subst (λ (m : Machine). StepLeaves x n batch (done.Adopted epoch ids)
    (let k : Machine = record m { successor_has = m.committed } in acknowledge k (ack x k)))
    (sym (committed_by (is_tail ids x) (moved x n epoch ids))) (adopted_one x n batch epoch ids)
steps_leave x n batch (done.Opened i s) = record {
  list = refl;
  epoch = refl;
  ids = refl;
  floor = refl;
  kept = refl;
  snapshots = refl;
  frames = refl;
  dropped = refl;
}
steps_leave x n batch (done.Closed i s) = record {
  list = refl;
  epoch = refl;
  ids = refl;
  floor = refl;
  kept = refl;
  snapshots = refl;
  frames = refl;
  dropped = refl;
}

pub stands_last : StandsLast
stands_last [] batch = refl
stands_last (b ∷ l) batch = stands_last l batch

pub one_by_one : OneByOne
one_by_one x n k zero =
    let same : k ≡ k + 0 = omega arith in
    append-nil (forward x n (suc k)) ∙ ap (λ (j : ℕ). forward x n (suc j)) same
one_by_one x n k (suc m) =
    let first = forward x n (suc k) in
    let others = forwards x n (suc k) m in
    let same : suc k + m ≡ k + suc m = omega arith in
    let rest = one_by_one x n (suc k) m ∙ ap (λ (j : ℕ). others ++ forward x n (suc j)) same in
    ap (λ (fs : List (Message Edits)). first ++ fs) rest
    ∙ sym (append_assoc first others (forward x n (suc (k + suc m))))
