-- A node whose store has tended: its numbers, and the machine that it refines.
use Rattle.std.proofs.Common.{◌≡◌, ◌⊎◌, ℕ, ◌≤◌, Bool, true, false, List, [], ◌∷◌, inl, inr, arith}
use Rattle.std.proofs.Common.{refl, sym, ap, ap₂, subst, ◌∙◌, le-ltb, ltb-false}
use Rattle.std.specs.Prelude.{All, min, nat_lt, ◌||◌}
use Rattle.std.specs.List.{AllByRecursion}
use Rattle.std.proofs.lemmas.List.Elements.{All-weaker, recursion_from_All}
use Rattle.disk.specs.declared.Disk.{Ghosts}
use Rattle.disk.specs.{AlwaysLeaves, Contents}
use Rattle.disk.specs.MomentsLemmas.{weaker}
use Rattle.kv_types.specs.Snapshots.{least}
use Rattle.chain_model.specs.Rules.{tend}
use Rattle.chain_core.specs.{Core, CoreRefines, HasOrderedNumbers, IsRiseOf, Machine}
use Rattle.engine.specs.declared.Engine.{Engine}
use Rattle.engine.specs.{AreOrdered, EngineHolds, Facts, FactsRise, FilesRepresent, HasEnded}
use Rattle.engine.specs.{IsOneOf, IsReadable, LookUps, RaisesFactsAtMost, facts_of, look_ups}
use Rattle.engine.specs.{raised_facts}
use Rattle.node.specs.declared.node.Node.{Node}
use Rattle.node.specs.Outputs.{AlwaysRefines}
use Rattle.node.specs.Steps.{AreInStep, DiskRefines, IsReady, NodeRefines, disk_of, facts_for}
use Rattle.node.specs.Tends.{answer_to_tend, has_risen}

-- ---- numbers

-- the least is above each number that is below all of them
least_above : (top floor m : ℕ) (at : List ℕ) → floor ≤ m →
    AllByRecursion (λ s. (floor ≤ s) × (s ≤ top)) at → floor ≤ least m at
least_above top floor m [] le each = le
least_above top floor m (s ∷ at) le each =
    least_above top floor (min m s) at (omega (arith, le, each.0.0)) each.1

-- a machine with this floor and this kept number
abbrev with_numbers : Machine → ℕ → ℕ → Machine
with_numbers n floor kept = record n { floor = floor; kept = kept }

-- a machine raises its floor to the least number that may still be asked for, and gives up no batch
-- above it
pub raised_numbers : (n : Machine) (floor kept : ℕ) → floor ≡ least n.committed n.snapshots →
    n.floor ≤ floor → n.kept ≤ kept → kept ≤ floor →
    (tend n true kept).node ≡ with_numbers n floor kept
raised_numbers n floor kept is above more within =
    ap₂ (λ (f k : ℕ). with_numbers n f k) (omega (arith, is, above))
    (omega (arith, is, above, more, within))

-- a tend after which these facts are told leaves a machine with their numbers
pub tended_numbers : (x : ℕ) (n : Machine) (facts : Facts) →
    facts.floor ≡ least n.committed n.snapshots → n.floor ≤ facts.floor → n.kept ≤ facts.kept →
    facts.kept ≤ facts.floor →
    (answer_to_tend x n facts).node ≡ with_numbers n facts.floor facts.kept
tended_numbers x n facts is above more within =
    by_tests (nat_lt n.floor facts.floor) (nat_lt n.kept facts.kept) refl refl
  where
    raises : (tend n true facts.kept).node ≡ with_numbers n facts.floor facts.kept
    raises = raised_numbers n facts.floor facts.kept is above more within

    by_tests : (a b : Bool) → nat_lt n.floor facts.floor ≡ a → nat_lt n.kept facts.kept ≡ b →
        (tend n (a || b) facts.kept).node ≡ with_numbers n facts.floor facts.kept
    by_tests true b of_floor of_kept = raises
    by_tests false true of_floor of_kept = raises
    by_tests false false of_floor of_kept =
        ap₂ (λ (f k : ℕ). with_numbers n f k)
        (omega (arith, above, ltb-false n.floor facts.floor of_floor))
        (omega (arith, more, ltb-false n.kept facts.kept of_kept))

-- one after which the facts are the same leaves the machine
pub rested_numbers : (x : ℕ) (n : Machine) (facts : Facts) → facts ≡ facts_for x n →
    (answer_to_tend x n facts).node ≡ with_numbers n facts.floor facts.kept
rested_numbers x n facts same =
    subst (λ (f : Facts). (answer_to_tend x n f).node ≡ with_numbers n f.floor f.kept) (sym same)
    (ap (λ (b : Bool). (tend n b n.kept).node) none)
  where
    none : has_risen (facts_for x n) (facts_for x n) ≡ false
    none = ap₂ (λ (a b : Bool). a || b) (le-ltb n.floor n.floor (omega arith))
        (le-ltb n.kept n.kept (omega arith))

-- the state that took over these numbers
pub with_told : (core later : Core) {floor kept floor' kept' : ℕ} →
    later ≡ record core { floor = floor; kept = kept } → floor ≡ floor' → kept ≡ kept' →
    later ≡ record core { floor = floor'; kept = kept' }
with_told core later is floors kepts =
    is ∙ ap₂ (λ (f k : ℕ). record core { floor = f; kept = k }) floors kepts

-- ---- what the engine tells

module _ {D : Type 0} {g : Ghosts D} (old new : Engine D g) (told : RaisesFactsAtMost old new)
  where
    -- all but the facts stays
    count_stays : (look_ups new).count ≡ (look_ups old).count
    count_stays = elim told [
      | inl same ↦ ap (λ (l : LookUps). l.count) same
      | inr risen ↦ ap (λ (l : LookUps). l.count) risen
    ]

    committed_stays : (look_ups new).committed ≡ (look_ups old).committed
    committed_stays = elim told [
      | inl same ↦ ap (λ (l : LookUps). l.committed) same
      | inr risen ↦ ap (λ (l : LookUps). l.committed) risen
    ]

    snapshots_stay : (look_ups new).snapshots ≡ (look_ups old).snapshots
    snapshots_stay = elim told [
      | inl same ↦ ap (λ (l : LookUps). l.snapshots) same
      | inr risen ↦ ap (λ (l : LookUps). l.snapshots) risen
    ]

    id_stays : (look_ups new).facts.id ≡ (look_ups old).facts.id
    id_stays = elim told [
      | inl same ↦ ap (λ (l : LookUps). l.facts.id) same
      | inr risen ↦ ap (λ (l : LookUps). l.facts.id) risen
    ]

    epoch_stays : (look_ups new).facts.epoch ≡ (look_ups old).facts.epoch
    epoch_stays = elim told [
      | inl same ↦ ap (λ (l : LookUps). l.facts.epoch) same
      | inr risen ↦ ap (λ (l : LookUps). l.facts.epoch) risen
    ]

    ids_stay : (look_ups new).facts.ids ≡ (look_ups old).facts.ids
    ids_stay = elim told [
      | inl same ↦ ap (λ (l : LookUps). l.facts.ids) same
      | inr risen ↦ ap (λ (l : LookUps). l.facts.ids) risen
    ]

    -- the facts are those of before, or raised
    pub facts_told : (facts_of new ≡ facts_of old) ⊎ (facts_of new ≡ raised_facts old)
    facts_told = elim told [
      | inl same ↦ inl (ap (λ (l : LookUps). l.facts) same)
      | inr risen ↦ inr (ap (λ (l : LookUps). l.facts) risen)
    ]

    module _ (core : Core) (ready : AreInStep core old) where
      -- the floor does not fall
      floor_rises : HasOrderedNumbers core → core.floor ≤ (facts_of new).floor
      floor_rises ordered = elim facts_told [
        | inl same ↦ omega (arith, ready.floor, ap (λ (f : Facts). f.floor) same)
        | inr risen ↦
            let above = least_above core.committed core.floor core.committed core.snapshots
            ordered.floor (recursion_from_All _ core.snapshots ordered.snapshots.within) in
            let same : least core.committed core.snapshots ≡ (facts_of new).floor =
            ap₂ least ready.committed ready.snapshots ∙ sym (ap (λ (f : Facts). f.floor) risen) in
            subst (λ (k : ℕ). core.floor ≤ k) same above
      ]

      -- the state may take over what the engine tells
      pub rise_of : HasOrderedNumbers core → AreOrdered (look_ups new) → (floor kept : ℕ) →
          floor ≡ (facts_of new).floor → kept ≡ (facts_of new).kept → IsRiseOf core floor kept
      rise_of ordered now floor kept floors kepts = rw (floors, kepts) (record {
        rises = floor_rises ordered;
        committed = omega (arith, now.floor, committed_stays, ready.committed);
        snapshots = subst (All (λ s. (facts_of new).floor ≤ s))
            (snapshots_stay ∙ sym ready.snapshots)
            (All-weaker (IsReadable (facts_of new).floor (look_ups new).committed)
            (λ s. (facts_of new).floor ≤ s) (λ s is. is.0) (look_ups new).snapshots
            now.snapshots.each);
        readable = now.kept;
      })

      -- and is in step with it then
      pub in_step : (HasEnded new → ⊥) → (later : Core) → later ≡ record core {
        floor = (facts_of new).floor;
        kept = (facts_of new).kept;
      } → AreInStep later new
      in_step works later is = record {
        works = works;
        id = ap (λ (k : Core). k.id) is ∙ ready.id ∙ sym id_stays;
        epoch = ap (λ (k : Core). k.epoch) is ∙ ready.epoch ∙ sym epoch_stays;
        ids = ap (λ (k : Core). k.ids) is ∙ ready.ids ∙ sym ids_stay;
        count = ap (λ (k : Core). k.count) is ∙ ready.count ∙ sym count_stays;
        floor = ap (λ (k : Core). k.floor) is;
        kept = ap (λ (k : Core). k.kept) is;
        committed = ap (λ (k : Core). k.committed) is ∙ ready.committed ∙ sym committed_stays;
        snapshots = ap (λ (k : Core). k.snapshots) is ∙ ready.snapshots ∙ sym snapshots_stay;
      }

-- ---- the machine

module _ {D : Type 0} (g : Ghosts D) (old : Node D g) (x : ℕ) (n : Machine)
    (r : NodeRefines g.is_honest g.state old x n) (ready : IsReady old)
    (rise : FactsRise (facts_of old.engine) (raised_facts old.engine)) where
  -- the raised facts
  abbrev facts : Facts
  facts = raised_facts old.engine

  -- the floor of the facts is the least number that may be asked for of the machine
  floor_is : facts.floor ≡ least n.committed n.snapshots
  floor_is = sym (ap₂ least (r.core.committed ∙ ready.committed)
      (r.core.snapshots ∙ ready.snapshots))

  floor_above : n.floor ≤ facts.floor
  floor_above = omega (arith, rise.floor, ap (λ (f : Facts). f.floor) r.facts)

  kept_above : n.kept ≤ facts.kept
  kept_above = omega (arith, rise.kept, ap (λ (f : Facts). f.kept) r.facts)

  -- the machine that raised its floor has the raised facts
  raised_machine : (tend n true facts.kept).node ≡ with_numbers n facts.floor facts.kept
  raised_machine = raised_numbers n facts.floor facts.kept floor_is floor_above kept_above
      rise.readable

  -- the facts, with the numbers of the machine
  facts_are : facts ≡ facts_for x (with_numbers n facts.floor facts.kept)
  facts_are = ap (λ (f : Facts). record f { floor = facts.floor; kept = facts.kept }) r.facts

  -- a tend leaves the disk of the machine, or of the one that raised its floor
  pub tends : (new : D) → AlwaysLeaves g (disk_of old) new
      (IsOneOf (facts_of old.engine) n.list facts n.list) →
      AlwaysRefines g (disk_of old) new x n (tend n true facts.kept).node
  tends new run =
      weaker (IsOneOf (facts_of old.engine) n.list facts n.list)
      (λ left. DiskRefines left x n ⊎ DiskRefines left x (tend n true facts.kept).node)
      (g.state (disk_of old)) (g.past (disk_of old)) (g.state new) (g.past new) one_of run
    where
      raised : (left : Contents) → FilesRepresent facts n.list left →
          DiskRefines left x (tend n true facts.kept).node
      raised left it =
          subst (λ (m : Machine). DiskRefines left x m) (sym raised_machine)
          (subst (λ (f : Facts). FilesRepresent f n.list left) facts_are it)

      one_of : (left : Contents) → IsOneOf (facts_of old.engine) n.list facts n.list left →
          DiskRefines left x n ⊎ DiskRefines left x (tend n true facts.kept).node
      one_of left (inl it) =
          inl (subst (λ (f : Facts). FilesRepresent f n.list left) r.facts it)
      one_of left (inr it) = inr (raised left it)

  -- the machine behind a tend has the numbers that are told
  answer_is : (now : Facts) → (now ≡ facts_of old.engine) ⊎ (now ≡ facts) →
      ((answer_to_tend x n now).node ≡ with_numbers n now.floor now.kept)
      × (now ≡ facts_for x (with_numbers n now.floor now.kept))
  answer_is now (inl same) = (
    rested_numbers x n now (same ∙ r.facts),
    same ∙ r.facts ∙ ap (λ (f : Facts). facts_for x (with_numbers n f.floor f.kept))
        (sym (same ∙ r.facts)),
  )
  answer_is now (inr risen) =
      subst (λ (f : Facts). ((answer_to_tend x n f).node ≡ with_numbers n f.floor f.kept)
      × (f ≡ facts_for x (with_numbers n f.floor f.kept))) (sym risen) (
        tended_numbers x n facts floor_is floor_above kept_above rise.readable,
        facts_are,
      )

  -- a node whose state took over what its engine tells runs as that machine
  pub runs_tended : (new : Node D g) → EngineHolds g new.engine n.list →
      RaisesFactsAtMost old.engine new.engine →
      new.core ≡ record old.core {
        floor = (facts_of new.engine).floor;
        kept = (facts_of new.engine).kept;
      } →
      NodeRefines g.is_honest g.state new x (answer_to_tend x n (facts_of new.engine)).node
  runs_tended new holds told core =
      let now = facts_of new.engine in
      let is = answer_is now (facts_told old.engine new.engine told) in
      subst (λ (m : Machine). NodeRefines g.is_honest g.state new x m) (sym is.0) (record {
        honest = holds.reads.honest;
        store = holds;
        facts = is.1;
        core = subst (λ (k : Core). CoreRefines k (with_numbers n now.floor now.kept)) (sym core)
            (record {
              epoch = r.core.epoch;
              ids = r.core.ids;
              count = r.core.count;
              committed = r.core.committed;
              floor = refl;
              kept = refl;
              successor_has = r.core.successor_has;
              snapshots = r.core.snapshots;
              pending = r.core.pending;
              running = r.core.running;
            });
        id = ap (λ (k : Core). k.id) core ∙ r.id;
      })
