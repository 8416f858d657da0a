-- Simulated nodes by their ids, and all of them after an event.
use Rattle.std.proofs.Common.{◌≡◌, ℕ, zero, suc, ◌<◌, List, [], ◌∷◌, length, map, get_or, slice_set}
use Rattle.std.proofs.Common.{Some, true, false, ◌==◌, refl, sym, ap, subst, ◌∙◌, eq-eqb, eqb-true}
use Rattle.std.proofs.Common.{arith}
use Rattle.std.specs.List.{AllByRecursion}
use Rattle.std.specs.Prelude.{All}
use Rattle.std.proofs.lemmas.Bool.{cond_both, cond-true, cond-false, false≢true}
use Rattle.std.proofs.lemmas.List.Elements.{All-get_or, recursion_from_All}
use Rattle.kv_types.specs.{AllDifferent, Edits, has}
use Rattle.disk.specs.declared.disk.Disk.{Ghosts}
use Rattle.chain_model.specs.{SystemState, Outcome, after}
use Rattle.chain_core.specs.{Machine}
use Rattle.lab.specs.declared.sim_node.SimNode.{SimNode}
use Rattle.lab.specs.SimNodes.{StateRefines, disk_in}
use Rattle.lab.specs.Worlds.{HasNoNode, IsIndexOf, SimNodeRefines}
use Rattle.lab.proofs.Disks.{with_disk, disk_here, disk_elsewhere}

module _ {D : Type 0} {g : Ghosts D} where
  -- the ids of nodes
  abbrev pub ids_of : List (SimNode D g) → List ℕ
  ids_of sims = map (λ (sim : SimNode D g). sim.id) sims

  -- an id that is among the ids has a node
  pub has_node : (sims : List (SimNode D g)) (x : ℕ) → has (ids_of sims) x ≡ true →
      AllByRecursion (λ (sim : SimNode D g). sim.id ≡ x → ⊥) sims → ⊥
  has_node [] x is none = false≢true is
  has_node (s ∷ sims) x is none =
      cond_both (s.id == x) true (has (ids_of sims) x) (λ b. b ≡ true → ⊥)
      (λ same e. none.0 (eqb-true s.id x same)) (λ other e. has_node sims x e none.1) is

  pub has_one : (sims : List (SimNode D g)) (x : ℕ) → has (ids_of sims) x ≡ true →
      HasNoNode sims x → ⊥
  has_one sims x is none =
      has_node sims x is (recursion_from_All (λ (sim : SimNode D g). sim.id ≡ x → ⊥) sims none)

  -- the id of each node is among them
  pub has_at : (sims : List (SimNode D g)) (k : ℕ) (d : SimNode D g) → k < length sims →
      has (ids_of sims) (get_or sims k d).id ≡ true
  has_at [] k d within = absurd (omega arith)
  has_at (s ∷ sims) zero d within =
      cond-true (s.id == s.id) true (has (ids_of sims) s.id) (eq-eqb s.id s.id refl)
  has_at (s ∷ sims) (suc k) d within =
      cond_both (s.id == (get_or sims k d).id) true (has (ids_of sims) (get_or sims k d).id)
      (λ b. b ≡ true) (λ same. refl) (λ other. has_at sims k d (omega arith))

  -- the node at the index of an id refines the machine of that
  pub refined_of : (machines : ℕ → Machine) (disks : ℕ → D) (sims : List (SimNode D g)) (i x : ℕ)
      (own : SimNode D g) → IsIndexOf sims i x → own ≡ get_or sims i own →
      All (SimNodeRefines machines disks) sims →
      StateRefines g.is_honest g.state own.state x (machines x)
  refined_of machines disks sims i x own at is all =
      let P : SimNode D g → Type 0 = SimNodeRefines machines disks in
      let had = subst P (sym is) (All-get_or P sims i own at.within all) in
      subst (λ (y : ℕ). StateRefines g.is_honest g.state own.state y (machines y))
      (ap (λ (s : SimNode D g). s.id) is ∙ at.id own) had.is

-- an event was for node x, which is n after it and has this disk
module _ {D : Type 0} (g : Ghosts D) (w : SystemState Edits) (disks : ℕ → D)
    (o : Outcome Edits) (x : ℕ)
    (n : Machine) (own : D) (came : o.acted_on ≡ Some (x, n)) where
  -- the disks then
  abbrev now_disks : ℕ → D
  now_disks = with_disk disks x own

  here : (after w o).nodes x ≡ n
  here = rw came (cond-true (x == x) n (w.nodes x) (eq-eqb x x refl))

  elsewhere : (y : ℕ) → (y == x) ≡ false → (after w o).nodes y ≡ w.nodes y
  elsewhere y other = rw came (cond-false (x == y) n (w.nodes y) (apart other))
    where
      apart : (y == x) ≡ false → (x == y) ≡ false
      apart e = cond_both (x == y) true true (λ b. (x == y) ≡ false)
          (λ same. absurd (false≢true (sym e ∙ eq-eqb y x (sym (eqb-true x y same)))))
          (λ differs. differs)

  -- a node with another id is as it was
  stays : (s : SimNode D g) → (s.id == x) ≡ false → SimNodeRefines w.nodes disks s →
      SimNodeRefines (after w o).nodes now_disks s
  stays s other refined_at = record {
    is = subst (λ (m : Machine). StateRefines g.is_honest g.state s.state s.id m) (sym
        (elsewhere s.id other))
        refined_at.is;
    disk = refined_at.disk ∙ sym (disk_elsewhere disks x own s.id other);
  }

  -- .. and so are all of them
  stay : (sims : List (SimNode D g)) → has (ids_of sims) x ≡ false →
      AllByRecursion (SimNodeRefines w.nodes disks) sims →
      AllByRecursion (SimNodeRefines (after w o).nodes now_disks) sims
  stay [] none all = tt
  stay (s ∷ sims) none all =
      cond_both (s.id == x) true (has (ids_of sims) x)
      (λ b. b ≡ false → AllByRecursion (SimNodeRefines (after w o).nodes now_disks) (s ∷ sims))
      (λ same e. absurd (false≢true (sym e)))
      (λ other e. (
        stays s other all.0,
        stay sims e all.1,
      )) none

  -- the one that it was for is n
  pub refined_at : (sims : List (SimNode D g)) (k : ℕ) (now : SimNode D g) → k < length sims →
      AllDifferent (ids_of sims) → (get_or sims k now).id ≡ x → now.id ≡ x →
      StateRefines g.is_honest g.state now.state x n → disk_in now.state ≡ own →
      AllByRecursion (SimNodeRefines w.nodes disks) sims →
      AllByRecursion (SimNodeRefines (after w o).nodes now_disks) (slice_set sims k now)
  refined_at [] k now within differ was id is owns all = absurd (omega arith)
  refined_at (s ∷ sims) zero now within differ was id is owns all = (
    record {
      is = subst (λ (y : ℕ). StateRefines g.is_honest g.state now.state y ((after w o).nodes y))
          (sym id)
          (subst (λ (m : Machine). StateRefines g.is_honest g.state now.state x m) (sym here) is);
      disk = owns ∙ (sym (disk_here disks x own) ∙ ap now_disks (sym id));
    },
    stay sims (subst (λ (y : ℕ). has (ids_of sims) y ≡ false) was differ.0) all.1,
  )
  refined_at (s ∷ sims) (suc k) now within differ was id is owns all =
      let among = subst (λ (y : ℕ). has (ids_of sims) y ≡ true) was
      (has_at sims k now (omega arith)) in
      cond_both (s.id == x) true true
      (λ b. AllByRecursion (SimNodeRefines (after w o).nodes now_disks)
      (slice_set (s ∷ sims) (suc k) now))
      (λ same. absurd (false≢true (sym (subst (λ (y : ℕ). has (ids_of sims) y ≡ false)
      (eqb-true s.id x same) differ.0) ∙ among)))
      (λ other. (
        stays s other all.0,
        refined_at sims k now (omega arith) differ.1 was id is owns all.1,
      ))
