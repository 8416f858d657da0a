use Rattle.std.proofs.Common.{◌≡◌, ◌<◌, ℕ, List, MatchOption, None, Option, Some, length, rules}
use Rattle.std.proofs.Common.{tests}
use Rattle.std.specs.List.{AllWithin, HoldsAt}
use Rattle.std.proofs.lemmas.Iterator.{IsFirst-from_position, YieldsList-from_slice}
use Rattle.std.proofs.lemmas.List.Elements.{All-from_all_within}
use Rattle.disk.specs.declared.disk.Disk.{Ghosts}
use Rattle.lab.specs.declared.sim_node.SimNode.{SimNode}
use Rattle.lab.specs.Worlds.{HasNoNode, IsIndexOf}
use Rattle.lab.proofs.world.index_of.Goals as goal

-- the first node that has the id is at the index, or none has it
found : {D : Type 0} {g : Ghosts D} (r : Option ℕ) (sims : List (SimNode D g)) (x : ℕ) →
    MatchOption r (AllWithin (λ sim. sim.id ≡ x → ⊥) sims 0 (length sims))
    (λ i. (i < length sims) × HoldsAt (λ sim. sim.id ≡ x) sims i
    × AllWithin (λ sim. sim.id ≡ x → ⊥) sims 0 i) →
    MatchOption r (HasNoNode sims x) (λ i. IsIndexOf sims i x)
found {D = D} {g = g} None sims x none =
    All-from_all_within (λ (sim : SimNode D g). sim.id ≡ x → ⊥) sims none
found (Some i) sims x is = record { within = is.0; id = is.1 }

pub returns : goal.returns
returns g c =
    let x = c.args.id in
    found c.position.result c.args.nodes.now x
    (IsFirst-from_position _ _ c.position.result
    (λ (sim : SimNode g.row.D.Denot g.D.Disk). sim.id ≡ x)
    (λ (sim : SimNode g.row.D.Denot g.D.Disk). sim.id ≡ x → ⊥) c.position.ensures.ran
    (YieldsList-from_slice c.args.nodes.now cc) (λ y q k. search (rules, tests))
    (λ y q k. search (rules, tests)))
