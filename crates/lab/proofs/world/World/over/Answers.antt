use Rattle.std.proofs.Common.{List, [], ap, length, refl, sym, subst}
use Rattle.std.proofs.lemmas.List.Elements.{All-from_recursion}
use Rattle.lab.specs.declared.delivery.Posted.{Posted}
use Rattle.lab.specs.SimNodes.{HasArrived}
use Rattle.lab.specs.Worlds.{RunRefines, empty_run}
use Rattle.lab.proofs.Nodes.{begun}
use Rattle.lab.proofs.world.World.over.Goals as goal

-- nodes that were just created have made the run of no events
pub returns-clause-ran : goal.returns-clause-ran
returns-clause-ran g c = λ lawful faithful are.
    let cs = c.args.configs in
    let sims = c.args.nodes.items in
    record {
      configs = refl;
      kept = c.new-4.ensures.items;
      taken = c.new-2.ensures.items;
      lost = c.new-3.ensures.items;
      made = subst (λ (l : List Posted). RunRefines sims l (empty_run cs))
          (sym c.new.ensures.items) (begun cs c.args.limits.now sims lawful are);
      came = record { first = sims; created = are; follow = refl };
      carrier = faithful;
      arrives = λ loses_not. All-from_recursion HasArrived [] tt;
    }

pub returns-clause-none : goal.returns-clause-none
returns-clause-none g c = record {
  lines = c.new-4.ensures.items;
  events = c.new-2.ensures.items;
  lost = c.new-3.ensures.items;
  sent = ap length c.new.ensures.items;
}
