use Rattle.std.proofs.Common.{◌≡◌, ◌∙◌, eq-eqb, inr, refl, sym, true≢false}
use Rattle.std.specs.Prelude.{Err, Ok}
use Rattle.node.specs.{node_core}
use Rattle.folder_nodes.proofs.search.node_with_id.Goals as goal

-- the node has another id
pub returns-else-eq-clause-refused : goal.returns-else-eq-clause-refused
returns-else-eq-clause-refused g c =
    let found = c.in-Ok.ensures in
    let other : (node_core c.in-Ok.node).id ≡ c.args.id → ⊥ = λ same. true≢false
    (sym (eq-eqb c.id.result c.args.id (c.id.ensures.own ∙ same)) ∙ sym c.eq.ensures
    ∙ c.if-eq.false) in
    record {
      result = Ok c.in-Ok.node;
      ends = record {
        kept = found.kept;
        started = found.started;
        told = found.told;
        works = found.works;
        limits_are = found.limits;
        any_moment = found.any_moment;
        files = found.files;
      };
      why = inr (refl, other);
      is_left = c.into_disk.ensures.disk;
    }

-- the search was refused
pub returns-in-Err-clause-refused : goal.returns-in-Err-clause-refused
returns-in-Err-clause-refused g c =
    let refused = c.in-Err.ensures in
    record {
      result = Err c.in-Err.refused;
      ends = record {
        kept = refused.kept;
        started = refused.started;
        told = refused.told;
        works = refused.works;
        limits_are = refused.limits;
        any_moment = refused.any_moment;
        files = refused.files;
      };
      why = refl;
      is_left = refl;
    }
