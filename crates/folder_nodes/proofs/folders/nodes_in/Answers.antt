use Rattle.std.proofs.Common.{refl}
use Rattle.folder_nodes.proofs.FoundNodesLemmas.{all_found_in}
use Rattle.folder_nodes.proofs.folders.nodes_in.Goals as goal

-- each was found on the disk of its folder
pub returns-in-Ok-clause-found : goal.returns-in-Ok-clause-found
returns-in-Ok-clause-found g c = all_found_in (λ disk. refl) (λ disk. refl) _ (λ it. it.path.now)
    (λ old new id result made. made) c.args.configs.now c.args.limits.now c.in-Ok.nodes.items _ _
    c.in-Ok.ensures.found
