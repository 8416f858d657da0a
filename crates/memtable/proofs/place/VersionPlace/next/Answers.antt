use Rattle.std.proofs.Common.{◌≡◌, arith, subst}
use Rattle.std.proofs.lemmas.Option.{same_Some}
use Rattle.merge_iter.specs.declared.direction.Direction.TheVariants.{Forward}
use Rattle.memtable.specs.Ranges.{keys_after}
use Rattle.memtable.proofs.KeySteps.{step_after}
use Rattle.memtable.proofs.Steps.{next_within, steps_out}
use Rattle.memtable.proofs.place.VersionPlace.next.Goals as goal

-- in one key
pub returns-then-self-gt0-clause-first : goal.returns-then-self-gt0-clause-first
returns-then-self-gt0-clause-first c rising =
    next_within c.args.map.now c.args.self.key.now c.args.self.versions.now c.args.self.at
    c.requires.placed.found rising (search arith)

-- out of the key
pub returns-clause-placed : goal.returns-clause-placed
returns-clause-placed c =
    (step_after c.args.map.now c.args.self.key.now c.keys_after-keys.result c.first_of-next.new.keys
    c.first_of-next.result c.len.ensures.ordered c.keys_after-keys.ensures
    c.first_of-next.ensures).placed

pub returns-clause-first : goal.returns-clause-first
returns-clause-first c rising =
    steps_out Forward c.args.map.now c.args.self.key.now c.args.self.versions.now c.args.self.at _
    c.requires.placed.found rising (search arith)
    ((step_after c.args.map.now c.args.self.key.now c.keys_after-keys.result
    c.first_of-next.new.keys c.first_of-next.result c.len.ensures.ordered c.keys_after-keys.ensures
    c.first_of-next.ensures).first rising)

pub returns-clause-held : goal.returns-clause-held
returns-clause-held c = λ place is keys same.
    subst (λ r. r ≡ keys_after c.args.map.now place.key.now)
    (same_Some c.first_of-next.new.keys keys same)
    ((step_after c.args.map.now c.args.self.key.now c.keys_after-keys.result
    c.first_of-next.new.keys c.first_of-next.result c.len.ensures.ordered c.keys_after-keys.ensures
    c.first_of-next.ensures).held place is)
