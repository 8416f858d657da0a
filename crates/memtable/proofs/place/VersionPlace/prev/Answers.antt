use Rattle.std.proofs.Common.{◌≡◌, arith, subst}
use Rattle.std.proofs.lemmas.Option.{same_Some}
use Rattle.merge_iter.specs.declared.direction.Direction.TheVariants.{Backward}
use Rattle.memtable.specs.Ranges.{keys_before}
use Rattle.memtable.proofs.KeySteps.{step_before}
use Rattle.memtable.proofs.Steps.{prev_within, steps_out}
use Rattle.memtable.proofs.place.VersionPlace.prev.Goals as goal

-- in one key
pub returns-then-self-len-clause-first : goal.returns-then-self-len-clause-first
returns-then-self-len-clause-first c rising =
    prev_within c.args.map.now c.args.self.key.now c.args.self.versions.now c.args.self.at
    c.requires.placed.found rising (search arith)

-- out of the key
pub returns-clause-placed : goal.returns-clause-placed
returns-clause-placed c =
    (step_before c.args.map.now c.args.self.key.now c.keys_before-keys.result
    c.last_of-prev.new.keys
    c.last_of-prev.result c.len-2.ensures.ordered c.keys_before-keys.ensures
    c.last_of-prev.ensures).placed

pub returns-clause-first : goal.returns-clause-first
returns-clause-first c rising =
    steps_out Backward c.args.map.now c.args.self.key.now c.args.self.versions.now c.args.self.at _
    c.requires.placed.found rising (search arith)
    ((step_before c.args.map.now c.args.self.key.now c.keys_before-keys.result
    c.last_of-prev.new.keys c.last_of-prev.result c.len-2.ensures.ordered c.keys_before-keys.ensures
    c.last_of-prev.ensures).first rising)

pub returns-clause-held : goal.returns-clause-held
returns-clause-held c = λ place is keys same.
    subst (λ r. r ≡ keys_before c.args.map.now place.key.now)
    (same_Some c.last_of-prev.new.keys keys same)
    ((step_before c.args.map.now c.args.self.key.now c.keys_before-keys.result
    c.last_of-prev.new.keys c.last_of-prev.result c.len-2.ensures.ordered c.keys_before-keys.ensures
    c.last_of-prev.ensures).held place is)
