use Rattle.std.proofs.Common.{◌+◌, ◌<◌, ◌≤◌, ℕ, List, Option, None, Some, arith, length}
use Rattle.std.specs.Prelude.{IsSomeAnd}
use Rattle.manifest.specs.Manifests.{version_of}
use Rattle.manifest.proofs.laws.slots_reach_gates.Goals as goal

-- a place within a file is not behind its end
up_to : (bytes : Option (List ℕ)) (gate : ℕ) → IsSomeAnd bytes (λ it. gate < length it)
    → IsSomeAnd bytes (λ it. gate + 1 ≤ length it)
up_to None gate within = within
up_to (Some it) gate within = omega (arith, within)

pub returns-clause-reach : goal.returns-clause-reach
returns-clause-reach c = λ disk manifest named h.
    up_to _ _ (c.gates_are_in_files.ensures disk manifest.slots.log _ h.records.log)

-- an edit that may be taken is no longer than a record may be
pub returns-clause-full : goal.returns-clause-full
returns-clause-full c = λ manifest change fit is no_room.
    let short = c.fit_edits_are_short.ensures (version_of manifest).version change fit is in
    omega (arith, short, no_room)
