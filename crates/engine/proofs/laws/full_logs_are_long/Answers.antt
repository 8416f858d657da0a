use Rattle.std.proofs.Common.{ℕ, ◌+◌, ◌<◌, ◌≤◌, List, Option, Some, None, length, arith}
use Rattle.std.proofs.Common.{inl, inr}
use Rattle.std.specs.Prelude.{IsSomeAnd}
use Rattle.disk.specs.{EndsOutOfRange, seen}
use Rattle.record_log.specs.declared.log.TheConstants.{MAX_RECORD}
use Rattle.record_log.specs.{file_of, gate_of}
use Rattle.manifest.specs.{counting_file}
use Rattle.engine.specs.Engines.{HasLongFile, engine_disk}
use Rattle.store_files.specs.OpenFiles.{known_version}
use Rattle.engine.proofs.Engines.{held_of}
use Rattle.engine.proofs.laws.full_logs_are_long.Goals as goal

-- a file is longer than a place in it
longer : (file : Option (List ℕ)) (gate : ℕ) → IsSomeAnd file (λ it. gate < length it) →
    EndsOutOfRange gate (MAX_RECORD + 6) →
    IsSomeAnd file (λ it. EndsOutOfRange (length it) (MAX_RECORD + 6))
longer None gate within full = within
longer (Some it) gate within full = omega (arith, within, full)

-- and where it reaches to behind that place
reaching : (file : Option (List ℕ)) (gate : ℕ) → IsSomeAnd file (λ it. gate + 1 ≤ length it) →
    IsSomeAnd file (λ it. gate < length it)
reaching None gate within = within
reaching (Some it) gate within = omega (arith, within)

pub returns : goal.returns
returns g c = λ engine list r full.
    let disk = g.D.Disk.state (engine_disk engine) in
    let held = held_of g.D.Disk engine list r in
    elim full as (λ _. HasLongFile disk) [
      | inl full_log ↦
          let log = engine.store.logs.newest.log in
          let logs = held.known.logs in (
            file_of log,
            longer (seen (disk (file_of log))) (gate_of log)
                (c.gates_are_in_files.ensures disk log _ logs.newest.log) full_log,
          )
      | inr full_slot ↦
          let manifest = engine.store.manifest in
          let file = counting_file manifest in (
            file,
            longer (seen (disk file)) (gate_of manifest.slots.log)
                (reaching (seen (disk file)) (gate_of manifest.slots.log)
                (c.slots_reach_gates.ensures.reach disk manifest (known_version engine.store)
                held.known.manifest)) full_slot,
          )
    ]
