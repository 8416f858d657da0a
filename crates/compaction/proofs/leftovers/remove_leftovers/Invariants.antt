use Rattle.std.proofs.Common.{ℕ, ◌≤◌}
use Rattle.std.specs.Prelude.{IsNone}
use Rattle.disk.specs.{seen}
use Rattle.compaction.specs.Leftovers.{IsLeftover}
use Rattle.compaction.specs.Outputs.{WritesOnly}
use Rattle.compaction.proofs.leftovers.remove_leftovers.Given as goal

-- the files up to this number were removed
abbrev pub invariant-loop-file : goal.invariant-loop-file
invariant-loop-file g l = record {
  from : l.first ≤ l.file;
  writes : WritesOnly g.D.Disk (IsLeftover l.first l.next_file l.version.version)
      l.initial.disk l.disk ⊥ ⊥;
  removed : g.D.Disk.is_honest l.initial.disk → (file : ℕ)
      → IsLeftover l.first l.file l.version.version file
      → IsNone (seen (g.D.Disk.state l.disk file));
}
