use Rattle.std.specs.Io.KnownBytes.{Consumes}
use Rattle.scripts.specs.Beginnings.{HasExtent, IsWithinLimits}
use Rattle.program.specs.Readings.{EndsInTime}
use Rattle.program.proofs.reading.script_text.Given as goal

-- the text is what was read in time, and has this extent, which is within the limits
abbrev pub invariant-loop : goal.invariant-loop
invariant-loop g l = record {
  read : Consumes (g.R.Read.remaining l.fn.input) (g.R.Read.remaining l.input) l.text.items;
  extent : HasExtent l.text.items l.extent;
  within : IsWithinLimits l.extent;
  in_time : EndsInTime l.text.items;
}
