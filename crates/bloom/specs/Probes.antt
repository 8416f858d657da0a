-- A walk over the probes of a key.
use Rattle.std.specs.Prelude.{◌≡◌, ℕ, ◌%◌}
use Rattle.bloom.specs.declared.hashes.Probes.{Probes}
use Rattle.bloom.specs.Filters.{probe_of}

-- the walk is at probe i of a key with these hashes, among this many bits
pub record IsAtProbe (bits : ℕ) (hashes : ℕ × ℕ) (i : ℕ) (probes : Probes) : Type 0 where
  pub among : probes.bits ≡ bits
  pub place : probes.place ≡ probe_of bits hashes i
  pub step : probes.step ≡ hashes.1 % bits
