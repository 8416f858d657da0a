-- Filters over keys (Bloom 1970), with seven probes a key, computed from two hashes (Kirsch and
-- Mitzenmacher 2006).
use Rattle.std.specs.Prelude.{◌≡◌, ◌⊎◌, ◌↔◌, ℕ, ◌+◌, ◌*◌, ◌/◌, ◌%◌, ◌<◌, max, List, [], length}
use Rattle.std.specs.Prelude.{take, drop, get_or, Contains, All}
use Rattle.std.specs.Int.{w64, from_be_bytes, IsBitSet}
use Rattle.sha2.specs.Sha256.{sha256}

-- the first hash of a key: the first eight bytes of its SHA-256
abbrev pub first_hash : List ℕ → ℕ
first_hash key = from_be_bytes w64 (take 8 (sha256 key))

-- the second hash of a key: the next eight bytes of its SHA-256
abbrev pub second_hash : List ℕ → ℕ
second_hash key = from_be_bytes w64 (take 8 (drop 8 (sha256 key)))

-- both hashes of a key
abbrev pub hashes_of : List ℕ → ℕ × ℕ
hashes_of key = (first_hash key, second_hash key)

-- probe i of a key with these hashes, among this many bits
abbrev pub probe_of : ℕ → ℕ × ℕ → ℕ → ℕ
probe_of bits hashes i = (hashes.0 + i * hashes.1) % bits

-- probe i of a key among this many bits
abbrev pub probe : ℕ → List ℕ → ℕ → ℕ
probe bits key i = probe_of bits (hashes_of key) i

-- bit p of the bytes is set: bit p mod 8, from the lowest, of byte p / 8
abbrev pub HasBit : List ℕ → ℕ → Type 0
HasBit bytes p = IsBitSet (get_or bytes (p / 8) 0) (p % 8)

-- the length in bytes of a filter of n keys: ten bits a key, rounded up to a byte, and at least 64
-- bits
abbrev pub bytes_for : ℕ → ℕ
bytes_for n = max 8 ((10 * n + 7) / 8)

-- p is one of the seven probes of a key with these hashes
abbrev pub IsProbeOf : ℕ → ℕ × ℕ → ℕ → Type 0
IsProbeOf bits hashes p = (i : ℕ) × (i < 7) × (p ≡ probe_of bits hashes i)

-- p is a probe of one of these keys
abbrev pub IsProbe : ℕ → List (List ℕ) → ℕ → Type 0
IsProbe bits keys p = (key : List ℕ) × Contains keys key × IsProbeOf bits (hashes_of key) p

-- the filter of these keys: its length follows from their number, and its set bits are exactly
-- their probes
pub record IsFilter (keys : List (List ℕ)) (filter : List ℕ) : Type 0 where
  pub len : length filter ≡ bytes_for (length keys)
  pub exact : (p : ℕ) → p < 8 * length filter →
      HasBit filter p ↔ IsProbe (8 * length filter) keys p

-- a filter covers a key with these hashes: all probes of the key are set, or the filter has no bits
abbrev pub CoversHashed : List ℕ → ℕ × ℕ → Type 0
CoversHashed filter hashes =
    (filter ≡ []) ⊎ ((i : ℕ) → i < 7 → HasBit filter (probe_of (8 * length filter) hashes i))

-- a filter covers a key
abbrev pub Covers : List ℕ → List ℕ → Type 0
Covers filter key = CoversHashed filter (hashes_of key)

-- a filter covers each of these keys
abbrev pub CoversAll : List ℕ → List (List ℕ) → Type 0
CoversAll filter keys = All (λ key. Covers filter key) keys

-- the filter of some keys covers each of them
abbrev pub FiltersCover : Type 0
FiltersCover = (keys : List (List ℕ)) (filter : List ℕ) → IsFilter keys filter →
    CoversAll filter keys
