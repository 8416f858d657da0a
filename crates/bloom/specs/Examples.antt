-- One key, worked out.
use Rattle.std.specs.Prelude.{◌≡◌, ℕ, List, [], ◌∷◌, map}
use Rattle.bloom.specs.Filters.{first_hash, second_hash, probe, bytes_for}

-- the key of the example
abbrev pub abc : List ℕ
abc = 97 ∷ 98 ∷ 99 ∷ []

-- the hashes of `abc`, its probes among 64 bits, and the lengths of filters
pub record FilterExamples : Type 0 where
  pub first : first_hash abc ≡ 13436514500253700074
  pub second : second_hash abc ≡ 4702110809750118947
  pub probes : map (probe 64 abc) (0 ∷ 1 ∷ 2 ∷ 3 ∷ 4 ∷ 5 ∷ 6 ∷ []) ≡
      42 ∷ 13 ∷ 48 ∷ 19 ∷ 54 ∷ 25 ∷ 60 ∷ []
  pub lengths : map bytes_for (0 ∷ 1 ∷ 6 ∷ 7 ∷ 8 ∷ []) ≡ 8 ∷ 8 ∷ 8 ∷ 9 ∷ 10 ∷ []
