-- Keys of benchmarks, and the numbers that they are drawn by.
use Rattle.std.specs.Prelude.{ℕ, ◌+◌, ◌*◌, ◌/◌, ◌%◌, ◌^◌, ◌==◌, ◌||◌, List, [], ◌∷◌, ◌++◌}
use Rattle.std.specs.Prelude.{if◌then◌else◌}

-- the digit of a number at the place of this unit, as text
abbrev pub digit_of : ℕ → ℕ → ℕ
digit_of number unit = 48 + number / unit % 10

-- the last eight digits of a number
abbrev pub eight_digits : ℕ → List ℕ
eight_digits number = digit_of number 10000000 ∷ digit_of number 1000000
    ∷ digit_of number 100000 ∷ digit_of number 10000 ∷ digit_of number 1000
    ∷ digit_of number 100 ∷ digit_of number 10 ∷ digit_of number 1 ∷ []

-- the last 16 digits of a number
abbrev pub key_text : ℕ → List ℕ
key_text number = eight_digits (number / 100000000) ++ eight_digits number

-- what a generator begins with at the low 31 bits of a seed: 1 where none is set, or all are
abbrev pub begun_seed : ℕ → ℕ
begun_seed low = if low == 0 || low == 2147483647 then 1 else low

-- what a generator begins with at a seed
abbrev pub first_seed : ℕ → ℕ
first_seed seed = begun_seed (seed % 2 ^ 31)

-- the random number behind this one: the minimal standard of Park and Miller
abbrev pub next_seed : ℕ → ℕ
next_seed seed = seed * 16807 % 2147483647
