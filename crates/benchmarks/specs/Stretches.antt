-- The values of benchmarks: stretches of one length of a text, one behind the other.
use Rattle.std.specs.Prelude.{ℕ, ◌+◌, ◌-◌, nat_lt, List, length, take, drop, if◌then◌else◌}

-- the text, where the next stretch begins, and how many bytes one has
pub record Stretches : Type 0 where
  pub text : List ℕ
  pub place : ℕ
  pub size : ℕ

-- how many bytes the text has
abbrev pub text_len : Stretches → ℕ
text_len it = length it.text

-- where the next one begins that ends in the text: the text's beginning, if it ends too early
abbrev pub begin_of : Stretches → ℕ
begin_of it = if nat_lt (length it.text - it.size) it.place then 0 else it.place

-- the next one
abbrev pub next_stretch : Stretches → List ℕ
next_stretch it = take it.size (drop (begin_of it) it.text)

-- those behind it
abbrev pub behind_stretch : Stretches → Stretches
behind_stretch it = record it { place = begin_of it + it.size }
