-- Reading from left to right.
use Rattle.std.specs.Prelude.{◌≡◌, ℕ, zero, suc, List, [], ◌∷◌, length, take, drop, nat_lt, Bool}
use Rattle.std.specs.Prelude.{Option, Some, None, if◌then◌else◌}
use Rattle.std.specs.Int.{Width, byte_len, from_be_bytes}

-- a reader: a value from the front of bytes, and the bytes behind it
abbrev pub Reader : Type 0 → Type 0
Reader A = List ℕ → Option (A × List ℕ)

-- ---- combinators of readers

-- one reading after another, or failure
infixl 10 ◌>>=◌
abbrev pub ◌>>=◌ : {A B : Type 0} → Option A → (A → Option B) → Option B
(Some x) >>= f = f x
None >>= f = None

-- one reading, and then another behind it
abbrev pub both : {A B : Type 0} → Reader A → Reader B → Reader (A × B)
both first second bytes = first bytes >>= λ a. second a.1 >>= λ b. Some ((a.0, b.0), b.1)

-- a reading with a function applied to its value
abbrev pub mapped : {A B : Type 0} → (A → B) → Reader A → Reader B
mapped make read bytes = read bytes >>= λ a. Some (make a.0, a.1)

-- a reading whose value passes a test
abbrev pub only : {A : Type 0} → (A → Bool) → Reader A → Reader A
only test read bytes = read bytes >>= λ a. if test a.0 then Some a else None

-- a given number of readings, one behind the other
unfoldable pub many : {A : Type 0} → Reader A → ℕ → Reader (List A)
many read zero bytes = Some ([], bytes)
many read (suc n) bytes = read bytes >>= λ first. many read n first.1 >>= λ others. Some
    (first.0 ∷ others.0, others.1)

-- a number, and that many readings
abbrev pub counted : {A : Type 0} → Reader ℕ → Reader A → Reader (List A)
counted count read bytes = count bytes >>= λ n. many read n.0 n.1

-- ---- numbers

-- a number of a width, the most significant byte first
abbrev pub number_at : Width → Reader ℕ
number_at w bytes =
    if nat_lt (length bytes) (byte_len w) then None else Some
    (from_be_bytes w (take (byte_len w) bytes), drop (byte_len w) bytes)

-- ---- results of functions

-- a function's result, seen by `view`, is what was read
abbrev pub ReadsFront : {X Y : Type 0} → (X → Y) → Option X → Option Y → Type 0
ReadsFront view (Some x) read = read ≡ Some (view x)
ReadsFront view None read = read ≡ None
