-- The words of a script: numbers and byte strings, each with one spelling.
use Rattle.std.specs.Prelude.{ℕ, ◌+◌, ◌-◌, ◌*◌, ◌/◌, ◌%◌, ◌^◌, Bool, true, false, ◌&&◌, ◌||◌, not}
use Rattle.std.specs.Prelude.{◌<◌, All}
use Rattle.std.specs.Prelude.{◌==◌, nat_lt, nat_le, if◌then◌else◌, List, [], ◌∷◌, length}
use Rattle.std.specs.Prelude.{slice_index, ◌≡◌, ◌++◌, codes, Option, Some, None}
use Rattle.std.specs.List.{flat_map, list_any}
use Rattle.std.specs.Char.{digit_char}
use Rattle.std.specs.Str.{all_ascii_digits, bytes_eq}
use Rattle.std.specs.Str.Parse.{digits_value}

-- each is a byte
abbrev pub AreBytes : List ℕ → Type 0
AreBytes bytes = All (λ b. b < 256) bytes

-- letters, digits, _ and . stand for themselves in a byte string
abbrev pub is_plain : ℕ → Bool
is_plain b =
    (nat_le 48 b && nat_le b 57) || (nat_le 65 b && nat_le b 90) || (nat_le 97 b && nat_le b 122)
    || (b == 95) || (b == 46)

-- a byte in a byte string: itself, or % and its two hex digits
abbrev pub byte_text : ℕ → List ℕ
byte_text b =
    if is_plain b then b ∷ [] else 37 ∷ digit_char (b / 16) ∷ digit_char (b % 16) ∷ []

-- the word for a byte string; the empty one is @
abbrev pub bytes_text : List ℕ → List ℕ
bytes_text [] = 64 ∷ []
bytes_text (b ∷ bs) = flat_map byte_text (b ∷ bs)

-- the word for an upper bound of keys; * is none
abbrev pub bound_text : Option (List ℕ) → List ℕ
bound_text None = codes "*"
bound_text (Some key) = bytes_text key

-- 0 to 9, a to f
abbrev pub is_hex : ℕ → Bool
is_hex b = (nat_le 48 b && nat_le b 57) || (nat_le 97 b && nat_le b 102)

-- the value of a hex digit
abbrev pub hex_value : ℕ → ℕ
hex_value b = if nat_le b 57 then b - 48 else b - 87

-- the byte that the digits behind a % stand for
abbrev pub escaped : ℕ → ℕ → ℕ
escaped high low = 16 * hex_value high + hex_value low

-- each byte is a plain one, or begins %xx for one that is not plain
abbrev pub are_bytes : List ℕ → Bool
are_bytes [] = true
are_bytes (a ∷ []) = is_plain a
are_bytes (a ∷ b ∷ []) = is_plain a && is_plain b
are_bytes (a ∷ b ∷ c ∷ bs) =
    if is_plain a then are_bytes (b ∷ c ∷ bs)
    else (a == 37) && is_hex b && is_hex c && not (is_plain (escaped b c)) && are_bytes bs

-- bytes begin with these, each of which stands for itself, and go on with others, the first of
-- which doesn't
pub record HasPlainFront (bytes front behind : List ℕ) : Type 0 where
  pub parts : bytes ≡ front ++ behind
  pub plain : flat_map byte_text front ≡ front
  pub reads : are_bytes bytes ≡ are_bytes behind
  pub small : All (λ b. b < 128) front
  pub other : (b : ℕ) (bs : List ℕ) → behind ≡ b ∷ bs → is_plain b ≡ false

-- whether a word is a byte string
abbrev pub is_byte_string : List ℕ → Bool
is_byte_string [] = false
is_byte_string (a ∷ bs) = ((a == 64) && (length bs == 0)) || are_bytes (a ∷ bs)

-- whether a word is an upper bound of keys
abbrev pub is_bound : List ℕ → Bool
is_bound w = bytes_eq w (codes "*") || is_byte_string w

-- whether a word is a number: digits, the first of them no 0 but in 0 itself, at most 2^63 - 1
abbrev pub is_number : List ℕ → Bool
is_number w =
    all_ascii_digits w && nat_lt 0 (length w) && (not (slice_index w 0 == 48) || (length w == 1))
    && nat_lt (digits_value 10 w) (2 ^ 63)

-- a number from 1 that a script may name
abbrev pub IsPositive : ℕ → Type 0
IsPositive n = (0 < n) × (n < 2 ^ 63)

-- whether a word is a number from 1
abbrev pub is_positive : List ℕ → Bool
is_positive w = is_number w && nat_lt 0 (digits_value 10 w)

-- a word that begins with ! begins a fault
abbrev pub begins_fault : List ℕ → Bool
begins_fault [] = false
begins_fault (b ∷ bs) = b == 33

-- whether any of the words begins a fault
abbrev pub has_fault : List (List ℕ) → Bool
has_fault words = list_any begins_fault words

-- the words before the first that begins a fault
abbrev pub before_fault : List (List ℕ) → List (List ℕ)
before_fault [] = []
before_fault (w ∷ ws) = if begins_fault w then [] else w ∷ before_fault ws

-- the words from the first on that begins a fault
abbrev pub from_fault : List (List ℕ) → List (List ℕ)
from_fault [] = []
from_fault (w ∷ ws) = if begins_fault w then w ∷ ws else from_fault ws
