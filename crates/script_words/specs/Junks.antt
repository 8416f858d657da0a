-- The words for what a crash leaves in unsynced places.
use Rattle.std.specs.Prelude.{◌≡◌, ◌/◌, ◌%◌, ◌∷◌, ◌&&◌, ◌||◌, ℕ, Bool, true, false, List, [], codes}
use Rattle.std.specs.Prelude.{length, nat_lt}
use Rattle.std.specs.Char.{digit_char}
use Rattle.std.specs.List.{flat_map}
use Rattle.std.specs.Str.{bytes_eq}
use Rattle.disk.specs.declared.junk.Junk.{Junk}
use Rattle.disk.specs.declared.junk.Junk.TheVariants.{Old, New, Bytes}
use Rattle.script_words.specs.Words.{AreBytes, is_hex}

-- two digits for each byte
abbrev pub hex_text : List ℕ → List ℕ
hex_text bs = flat_map (λ b. digit_char (b / 16) ∷ digit_char (b % 16) ∷ []) bs

-- the word for what a crash leaves; one that spells bytes has some
abbrev pub IsJunk : Junk → List ℕ → Type 0
IsJunk Old word = word ≡ codes "old"
IsJunk New word = word ≡ codes "new"
IsJunk (Bytes bs) word = (nat_lt 0 (length bs) ≡ true) × (word ≡ hex_text bs)

-- what a crash leaves in unsynced places is of bytes
abbrev pub AreBytesOf : Junk → Type 0
AreBytesOf Old = Unit {0}
AreBytesOf New = Unit {0}
AreBytesOf (Bytes bytes) = AreBytes bytes

-- pairs of hex digits
abbrev pub are_pairs : List ℕ → Bool
are_pairs [] = true
are_pairs (a ∷ []) = false
are_pairs (a ∷ b ∷ bs) = is_hex a && is_hex b && are_pairs bs

-- a word for what a crash leaves in unsynced places
abbrev pub is_junk : List ℕ → Bool
is_junk w =
    bytes_eq w (codes "old") || bytes_eq w (codes "new")
    || (nat_lt 0 (length w) && are_pairs w)
