-- The bytes that the front of a word spells.
use Rattle.std.proofs.Common.{◌≡◌, ◌<◌, ℕ, List, [], ◌∷◌, ◌++◌, length, sym, ◌∙◌, ap, arith}
use Rattle.std.proofs.Common.{append_assoc, append-nil}
use Rattle.std.specs.List.{flat_map}
use Rattle.std.proofs.lemmas.Grind.{flat_map-append}
use Rattle.std.proofs.lemmas.List.Elements.{All-append, All-push, All-weaker}
use Rattle.script_words.specs.Words.{AreBytes, HasPlainFront, are_bytes, byte_text}

-- the bytes are spelled by the front of a word, and the rest decides whether it is a byte string
pub record IsSpelled (word bytes rest : List ℕ) : Type 0 where
  pub spelled : word ≡ flat_map byte_text bytes ++ rest
  pub decides : are_bytes word ≡ are_bytes rest
  pub each : AreBytes bytes

-- bytes that stand for themselves are spelled
pub plain_spelled : (word front rest : List ℕ) → HasPlainFront word front rest →
    IsSpelled word front rest
plain_spelled word front rest has = record {
  spelled = rw has.plain has.parts;
  decides = has.reads;
  each = All-weaker (λ b. b < 128) (λ b. b < 256) (λ b small. omega (arith, small)) front has.small;
}

-- a byte is spelled by its text
pub byte_spelled : (word rest : List ℕ) (b : ℕ) → word ≡ byte_text b ++ rest →
    are_bytes word ≡ are_bytes rest → b < 256 → IsSpelled word (b ∷ []) rest
byte_spelled word rest b parts reads small = record {
  spelled = rw (append-nil (byte_text b)) parts;
  decides = reads;
  each = All-push (λ x. x < 256) [] b (λ k d inside. absurd (omega (arith, inside))) small;
}

-- what the rest of a word spells follows what its front does
pub spelled_on : (word bytes rest more behind : List ℕ) → IsSpelled word bytes rest →
    IsSpelled rest more behind → IsSpelled word (bytes ++ more) behind
spelled_on word bytes rest more behind so next = record {
  spelled = so.spelled ∙ ap (λ r. flat_map byte_text bytes ++ r) next.spelled
      ∙ sym (append_assoc (flat_map byte_text bytes) (flat_map byte_text more) behind)
      ∙ ap (λ f. f ++ behind) (sym (flat_map-append byte_text bytes more));
  decides = so.decides ∙ next.decides;
  each = All-append (λ x. x < 256) bytes more so.each next.each;
}

-- a word that is not empty spells a byte
pub some_spelled : (word bytes : List ℕ) → 0 < length word → word ≡ flat_map byte_text bytes →
    0 < length bytes
some_spelled word [] some is = omega (arith, some, ap length is)
some_spelled word (b ∷ bytes) some is = omega arith
