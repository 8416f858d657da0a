-- A part ends in its digest.
use Rattle.std.proofs.Common.{◌≡◌, ℕ, ◌+◌, ◌-◌, List, ◌++◌, length, take, drop, refl, sym, ap}
use Rattle.std.proofs.Common.{◌∙◌, arith, length-append, append_assoc}
use Rattle.std.proofs.lemmas.List.{take_at, drop_at, length-take}
use Rattle.sha2.specs.Sha256.{sha256}
use Rattle.sha2.proofs.Facts256.{length-sha256}
use Rattle.table_format.specs.Blocks.{digest, sealed}

-- a digest has eight bytes
pub length-digest : (content : List ℕ) → length (digest content) ≡ 8
unfolding digest
length-digest content = omega (arith, length-take 8 (sha256 content), length-sha256 content)

-- a text with its digest is eight bytes longer
pub length-sealed : (content : List ℕ) → length (sealed content) ≡ length content + 8
length-sealed content =
    omega (arith, length-append content (digest content), length-digest content)

-- a part is what stands before its last 8 bytes, and their digest
pub sealed_parts : (part content : List ℕ) → part ≡ sealed content
    → (take (length part - 8) part ≡ content) × (drop (length part - 8) part ≡ digest content)
sealed_parts part content is =
    let len : length part - 8 ≡ length content =
    omega (arith, ap length is, length-sealed content) in (
      ap (λ (n : ℕ). take n part) len ∙ ap (take (length content)) is
          ∙ take_at content (digest content) (length content) refl,
      ap (λ (n : ℕ). drop n part) len ∙ ap (drop (length content)) is
          ∙ drop_at content (digest content) (length content) refl,
    )

-- no part begins another
pub same_sealed : (a b x y : List ℕ) → length a ≡ length b → sealed a ++ x ≡ sealed b ++ y → a ≡ b
same_sealed a b x y len is =
    sym (take_at a (digest a ++ x) (length a) refl)
    ∙ ap (take (length a)) (sym (append_assoc a (digest a) x) ∙ is ∙ append_assoc b (digest b) y)
    ∙ take_at b (digest b ++ y) (length a) (sym len)
