-- What the bytes of a configuration say of its ids.
use Rattle.std.proofs.Common.{◌≡◌, ℕ, suc, ◌-◌, ◌*◌, ◌%◌, ◌<◌, ◌^◌, List, [], ◌∷◌, ◌++◌}
use Rattle.std.proofs.Common.{length, take, drop, get_or}
use Rattle.std.proofs.Common.{refl, sym, ap, ap₂, ◌∙◌, length-append, arith, All}
use Rattle.std.specs.Int.{w16, to_be_bytes, from_be_bytes}
use Rattle.std.proofs.lemmas.Nat.{from_be_bytes-to_be_bytes_2}
use Rattle.std.proofs.lemmas.List.{take_all}
use Rattle.std.proofs.lemmas.List.Elements.{All-head, All-tail, All-weaker}
use Rattle.configurations.specs.NodeLists.{IsId}
use Rattle.configurations.specs.Configs.{IsConfig}
use Rattle.configurations.specs.Spelling.{HasIds, config_text, ids_text}
use Rattle.configurations.specs.Spelling.{ConfigTextIsUnique, ConfigTextIsShort}

pub length-ids : (ids : List ℕ) → length (ids_text ids) ≡ length ids * 2
length-ids [] = refl
length-ids (id ∷ ids) = omega (arith, length-ids ids)

-- bytes that end within the next id are too few
pub too_few : (bytes : List ℕ) (count i : ℕ) (ids rest : List ℕ) → HasIds bytes i ids rest →
    i < count → length rest < 2 → length bytes < count * 2
too_few bytes count i ids rest splits more short =
    omega (
      arith,
      ap length splits.parts,
      length-append (ids_text ids) rest,
      length-ids ids,
      splits.size,
      more,
      short,
    )

-- as many ids are spelled in one way
one_spelling : (a b more rest : List ℕ) → All (λ id. id < 2 ^ 16) a → All IsId b →
    length a ≡ length b → ids_text a ++ more ≡ ids_text b ++ rest → (a ≡ b) × (more ≡ rest)
one_spelling [] [] more rest small each size same = (refl, same)
one_spelling [] (y ∷ b) more rest small each size same = absurd (omega (arith, size))
one_spelling (x ∷ a) [] more rest small each size same = absurd (omega (arith, size))
one_spelling (x ∷ a) (y ∷ b) more rest small each size same =
    let P : ℕ → Type 0 = λ id. id < 2 ^ 16 in
    let heads : to_be_bytes w16 x ≡ to_be_bytes w16 y = ap (take 2) same in
    let is_y : IsId y = All-head IsId y b each in
    let first : x ≡ y =
    sym (from_be_bytes-to_be_bytes_2 x (All-head P x a small)) ∙ ap (from_be_bytes w16) heads
    ∙ from_be_bytes-to_be_bytes_2 y (omega (arith, is_y.1)) in
    let others = one_spelling a b more rest (All-tail P x a small) (All-tail IsId y b each)
    (omega (arith, size)) (ap (drop 2) same) in
    (ap₂ (λ (z : ℕ) (c : List ℕ). z ∷ c) first others.0, others.1)

-- configurations are spelled in one way, and no spelling begins another
pub one_config : ConfigTextIsUnique
one_config a b more rest is_a is_b same =
    let counts : length a % 256 ≡ length b % 256 = ap (λ (l : List ℕ). get_or l 0 0) same in
    let small = All-weaker IsId (λ id. id < 2 ^ 16) (λ id is. omega (arith, is.1)) a is_a.each in
    one_spelling a b more rest small is_b.each (omega (arith, counts, is_a.few, is_b.few))
    (ap (drop 1) same)

-- a configuration is spelled in at most 33 bytes
pub few_bytes : ConfigTextIsShort
few_bytes ids is = omega (arith, length-ids ids, is.few)

-- the bytes of a configuration, as they are read
pub record Fields (first : ℕ) (behind ids rest : List ℕ) : Type 0 where
  pub count : first ≡ length ids
  pub parts : behind ≡ ids_text ids ++ rest

pub fields_of : (bytes ids rest : List ℕ) → IsConfig ids → bytes ≡ config_text ids ++ rest →
    Fields (get_or bytes 0 0) (take (length bytes - 1) (drop 1 bytes)) ids rest
fields_of bytes ids rest config is =
    let text = ids_text ids ++ rest in
    let one_byte : length ids % 256 ≡ length ids = omega (arith, config.few) in
    rw is (record {
      count = one_byte;
      parts = take_all (suc (length text) - 1) text (omega arith);
    })

-- they are not too few
pub enough : (first : ℕ) (behind ids rest : List ℕ) → Fields first behind ids rest →
    length behind < first * 2 → ⊥
enough first behind ids rest fields few =
    absurd (omega (
      arith,
      few,
      fields.count,
      ap length fields.parts,
      length-append (ids_text ids) rest,
      length-ids ids,
    ))

-- the ids that are read are those of the configuration
pub same_ids : (first : ℕ) (behind ids rest read more : List ℕ) → IsConfig ids →
    Fields first behind ids rest → HasIds behind first read more → (read ≡ ids) × (more ≡ rest)
same_ids first behind ids rest read more config fields splits =
    one_spelling read ids more rest splits.each config.each (splits.size ∙ fields.count)
    (sym splits.parts ∙ fields.parts)
