use Rattle.std.proofs.Common.{◌≡◌, ℕ, List, length, ap, sym, ◌∙◌, arith, true, not, nat_eq, subst}
use Rattle.std.specs.Cmp.Lexicographic.{pointwise, nat_list_eq_equiv}
use Rattle.table_format.specs.SealedLemmas.{length-sealed, sealed_parts}
use Rattle.table_format.specs.Blocks.{digest}
use Rattle.table_format.proofs.part.unsealed.Goals as goal

-- what is entry_shorter than a digest is no part
pub returns-then-part-lt8-clause-none : goal.returns-then-part-lt8-clause-none
returns-then-part-lt8-clause-none c = λ _ content is.
    absurd (omega (arith, c.if-part-lt8.true, ap length is, length-sealed content))

differ : (a b : List ℕ) → a ≡ b → true ≡ not (pointwise nat_eq a b) → ⊥
differ a b e h =
    let alike : pointwise nat_eq a a ≡ true = nat_list_eq_equiv.refl a in
    let there : pointwise nat_eq a b ≡ true =
    subst (λ (x : List ℕ). pointwise nat_eq a x ≡ true) e alike in
    absurd cc

-- nor is what doesn't end in the digest
pub returns-then-ne-clause-none : goal.returns-then-ne-clause-none
returns-then-ne-clause-none c = λ _ content is.
    let parts = sealed_parts c.args.part.now content is in
    let front = c.split_at.ensures.front ∙ parts.0 in
    let back = c.split_at.ensures.back ∙ parts.1 in
    let mapped = c.digest_of.ensures ∙ ap digest front in
    let same : c.split_at.result.1.now ≡ c.as_slice.result.now =
    back ∙ sym mapped ∙ sym c.as_slice.ensures in
    differ c.split_at.result.1.now c.as_slice.result.now same
    (sym c.if-ne.true ∙ c.ne.ensures)
