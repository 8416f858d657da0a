use Rattle.std.proofs.Common.{[], ◌∷◌, ap, length, length-append, refl, arith}
use Rattle.batch_logs.proofs.laws.log_examples.Goals as goal

pub returns-clause-three : goal.returns-clause-three
returns-clause-three c = λ left a b d first second.
    (a ∷ b ∷ [], d ∷ [], refl, (refl, first), (d ∷ [], [], refl, (refl, second), refl))

pub returns-clause-behind : goal.returns-clause-behind
returns-clause-behind c = λ left batches has.
    let here = has.0 in
    let later = has.1 in
    let second = has.4.3 in
    omega (arith, ap length has.2, length-append here later, second.0)
