use Rattle.std.proofs.Common.{ap, arith, ◌/◌, ◌%◌, get_or}
use Rattle.std.specs.Int.Bits.{bit_or}
use Rattle.std.proofs.lemmas.Nat.{one_shl}
use Rattle.bloom.proofs.Setting.{set_has}
use Rattle.bloom.proofs.bits.set_bit.Goals as goal

pub returns-clause-set : goal.returns-clause-set
returns-clause-set c = λ p within.
    let bytes = c.args.bytes.now in
    let q = c.args.place in
    set_has bytes q _ (omega (arith, c.requires))
    (ap (bit_or (get_or bytes (q / 8) 0)) (one_shl (q % 8) 8 (omega arith))) p
