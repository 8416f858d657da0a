use Rattle.std.proofs.Common.{◌≡◌, ◌*◌, ℕ, length, refl, subst, arith}
use Rattle.bloom.proofs.Putting.{HasPut, none_put, one_put}
use Rattle.bloom.proofs.Walking.{begun}
use Rattle.bloom.proofs.filter.put.Goals as goal

pub loop-i-init : goal.loop-i-init
loop-i-init c = record {
  put = none_put c.args.filter.now c.args.hashes;
  walk = begun c.args.filter.now c.args.hashes c.args.hashes c.bits_of.result c.first-probes.result
      c.bits_of.ensures refl c.first-probes.ensures;
}

-- one probe more
pub loop-i-preserved : goal.loop-i-preserved
loop-i-preserved c =
    let old = c.args.filter.now in
    let at = c.loop-i in record {
      put = one_put old at.filter c.set_bit.new.bytes c.args.hashes at.i at.probes.place
          at.invariant.put at.auto.filter at.invariant.walk.place c.set_bit.ensures.set;
      walk = c.advance.ensures (8 * length old) c.args.hashes at.i at.invariant.walk;
    }

-- all seven are put
pub returns-clause-put : goal.returns-clause-put
returns-clause-put c =
    let seven : c.loop-i.i ≡ 7 = omega (arith, c.loop-i-test.false, c.loop-i.auto.i-end) in
    subst (λ (n : ℕ). HasPut c.args.filter.now c.args.hashes n c.loop-i.filter) seven
    c.loop-i.invariant.put
