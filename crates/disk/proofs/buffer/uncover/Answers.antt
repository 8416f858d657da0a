use Rattle.std.proofs.Common.{◌≡◌, ◌+◌, ◌≤◌, ◌∷◌, ◌++◌, [], ℕ, length, arith, ap, ◌∙◌}
use Rattle.std.proofs.lemmas.Grind.{common_steps}
use Rattle.disk.specs.States.{overwritten}
use Rattle.disk.proofs.Buffers.{uncovered-pop, AllWithin-pop, AllWithin-last, length-overwritten}
use Rattle.disk.proofs.buffer.uncover.Goals as goal

-- the latest is put back first
pub loop-one-preserved-in-Some : goal.loop-one-preserved-in-Some
loop-one-preserved-in-Some c =
    let one = c.in-Some.one in
    let rest = c.pop.new.self.items in
    let before = c.loop-one.invariant in
    let parts : c.loop-one.covered.items ≡ rest ++ one ∷ [] = grind (arith, common_steps) in
    let is : c.put_over.new.old.items ≡ overwritten c.loop-one.buffer.items one.at one.bytes =
    grind (arith, common_steps) in
    let last : one.at + length one.bytes ≤ length c.args.buffer.now.items =
    AllWithin-last _ c.loop-one.covered.items rest one parts before.within in
    let size = length-overwritten c.loop-one.buffer.items one.at one.bytes
    (omega (arith, last, before.len)) in
    record {
      len = omega (arith, ap (length {A = ℕ}) is, size, before.len, last);
      within = AllWithin-pop _ c.loop-one.covered.items rest one parts before.within;
      same = uncovered-pop c.loop-one.buffer.items c.put_over.new.old.items c.loop-one.covered.items
          rest one parts is
          ∙ before.same;
    }

-- and where it takes no memory
pub loop-one-preserved : goal.loop-one-preserved
loop-one-preserved c =
    let one = c.in-Some.one in
    let rest = c.pop.new.self.items in
    let before = c.loop-one.invariant in
    let parts : c.loop-one.covered.items ≡ rest ++ one ∷ [] = grind (arith, common_steps) in
    let is : c.put_over.new.old.items ≡ overwritten c.loop-one.buffer.items one.at one.bytes =
    grind (arith, common_steps) in
    let last : one.at + length one.bytes ≤ length c.args.buffer.now.items =
    AllWithin-last _ c.loop-one.covered.items rest one parts before.within in
    let size = length-overwritten c.loop-one.buffer.items one.at one.bytes
    (omega (arith, last, before.len)) in
    record {
      len = omega (arith, ap (length {A = ℕ}) is, size, before.len, last);
      within = AllWithin-pop _ c.loop-one.covered.items rest one parts before.within;
      same = uncovered-pop c.loop-one.buffer.items c.put_over.new.old.items c.loop-one.covered.items
          rest one parts is
          ∙ before.same;
    }
