use Rattle.std.proofs.Common.{◌≡◌, sym, subst}
use Rattle.std.proofs.lemmas.Grind.{common_steps}
use Rattle.std.proofs.Common.{arith}
use Rattle.disk.specs.Calls.{ListsFiles}
use Rattle.disk.specs.Memory.{state_of}
use Rattle.disk.proofs.Numbers.{numbers_of, lists_numbers}
use Rattle.disk.proofs.memory.numbers.Goals as goal

-- none is left
pub returns-clause-lists : goal.returns-clause-lists
returns-clause-lists c =
    let all : c.loop-number.numbers.items ≡ numbers_of c.args.slots.now.entries =
    grind (arith, common_steps) in
    subst (ListsFiles (state_of c.args.slots.now.entries)) (sym all)
    (lists_numbers c.args.slots.now.entries c.into_iter-number-iterator.ensures.into_iter_gives.5)
