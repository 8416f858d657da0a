use Rattle.table_files.proofs.KeptLemmas.{unchanged, fewer_numbers}
use Rattle.table_files.proofs.KeptLemmas.{added_differ, added_below, added_kept}
use Rattle.table_files.proofs.cache.BlockCache.number_of.Goals as goal

-- no file has a number more
pub returns-in_default-insert-clause-keeps : goal.returns-in_default-insert-clause-keeps
returns-in_default-insert-clause-keeps c = λ file place format bytes.
    let old = c.args.self.now in
    let stay = unchanged old.numbers c.insert.new.self c.in_default-insert.ensures.err in
    fewer_numbers old.numbers c.insert.new.self old.blocks.entries file place format bytes stay

-- the new number is above all others
pub invariant_of-self-2 : goal.invariant_of-self-2
invariant_of-self-2 c =
    let old = c.args.self.now in
    let updates = c.in-Ok.ensures.updates in
    record {
      apart = added_differ old.numbers c.insert.new.self old.blocks.entries c.args.file old.next
          updates old.apart old.used;
      used = added_below old.numbers c.insert.new.self old.blocks.entries c.args.file old.next
          updates old.used c.in_ok-next.next c.in_ok-next.ensures.1;
    }

-- and no block has it
pub returns-clause-keeps : goal.returns-clause-keeps
returns-clause-keeps c =
    let old = c.args.self.now in
    added_kept old.numbers c.insert.new.self old.blocks.entries c.args.file old.next
    c.in-Ok.ensures.updates old.used
