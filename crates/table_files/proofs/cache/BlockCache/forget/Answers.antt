use Rattle.table_files.proofs.KeptLemmas.{removed, fewer_numbers}
use Rattle.table_files.proofs.cache.BlockCache.forget.Goals as goal

-- the other files keep their numbers
pub returns-clause-keeps : goal.returns-clause-keeps
returns-clause-keeps c = λ file place format bytes.
    let old = c.args.self.now in
    let stay = removed old.numbers c.remove.new.self c.args.file c.remove.ensures.updates in
    fewer_numbers old.numbers c.remove.new.self old.blocks.entries file place format bytes stay
