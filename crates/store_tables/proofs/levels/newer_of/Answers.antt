use Rattle.std.proofs.Common.{subst, Option, Some}
use Rattle.std.specs.Prelude.{Contains}
use Rattle.store_model.specs.{level_entries}
use Rattle.sorted_table.specs.declared.FoundVersion.{FoundVersion}
use Rattle.store_tables.specs.LevelTables.{EntriesFind}
use Rattle.store_tables.proofs.LevelLemmas.{former_alone, former_newer, new_alone, new_newer}
use Rattle.store_tables.proofs.levels.newer_of.Goals as goal

-- the level had nothing of the key
pub returns-in_default : goal.returns-in_default
returns-in_default c = λ at key tables table it that.
    new_alone tables table at key c.args.found
    (subst (λ (o : Option FoundVersion). EntriesFind at (level_entries tables table.level) key o)
    c.in_default.is it) that

-- the table has nothing of it
pub returns-in_default-found : goal.returns-in_default-found
returns-in_default-found c = λ at key tables table it that.
    former_alone tables table at key (Some c.in-Some.best)
    (subst (λ (o : Option FoundVersion). EntriesFind at (level_entries tables table.level) key o)
    c.in-Some.is it)
    (subst (λ (o : Option FoundVersion). EntriesFind at (Contains table.entries) key o)
    c.in_default-found.is that)

-- both have an entry of it
pub returns-then-found-best : goal.returns-then-found-best
returns-then-found-best c = λ at key tables table it that.
    new_newer tables table at key c.in-Some.best c.in-Some-found.found
    (subst (λ (o : Option FoundVersion). EntriesFind at (level_entries tables table.level) key o)
    c.in-Some.is it)
    (subst (λ (o : Option FoundVersion). EntriesFind at (Contains table.entries) key o)
    c.in-Some-found.is that) c.if-found-best.true

pub returns-else-found-best : goal.returns-else-found-best
returns-else-found-best c = λ at key tables table it that.
    former_newer tables table at key c.in-Some.best c.in-Some-found.found
    (subst (λ (o : Option FoundVersion). EntriesFind at (level_entries tables table.level) key o)
    c.in-Some.is it)
    (subst (λ (o : Option FoundVersion). EntriesFind at (Contains table.entries) key o)
    c.in-Some-found.is that) c.if-found-best.false
