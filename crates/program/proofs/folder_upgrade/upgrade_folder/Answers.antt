use Rattle.std.proofs.Common.{Err, ap, arith, inl, inr, refl}
use Rattle.engine.specs.EngineError.TheVariants as engine
use Rattle.program.proofs.folder_upgrade.upgrade_folder.Goals as goal

-- the path of no folder
pub returns-then-is_empty : goal.returns-then-is_empty
returns-then-is_empty g c = inr (engine.NotCreated, ap Err c.from.ensures, inl refl, refl)

-- the lock was not to be had
pub returns-in-Err : goal.returns-in-Err
returns-in-Err g c =
    inr (c.refusal_of.result, ap Err c.from-in-Err.ensures, c.refusal_of.ensures, refl)

-- the lock was held
pub returns : goal.returns
returns g c = inl (record {
  some = λ none. grind (arith, none, c.is_empty.ensures, c.if-is_empty.false);
  disk = c.in-Ok.disk;
  below = c.in-Ok.ensures;
  later = c.upgrade_store-told.new.disk;
  kept = c.upgrade_store-told.ensures.kept;
  said = c.upgrade_store-told.ensures.said;
})
