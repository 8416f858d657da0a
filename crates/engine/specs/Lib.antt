pub mod LentFiles
pub mod DamagedInputs
pub mod UnderWay
pub mod MergeParts
pub mod BeginParts
pub mod Snapshots
pub mod Tends
pub mod Engines
pub mod Calls
pub mod Upgrades
-- What crates above name.
pub use Rattle.engine.specs.Calls.{IsNewEngine, IsEngineOf, IsJustOpened, IsOldOrNewSince, IsOpened}
pub use Rattle.engine.specs.Calls.{IsMeantEngineOf, KeepsEngine, ListFollows, ExplainsRefusal}
pub use Rattle.engine.specs.Calls.{HasOpened, IsTendOf, OpensEngineFor}
pub use Rattle.engine.specs.Calls.{IsAppendRefusal, IsEndOrAfter}
pub use Rattle.engine.specs.Calls.{IsAdrift, IsReadableAnswer, IsTendAnswer, TendsAlike, disk_after}
pub use Rattle.engine.specs.Calls.{IsCloseAnswer, IsOpenAnswer, MayOpen, MemoryHas}
pub use Rattle.engine.specs.Calls.{ChangesList, ChangesSnapshots, OfEachList, ReadsEngine}
pub use Rattle.engine.specs.Calls.{HasNoMerge, KeepsOwnedDisk, MergeStays, StaysAsItWas}
pub use Rattle.engine.specs.Calls.{tended_of}
pub use Rattle.engine.specs.Tends.{TendedStore, tended_version}
pub use Rattle.engine.specs.Engines.{AreOrdered, HasEnded, HasLongFile, HasOnlyFiles, EngineHolds}
pub use Rattle.engine.specs.Engines.{HasNearlyFullLog, HasNearlyFullSlot, IsNearlyFull}
pub use Rattle.engine.specs.Engines.{counting_slot_file}
pub use Rattle.engine.specs.Snapshots.{AreReadable, IsReadable}
pub use Rattle.engine.specs.Engines.{EngineWasMeant, LookUps, EngineReads, engine_disk}
pub use Rattle.engine.specs.Engines.{engine_files, engine_version, facts_of}
pub use Rattle.engine.specs.Engines.{FactsRise, RaisesFactsAtMost, least_read, with_facts}
pub use Rattle.engine.specs.Engines.{IsTendFile, look_ups, newest_log_file, raised_facts}
pub use Rattle.engine.specs.Engines.{table_count, with_one_more, with_committed}
pub use Rattle.engine.specs.Engines.{with_closed, with_opened}
pub use Rattle.manifest.specs.Holds.{SparesOthers}
pub use Rattle.engine.specs.Upgrades.{ExplainsUpgrade, IsFoundAs, IsUpgradeRefusal, UpgradesStore}
pub use Rattle.engine.specs.declared.upgrading.Upgraded
-- What they name of the files of a store.
pub use Rattle.store_tables.specs.declared.error.EngineError
pub use Rattle.store_files.specs.declared.tended.Tended
pub use Rattle.store_tables.specs.Errors.{EndsEngine, IsEnd}
pub use Rattle.store_tables.specs.RangeReads.{OneIsDamagedIn}
pub use Rattle.store_tables.specs.TableReads.{NeedsNoDisk, OneNamedLacksBlock}
pub use Rattle.store_files.specs.Adopting.{IsLaterConfig, facts_with_config}
pub use Rattle.store_files.specs.Files.{Facts, IsOwned, first_facts}
pub use Rattle.store_files.specs.StoreFiles.{FilesRepresent, HasFirstFiles, IsDamaged, IsOneOf}
pub use Rattle.store_files.specs.StoreFiles.{AreShut, OpensAs}
pub use Rattle.store_files.specs.StoreFiles.{StillLeavesOneOf, WereMeant, WereOneOf}
pub use Rattle.store_files.specs.OpenFiles.{IsOpeningError, SparesFound, SparesNamed}
pub use Rattle.store_files.specs.OpenFiles.{known_version}
pub use Rattle.store_files.specs.Openings.{kept_files}
pub use Rattle.store_files.specs.Settling.{AreAlone, AreReadAlike}
pub use Rattle.store_files.specs.Tending.{IsSameBeside}
pub use Rattle.manifest.specs.{IsNotCreated, IsOldStore}
