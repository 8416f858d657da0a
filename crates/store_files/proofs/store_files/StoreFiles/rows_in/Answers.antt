use Rattle.std.proofs.Common.{◌≤◌, ℕ, List, length, subst, sym}
use Rattle.std.proofs.lemmas.Result.{IfOk-at_ok}
use Rattle.disk.specs.{contents}
use Rattle.kv_types.specs.{stored_span}
use Rattle.kv_types.specs.declared.bounds.TheConstants.{MAX_NUMBER}
use Rattle.merge_iter.specs.{AreDisjoint, AreSound, IsAlike, union_of}
use Rattle.store_cursors.specs.contracts.store_cursor.StoreCursorCursor.TheImpl.{ghosts, no_dict}
use Rattle.manifest.specs.declared.TableLine.{TableLine}
use Rattle.store_model.specs.{memory_entries, store_entries}
use Rattle.store_tables.specs.LevelTables.{AreTablesOf}
use Rattle.store_tables.specs.RangeReads.{AreIntactIn}
use Rattle.store_files.specs.OpenFiles.{known_store, known_version}
use Rattle.store_files.specs.RangeEntries.{HasRange}
use Rattle.store_files.proofs.LookUps.{is_answered}
use Rattle.store_files.proofs.Meant.{zip_was}
use Rattle.store_files.proofs.RangeCursors.{all_apart, all_in_range, all_sound}
use Rattle.store_files.proofs.RangeFiles.{intact_in, served_in}
use Rattle.store_files.proofs.RangeRows.{range_has_rows}
use Rattle.store_files.proofs.store_files.StoreFiles.rows_in.Goals as goal

-- memory has not failed
pub unwrap-requires : goal.unwrap-requires
unwrap-requires g c =
    is_answered c.of_memtable.result c.of_memtable.ensures.failed c.requires.memtable.works

-- the cursors have the entries of the store in the range, which show the rows of the map
pub returns-clause-shows : goal.returns-clause-shows
returns-clause-shows g c = λ meant files list honest hold blocks floor count.
    let self = c.args.self.now in
    let range = stored_span c.args.range.now in
    let known = hold.known in
    let tables = known.tables in
    let store = known_store self tables in
    let G = ghosts g.row.D g.D.Disk no_dict no_dict in
    let cursors = c.in_ok-cursors.cursors.items in
    let memory = c.unwrap.result in
    let served = zip_was (g.D.Disk.state files.disk) meant self.tables.tables.items tables
    known.served blocks in
    let own = c.versions_name_own_files.ensures (known_version self).version known.usable.version
    (contents meant) tables known.read in
    let told = c.in_ok-cursors.ensures meant files tables honest
    (served_in range (g.D.Disk.state files.disk) meant self.tables.tables.items tables served) in
    let mine = IfOk-at_ok _ c.unwrap.ensures c.of_memtable.ensures.serves meant files in
    let holds : IsAlike (G.holds meant memory files) (memory_entries list store) =
    λ entry. (
      (λ h. (known.entries entry).0 ((mine.holds entry).0 h)),
      (λ h. (mine.holds entry).1 ((known.entries entry).1 h)),
    ) in
    let met = told.entries in
    let sound = all_sound G meant files cursors memory list store known.store range met holds
    (told.sound known.store.tables.ranges) mine.sound in
    let apart = all_apart G meant files cursors memory list store known.store range met holds
    (told.disjoint store.flushed known.store.tables own) in
    let has = all_in_range G meant files cursors memory list store known.store range met holds
    (told.within store.flushed known.store.tables) in
    let pushed = sym c.in_ok-push.ensures.items in
    let within : c.args.at ≤ length list = subst (λ (n : ℕ). c.args.at ≤ n) known.count count in
    let few : length list ≤ MAX_NUMBER =
    subst (λ (n : ℕ). n ≤ MAX_NUMBER) known.count known.usable.numbers.few in
    let all = subst (λ (l : List _). HasRange range (store_entries list store)
    (union_of G meant l files)) pushed has in (
      c.rows_at.ensures.sound meant files
          (subst (λ (l : List _). AreSound G meant l files) pushed sound)
          (subst (λ (l : List _). AreDisjoint G meant l files) pushed apart),
      range_has_rows c.rows_are_stored.ensures list store known.store c.args.at floor within
          c.args.range.now _ all _
          (c.rows_at.ensures.entries meant files) few,
    )

-- of files that read as they were meant to where the range meets them, the cursors are sound for
-- what the disk has
pub returns-clause-intact : goal.returns-clause-intact
returns-clause-intact g c = λ meant files list honest hold intact.
    let self = c.args.self.now in
    let range = stored_span c.args.range.now in
    let disk = g.D.Disk.state files.disk in
    let known = hold.known in
    let tables = known.tables in
    let lines = (known_version self).version.tables in
    let store = known_store self tables in
    let G = ghosts g.row.D g.D.Disk no_dict no_dict in
    let cursors = c.in_ok-cursors.cursors.items in
    let memory = c.unwrap.result in
    let own = c.versions_name_own_files.ensures (known_version self).version known.usable.version
    (contents meant) tables known.read in
    let named = sym known.usable.tables in
    let served = intact_in range disk meant self.tables.tables.items tables
    (subst (λ (l : List TableLine). AreTablesOf (contents meant) l tables) named known.read)
    known.served (subst (AreIntactIn range disk meant) named intact) in
    let told = c.in_ok-cursors.ensures disk files tables honest served in
    let mine = IfOk-at_ok _ c.unwrap.ensures c.of_memtable.ensures.serves disk files in
    let holds : IsAlike (G.holds disk memory files) (memory_entries list store) =
    λ entry. (
      (λ h. (known.entries entry).0 ((mine.holds entry).0 h)),
      (λ h. (mine.holds entry).1 ((known.entries entry).1 h)),
    ) in
    let sound = all_sound G disk files cursors memory list store known.store range told.entries
    holds (told.sound known.store.tables.ranges) mine.sound in
    let apart = all_apart G disk files cursors memory list store known.store range told.entries
    holds (told.disjoint store.flushed known.store.tables own) in
    let pushed = sym c.in_ok-push.ensures.items in
    c.rows_at.ensures.sound disk files
    (subst (λ (l : List _). AreSound G disk l files) pushed sound)
    (subst (λ (l : List _). AreDisjoint G disk l files) pushed apart)
