use Rattle.std.proofs.Common.{arith}
use Rattle.std.proofs.lemmas.Grind.{common_steps}
use Rattle.std.proofs.Common.{refl, subst, sym, take, rules}
use Rattle.disk.specs.{IsEnvironmental}
use Rattle.disk.specs.StillLemmas.{still}
use Rattle.kv_types.specs.{map_of}
use Rattle.kv_types.specs.Pages.{page_of}
use Rattle.row_pages.specs.ViewRowsLemmas.{walk_of_page}
use Rattle.store_files.proofs.Meant.{own_blocks}
use Rattle.store_files.proofs.RowReads.{kept_answered, never_damaged, page_is, refusal_external}
use Rattle.store_files.proofs.store_files.StoreFiles.rows.Goals as goal
use Rattle.store_tables.specs.declared.error.EngineError.TheVariants as engine

-- no call of the disk
pub returns-in_err-rows-clause-reads : goal.returns-in_err-rows-clause-reads
returns-in_err-rows-clause-reads g c = record {
  kept = search rules;
  causes = search rules;
  still = λ honest.
      still (g.D.Disk.state c.args.files.now.disk) (g.D.Disk.past c.args.files.now.disk);
}

-- the page that was read
pub returns-in-Ok-clause-reads : goal.returns-in-Ok-clause-reads
returns-in-Ok-clause-reads g c = record {
  kept = kept_answered _ c.args.files.now c.read_page.new.source c.read_page.result c.in-Ok.page
      c.in-Ok.page c.in-Ok.is c.read_page.ensures.moved.device;
  causes = search rules;
  still = c.read_page.ensures.moved.device.still;
}

pub returns-in-Ok-clause-found : goal.returns-in-Ok-clause-found
returns-in-Ok-clause-found g c = λ list honest w floor count.
    let range = c.args.range.now in
    let first = take c.args.at list in
    let agree = c.pages_agree.ensures.agree in
    let shows = c.in_ok-rows.ensures.shows w.meant c.args.files.now list honest w.hold
    w.disk_is.blocks floor count in
    page_is c.pages_agree.ensures.one agree first range c.in-Ok.page
    (c.in-Ok.ensures.page w.meant (map_of first) shows.0 shows.1
    (walk_of_page (map_of first) range (page_of first range) (agree first range)))

-- of undamaged tables no cursor is refused for damage
pub returns-clause-intact : goal.returns-clause-intact
returns-clause-intact g c = λ list honest h floor count.
    let disk = g.D.Disk.state c.args.files.now.disk in
    let shows = c.in_ok-rows.ensures.shows disk c.args.files.now list honest h
    (own_blocks disk c.args.self.now.tables.tables.items) floor count in
    subst (IsEnvironmental engine.Disk engine.Memory) (sym c.from.ensures)
    (refusal_external c.read_page.result c.in-Err.e c.in-Err.is c.read_page.ensures.moved.causes
    (disk, shows.0, λ honest file. refl))

-- a read is refused for damage only where a file is damaged that the range meets
pub returns-clause-damaged : goal.returns-clause-damaged
returns-clause-damaged g c = λ list honest w refused. record {
  meant = w.meant;
  tables = w.hold.known.tables;
  were = record { named = w.hold.known.read; as_meant = w.disk_is.tables };
  damaged = λ intact.
      let disk = g.D.Disk.state c.args.files.now.disk in
      let sound = c.in_ok-rows.ensures.intact w.meant c.args.files.now list honest w.hold intact in
      never_damaged c.from.result (subst (IsEnvironmental engine.Disk engine.Memory)
      (sym c.from.ensures) (refusal_external c.read_page.result c.in-Err.e c.in-Err.is
      c.read_page.ensures.moved.causes (disk, sound, λ honest file. refl))) refused;
}

pub returns-in_err-rows-clause-found : goal.returns-in_err-rows-clause-found
returns-in_err-rows-clause-found g c = grind (arith, common_steps)

pub returns-in_err-rows-clause-intact : goal.returns-in_err-rows-clause-intact
returns-in_err-rows-clause-intact g c = grind (arith, common_steps)

pub returns-in_err-rows-clause-damaged : goal.returns-in_err-rows-clause-damaged
returns-in_err-rows-clause-damaged g c = grind (arith, common_steps)

pub returns-in-Ok-clause-intact : goal.returns-in-Ok-clause-intact
returns-in-Ok-clause-intact g c = grind (arith, common_steps)

pub returns-in-Ok-clause-damaged : goal.returns-in-Ok-clause-damaged
returns-in-Ok-clause-damaged g c = grind (arith, common_steps)

pub returns-clause-found : goal.returns-clause-found
returns-clause-found g c = grind (arith, common_steps)
