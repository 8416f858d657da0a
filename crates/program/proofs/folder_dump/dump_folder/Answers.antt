use Rattle.std.proofs.Common.{inr, subst, sym}
use Rattle.program.specs.FolderDumps.{IsFolderToRead}
use Rattle.program.proofs.folder_dump.dump_folder.Goals as goal

-- it was read from the disk of this folder
pub returns-in-Ok-dump_store-clause-from : goal.returns-in-Ok-dump_store-clause-from
returns-in-Ok-dump_store-clause-from g c = record {
  disk = c.new.result;
  below = subst (λ disk. IsFolderToRead c.args.folder.now disk) (sym c.new.ensures.inner)
      c.in-Ok.ensures;
  left = c.in-Ok-dump_store.disk;
  kept = c.in-Ok-dump_store.ensures.device;
  written = record {
    read = c.in-Ok-dump_store.ensures.written;
    meant = c.in-Ok-dump_store.ensures.meant;
  };
}

-- so far as it was read
pub returns-in-Err-clause-from : goal.returns-in-Err-clause-from
returns-in-Err-clause-from g c = inr (record {
  disk = c.new.result;
  below = subst (λ disk. IsFolderToRead c.args.folder.now disk) (sym c.new.ensures.inner)
      c.in-Ok.ensures;
  refused = (c.in-Err.e, c.in-Err.disk);
  cause = c.from.ensures;
  kept = c.in-Err.ensures.device;
  begun = c.in-Err.ensures.meant;
  some = c.in-Err.ensures.printed;
})
