use Rattle.std.proofs.Common.{inl, inr, refl}
use Rattle.program.proofs.folder_service.write_folder.Goals as goal

-- it was written out whole
pub returns-in-Ok : goal.returns-in-Ok
returns-in-Ok g c = inl (record {
  status = refl;
  path_is = c.in-Ok.ensures.path;
  wrote = c.in-Ok.ensures.printed;
  from = c.in-Ok.ensures.from;
  quiet = refl;
})

-- or in part
pub returns-in-Err : goal.returns-in-Err
returns-in-Err g c = inr (record {
  status = c.report_dump.ensures.status;
  failure = c.in-Err.failure;
  failed = c.in-Err.ensures.from;
  told = c.report_dump.ensures.text;
})
