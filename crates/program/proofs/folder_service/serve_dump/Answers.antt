use Rattle.std.proofs.Common.{inl, inr, refl}
use Rattle.program.proofs.folder_service.serve_dump.Goals as goal

-- memory was wanting for the words
pub returns-in-Err-Memory-clause-ends : goal.returns-in-Err-Memory-clause-ends
returns-in-Err-Memory-clause-ends g c = inr (inl (record {
  status = c.report_dump.ensures.status;
  none = refl;
  told = c.report_dump.ensures.text;
}))

-- the folder was written
pub returns-in-Ok-clause-ends : goal.returns-in-Ok-clause-ends
returns-in-Ok-clause-ends g c = inl (_, c.write_folder.ensures)
