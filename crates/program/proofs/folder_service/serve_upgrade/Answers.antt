use Rattle.std.proofs.Common.{inl, inr, refl}
use Rattle.program.proofs.folder_service.serve_upgrade.Goals as goal

-- memory was wanting for the words
pub returns-in-Err-Memory-clause-ends : goal.returns-in-Err-Memory-clause-ends
returns-in-Err-Memory-clause-ends g c = inr (inl (record {
  status = c.report_upgrade.ensures.status;
  none = refl;
  told = c.report_upgrade.ensures.text;
}))

-- the store of the folder was taken over, or not
pub returns-in-Ok-clause-ends : goal.returns-in-Ok-clause-ends
returns-in-Ok-clause-ends g c = inl (_, c.upgrade_at.ensures)
