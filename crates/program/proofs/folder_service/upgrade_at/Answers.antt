use Rattle.std.proofs.Common.{inl, inr, refl}
use Rattle.program.proofs.folder_service.upgrade_at.Goals as goal

-- it was upgraded, and told
pub returns-in-Ok : goal.returns-in-Ok
returns-in-Ok g c = inl (record { status = refl; printed = c.in-Ok.ensures; quiet = refl })

-- or not
pub returns-in-Err : goal.returns-in-Err
returns-in-Err g c = inr (record {
  status = c.report_upgrade.ensures.status;
  failure = c.in-Err.failure;
  printed = c.in-Err.ensures;
  told = c.report_upgrade.ensures.text;
})
