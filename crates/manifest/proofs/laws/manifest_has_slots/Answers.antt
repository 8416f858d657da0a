use Rattle.std.proofs.Common.{sym, subst}
use Rattle.manifest.specs.Slots.{IsSlotFile}
use Rattle.manifest.proofs.Records.{other_one}
use Rattle.manifest.proofs.laws.manifest_has_slots.Goals as goal

pub returns : goal.returns
returns c = λ disk manifest named h. (
  subst IsSlotFile (sym h.records.at.in_file) h.records.one,
  other_one manifest.slots.slot h.records.one,
)
