use Rattle.manifest.proofs.manifest.Manifest.has_long_slot.Goals as goal

pub returns-clause-due : goal.returns-clause-due
returns-clause-due c = λ disk named h. c.is_long.ensures.due disk named.id _ h.records

pub returns-clause-told : goal.returns-clause-told
returns-clause-told c = c.is_long.ensures.told
