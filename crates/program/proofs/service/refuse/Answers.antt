use Rattle.program.proofs.service.refuse.Goals as goal

pub returns-clause-text : goal.returns-clause-text
returns-clause-text g c = rw c.as_bytes.ensures.value at c.print.ensures.part
