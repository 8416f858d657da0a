use Rattle.store_files.proofs.LookUps.{is_answered}
use Rattle.store_files.proofs.finding.in_memory.Goals as goal

pub unwrap-requires : goal.unwrap-requires
unwrap-requires c =
    is_answered c.get.result c.get.ensures.failed c.requires
