use Rattle.kv_types.specs.BatchesLemmas as laws
use Rattle.kv_types.proofs.laws.spellings_differ.Goals as goal

pub returns : goal.returns
returns c = laws.spellings_differ
