use Rattle.kv_types.specs.MarksLemmas as laws
use Rattle.kv_types.proofs.laws.held_is_last.Goals as goal

pub returns : goal.returns
returns c = laws.held_is_last
