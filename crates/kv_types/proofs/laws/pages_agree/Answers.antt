use Rattle.kv_types.proofs.PageLaws as laws
use Rattle.kv_types.proofs.laws.pages_agree.Goals as goal

pub returns-clause-agree : goal.returns-clause-agree
returns-clause-agree c = laws.pages_agree

pub returns-clause-one : goal.returns-clause-one
returns-clause-one c = laws.one_page
