use Rattle.link_messages.proofs.Streams as streams
use Rattle.link_messages.proofs.laws.one_answer.Goals as goal

pub returns-clause-one : goal.returns-clause-one
returns-clause-one c = streams.one_answer c.test_decides_config.ensures

pub returns-clause-stays : goal.returns-clause-stays
returns-clause-stays c = streams.faults_stay
