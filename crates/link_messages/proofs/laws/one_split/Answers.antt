use Rattle.link_messages.proofs.Streams as streams
use Rattle.link_messages.proofs.laws.one_split.Goals as goal

pub returns : goal.returns
returns c = streams.one_split c.test_decides_config.ensures
