use Rattle.link_messages.proofs.FrameLengths as frames
use Rattle.link_messages.proofs.Streams as streams
use Rattle.link_messages.proofs.laws.one_spelling.Goals as goal

pub returns-clause-one : goal.returns-clause-one
returns-clause-one c = streams.one_spelling c.test_decides_config.ensures

pub returns-clause-fit : goal.returns-clause-fit
returns-clause-fit c = frames.frames_fit
