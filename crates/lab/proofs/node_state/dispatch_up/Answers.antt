use Rattle.std.proofs.Common.{refl}
use Rattle.lab.proofs.Dispatching.{dispatched_as, each_answer}
use Rattle.lab.proofs.node_state.dispatch_up.Goals as goal

pub returns-in-Step : goal.returns-in-Step
returns-in-Step g c = λ limits. each_answer c.step.result (λ did took.
    dispatched_as limits c.args.fault c.in-Step.is refl took) (c.step.ensures limits)

pub returns-in-Tend : goal.returns-in-Tend
returns-in-Tend g c = λ limits. each_answer c.tend.result (λ did took.
    dispatched_as limits c.args.fault c.in-Tend.is refl took) (c.tend.ensures limits)

pub returns-in-BadFrame : goal.returns-in-BadFrame
returns-in-BadFrame g c = λ limits.
    dispatched_as limits c.args.fault c.in-BadFrame.is refl (c.drop_frame.ensures limits)

pub returns-in-Start : goal.returns-in-Start
returns-in-Start g c = λ limits.
    dispatched_as limits c.args.fault c.in-Start.is refl (c.drop_start.ensures limits)

pub returns-in-Stop : goal.returns-in-Stop
returns-in-Stop g c = λ limits. each_answer c.stop.result (λ did took.
    dispatched_as limits c.args.fault c.in-Stop.is refl took) (c.stop.ensures limits)
