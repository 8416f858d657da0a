use Rattle.store_model.proofs.Replays.{replay_to, replay_back}
use Rattle.store_model.proofs.replays_agree.Goals as goal

pub returns : goal.returns
returns c = λ l store a. (replay_to l store a, replay_back l store a)
