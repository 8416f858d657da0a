use Rattle.disk.proofs.Outcomes.{is_unsynced_is, is_is_unsynced}
use Rattle.disk.proofs.laws.unsynced_by_test.Goals as goal

-- both directions, by the list of writes and cuts
pub returns : goal.returns
returns c = λ end touches place.
    (is_unsynced_is end touches place, is_is_unsynced end touches place)
