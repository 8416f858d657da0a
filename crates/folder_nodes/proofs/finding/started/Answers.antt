use Rattle.disk.specs.KeepingLemmas.{kept_as}
use Rattle.folder_nodes.proofs.FindingLemmas.{device_stopped, env_stopped}
use Rattle.folder_nodes.specs.Finding.{StartFailure}
use Rattle.std.proofs.Common.{inl, inr, subst, sym}
use Rattle.disk.specs.{contents}
use Rattle.folder_nodes.proofs.finding.started.Goals as goal

pub returns-in-Err-clause-kept : goal.returns-in-Err-clause-kept
returns-in-Err-clause-kept g c =
    kept_as g.D.Disk (device_stopped c.in-Err.stop c.from.result c.from.ensures) (λ a b owned. tt)
    c.in-Err.ensures.kept

pub returns-in-Err-clause-started : goal.returns-in-Err-clause-started
returns-in-Err-clause-started g c = λ x n honest read.
    env_stopped c.in-Err.stop c.from.result c.from.ensures
    (c.in-Err.ensures.started x n honest read)

pub returns-in-Err-clause-told : goal.returns-in-Err-clause-told
returns-in-Err-clause-told g c = λ honest.
    subst (StartFailure (contents (g.D.Disk.state c.args.disk))) (sym c.from.ensures)
    (c.in-Err.ensures.told honest)

pub returns-in-Err-clause-still : goal.returns-in-Err-clause-still
returns-in-Err-clause-still g c = record {
  shut = λ why. c.in-Err.ensures.still.shut (elim why [
    | inl none ↦ inl none
    | inr other ↦ inr (λ machine.
        other (env_stopped c.in-Err.stop c.from.result c.from.ensures machine))
  ]);
  named = c.in-Err.ensures.still.named;
}
