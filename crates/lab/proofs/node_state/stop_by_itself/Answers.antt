use Rattle.std.proofs.Common.{◌≡◌, ap, rules, subst}
use Rattle.lab.specs.declared.input.StepOutcome.TheVariants as done
use Rattle.lab.specs.Disks.{junk_at_end}
use Rattle.lab.specs.Events.{line_cause}
use Rattle.lab.specs.Stops.{IsDownAfter}
use Rattle.lab.proofs.node_state.stop_by_itself.Goals as goal
use Rattle.lab.proofs.node_state.stop_by_itself.Goals.{in-Stop, in_default+in-Stop+in-Bytes-1}
use Rattle.lab.proofs.node_state.stop_by_itself.Goals.{in_default+in-Stop+in-Old-1}
use Rattle.lab.proofs.node_state.stop_by_itself.Goals.{in_default+in-None-1}
use Rattle.lab.proofs.node_state.stop_by_itself.Goals.{in_default-via-in-Stop+else-has_struck}
use Rattle.lab.proofs.node_state.stop_by_itself.Goals.{in_default-via-in-None-1}

pub returns : goal.returns
returns g c =
    let struck = c.has_struck-has_struck.result in
    let junk : c.match-fault.junk.0 ≡ junk_at_end c.args.fault struck =
    elim c.match-fault.branch [
      | in-Stop w ↦ search rules
      | in_default+in-Stop+in-Bytes-1 w ↦ elim w.in_default-1.branch [
        | in_default-via-in-Stop+else-has_struck v ↦ search rules
        | in_default-via-in-None-1 v ↦ search rules
      ]
      | in_default+in-Stop+in-Old-1 w ↦ elim w.in_default-1.branch [
        | in_default-via-in-Stop+else-has_struck v ↦ search rules
        | in_default-via-in-None-1 v ↦ search rules
      ]
      | in_default+in-None-1 w ↦ elim w.in_default-1.branch [
        | in_default-via-in-Stop+else-has_struck v ↦ search rules
        | in_default-via-in-None-1 v ↦ search rules
      ]
    ] in
    let cause : c.match-fault.junk.1 ≡ line_cause c.args.fault struck c.args.stop =
    elim c.match-fault.branch [
      | in-Stop w ↦ search rules
      | in_default+in-Stop+in-Bytes-1 w ↦ elim w.in_default-1.branch [
        | in_default-via-in-Stop+else-has_struck v ↦ search rules
        | in_default-via-in-None-1 v ↦ search rules
      ]
      | in_default+in-Stop+in-Old-1 w ↦ elim w.in_default-1.branch [
        | in_default-via-in-Stop+else-has_struck v ↦ search rules
        | in_default-via-in-None-1 v ↦ search rules
      ]
      | in_default+in-None-1 w ↦ elim w.in_default-1.branch [
        | in_default-via-in-Stop+else-has_struck v ↦ search rules
        | in_default-via-in-None-1 v ↦ search rules
      ]
    ] in
    record {
      struck = struck;
      strikes = c.has_struck-has_struck.ensures.struck;
      told = ap done.Stopped cause;
      down = subst (λ j. IsDownAfter g.D.Disk c.args.disk j c.in_ok-state.state) junk
          c.in_ok-state.ensures;
      last = c.has_struck-has_struck.ensures.last;
    }
