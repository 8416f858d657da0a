use Rattle.std.proofs.Common.{◌≡◌, map, take}
use Rattle.node.specs.Outputs.{committed_reply}
use Rattle.node.proofs.replying.replies_to.Given as goal

-- the requests that the loop has passed
abbrev pub invariant-loop-it : goal.invariant-loop-it
invariant-loop-it l = l.replies ≡ map committed_reply (take l.it-index l.due)
