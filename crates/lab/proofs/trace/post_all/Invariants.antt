use Rattle.std.proofs.Common.{◌≡◌, ◌++◌, length, take, drop}
use Rattle.lab.specs.OutcomeLines.{sent_lines}
use Rattle.lab.specs.Posting.{HasPosted}
use Rattle.lab.proofs.trace.post_all.Given as goal

-- the frames so far are posted, and their lines with those of the rest are all
abbrev pub invariant-loop-it : goal.invariant-loop-it
invariant-loop-it l = record {
  kept : HasPosted l.fn.frames.items l.from (take l.it-index l.sent) l.frames.items;
  traced : l.lines ++ sent_lines (length l.frames.items) (drop l.it-index l.sent)
      ≡ l.fn.lines ++ sent_lines (length l.fn.frames.items) l.sent;
}
