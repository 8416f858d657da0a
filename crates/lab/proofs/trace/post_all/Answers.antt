use Rattle.std.proofs.Common.{ap, ◌∙◌, ◌+◌, ◌++◌, List, length, drop}
use Rattle.lab.specs.declared.report.Line.{Line}
use Rattle.lab.specs.OutcomeLines.{sent_lines}
use Rattle.lab.proofs.Posting.{posted_next, trace_next}
use Rattle.lab.proofs.trace.post_all.Goals as goal

-- one frame more
pub loop-it-preserved : goal.loop-it-preserved
loop-it-preserved c =
    let at = c.loop-it in
    let i = at.it-index in
    let x = c.it-item.result in
    let sent = c.args.sent.now in
    let kept = c.in_ok-post.ensures.posted in
    let within = c.loop-it-test.true in
    record {
      kept = posted_next c.args.from c.args.frames.now.items at.frames.items
          c.post.new.frames.items sent i x within c.it-item.is at.invariant.kept kept;
      traced = ap (λ (l : List Line). l ++ sent_lines (length c.post.new.frames.items)
          (drop (i + 1) sent)) c.in_ok-post.ensures.lines
          ∙ trace_next c.args.from at.frames.items c.post.new.frames.items sent i x at.lines
          within c.it-item.is kept ∙ at.invariant.traced;
    }
