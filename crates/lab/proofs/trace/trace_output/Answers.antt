use Rattle.std.proofs.Common.{arith}
use Rattle.std.proofs.lemmas.Grind.{common_steps}
use Rattle.std.proofs.Common.{ℕ, List, [], append-nil, rules, subst, sym}
use Rattle.lab.specs.declared.delivery.Posted.{Posted}
use Rattle.chain_core.specs.declared.Sent.{Sent}
use Rattle.lab.specs.Posting.{HasPosted, HasPostedPart}
use Rattle.lab.proofs.AnyWorlds.{posted_whole}
use Rattle.lab.proofs.LinesSoFarLemmas.{on_err}
use Rattle.lab.proofs.trace.trace_output.Goals as goal

-- no frame is posted yet
posted_none : (x : ℕ) (old : List Posted) (sent : List Sent) → HasPostedPart old x sent old
posted_none x old sent = (
  0,
  record { more = []; whole = sym (append-nil old); each = search rules },
)

pub returns-in_err-trace_drop-clause-refused : goal.returns-in_err-trace_drop-clause-refused
returns-in_err-trace_drop-clause-refused g c = on_err c.from_residual.result
    (posted_none c.args.id c.args.frames.now.items c.args.output.frames)

pub returns-in_err-trace_adoption-clause-refused :
    goal.returns-in_err-trace_adoption-clause-refused
returns-in_err-trace_adoption-clause-refused g c =
    on_err c.from_residual-in_err-trace_adoption.result
    (posted_none c.args.id c.args.frames.now.items c.args.output.frames)

-- all frames are posted before the replies are carried
pub returns-in_err-carry_replies-clause-refused : goal.returns-in_err-carry_replies-clause-refused
returns-in_err-carry_replies-clause-refused g c =
    on_err c.from_residual-in_err-carry_replies.result (posted_whole c.args.id
    c.args.frames.now.items c.post_all.new.frames.items c.args.output.frames
    (subst (λ (sent : List Sent). HasPosted c.args.frames.now.items c.args.id sent
    c.post_all.new.frames.items) c.deref.ensures c.in_ok-post_all.ensures.posted))

pub returns-in_err-trace_drop-clause-faithful : goal.returns-in_err-trace_drop-clause-faithful
returns-in_err-trace_drop-clause-faithful g c = grind (arith, common_steps)

pub returns-in_err-trace_drop-clause-posted : goal.returns-in_err-trace_drop-clause-posted
returns-in_err-trace_drop-clause-posted g c = grind (arith, common_steps)

pub returns-in_err-trace_drop-clause-lines : goal.returns-in_err-trace_drop-clause-lines
returns-in_err-trace_drop-clause-lines g c = grind (arith, common_steps)

pub returns-in_err-trace_adoption-clause-faithful :
    goal.returns-in_err-trace_adoption-clause-faithful
returns-in_err-trace_adoption-clause-faithful g c = grind (arith, common_steps)

pub returns-in_err-trace_adoption-clause-posted : goal.returns-in_err-trace_adoption-clause-posted
returns-in_err-trace_adoption-clause-posted g c = grind (arith, common_steps)

pub returns-in_err-trace_adoption-clause-lines : goal.returns-in_err-trace_adoption-clause-lines
returns-in_err-trace_adoption-clause-lines g c = grind (arith, common_steps)

pub returns-in_err-post_all-clause-faithful : goal.returns-in_err-post_all-clause-faithful
returns-in_err-post_all-clause-faithful g c = grind (arith, common_steps)

pub returns-in_err-post_all-clause-posted : goal.returns-in_err-post_all-clause-posted
returns-in_err-post_all-clause-posted g c = grind (arith, common_steps)

pub returns-in_err-post_all-clause-lines : goal.returns-in_err-post_all-clause-lines
returns-in_err-post_all-clause-lines g c = grind (arith, common_steps)

pub returns-in_err-post_all-clause-refused : goal.returns-in_err-post_all-clause-refused
returns-in_err-post_all-clause-refused g c = grind (arith, common_steps)

pub returns-in_err-carry_replies-clause-faithful : goal.returns-in_err-carry_replies-clause-faithful
returns-in_err-carry_replies-clause-faithful g c = grind (arith, common_steps)

pub returns-in_err-carry_replies-clause-posted : goal.returns-in_err-carry_replies-clause-posted
returns-in_err-carry_replies-clause-posted g c = grind (arith, common_steps)

pub returns-in_err-carry_replies-clause-lines : goal.returns-in_err-carry_replies-clause-lines
returns-in_err-carry_replies-clause-lines g c = grind (arith, common_steps)

pub returns-clause-faithful : goal.returns-clause-faithful
returns-clause-faithful g c = grind (arith, common_steps)

pub returns-clause-posted : goal.returns-clause-posted
returns-clause-posted g c = grind (arith, common_steps)

pub returns-clause-lines : goal.returns-clause-lines
returns-clause-lines g c = grind (arith, common_steps)

pub returns-clause-refused : goal.returns-clause-refused
returns-clause-refused g c = grind (arith, common_steps)
