use Rattle.std.proofs.Common.{arith}
use Rattle.manifest.proofs.Heads.{new_head, old_head}
use Rattle.manifest.proofs.head.open_head.Goals as goal

-- in the place of format 1's id is one
pub returns-then-old_id-ne0 : goal.returns-then-old_id-ne0
returns-then-old_id-ne0 c =
    old_head c.args.behind.now c.in_ok-generation.behind.now c.in_ok-old_id.behind.now
    c.in_ok-generation.generation c.in_ok-old_id.old_id (λ i. omega (arith, c.type_inv.behind i))
    c.in_ok-generation.ensures c.in_ok-old_id.ensures c.if-old_id-ne0.true

-- or 0, and the id is behind it
pub returns : goal.returns
returns c =
    new_head c.args.behind.now c.in_ok-generation.behind.now c.in_ok-old_id.behind.now
    c.in_ok-generation.generation c.in_ok-old_id.old_id (λ i. omega (arith, c.type_inv.behind i))
    c.in_ok-generation.ensures c.in_ok-old_id.ensures c.if-old_id-ne0.false
    c.in_ok-id.id c.in_ok-id._log.now c.in_ok-id.ensures
