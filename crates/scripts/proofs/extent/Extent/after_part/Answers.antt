use Rattle.std.proofs.Common.{◌+◌, length, inr, refl}
use Rattle.scripts.specs.declared.extent.Extent.{Extent}
use Rattle.scripts.proofs.Beginnings.{over_line, part_more, passes_at, too_long, within_line}
use Rattle.scripts.proofs.extent.Extent.after_part.Goals as goal

-- a line too long
pub returns-then-line-gt-LINE-clause-extent : goal.returns-then-line-gt-LINE-clause-extent
returns-then-line-gt-LINE-clause-extent c = λ text has.
    let self = c.args.self in let part = c.args.part.now in
    let long : Extent = record { lines = self.lines; line = self.line + length part } in
    too_long _ long (part_more text part self long c.requires refl refl has)
    (over_line _ _ c.saturating_add-line.ensures c.if-line-gt-LINE.true)

pub returns-then-line-gt-LINE-clause-refused : goal.returns-then-line-gt-LINE-clause-refused
returns-then-line-gt-LINE-clause-refused c = λ text has none.
    let self = c.args.self in let part = c.args.part.now in
    let long : Extent = record { lines = self.lines; line = self.line + length part } in
    passes_at _ long (part_more text part self long c.requires refl refl has)
    (inr (over_line _ _ c.saturating_add-line.ensures c.if-line-gt-LINE.true))

pub returns-clause-extent : goal.returns-clause-extent
returns-clause-extent c = λ text has.
    part_more text c.args.part.now c.args.self _ c.requires refl
    (within_line _ _ c.saturating_add-line.ensures c.if-line-gt-LINE.false) has
