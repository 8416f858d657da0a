use Rattle.std.proofs.Common.{◌+◌, ◌++◌, ◌∷◌, [], inl, refl, arith}
use Rattle.scripts.specs.declared.extent.Extent.{Extent}
use Rattle.scripts.proofs.Beginnings.{faulty_begins, line_more, passed_begins, passes_at, too_many}
use Rattle.scripts.proofs.extent.Extent.after_line.Goals as goal

-- a line too long
pub returns-in_err-extent-clause-extent : goal.returns-in_err-extent-clause-extent
returns-in_err-extent-clause-extent c = λ text has.
    rw c.from_residual.ensures
    (faulty_begins _ (text ++ c.args.part.now) (10 ∷ []) refl
    (c.in_err-extent.ensures.extent text has))

pub returns-in_err-extent-clause-refused : goal.returns-in_err-extent-clause-refused
returns-in_err-extent-clause-refused c = λ text has none.
    passed_begins _ (text ++ c.args.part.now) (10 ∷ []) refl
    (c.in_err-extent.ensures.refused text has refl)

-- one line too many
pub returns-then-extent-ge-LINES-clause-extent : goal.returns-then-extent-ge-LINES-clause-extent
returns-then-extent-ge-LINES-clause-extent c = λ text has.
    let extent = c.in_ok-extent.extent in
    let many : Extent = record { lines = extent.lines + 1; line = 0 } in
    too_many _ many (line_more (text ++ c.args.part.now) extent many refl refl
    (c.in_ok-extent.ensures.extent text has)) (omega (arith, c.if-extent-ge-LINES.true))

pub returns-then-extent-ge-LINES-clause-refused : goal.returns-then-extent-ge-LINES-clause-refused
returns-then-extent-ge-LINES-clause-refused c = λ text has none.
    let extent = c.in_ok-extent.extent in
    let many : Extent = record { lines = extent.lines + 1; line = 0 } in
    passes_at _ many (line_more (text ++ c.args.part.now) extent many refl refl
    (c.in_ok-extent.ensures.extent text has)) (inl (omega (arith, c.if-extent-ge-LINES.true)))

pub returns-clause-extent : goal.returns-clause-extent
returns-clause-extent c = λ text has.
    line_more (text ++ c.args.part.now) c.in_ok-extent.extent _ refl refl
    (c.in_ok-extent.ensures.extent text has)
