use Rattle.std.proofs.Common.{◌++◌, ◌∷◌, [], refl}
use Rattle.scripts.proofs.Beginnings.{faulty_begins, passed_begins, read_on}
use Rattle.scripts.proofs.extent.Extent.after.Goals as goal

pub loop-part-preserved : goal.loop-part-preserved
loop-part-preserved c = (
  λ text has.
      let so = c.loop-part.invariant.0 text has in (
        (so.0 ++ c.in-Some.part.now) ++ 10 ∷ [],
        read_on _ so.0 _ _ _ so.1 c.in-Some.ensures.1,
        c.in_ok-extent.ensures.extent so.0 so.2,
      ),
  λ within. c.in_ok-extent.ensures.within (c.loop-part.invariant.1 within),
)

-- the limit is passed at the end of a line
pub returns-in_err-extent-clause-extent : goal.returns-in_err-extent-clause-extent
returns-in_err-extent-clause-extent c = λ text has.
    let so = c.loop-part.invariant.0 text has in
    rw c.from_residual.ensures
    (faulty_begins _ ((so.0 ++ c.in-Some.part.now) ++ 10 ∷ []) c.in-Some.behind.now
    (read_on _ so.0 _ _ _ so.1 c.in-Some.ensures.1)
    (c.in_err-extent.ensures.extent so.0 so.2))

pub returns-in_err-extent-clause-refused : goal.returns-in_err-extent-clause-refused
returns-in_err-extent-clause-refused c = λ text has none.
    let so = c.loop-part.invariant.0 text has in
    passed_begins _ ((so.0 ++ c.in-Some.part.now) ++ 10 ∷ []) c.in-Some.behind.now
    (read_on _ so.0 _ _ _ so.1 c.in-Some.ensures.1)
    (c.in_err-extent.ensures.refused so.0 so.2 refl)

-- .. or behind the last of them
pub returns-clause-extent : goal.returns-clause-extent
returns-clause-extent c = λ text has.
    let so = c.loop-part.invariant.0 text has in
    rw so.1 (c.after_part.ensures.extent so.0 so.2)

pub returns-clause-refused : goal.returns-clause-refused
returns-clause-refused c = λ text has none.
    let so = c.loop-part.invariant.0 text has in
    rw so.1 (c.after_part.ensures.refused so.0 so.2 none)
