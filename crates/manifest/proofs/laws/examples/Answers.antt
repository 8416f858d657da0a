use Rattle.std.proofs.Common.{◌≡◌, ℕ, List, ap, arith, get_or, refl}
use Rattle.version_edits.specs.Edits.{table_line_bytes, change_text_in}
use Rattle.manifest.proofs.laws.examples.Goals as goal

pub returns-clause-slot : goal.returns-clause-slot
unfolding change_text_in
returns-clause-slot c = refl

-- at place 9 is the id, and in format 2 there is 0
pub returns-clause-old : goal.returns-clause-old
returns-clause-old c = (
  ((omega arith, omega arith), refl),
  λ generation id records is.
      let place : 1 ≡ 0 = ap (λ (l : List ℕ). get_or l 10 0) is.head in omega (arith, place),
)

pub returns-clause-table : goal.returns-clause-table
unfolding table_line_bytes
returns-clause-table c = (refl, refl, refl)
