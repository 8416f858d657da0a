use Rattle.std.proofs.Common.{List, subst, sym}
use Rattle.std.proofs.lemmas.List.{take-append-le}
use Rattle.kv_types.specs.{BatchContent, map_of}
use Rattle.embedded_store.specs.Cursors.{AreNeighbours, cursor_number}
use Rattle.embedded_store.proofs.laws.cursors_outlive_writes.Goals as goal

-- the first batches, so many as its number says, are the same
pub returns : goal.returns
returns c = λ list more cursor within is.
    subst (λ (l : List BatchContent).
    AreNeighbours cursor.is_backward (map_of l) cursor.page.rows)
    (sym (take-append-le (cursor_number cursor) list more within)) is
