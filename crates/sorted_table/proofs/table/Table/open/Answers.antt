use Rattle.std.proofs.Common.{arith}
use Rattle.std.proofs.lemmas.Grind.{common_steps}
use Rattle.std.proofs.Common.{◌≡◌, ℕ, List, ap, sym, subst, take, drop, ◌∙◌, Option, Some, None}
use Rattle.std.proofs.Common.{refl, inr}
use Rattle.std.specs.Rc.{rc_slice_items}
use Rattle.std.proofs.lemmas.Result.{err_from_is_err_and}
use Rattle.std.specs.Prelude.{IsSomeAnd}
use Rattle.disk.specs.{seen}
use Rattle.table_format.specs.{IsFilterPart, IsIndex, TableRepresents}
use Rattle.sorted_table.specs.Tails.{HasReadTail, HasTail, ReadsTail}
use Rattle.sorted_table.proofs.OpenTails.{parts_there, read_there, refused_so, some_both, some_more}
use Rattle.sorted_table.proofs.OpenTails.{in_its_format, tail_format, tail_there}
use Rattle.sorted_table.proofs.TailsLemmas.{only_parts_memory}
use Rattle.sorted_table.proofs.table.Table.open.Goals as goal

some_and : {A : Type 0} (P : A → Type 0) (o : Option A) → IsSomeAnd o P
    → (a : A) × (o ≡ Some a) × P a
some_and P None h = absurd h
some_and P (Some a) h = (a, refl, h)

-- the tail was not read
pub returns-in_err-bytes-clause-opened : goal.returns-in_err-bytes-clause-opened
returns-in_err-bytes-clause-opened g c = λ entries honest has.
    let t = some_and (λ bytes. TableRepresents bytes entries) _ has in
    let why = c.in_err-bytes.ensures.tail t.2.format t.0 entries t.2.table honest t.1 in
    let p = err_from_is_err_and c.from_residual.result c.from_residual.ensures.1 in
    rw (p.1, p.2) why

-- the tail is not one
pub returns-in_err-lines-clause-opened : goal.returns-in_err-lines-clause-opened
returns-in_err-lines-clause-opened g c = λ entries honest has.
    let t = some_and (λ bytes. TableRepresents bytes entries) _ has in
    let tail = c.in_ok-bytes.ensures.tail t.2.format t.0 entries t.2.table honest t.1 in
    let it = in_its_format t.2.format t.0 entries c.in_ok-bytes.bytes.items c.in_ok-bytes.tail
    tail.1.read_in (record { table = t.2.table; part_is = tail.0; is_tail = tail.1 }) in
    let why = c.in_err-lines.ensures.parts t.0 entries it.table
    (c.deref.ensures.value ∙ it.part_is) it.is_tail in
    let p = err_from_is_err_and c.from_residual-in_err-lines.result
    c.from_residual-in_err-lines.ensures.1 in
    rw (p.1, p.2) (inr why)

pub returns-clause-opened : goal.returns-clause-opened
returns-clause-opened g c = λ entries honest has.
    let t = some_and (λ bytes. TableRepresents bytes entries) _ has in
    let tail = c.in_ok-bytes.ensures.tail t.2.format t.0 entries t.2.table honest t.1 in
    let it = in_its_format t.2.format t.0 entries c.in_ok-bytes.bytes.items c.in_ok-bytes.tail
    tail.1.read_in (record { table = t.2.table; part_is = tail.0; is_tail = tail.1 }) in
    let parts = c.in_ok-lines.ensures.parts t.0 entries it.table
    (c.deref.ensures.value ∙ it.part_is) it.is_tail in
    record {
      bytes = t.0;
      present = ap seen (c.read_tail.ensures.device.kept.files honest c.args.file) ∙ t.1;
      represents = it.table;
      lines = parts.0;
      filter = parts.1;
    }

-- filter and lines are those of the file's tail
pub returns-clause-checked : goal.returns-clause-checked
returns-clause-checked g c = λ honest.
    let old = g.D.Disk.state c.args.disk.now c.args.file in
    let lines = rc_slice_items c.in_ok-lines.lines in
    let part = c.in_ok-bytes.bytes.items in
    let tail = c.in_ok-bytes.tail in
    let there = c.in_ok-bytes.ensures.there honest in
    let checked = c.in_ok-lines.ensures.checked in
    let is = c.deref.ensures.value in (
      subst (λ (file : Option (List ℕ)).
          IsSomeAnd file (λ bytes. HasTail tail.format bytes lines c.in_ok-lines.filter.items))
          (sym (ap seen (c.read_tail.ensures.device.kept.files honest c.args.file)))
          (some_more (ReadsTail part tail) _ (seen old) there (λ bytes read.
          tail_there bytes part c.in_ok-lines.filter.items tail lines read
          (subst (λ (b : List ℕ).
          IsFilterPart (take tail.filter_len b) c.in_ok-lines.filter.items) is checked.0)
          (subst (λ (b : List ℕ). IsIndex tail.format (drop tail.filter_len b) tail.place lines)
          is checked.1))),
      λ format others filter has.
          let it = some_both (ReadsTail part tail) _ (seen old) there has in
          let both = parts_there format it.0 others filter it.2 part tail it.1 in (
            sym (tail_format format it.0 others filter it.2 part tail it.1),
            checked.2 others (subst (λ (b : List ℕ).
                IsIndex tail.format (drop tail.filter_len b) tail.place others) (sym is) both.1),
          ),
    )

-- a file that a table can be open on is refused only by the environment
pub returns-in_err-bytes-clause-checked : goal.returns-in_err-bytes-clause-checked
returns-in_err-bytes-clause-checked g c = λ honest.
    let slot = g.D.Disk.state c.args.disk.now c.args.file in
    refused_so c.from_residual.result _ _ c.from_residual.ensures.1
    (λ can. c.in_err-bytes.ensures.there honest (some_more _ HasReadTail (seen slot) can
    (λ bytes it. read_there it.0 bytes it.1 it.2 it.3)))

pub returns-in_err-lines-clause-checked : goal.returns-in_err-lines-clause-checked
returns-in_err-lines-clause-checked g c = λ honest.
    let slot = g.D.Disk.state c.args.disk.now c.args.file in
    let part = c.in_ok-bytes.bytes.items in
    let tail = c.in_ok-bytes.tail in
    let is = c.deref.ensures.value in
    refused_so c.from_residual-in_err-lines.result _ _ c.from_residual-in_err-lines.ensures.1
    (λ can.
    let it = some_both (ReadsTail part tail) _ (seen slot) (c.in_ok-bytes.ensures.there honest)
    can in
    let both = parts_there it.2.0 it.0 it.2.1 it.2.2 it.2.3 part tail it.1 in
    inr (only_parts_memory tail.format c.in_err-lines.field-0.0 _ _ tail.place it.2.2 it.2.1
    c.in_err-lines.ensures.checked
    (subst (λ (b : List ℕ). IsFilterPart (take tail.filter_len b) it.2.2) (sym is) both.0)
    (subst (λ (b : List ℕ). IsIndex tail.format (drop tail.filter_len b) tail.place it.2.1)
    (sym is) both.1)))

pub returns-in_err-bytes-clause-kept : goal.returns-in_err-bytes-clause-kept
returns-in_err-bytes-clause-kept g c = grind (arith, common_steps)

pub returns-in_err-bytes-clause-at : goal.returns-in_err-bytes-clause-at
returns-in_err-bytes-clause-at g c = grind (arith, common_steps)

pub returns-in_err-bytes-clause-still : goal.returns-in_err-bytes-clause-still
returns-in_err-bytes-clause-still g c = grind (arith, common_steps)

pub returns-in_err-bytes-clause-calls : goal.returns-in_err-bytes-clause-calls
returns-in_err-bytes-clause-calls g c = grind (arith, common_steps)

pub returns-in_err-lines-clause-kept : goal.returns-in_err-lines-clause-kept
returns-in_err-lines-clause-kept g c = grind (arith, common_steps)

pub returns-in_err-lines-clause-at : goal.returns-in_err-lines-clause-at
returns-in_err-lines-clause-at g c = grind (arith, common_steps)

pub returns-in_err-lines-clause-still : goal.returns-in_err-lines-clause-still
returns-in_err-lines-clause-still g c = grind (arith, common_steps)

pub returns-in_err-lines-clause-calls : goal.returns-in_err-lines-clause-calls
returns-in_err-lines-clause-calls g c = grind (arith, common_steps)

pub returns-clause-kept : goal.returns-clause-kept
returns-clause-kept g c = grind (arith, common_steps)

pub returns-clause-at : goal.returns-clause-at
returns-clause-at g c = grind (arith, common_steps)

pub returns-clause-still : goal.returns-clause-still
returns-clause-still g c = grind (arith, common_steps)

pub returns-clause-calls : goal.returns-clause-calls
returns-clause-calls g c = grind (arith, common_steps)
