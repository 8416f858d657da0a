use Rattle.std.proofs.Common.{◌≡◌, ℕ, List, take, drop, refl, sym, ap, subst, ◌∙◌, inr, rules}
use Rattle.std.proofs.lemmas.List.{take_at, drop_at}
use Rattle.std.proofs.lemmas.Result.{err_from_is_err_and}
use Rattle.table_format.specs.{IsFilterPart, IsIndex, block_lines, filter_part, index_part}
use Rattle.table_format.specs.declared.IndexLine.{IndexLine}
use Rattle.sorted_table.proofs.OpenTails.{refused_so}
use Rattle.sorted_table.proofs.TailsLemmas.{damaged_parts, filter_here, index_here, only_memory}
use Rattle.sorted_table.proofs.tail.parts_of.Goals as goal

pub returns-in_err-lines-clause-parts : goal.returns-in_err-lines-clause-parts
returns-in_err-lines-clause-parts c = λ all entries s is t.
    let len = c.args.tail.filter_len in
    let format = c.args.tail.format in
    let lines = block_lines format 0 s.blocks in
    let back : c.split_at.result.1.now ≡ index_part format lines =
    c.split_at.ensures.back ∙ ap (drop len) is
    ∙ drop_at (filter_part s.filter) (index_part format lines) len (sym t.filter_len) in
    let why = only_memory format c.in_err-lines.field-0.0 c.split_at.result.1.now c.args.tail.place
    lines
    c.in_err-lines.ensures
    (index_here format all entries s c.split_at.result.1.now c.args.tail.place back t.place) in
    let p = err_from_is_err_and c.from_residual.result c.from_residual.ensures.1 in
    rw (p.1, p.2) why

pub returns-clause-parts : goal.returns-clause-parts
returns-clause-parts c = λ all entries s is t.
    let len = c.args.tail.filter_len in
    let format = c.args.tail.format in
    let lines = block_lines format 0 s.blocks in
    let front : c.split_at.result.0.now ≡ filter_part s.filter =
    c.split_at.ensures.front ∙ ap (take len) is
    ∙ take_at (filter_part s.filter) (index_part format lines) len (sym t.filter_len) in
    let back : c.split_at.result.1.now ≡ index_part format lines =
    c.split_at.ensures.back ∙ ap (drop len) is
    ∙ drop_at (filter_part s.filter) (index_part format lines) len (sym t.filter_len) in
    let filter : s.filter ≡ c.in-Some.filter.now =
    c.in-Some.ensures.1 s.filter (filter_here format all entries s c.split_at.result.0.now front) in
    let copied : c.in_ok-from_slice.field-0.items ≡ c.in-Some.filter.now = search rules in (
      c.in_ok-lines-2.ensures ∙ sym (c.in_ok-lines.ensures.1 lines
          (index_here format all entries s c.split_at.result.1.now c.args.tail.place back t.place)),
      copied ∙ sym filter,
    )

-- filter and lines were checked
pub returns-clause-checked : goal.returns-clause-checked
returns-clause-checked c =
    let len = c.args.tail.filter_len in
    let copied : c.in_ok-from_slice.field-0.items ≡ c.in-Some.filter.now = search rules in (
      subst (λ (f : List ℕ). IsFilterPart (take len c.args.bytes.now) f) (sym copied)
          (subst (λ (p : List ℕ). IsFilterPart p c.in-Some.filter.now) c.split_at.ensures.front
          c.in-Some.ensures.0),
      subst (λ (l : List IndexLine). IsIndex c.args.tail.format (drop len c.args.bytes.now)
          c.args.tail.place l)
          (sym c.in_ok-lines-2.ensures)
          (subst (λ (p : List ℕ). IsIndex c.args.tail.format p c.args.tail.place
          c.in_ok-lines.lines.items)
          c.split_at.ensures.back c.in_ok-lines.ensures.0),
      λ lines is. c.in_ok-lines.ensures.1 lines
          (subst (λ (p : List ℕ). IsIndex c.args.tail.format p c.args.tail.place lines)
          (sym c.split_at.ensures.back) is) ∙ sym c.in_ok-lines-2.ensures,
    )

-- a filter that is damaged is no filter
pub returns-in_default-clause-checked : goal.returns-in_default-clause-checked
returns-in_default-clause-checked c = inr (
  refl,
  λ filter lines is_filter is_index.
      c.in_default.ensures filter
      (subst (λ (p : List ℕ). IsFilterPart p filter) (sym c.split_at.ensures.front) is_filter),
)

pub returns-in_err-lines-clause-checked : goal.returns-in_err-lines-clause-checked
returns-in_err-lines-clause-checked c =
    refused_so c.from_residual.result _ _ c.from_residual.ensures.1
    (damaged_parts c.args.tail.format c.in_err-lines.field-0.0 _ _ c.split_at.result.1.now
    c.args.tail.place
    c.split_at.ensures.back c.in_err-lines.ensures)
