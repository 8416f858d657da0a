use Rattle.std.proofs.Common.{◌≡◌, ◌+◌, ℕ, List, [], ◌∷◌, ◌++◌, length, map, sym, ap, refl, ◌∙◌}
use Rattle.std.proofs.Common.{arith, inr, Bool, IsTrue, false, subst}
use Rattle.table_format.specs.CasesLemmas.{is_nothing, not_empty}
use Rattle.table_format.proofs.IndexLoops.{LinesRead, fills_end, has_text, index_spells, is_index}
use Rattle.table_format.proofs.IndexLoops.{line_shorter, lines_all, lines_begin, lines_next}
use Rattle.table_format.proofs.IndexLoops.{next_line, no_line}
use Rattle.table_format.specs.PartsLemmas.{content_fits, text_fits, text_none}
use Rattle.table_format.specs.Blocks.{CanFollow}
use Rattle.table_format.specs.Parts.{IsIndex, end_spot}
use Rattle.table_format.specs.Reading.{lent_line}
use Rattle.table_format.specs.declared.line.IndexLine.{IndexLine}
use Rattle.table_format.proofs.index.lines_of.Goals as goal
use Rattle.table_format.proofs.index.lines_of.Goals.{then-line-place-via-then-line-place}
use Rattle.table_format.proofs.index.lines_of.Goals.{
  then-line-place-via-else-line-place+then-line-end,
}
use Rattle.table_format.proofs.index.lines_of.Goals.{
  then-line-place-via-else-line-place+else-line-end+then-not-rises,
}
use Rattle.table_format.proofs.index.lines_of.Goals.{then-place-end-via-then-place-end}
use Rattle.table_format.proofs.index.lines_of.Goals.{
  then-place-end-via-else-place-end+then-len-count,
}
use Rattle.table_format.proofs.index.lines_of.Goals.{
  then-place-end-via-else-place-end+else-len-count+then-is_empty,
}

off : (r : Bool) → r ≡ false → IsTrue r → ⊥
off r e h = absurd cc

pub returns-in_default-read_u32 : goal.returns-in_default-read_u32
returns-in_default-read_u32 c = inr (
  refl,
  λ all x.
      text_none c.args.part.now c.in-Some.content.now (length all) _ c.in-Some.ensures.sealed
      c.in_default-read_u32.ensures x.spelled x.few,
)

pub loop-rest-init : goal.loop-rest-init
loop-rest-init c =
    subst (λ (l : List IndexLine).
    LinesRead c.args.format c.in-Some-read_u32.text.now c.in-Some-read_u32.text.now l 0 c.args.end)
    (sym c.new-lines.ensures.items)
    (lines_begin c.args.format c.in-Some-read_u32.text.now c.args.end
    (text_fits c.in-Some.content.now _ _
    (content_fits c.args.part.now c.in-Some.content.now
    (λ i. omega (arith, c.type_inv.part i)) c.in-Some.ensures.sealed)
    c.in-Some-read_u32.ensures))

pub returns-in_default-line_of : goal.returns-in_default-line_of
returns-in_default-line_of c = inr (
  refl,
  λ all x.
      let w = index_spells c.args.format c.args.part.now c.in-Some.content.now _ _ c.args.end
      c.in-Some.ensures.sealed c.in-Some-read_u32.ensures all x in
      let rest = c.loop-rest.rest.now in
      let some = not_empty (length rest) c.is_empty.result c.is_empty.ensures c.loop-rest-test.true
      in
      no_line c.args.format c.in-Some-read_u32.text.now rest _ _ c.args.end _ c.args.part.now all
      c.loop-rest.invariant w x some
      c.in_default-line_of.ensures.line,
)

pub overflow_sub-end : goal.overflow_sub-end
overflow_sub-end c = c.loop-rest.invariant.within

pub returns-then-line-place : goal.returns-then-line-place
returns-then-line-place c = inr (
  refl,
  λ all x.
      let w = index_spells c.args.format c.args.part.now c.in-Some.content.now _ _ c.args.end
      c.in-Some.ensures.sealed c.in-Some-read_u32.ensures all x in
      let rest = c.loop-rest.rest.now in
      let some = not_empty (length rest) c.is_empty.result c.is_empty.ensures c.loop-rest-test.true
      in
      let lines = c.loop-rest.lines.items in
      let entry = end_spot (lent_line c.in-Some-line_of.line) in
      let n = next_line c.args.format c.in-Some-read_u32.text.now rest lines _ c.args.end _
      c.args.part.now all
      (lent_line c.in-Some-line_of.line) c.in-Some-line_of.after.now c.loop-rest.invariant w x some
      c.in-Some-line_of.ensures.line in
      let fit = n.1.0 in
      elim c.then-line-place.branch [
        | then-line-place-via-then-line-place v ↦ absurd (v.if-line-place.true n.0)
        | then-line-place-via-else-line-place+then-line-end v ↦ let e = v.if-line-end.true in
            absurd (omega (arith, fit, e))
        | then-line-place-via-else-line-place+else-line-end+then-not-rises v ↦
            off v.rises.result v.if-not-rises.true (v.rises.ensures.1
            (subst (λ (l : List IndexLine). CanFollow (map end_spot l) entry)
            (sym v.deref.ensures.value) n.1.1))
      ],
)

pub loop-rest-smaller : goal.loop-rest-smaller
loop-rest-smaller c =
    line_shorter c.args.format c.loop-rest.rest.now (lent_line c.in-Some-line_of.line)
    c.in-Some-line_of.after.now
    c.loop-rest.invariant.passed.fits c.in-Some-line_of.ensures.line

pub loop-rest-preserved : goal.loop-rest-preserved
loop-rest-preserved c =
    let lines = c.loop-rest.lines.items in
    let line = lent_line c.in-Some-line_of.line in
    let within = c.loop-rest.invariant.within in
    let fits = c.if-line-end.false in
    let more : c.push.new.self.items ≡ lines ++ line ∷ [] =
    c.in_ok-push.ensures.items
    ∙ ap (λ (x : IndexLine). lines ++ x ∷ []) c.in_ok-copied.ensures in
    let follows : CanFollow (map end_spot lines) (end_spot line) =
    subst (λ (l : List IndexLine). CanFollow (map end_spot l) (end_spot line)) c.deref.ensures.value
    (c.rises.ensures.0 c.if-not-rises.false) in
    subst (λ (l : List IndexLine).
    LinesRead c.args.format c.in-Some-read_u32.text.now c.in-Some-line_of.after.now l
    (c.loop-rest.place + line.len) c.args.end)
    (sym more)
    (lines_next c.args.format c.in-Some-read_u32.text.now c.loop-rest.rest.now lines
    c.loop-rest.place c.args.end
    line
    c.in-Some-line_of.after.now c.loop-rest.invariant c.in-Some-line_of.ensures.line
    c.if-line-place.false
    (omega (arith, within, fits)) follows)

pub returns-then-place-end : goal.returns-then-place-end
returns-then-place-end c = inr (
  refl,
  λ all x.
      let w = index_spells c.args.format c.args.part.now c.in-Some.content.now _ _ c.args.end
      c.in-Some.ensures.sealed c.in-Some-read_u32.ensures all x in
      let text = c.in-Some-read_u32.text.now in
      let rest = c.loop-rest.rest.now in
      let none = is_nothing (length rest) c.is_empty.result c.is_empty.ensures
      c.loop-rest-test.false in
      let lines = c.loop-rest.lines.items in
      let all_is : all ≡ lines = lines_all c.args.format text rest lines _ c.args.end _
      c.args.part.now all
      c.loop-rest.invariant w x none in
      let size = w.size in
      elim c.then-place-end.branch [
        | then-place-end-via-then-place-end v ↦ absurd (v.if-place-end.true
            (fills_end 0 lines c.loop-rest.place c.args.end c.loop-rest.invariant.fills
            (subst (λ (l : List IndexLine). IsIndex c.args.format c.args.part.now c.args.end l)
            all_is x).fills))
        | then-place-end-via-else-place-end+then-len-count v ↦
            let told = v.len.ensures in
            let ok = c.loop-rest.lines.ok.0 in
            absurd (v.if-len-count.true (omega (arith, told, ok, size, ap length all_is)))
        | then-place-end-via-else-place-end+else-len-count+then-is_empty v ↦
            let some = has_text c.args.format text _ c.args.part.now c.args.end all w x in
            let empty = is_nothing (length text) v.is_empty-else-len-count.result
            v.is_empty-else-len-count.ensures v.if-is_empty.true in
            absurd (omega (arith, some, empty))
      ],
)

pub returns : goal.returns
returns c =
    let part = c.args.part.now in
    let content = c.in-Some.content.now in
    let is = c.in-Some.ensures.sealed in
    let text = c.in-Some-read_u32.text.now in
    let rest = c.loop-rest.rest.now in
    let none = is_nothing (length rest) c.is_empty.result c.is_empty.ensures c.loop-rest-test.false
    in
    let lines = c.loop-rest.lines.items in (
      is_index c.args.format part content text rest c.in-Some-read_u32.count lines c.args.end is
          (content_fits part content (λ i. omega (arith, c.type_inv.part i)) is)
          c.in-Some-read_u32.ensures
          (subst (λ (p : ℕ). LinesRead c.args.format text rest lines p c.args.end)
          c.if-place-end.false
          c.loop-rest.invariant)
          none
          (let told = c.len.ensures in let ok = c.loop-rest.lines.ok.0 in
          let same = c.if-len-count.false in
          omega (arith, told, ok, same))
          (not_empty (length text) c.is_empty-else-len-count.result
          c.is_empty-else-len-count.ensures c.if-is_empty.false),
      λ all x. lines_all c.args.format text rest lines _ c.args.end _ part all c.loop-rest.invariant
          (index_spells c.args.format part content text _ c.args.end is c.in-Some-read_u32.ensures
          all x) x none,
    )
