use Rattle.std.proofs.Common.{ℕ, List, ap, subst, ◌∙◌, arith, rules}
use Rattle.std.proofs.lemmas.Result.{err_from_is_err_and}
use Rattle.disk.specs.StillLemmas.{still_more}
use Rattle.disk.specs.{seen}
use Rattle.sorted_table.proofs.TailsLemmas.{long_enough, tail_at, tail_within}
use Rattle.sorted_table.specs.Tails.{FooterSays, HasReadTail, ReadsTail}
use Rattle.sorted_table.proofs.OpenTails.{refused_so, says_by, some_and, some_one}
use Rattle.sorted_table.proofs.tail.read_tail.Goals as goal

-- the footer was not read
pub returns-in_err-footer-clause-tail : goal.returns-in_err-footer-clause-tail
returns-in_err-footer-clause-tail g c = λ format bytes entries s honest there.
    let long = long_enough format bytes entries s in
    let why = c.in_err-footer.ensures.footer bytes honest there (omega (arith, long)) in
    let p = err_from_is_err_and c.from_residual.result c.from_residual.ensures.1 in
    rw (p.1, p.2) why

-- a footer of a table is one
pub returns-in_default-clause-tail : goal.returns-in_default-clause-tail
returns-in_default-clause-tail g c = λ format bytes entries s honest there.
    let long = long_enough format bytes entries s in
    let foot = c.in_ok-footer.ensures.footer bytes honest there in
    absurd (c.in_default.ensures.tail format bytes entries s foot.0 foot.1)

-- the tail was not read
pub returns-in_err-bytes-clause-tail : goal.returns-in_err-bytes-clause-tail
returns-in_err-bytes-clause-tail g c = λ format bytes entries s honest there.
    let long = long_enough format bytes entries s in
    let foot = c.in_ok-footer.ensures.footer bytes honest there in
    let tail = c.in-Some.ensures.tail format bytes entries s foot.0 foot.1 in
    let there' = ap seen (c.read_footer.ensures.device.kept.files honest c.args.file) ∙ there in
    let why = c.in_err-bytes.ensures.read bytes
    (c.read_footer.ensures.device.kept.honest.1 honest) there'
    (tail_within format bytes entries s c.in-Some.tail tail) in
    let p = err_from_is_err_and c.from_residual-in_err-bytes.result
    c.from_residual-in_err-bytes.ensures.1 in
    rw (p.1, p.2) why

pub returns-clause-tail : goal.returns-clause-tail
returns-clause-tail g c = λ format bytes entries s honest there.
    let long = long_enough format bytes entries s in
    let foot = c.in_ok-footer.ensures.footer bytes honest there in
    let tail = c.in-Some.ensures.tail format bytes entries s foot.0 foot.1 in
    let there' = ap seen (c.read_footer.ensures.device.kept.files honest c.args.file) ∙ there in
    let read = c.in_ok-bytes.ensures.read bytes
    (c.read_footer.ensures.device.kept.honest.1 honest) there' in
    (read ∙ tail_at format bytes entries s c.in-Some.tail tail, tail)

pub returns-in_err-bytes-clause-device : goal.returns-in_err-bytes-clause-device
returns-in_err-bytes-clause-device g c = record {
  kept = search rules;
  still = λ honest.
      still_more (c.read_footer.ensures.device.still honest)
      (c.read_part.ensures.device.still (c.read_footer.ensures.device.kept.honest.1 honest));
}

pub returns-clause-device : goal.returns-clause-device
returns-clause-device g c = record {
  kept = search rules;
  still = λ honest.
      still_more (c.read_footer.ensures.device.still honest)
      (c.read_part.ensures.device.still (c.read_footer.ensures.device.kept.honest.1 honest));
}

-- the footer says where the content stands that was read
pub returns-clause-there : goal.returns-clause-there
returns-clause-there g c = λ honest.
    let slot = g.D.Disk.state c.args.disk.now c.args.file in
    some_and (ReadsTail c.in_ok-bytes.bytes.items c.in-Some.tail) (seen slot)
    (c.in_ok-footer.ensures.present honest) (λ bytes there.
    let foot = c.in_ok-footer.ensures.footer bytes honest there in
    let there' = ap seen (c.read_footer.ensures.device.kept.files honest c.args.file) ∙ there in
    record {
      end = c.in_ok-footer.end;
      len = foot.0;
      says = subst (λ (p : List ℕ). FooterSays p c.in_ok-footer.end c.in-Some.tail) foot.1
          c.in-Some.ensures.says;
      content = c.in_ok-bytes.ensures.read bytes
          (c.read_footer.ensures.device.kept.honest.1 honest) there';
    })

-- a tail that the footer says where to find is read
pub returns-in_err-footer-clause-there : goal.returns-in_err-footer-clause-there
returns-in_err-footer-clause-there g c = λ honest.
    refused_so c.from_residual.result _ _ c.from_residual.ensures.1 (λ has.
    let it = some_one HasReadTail (seen (g.D.Disk.state c.args.disk.now c.args.file)) has in
    let len = it.2.2.len in
    c.in_err-footer.ensures.footer it.0 honest it.1 (omega (arith, len)))

pub returns-in_default-clause-there : goal.returns-in_default-clause-there
returns-in_default-clause-there g c = λ honest has.
    let it = some_one HasReadTail (seen (g.D.Disk.state c.args.disk.now c.args.file)) has in
    let foot = c.in_ok-footer.ensures.footer it.0 honest it.1 in
    absurd (c.in_default.ensures.says it.2.1 (says_by it.0 c.in_ok-footer.footer
    c.in_ok-footer.end foot.0 foot.1 it.2.0 it.2.1 it.2.2))

pub returns-in_err-bytes-clause-there : goal.returns-in_err-bytes-clause-there
returns-in_err-bytes-clause-there g c = λ honest.
    refused_so c.from_residual-in_err-bytes.result _ _ c.from_residual-in_err-bytes.ensures.1
    (λ has.
    let it = some_one HasReadTail (seen (g.D.Disk.state c.args.disk.now c.args.file)) has in
    let foot = c.in_ok-footer.ensures.footer it.0 honest it.1 in
    let ends = c.in-Some.ensures.ends in
    let long = foot.0 in
    let there' = ap seen (c.read_footer.ensures.device.kept.files honest c.args.file) ∙ it.1 in
    c.in_err-bytes.ensures.read it.0 (c.read_footer.ensures.device.kept.honest.1 honest) there'
    (omega (arith, ends, long)))

pub returns-in_err-bytes-clause-calls : goal.returns-in_err-bytes-clause-calls
returns-in_err-bytes-clause-calls g c = λ honest.
    let first = c.read_footer.ensures.calls honest in
    let then = c.read_part.ensures.calls (c.read_footer.ensures.device.kept.honest.1 honest) in
    omega (arith, first, then)

pub returns-clause-calls : goal.returns-clause-calls
returns-clause-calls g c = λ honest.
    let first = c.read_footer.ensures.calls honest in
    let then = c.read_part.ensures.calls (c.read_footer.ensures.device.kept.honest.1 honest) in
    omega (arith, first, then)
