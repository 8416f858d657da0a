use Rattle.std.proofs.Common.{◌≡◌, refl, sym, arith, Bool, false, IsTrue}
use Rattle.table_format.specs.{table_footer}
use Rattle.sorted_table.proofs.OpenTails.{none_told, places_of}
use Rattle.sorted_table.proofs.TailsLemmas.{footer_here, placed, tail_by}
use Rattle.sorted_table.proofs.tail.tail_of.Goals as goal

pub returns-in_err-footer-clause-tail : goal.returns-in_err-footer-clause-tail
returns-in_err-footer-clause-tail c = λ format bytes entries s is there.
    absurd (c.in_err-footer.ensures (table_footer format s.blocks s.filter)
    (footer_here format bytes entries s c.args.end c.args.footer.now is there))

refused : (r : Bool) → r ≡ false → IsTrue r → ⊥
refused r e h = absurd cc

pub returns-then-not-are_placed-clause-tail : goal.returns-then-not-are_placed-clause-tail
returns-then-not-are_placed-clause-tail c = λ format bytes entries s is there.
    let same = c.in_ok-footer.ensures.1 (table_footer format s.blocks s.filter)
    (footer_here format bytes entries s c.args.end c.args.footer.now is there) in
    absurd (refused c.are_placed.result c.if-not-are_placed.true
    (c.are_placed.ensures.1
    (placed format bytes entries s c.args.end c.in_ok-footer.footer is same)))

pub returns-clause-tail : goal.returns-clause-tail
returns-clause-tail c = λ format bytes entries s is there.
    let same = c.in_ok-footer.ensures.1 (table_footer format s.blocks s.filter)
    (footer_here format bytes entries s c.args.end c.args.footer.now is there) in
    tail_by format bytes entries s c.args.end c.in_ok-footer.footer _ is same refl refl refl refl

-- the footer that was read says so
pub returns-clause-says : goal.returns-clause-says
returns-clause-says c =
    let it = c.in_ok-footer.footer in
    let placed = c.are_placed.ensures.0 c.if-not-are_placed.false in
    let index = placed.0 in
    let end = placed.1 in
    record {
      footer = it;
      is_footer = c.in_ok-footer.ensures.0;
      filter = refl;
      filter_len = refl;
      index = sym index;
      index_len = end;
      ends = omega (arith, index, end);
      within = omega (arith, index, end);
      read_in = refl;
    }

-- where it is none, no footer says where a tail stands
pub returns-in_err-footer-clause-says : goal.returns-in_err-footer-clause-says
returns-in_err-footer-clause-says c =
    none_told c.from_residual.result _ _ c.from_residual.ensures
    (λ tail says. c.in_err-footer.ensures says.footer says.is_footer)

pub returns-then-not-are_placed-clause-says : goal.returns-then-not-are_placed-clause-says
returns-then-not-are_placed-clause-says c = λ tail says.
    let same = c.in_ok-footer.ensures.1 says.footer says.is_footer in
    refused c.are_placed.result c.if-not-are_placed.true (c.are_placed.ensures.1
    (places_of c.args.footer.now c.args.end tail says c.in_ok-footer.footer same))
