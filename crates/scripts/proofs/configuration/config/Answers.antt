use Rattle.std.proofs.Common.{◌≡◌, ◌∙◌, List, ap, arith, false, map, subst, sym, true, ℕ}
use Rattle.std.specs.Fmt.{decimal}
use Rattle.std.specs.List.{list_all}
use Rattle.std.proofs.lemmas.Bool.Decides.{nat_tests}
use Rattle.script_words.specs.Words.{has_fault, is_number}
use Rattle.scripts.specs.Faults.{numbers_of}
use Rattle.script_words.specs.FaultWordsLemmas.{faultless_before}
use Rattle.scripts.proofs.NextConfig.{config_read, config_refused}
use Rattle.scripts.proofs.configuration.config.Goals as goal

pub returns-in-Ok : goal.returns-in-Ok
returns-in-Ok c =
    let cut = c.split_fault.ensures in
    let args = map (λ w. w.now) c.args.args.now in
    let none : has_fault args ≡ false =
    grind (arith, nat_tests, cut.has, c.if-not-is_empty.ensures) in
    let whole : map (λ w. w.now) c.split_fault.result.0.now ≡ args =
    cut.before ∙ sym (faultless_before args (sym none)) in
    let told = rw c.in-Some.is at c.in_ok-numbers.ensures in
    let same = sym (c.in-Ok.ensures.0 ∙ c.deref.ensures.value) in
    config_read c.args.before.now args c.in-Ok.config
    (subst (λ (ws : List (List ℕ)). list_all is_number ws ≡ true) cut.before told.0) none
    c.if-before.false (ap numbers_of (sym whole) ∙ told.2 ∙ same)
    (sym whole ∙ told.1 ∙ ap (map decimal) same) c.extended.result c.extended.ensures

pub returns : goal.returns
returns c =
    let cut = c.split_fault.ensures in
    let args = map (λ w. w.now) c.args.args.now in
    let none : has_fault args ≡ false =
    grind (arith, nat_tests, cut.has, c.if-not-is_empty.ensures) in
    let whole : map (λ w. w.now) c.split_fault.result.0.now ≡ args =
    cut.before ∙ sym (faultless_before args (sym none)) in
    let told = rw c.in-Some.is at c.in_ok-numbers.ensures in
    config_refused c.args.before.now args c.in-Some.numbers.items c.in-Err.e
    (subst (λ (ws : List (List ℕ)). list_all is_number ws ≡ true) cut.before told.0) none
    c.if-before.false (ap numbers_of (sym whole) ∙ told.2)
    (rw c.deref.ensures.value at c.in-Err.ensures)
