use Rattle.std.proofs.Common.{◌≡◌, ℕ, List, map, refl, subst, sym, true, arith, ◌∙◌}
use Rattle.std.specs.Str.Parse.{digits_value}
use Rattle.script_words.specs.Words.{is_number}
use Rattle.std.proofs.lemmas.Bool.Decides.{nat_tests}
use Rattle.scripts.proofs.Places.{no_word, only_word}
use Rattle.scripts.proofs.Placing.{one_node_placed, place_refused}
use Rattle.scripts.proofs.reader.only_node.Goals as goal

pub returns-clause-placed : goal.returns-clause-placed
returns-clause-placed c = λ name of_one.
    let cut = c.split_fault.ensures in
    let word = c.in-Some.ensures in
    let own = only_word c.split_fault.result.0.now _ _
    (omega (arith, c.in-len1.len_at_least, c.in-len1.len_below)) word.2 in
    one_node_placed c.args.before.now name (map (λ w. w.now) c.args.args.now) _ c.in-Some.node
    of_one (sym own ∙ cut.before)
    (sym (no_word c.split_fault.result.1.now (grind (arith, nat_tests, c.if-not-is_empty.ensures)))
    ∙ cut.behind) (subst (λ (w : List ℕ). is_number w ≡ true) word.2 word.0) word.1 refl
    (subst (λ (w : List ℕ). digits_value 10 w ≡ c.in-Some.node) word.2 word.3) c.place.result
    c.place.ensures

pub returns-clause-memory : goal.returns-clause-memory
returns-clause-memory c =
    place_refused c.args.before.now.configs c.in-Some.node c.place.result c.place.ensures
