use Rattle.std.proofs.Common.{[], rules, codes, get_or, map, refl, take, drop, length, ◌-◌, arith}
use Rattle.std.proofs.lemmas.Grind.{common_steps}
use Rattle.scripts.proofs.Places.{named_word}
use Rattle.scripts.proofs.LimitLines.{is_limit_line}
use Rattle.scripts.proofs.Placing.{is_config}
use Rattle.scripts.proofs.Items.{asks}
use Rattle.scripts.proofs.reader.item_of_words.Goals as goal

pub returns-then-eq : goal.returns-then-eq
returns-then-eq c =
    let e = c.in_ok-config.ensures in let ws = c.args.words.now in
    is_config c.args.before.now (map (λ w. w.now) ws) (map (λ w. w.now) (take (length ws - 1)
    (drop 1 ws))) e.1.0
    (named_word ws (codes "config") c.in-len1-up.len_at_least (search rules)) e.1.1 e.1.3 e.1.2
    e.2 e.0 c.in_ok-config.field-0 e.1.4

pub returns-then-eq-2 : goal.returns-then-eq-2
returns-then-eq-2 c =
    let e = c.in_ok-limit.ensures in let ws = c.args.words.now in
    is_limit_line c.args.before.now (map (λ w. w.now) ws) (map (λ w. w.now) (take (length ws - 1)
    (drop 1 ws))) c.in_ok-limit.limit c.in_ok-limit.number
    (named_word ws (codes "limit") c.in-len1-up.len_at_least (search rules)) e.0 e.1 e.2 e.3

pub returns-in_default : goal.returns-in_default
returns-in_default c = grind (arith, common_steps)

pub returns-in_err-config : goal.returns-in_err-config
returns-in_err-config c = grind (arith, common_steps)

pub returns-in_err-statement : goal.returns-in_err-statement
returns-in_err-statement c = grind (arith, common_steps)

pub returns : goal.returns
returns c =
    let ws = c.args.words.now in
    asks c.args.before.now (map (λ w. w.now) ws)
    (get_or ws 0 (record { ref_ptr = (0, 0); now = [] })).now
    (map (λ w. w.now) (take (length ws - 1) (drop 1 ws))) c.in_ok-statement.field-0
    (named_word ws _ c.in-len1-up.len_at_least refl) (search rules) (search rules)
    c.in_ok-statement.ensures
