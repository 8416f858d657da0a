use Rattle.std.proofs.Common.{arith, refl}
use Rattle.std.proofs.lemmas.Grind.{common_steps}
use Rattle.std.proofs.lemmas.Result.{err_from_is_err_and}
use Rattle.scripts.proofs.ReadBack.{rows_fault}
use Rattle.scripts.proofs.WalkWords.{five_words, four_words, none_so, some_so, spells_none}
use Rattle.scripts.proofs.WalkWords.{spells_some, walk_is_read}
use Rattle.scripts.proofs.WalkWords.{walk_bad_bytes, walk_bad_last, walk_bad_limit, walk_bad_node}
use Rattle.scripts.proofs.statements.rows.Goals as goal
use Rattle.scripts.proofs.statements.rows.Goals.{in-None, in-Some+in_default-batch_number, in-len4}
use Rattle.scripts.proofs.statements.rows.Goals.{in-len5, in_default-2-via-in_default}
use Rattle.scripts.proofs.statements.rows.Goals.{in_default-2-via-in-Some+in_default}

pub returns-in-None-batch_number : goal.returns-in-None-batch_number
returns-in-None-batch_number c = λ _.
    rw (rows_fault c.args.backward _) (walk_bad_last _ _ c.in-Some.at (elim c.if-args-lt5.branch [
      | in-len4 w ↦ four_words _ _ _ _ w.in-len4.len_at_least w.in-len4.len_below w.t-28-is refl
          refl refl refl refl
      | in-len5 w ↦ five_words _ _ _ _ _ w.in-len5.len_at_least w.in-len5.len_below w.t-28-is refl
          refl refl refl refl refl
    ])
    c.in-Some.is c.in-None-batch_number.ensures c.in-Some-Some.ensures.0 c.in-Some-Some.ensures'.0)

pub returns-in-None-2 : goal.returns-in-None-2
returns-in-None-2 c = λ _.
    rw (rows_fault c.args.backward _) (walk_bad_bytes _ _ c.match-at.at (elim c.if-args-lt5.branch [
      | in-len4 w ↦ four_words _ _ _ _ w.in-len4.len_at_least w.in-len4.len_below w.t-28-is refl
          refl refl refl refl
      | in-len5 w ↦ five_words _ _ _ _ _ w.in-len5.len_at_least w.in-len5.len_below w.t-28-is refl
          refl refl refl refl refl
    ])
    (elim c.match-at.branch [
      | in-None w ↦ spells_none _ _ w.in-None.is w.at-is
      | in-Some+in_default-batch_number w ↦ rw w.at-is (spells_some _ w.in-Some.at _ w.in-Some.is
          w.in_default-batch_number.not-None w.batch_number.ensures)
    ])
    c.in-Some-Some.ensures.0 c.in-Some-Some.ensures'.0
    (none_so _ _ c.in_ok-bounds_of.field-0 c.in-None-2.is c.in_ok-bounds_of.ensures))

pub returns-in-Some-2 : goal.returns-in-Some-2
returns-in-Some-2 c =
    walk_is_read c.args.backward _ _ c.match-at.at c.in-Some-Some.node c.in-Some-Some.limit
    c.in-Some-2.from c.in-Some-2.to c.new.result c.new.ensures (elim c.if-args-lt5.branch [
      | in-len4 w ↦ four_words _ _ _ _ w.in-len4.len_at_least w.in-len4.len_below w.t-28-is refl
          refl refl refl refl
      | in-len5 w ↦ five_words _ _ _ _ _ w.in-len5.len_at_least w.in-len5.len_below w.t-28-is refl
          refl refl refl refl refl
    ])
    (elim c.match-at.branch [
      | in-None w ↦ spells_none _ _ w.in-None.is w.at-is
      | in-Some+in_default-batch_number w ↦ rw w.at-is (spells_some _ w.in-Some.at _ w.in-Some.is
          w.in_default-batch_number.not-None w.batch_number.ensures)
    ])
    c.in-Some-Some.ensures c.in-Some-Some.ensures'
    (some_so _ _ c.in_ok-bounds_of.field-0 (c.in-Some-2.from, c.in-Some-2.to) c.in-Some-2.is
    c.in_ok-bounds_of.ensures)

pub returns-in_default : goal.returns-in_default
returns-in_default c = grind (arith, common_steps)

pub returns-in_default-2 : goal.returns-in_default-2
returns-in_default-2 c = λ _.
    rw (rows_fault c.args.backward _) (elim c.in_default-2.branch [
      | in_default-2-via-in-Some+in_default w ↦ walk_bad_limit _ _ (elim c.if-args-lt5.branch [
        | in-len4 w ↦ four_words _ _ _ _ w.in-len4.len_at_least w.in-len4.len_below w.t-28-is refl
            refl refl refl refl
        | in-len5 w ↦ five_words _ _ _ _ _ w.in-len5.len_at_least w.in-len5.len_below w.t-28-is refl
            refl refl refl refl refl
      ])
          w.in_default-2.ensures.0 w.in_default-2.ensures'
      | in_default-2-via-in_default w ↦ walk_bad_node _ _ (elim c.if-args-lt5.branch [
        | in-len4 w ↦ four_words _ _ _ _ w.in-len4.len_at_least w.in-len4.len_below w.t-28-is refl
            refl refl refl refl
        | in-len5 w ↦ five_words _ _ _ _ _ w.in-len5.len_at_least w.in-len5.len_below w.t-28-is refl
            refl refl refl refl refl
      ])
          w.in_default-2.ensures-1
    ])

pub returns-in_err-bounds_of : goal.returns-in_err-bounds_of
returns-in_err-bounds_of c =
    let p = err_from_is_err_and c.from_residual.result c.from_residual.ensures.1 in
    rw p.1 (λ other. absurd (other p.2))
