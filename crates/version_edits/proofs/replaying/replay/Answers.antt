use Rattle.std.proofs.Common.{◌≡◌, ◌≤◌, Option, ap, arith, length, map, subst, sym, take}
use Rattle.std.proofs.lemmas.Result.{err_from_is_err_and}
use Rattle.version_edits.specs.Versions.{IsFit, NodeVersion, changed, version_in}
use Rattle.version_edits.specs.Edits.{change_text_in}
use Rattle.version_edits.specs.Replays.{IsReplayed}
use Rattle.version_edits.proofs.Replays.{all_replayed, err_of, got_change, length-ends_from}
use Rattle.version_edits.proofs.Replays.{replayed_next}
use Rattle.version_edits.proofs.Replays.{some_replayed, takes_next}
use Rattle.version_edits.proofs.replaying.replay.Goals as goal

-- a record that is no edit is none of the edits
pub returns-in_err-edit-clause-bad : goal.returns-in_err-edit-clause-bad
returns-in_err-edit-clause-bad c =
    let p = err_from_is_err_and c.from_residual.result c.from_residual.ensures.1 in
    rw (p.1, p.2) (λ damaged changes history read.
    let got = got_change c.args.format changes c.loop-index.index c.record.result.now
    (c.record.ensures _ read) history.each in
    c.in_err-edit.ensures.bad (err_of c.in_err-edit.field-0.0 _ damaged) got.0 got.1 got.2)

-- nor is an edit that may not be taken
pub returns-in_err-next_version-clause-bad : goal.returns-in_err-next_version-clause-bad
returns-in_err-next_version-clause-bad c =
    let p = err_from_is_err_and c.from_residual-in_err-next_version.result
    c.from_residual-in_err-next_version.ensures.1 in
    rw (p.1, p.2) (λ damaged changes history read.
    c.in_err-next_version.ensures.bad damaged
    (subst (λ (o : Option NodeVersion). IsFit (version_in o) c.in_ok-edit.edit)
    (sym c.as_ref.ensures.value)
    (takes_next c.changes_differ.ensures c.args.format c.args.id c.loop-index.draft changes
    c.loop-index.index c.record.result.now c.in_ok-edit.edit (c.loop-index.invariant _ read) history
    (c.record.ensures _ read) c.in_ok-edit.ensures.found.1 c.in_ok-edit.ensures.found.0)))

-- one edit more
pub loop-index-preserved : goal.loop-index-preserved
loop-index-preserved c = λ records read.
    let edit = c.in_ok-edit.ensures.found in
    let next = subst (λ (o : Option NodeVersion). IsFit (version_in o) c.in_ok-edit.edit
    × (c.in_ok-next_version.field-0 ≡
    record { id = c.args.id; version = changed (version_in o) c.in_ok-edit.edit }))
    c.as_ref.ensures.value c.in_ok-next_version.ensures.found in
    replayed_next c.args.format c.args.id c.loop-index.draft records c.loop-index.index
    c.record.result.now c.in_ok-edit.edit c.in_ok-next_version.field-0
    (c.loop-index.invariant records read)
    (c.record.ensures records read) edit.1 edit.0 next.0 next.1

-- all records were replayed
pub returns-in-Some-clause-found : goal.returns-in-Some-clause-found
returns-in-Some-clause-found c = λ records read.
    let all : length records ≤ c.loop-index.index =
    omega (
      arith,
      c.loop-index-test.false,
      c.len-index-end.ensures,
      ap length read.ends,
      length-ends_from 0 records,
    ) in
    all_replayed c.args.format c.args.id c.in-Some.version records c.loop-index.index
    (subst (λ (d : Option NodeVersion). IsReplayed c.args.format c.args.id d
    (take c.loop-index.index records))
    c.in-Some.is (c.loop-index.invariant records read)) all

-- there was none
pub returns-in-None-clause-bad : goal.returns-in-None-clause-bad
returns-in-None-clause-bad c = λ damaged changes history read.
    let records = map (change_text_in c.args.format) changes in
    let all : length records ≤ c.loop-index.index =
    omega (
      arith,
      c.loop-index-test.false,
      c.len-index-end.ensures,
      ap length read.ends,
      length-ends_from 0 records,
    ) in
    some_replayed c.args.format c.args.id changes c.loop-index.index
    (subst (λ (d : Option NodeVersion). IsReplayed c.args.format c.args.id d
    (take c.loop-index.index records))
    c.in-None.is (c.loop-index.invariant records read)) all history
