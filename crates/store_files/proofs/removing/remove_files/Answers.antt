use Rattle.std.proofs.Common.{arith}
use Rattle.std.proofs.lemmas.Grind.{common_steps}
use Rattle.std.proofs.Common.{refl}
use Rattle.std.proofs.lemmas.List.Elements.{Contains-get_or}
use Rattle.store_tables.specs.RefusalLemmas.{done}
use Rattle.store_files.proofs.Removes.{leaves_then, more_gone, none_gone}
use Rattle.store_files.proofs.removing.remove_files.Goals as goal

pub loop-file-init : goal.loop-file-init
loop-file-init g c = record { gone = none_gone g.D.Disk c.args.files.now c.args.disk.now }

pub returns-in_err-remove_file-clause-any_moment :
    goal.returns-in_err-remove_file-clause-any_moment
returns-in_err-remove_file-clause-any_moment g c =
    let files = c.args.files.now in
    let i = c.loop-file.file-index in
    leaves_then g.D.Disk files c.args.disk.now c.loop-file.disk c.remove_file.new.disk _
    (Contains-get_or files i 0 c.loop-file-test.true) c.loop-file.invariant.gone
    c.remove_file.ensures.writes.kept c.remove_file.ensures.writes.any_moment

pub loop-file-preserved : goal.loop-file-preserved
loop-file-preserved g c =
    let files = c.args.files.now in
    let i = c.loop-file.file-index in
    record {
      gone = more_gone g.D.Disk files c.args.disk.now c.loop-file.disk c.remove_file.new.disk _
          (Contains-get_or files i 0 c.loop-file-test.true) c.loop-file.invariant.gone
          c.in_ok-remove_file.ensures.writes.kept c.remove_file.ensures.writes.any_moment done
          c.in_ok-remove_file.ensures.removed i c.loop-file-test.true refl refl;
    }

pub returns-in_err-remove_file-clause-gone : goal.returns-in_err-remove_file-clause-gone
returns-in_err-remove_file-clause-gone g c = grind (arith, common_steps)

pub returns-in_err-remove_file-clause-causes : goal.returns-in_err-remove_file-clause-causes
returns-in_err-remove_file-clause-causes g c = grind (arith, common_steps)

pub returns-clause-kept : goal.returns-clause-kept
returns-clause-kept g c = grind (arith, common_steps)

pub returns-clause-gone : goal.returns-clause-gone
returns-clause-gone g c = grind (arith, common_steps)

pub returns-clause-any_moment : goal.returns-clause-any_moment
returns-clause-any_moment g c = grind (arith, common_steps)

pub returns-clause-causes : goal.returns-clause-causes
returns-clause-causes g c = grind (arith, common_steps)
