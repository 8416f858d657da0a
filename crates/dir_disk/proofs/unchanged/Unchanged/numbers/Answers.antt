use Rattle.std.proofs.Common.{arith}
use Rattle.std.proofs.lemmas.Grind.{common_steps}
use Rattle.std.proofs.Common.{◌≡◌, ℕ, List, rules, subst, sym}
use Rattle.std.specs.Prelude.{filter}
use Rattle.std.proofs.lemmas.Fn.{filter_same}
use Rattle.disk.specs.Calls.{ListsFiles}
use Rattle.dir_disk.specs.Disks.{shown_state}
use Rattle.dir_disk.proofs.ShownFiles.{is_shown, lists_shown}
use Rattle.dir_disk.proofs.unchanged.Unchanged.numbers.Goals as goal

-- the numbers of the disk inside, without those that were removed
pub returns-clause-files : goal.returns-clause-files
returns-clause-files g c = λ honest.
    let removed = c.args.self.now.removed.items in
    let state = g.D.Disk.state c.args.self.now.inner.disk in
    let numbers = c.in_ok-numbers.numbers.items in
    let left : c.retain.new.self.items ≡ filter (is_shown removed) numbers =
    filter_same _ (is_shown removed) _ (λ x b f' k. (search rules, search rules)) _ _
    c.retain.ensures.filtered in
    subst (λ (list : List ℕ). ListsFiles (shown_state removed state) list) (sym left)
    (lists_shown removed state numbers (c.in_ok-numbers.ensures.files honest))

pub returns-in_err-works-clause-counts : goal.returns-in_err-works-clause-counts
returns-in_err-works-clause-counts g c = grind (arith, common_steps)

pub returns-in_err-works-clause-same : goal.returns-in_err-works-clause-same
returns-in_err-works-clause-same g c = grind (arith, common_steps)

pub returns-in_err-works-clause-left_out : goal.returns-in_err-works-clause-left_out
returns-in_err-works-clause-left_out g c = grind (arith, common_steps)

pub returns-in_err-works-clause-files : goal.returns-in_err-works-clause-files
returns-in_err-works-clause-files g c = grind (arith, common_steps)

pub returns-in_err-numbers-clause-counts : goal.returns-in_err-numbers-clause-counts
returns-in_err-numbers-clause-counts g c = grind (arith, common_steps)

pub returns-in_err-numbers-clause-same : goal.returns-in_err-numbers-clause-same
returns-in_err-numbers-clause-same g c = grind (arith, common_steps)

pub returns-in_err-numbers-clause-once : goal.returns-in_err-numbers-clause-once
returns-in_err-numbers-clause-once g c = grind (arith, common_steps)

pub returns-in_err-numbers-clause-left_out : goal.returns-in_err-numbers-clause-left_out
returns-in_err-numbers-clause-left_out g c = grind (arith, common_steps)

pub returns-in_err-numbers-clause-files : goal.returns-in_err-numbers-clause-files
returns-in_err-numbers-clause-files g c = grind (arith, common_steps)

pub returns-clause-counts : goal.returns-clause-counts
returns-clause-counts g c = grind (arith, common_steps)

pub returns-clause-same : goal.returns-clause-same
returns-clause-same g c = grind (arith, common_steps)

pub returns-clause-once : goal.returns-clause-once
returns-clause-once g c = grind (arith, common_steps)

pub returns-clause-left_out : goal.returns-clause-left_out
returns-clause-left_out g c = grind (arith, common_steps)
