use Rattle.std.proofs.lemmas.List.Sorted.{IsNonDecreasingBy-from_sort}
use Rattle.dir_disk.proofs.folder.DirDisk.list.Goals as goal

-- they were sorted
pub returns-clause-rising : goal.returns-clause-rising
returns-clause-rising g c = IsNonDecreasingBy-from_sort (λ n. n) _ c.in_ok-sort.ensures.sorted
