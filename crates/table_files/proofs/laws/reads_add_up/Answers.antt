use Rattle.std.proofs.Common.{Bool, true, false, ◌⊎◌, inl, inr, rules}
use Rattle.std.specs.Prelude.{IsTrue}
use Rattle.table_files.specs.LentFiles.{keeps_files_itself, keeps_files_through, keeps_files_by}
use Rattle.table_files.proofs.laws.reads_add_up.Goals as goal

failed_or_not : (failed : Bool) → IsTrue failed ⊎ (IsTrue failed → ⊥)
failed_or_not true = inl (search rules)
failed_or_not false = inr (λ e. cc)

pub returns : goal.returns
returns g c = record {
  itself = keeps_files_itself g.D.Disk;
  through = keeps_files_through g.D.Disk;
  call = λ a b failed. keeps_files_by g.D.Disk a b (failed_or_not failed);
}
