use Rattle.std.proofs.Common.{◌≡◌, rules}
use Rattle.std.proofs.lemmas.Fn.{All-from_retain}
use Rattle.dir_disk.specs.declared.open_file.OpenFile.{OpenFile}
use Rattle.dir_disk.proofs.open_files.OpenFiles.close.Goals as goal

-- what is left has another number
pub returns : goal.returns
returns c =
    All-from_retain _ (λ (it : OpenFile). it.number ≡ c.args.number → ⊥) _
    (λ x b f' k. (λ is same. search rules, search rules)) _ _ c.retain.ensures.filtered
