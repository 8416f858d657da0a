use Rattle.std.proofs.Common.{◌≡◌, ◌∙◌, ◌==◌, arith, subst, sym, true}
use Rattle.std.proofs.lemmas.Bool.Decides.{nat_tests}
use Rattle.std.proofs.lemmas.List.Quantifiers.{position-Some}
use Rattle.dir_disk.specs.declared.open_file.OpenFile.{OpenFile}
use Rattle.dir_disk.proofs.OpenFilesLemmas.{none_found}
use Rattle.dir_disk.proofs.open_files.OpenFiles.touch.Goals as goal

-- the file at that place has the number, and is put behind the others
pub returns-clause-latest : goal.returns-clause-latest
returns-clause-latest c = λ is_open.
    let file = c.remove-file.result in
    let found = position-Some (λ (it : OpenFile). it.number == c.args.number) _ _ file
    (sym c.index_of.ensures ∙ c.in-Some.is) in
    let same : (file.number == c.args.number) ≡ true =
    subst (λ (it : OpenFile). (it.number == c.args.number) ≡ true)
    (sym c.remove-file.ensures.value) found.1 in
    record {
      before = c.remove-file.new.self.items;
      file = file;
      ends = c.in_ok-push.ensures.items;
      numbered = grind (arith, nat_tests);
    }

-- no file was found, so each has another number
pub returns-in_default-clause-absent : goal.returns-in_default-clause-absent
returns-in_default-clause-absent c = λ closed k d within same.
    let none = sym c.index_of.ensures ∙ c.in_default.is in
    let other = none_found (λ (it : OpenFile). it.number == c.args.number)
    c.args.self.now.files.items none k d within in absurd (grind (arith, nat_tests, other, same))
