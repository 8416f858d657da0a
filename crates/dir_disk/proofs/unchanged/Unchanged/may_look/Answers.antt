use Rattle.std.proofs.Common.{◌≡◌, ◌∙◌, ℕ, List, inr, refl, subst, sym, true}
use Rattle.dir_disk.specs.Disks.{is_left_out}
use Rattle.dir_disk.proofs.unchanged.Unchanged.may_look.Goals as goal

-- the file is one of those that were removed
pub returns-then-contains-clause-looks : goal.returns-then-contains-clause-looks
returns-then-contains-clause-looks g c =
    let found : is_left_out c.deref.result.now c.args.file ≡ true =
    sym c.contains.ensures.value ∙ c.if-contains.true in inr (
      refl,
      subst (λ (removed : List ℕ). is_left_out removed c.args.file ≡ true)
          c.deref.ensures.value found,
    )
