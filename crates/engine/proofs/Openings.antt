-- What an opening leaves of the files of a disk.
use Rattle.std.proofs.Common.{◌≡◌, Result, Err, ap, inl, inr, subst, sym, ◌∙◌}
use Rattle.std.specs.Prelude.{◌⊎◌}
use Rattle.disk.specs.declared.Disk.{Ghosts}
use Rattle.disk.specs.{AreLeftOf, IsStill, contents}
use Rattle.disk.specs.MomentsLemmas.{none_yet}
use Rattle.disk.specs.StillLemmas.{still}
use Rattle.engine.specs.Calls.{disk_after}
use Rattle.engine.specs.declared.engine.Engine.{Engine}
use Rattle.store_tables.specs.declared.error.EngineError.{EngineError}
use Rattle.store_files.specs.OpenFiles.{SparesFound, SparesNamed}
use Rattle.store_files.specs.Openings.{kept_files}
use Rattle.store_files.specs.StoreFiles.{AreShut}

-- what was refused before a call of the disk left its files
pub leaves_refused : {D : Type 0} (g : Ghosts D) (disk : D)
    (result : Result (Engine D g) (EngineError × D)) (e told : EngineError × D) →
    {for_files : Type 0} → result ≡ Err e → e ≡ told → told.1 ≡ disk →
    SparesFound g disk (disk_after result) for_files
leaves_refused {D = D} g disk result e told {for_files = for_files} is same given =
    let back : disk_after result ≡ disk =
    ap (λ (r : Result (Engine D g) (EngineError × D)). disk_after r) is
    ∙ ap (λ (p : EngineError × D). p.1) same ∙ given in
    subst (λ (d : D). SparesFound g disk d for_files) (sym back) (record {
      shut = λ why honest. still (g.state disk) (g.past disk);
      named = λ named honest represents.
          none_yet (AreLeftOf (kept_files named.version) (g.state disk)) (g.state disk)
          (g.past disk) (λ left at file has. at file);
    })

-- what an opening left of a disk, it left of an equal one
pub leaves_same : {D : Type 0} (g : Ghosts D) {disk was new after : D}
    {for_files this : Type 0} → was ≡ disk → new ≡ after → (this → for_files) →
    (AreShut (contents (g.state was)) ⊎ for_files → IsStill g was new) → SparesNamed g was new →
    SparesFound g disk after this
leaves_same {D = D} g {disk = disk} {new = new} {this = this} is back more shut named =
    subst (λ (d : D). SparesFound g disk d this) back
    (subst (λ (d : D). SparesFound g d new this) is (record {
      shut = λ why. shut (elim why [
        | inl none ↦ inl none
        | inr it ↦ inr (more it)
      ]);
      named = named;
    }))
