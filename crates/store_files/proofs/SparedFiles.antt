-- What an opening leaves of the files that it finds.
use Rattle.std.proofs.Common.{◌≡◌, ℕ, List, Result, Ok, Err, ap, inl, inr, subst, ◌∙◌}
use Rattle.std.specs.Prelude.{IsErrAnd}
use Rattle.disk.specs.declared.Disk.{Ghosts}
use Rattle.disk.specs.{AlwaysLeaves, AreLeftOf, IsStill, contents}
use Rattle.disk.specs.StillLemmas.{spares_more, spares_still}
use Rattle.manifest.specs.{NodeVersion, VersionIsOne}
use Rattle.store_files.specs.declared.store_files.StoreFiles.{StoreFiles}
use Rattle.store_files.specs.OpenFiles.{AreUsableFiles, FilesOpenAs, SparesFound, batch_count}
use Rattle.store_files.specs.OpenFiles.{known_facts, known_version}
use Rattle.store_files.specs.Openings.{kept_files}
use Rattle.store_files.proofs.ReadAnswers.{opens_of}

-- what contradicts the cause contradicts the refusal that tells it
pub for_cause : {T E : Type 0} (result : Result T E) {e : E} (P : E → Type 0) →
    IsErrAnd result (λ s. s ≡ e) → IsErrAnd result P → P e
for_cause (Ok x) P told p = absurd told
for_cause (Err s) P told p = subst P told p

module _ {D : Type 0} (g : Ghosts D) where
  -- files were read, and none was removed
  pub only_read : (old new : D) {for_files : Type 0} → IsStill g old new →
      SparesFound g old new for_files
  only_read old new still = record {
    shut = λ why. still;
    named = λ named honest represents. spares_still (kept_files named.version) (still honest);
  }

  -- a store's files were read, and others removed behind it
  pub then_removed : VersionIsOne → (old mid new : D) (files : StoreFiles) (kept : List ℕ)
      {for_files : Type 0} → kept ≡ kept_files (known_version files).version →
      (g.is_honest old → FilesOpenAs (contents (g.state old)) files) → AreUsableFiles files →
      IsStill g old mid →
      (g.is_honest old → AlwaysLeaves g mid new (AreLeftOf kept (g.state mid))) →
      (g.is_honest old → for_files → ⊥) → SparesFound g old new for_files
  then_removed one old mid new files kept is opens usable still removed other = record {
    shut = λ why honest. absurd (elim why [
      | inl none ↦ none (known_facts files) (batch_count files)
          (opens_of (contents (g.state old)) files (opens honest) usable)
      | inr for_files ↦ other honest for_files
    ]);
    named = λ named honest represents.
        let same = one (known_version files) named (contents (g.state old))
        (opens honest).version represents in
        subst (λ (l : List ℕ). AlwaysLeaves g old new (AreLeftOf l (g.state old)))
        (is ∙ ap (λ (n : NodeVersion). kept_files n.version) same)
        (spares_more kept (still honest) (removed honest));
  }
