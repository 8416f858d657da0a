-- Looks at a disk, one behind another.
use Rattle.std.proofs.Common.{◌≡◌, ◌∙◌, ℕ, Bool, List, false, true}
use Rattle.std.proofs.Common.{subst, sym}
use Rattle.std.proofs.Math.Path.{fun_ext}
use Rattle.std.specs.Prelude.{◌↔◌, IsErrAnd, IsErrOf, IsTrue}
use Rattle.std.specs.Prelude.{Result, Ok, Err, MatchResult}
use Rattle.std.specs.List.{All, Contains}
use Rattle.std.proofs.lemmas.List.Elements.{All-contains, All-contains_itself, All-weaker}
use Rattle.disk.specs.declared.Disk.{Ghosts}
use Rattle.disk.specs.declared.error.DiskError.{DiskError}
use Rattle.disk.specs.{IsSame, KeepsDisk, Passes, State, contents}
use Rattle.disk.specs.StillLemmas.{still, still_more, still_same}
use Rattle.disk.specs.Calls.{ListsFiles}
use Rattle.manifest.specs.Creations.{FindsWhether, HasNoRecord, HasOnlyCreationFiles}
use Rattle.manifest.specs.Creations.{IsCreationFile, OnlyLooks}
use Rattle.manifest.proofs.Kept.{kept_as, kept_then}

-- neither of two calls failed
pub neither : {first told : Type 0} → (first → ⊥) → (told → ⊥) → first ↔ told
neither works ends = (λ fails. absurd (works fails), λ fails. absurd (ends fails))

-- a result that is an answer reports no failure
pub answered : {T E : Type 0} (result : Result T E) {x : T} {e : E} → result ≡ Ok x →
    result ≡ Err e → ⊥
answered result ok err = cc

module _ {D : Type 0} (g : Ghosts D) where
  -- one call that changes nothing
  pub looks_once : {failed : Type 0} (old new : D) → KeepsDisk g old new failed ⊥ IsSame →
      (g.is_honest old → Passes (g.past old) (g.state old) (g.past new) (g.state new)) →
      OnlyLooks g old new failed
  looks_once old new kept passes = record {
    kept = kept;
    still = λ honest. still_same (still (g.state old) (g.past old)) (passes honest)
        (kept.files honest);
  }

  -- a look whose failure is told in other words
  pub looks_as : {failed told : Type 0} (old new : D) → (failed ↔ told) →
      OnlyLooks g old new failed → OnlyLooks g old new told
  looks_as {failed = failed} {told = told} old new same looks = record {
    kept = kept_as g old new failed told ⊥ ⊥ IsSame IsSame same.1 same.0 (λ none. none)
        (λ a b is. is) looks.kept;
    still = looks.still;
  }

  -- a look that did not fail, and one behind it
  pub looks_behind : {failed told : Type 0} (old mid new : D) → OnlyLooks g old mid failed →
      (failed → ⊥) → OnlyLooks g mid new told → OnlyLooks g old new told
  looks_behind {failed = failed} {told = told} old mid new first works later = record {
    kept = kept_then g old mid new failed ⊥ told ⊥ IsSame IsSame IsSame works
        (λ a b c before after file. after file ∙ before file) first.kept later.kept;
    still = λ honest. still_more (first.still honest)
        (later.still (first.kept.honest.1 honest));
  }

-- an error that is passed on is the same one
pub same_error : {T U E : Type 0} (called : Result T E) (e x : E) (result : Result U E) →
    called ≡ Err e → IsErrAnd result (λ s. s ≡ e) → IsErrOf called x ↔ IsErrOf result x
same_error called e x (Ok y) is told = absurd told
same_error called e x (Err s) is told = (λ fails. cc, λ fails. cc)

-- files that are all of a creation, and a log without a record, are what a creation makes
pub only_creation_files : (disk : State) (files : List ℕ) → ListsFiles disk files →
    All IsCreationFile files → HasNoRecord (contents disk) → HasOnlyCreationFiles (contents disk)
only_creation_files disk files lists all log = record {
  files = λ file some. All-contains IsCreationFile files file all ((lists.exact file).1 some);
  log = log;
}

-- and what a creation makes has no other files
pub all_of_creation : (disk : State) (files : List ℕ) → ListsFiles disk files →
    HasOnlyCreationFiles (contents disk) → All IsCreationFile files
all_of_creation disk files lists only =
    All-weaker (Contains files) IsCreationFile
    (λ file there. only.files file ((lists.exact file).0 there)) files (All-contains_itself files)

-- what a look at the log finds behind the files, which are all of a creation
pub found_all : (old mid : State) (files now : List ℕ) (result : Result Bool DiskError) →
    IsSame old mid → ListsFiles old files → now ≡ files → All IsCreationFile now →
    FindsWhether (HasNoRecord (contents mid)) result →
    FindsWhether (HasOnlyCreationFiles (contents old)) result
found_all old mid files now (Ok is) same lists value all found =
    let states : mid ≡ old = fun_ext (λ file. same file) in
    let each = subst (All IsCreationFile) value all in (
      λ free. only_creation_files old files lists each
          (subst (λ (s : State). HasNoRecord (contents s)) states (found.0 free)),
      λ only. found.1 (subst (λ (s : State). HasNoRecord (contents s)) (sym states) only.log),
    )
found_all old mid files now (Err e) same lists value all found = found

-- files that are not all of a creation are more than that
pub found_more : (old : State) (files now : List ℕ) → ListsFiles old files → now ≡ files →
    (IsTrue false ↔ All IsCreationFile now) → IsTrue false ↔ HasOnlyCreationFiles (contents old)
found_more old files now lists value test = (
  λ no. absurd (let clash : false ≡ true = no in cc),
  λ only. test.1 (subst (All IsCreationFile) (sym value) (all_of_creation old files lists only)),
)

-- what holds of a refusal holds of the one that passes it on
pub refuses : {T E : Type 0} (result : Result T E) {e : E} (P : T → Type 0) (Q : E → Type 0) →
    IsErrAnd result (λ s. s ≡ e) → Q e → MatchResult result P Q
refuses (Ok x) P Q told q = absurd told
refuses (Err s) P Q told q = subst Q (sym told) q
