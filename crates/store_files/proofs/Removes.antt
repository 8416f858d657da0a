-- Removals of given files, one behind another.
use Rattle.std.proofs.Common.{◌≡◌, ◌<◌, ◌+◌, ◌∙◌, ℕ, List, [], length, get_or, take, refl, subst}
use Rattle.std.proofs.Common.{inl, inr, sym}
use Rattle.std.specs.Prelude.{Contains, IsNone}
use Rattle.std.proofs.lemmas.Bool.{cases_eq}
use Rattle.std.proofs.lemmas.List.Elements.{All-more, All-nil, All-weaker}
use Rattle.disk.specs.declared.Disk.{Ghosts}
use Rattle.disk.specs.{AlwaysLeaves, IsFileOutcome, IsLeftAt, IsSameBut, KeepsDisk}
use Rattle.disk.specs.{Slot, State, seen}
use Rattle.disk.specs.MomentsLemmas.{join, none_yet, weaker}
use Rattle.disk.specs.KeepingLemmas.{kept_as, kept_behind, neither, unchanged}
use Rattle.store_files.specs.Removing.{AreAbsent, AreLeftBeside}
use Rattle.store_files.specs.Tending.{IsSameBeside}

-- ---- several files

-- the files were removed, and no call failed; each but those of the whole list is as it was
pub record HaveGone {D : Type 0} (g : Ghosts D) (old new : D) (files passed : List ℕ)
    : Type 0 where
  pub calls : KeepsDisk g old new ⊥ ⊥ (IsSameBeside files)
  pub moments : g.is_honest old → AlwaysLeaves g old new (AreLeftBeside files (g.state old))
  pub gone : g.is_honest old → AreAbsent passed (g.state new)

module _ {D : Type 0} (g : Ghosts D) (files : List ℕ) where
  pub none_gone : (disk : D) → HaveGone g disk disk files []
  none_gone disk = record {
    calls = unchanged g (λ a file other. refl);
    moments = λ honest. none_yet (AreLeftBeside files (g.state disk)) (g.state disk) (g.past disk)
        (λ left now file other. now file);
    gone = λ honest. All-nil _;
  }

  beside_then : (file : ℕ) → Contains files file → (a b c : State) → IsSameBeside files a b
      → IsSameBut file b c → IsSameBeside files a c
  beside_then file has a b c before after other apart =
      after other (λ is. apart (subst (Contains files) (sym is) has)) ∙ before other apart

  module _ (old mid new : D) (file : ℕ) (has : Contains files file) {passed : List ℕ}
      (before : HaveGone g old mid files passed) {told : Type 0}
      (kept : KeepsDisk g mid new told ⊥ (IsSameBut file))
      (leaves : g.is_honest mid
      → AlwaysLeaves g mid new (IsLeftAt (g.state mid) file (λ left. Unit {0}))) where
    -- a removal more, which failed or not
    pub gone_then : KeepsDisk g old new told ⊥ (IsSameBeside files)
    gone_then = kept_behind g (beside_then file has) before.calls (λ fails. fails) kept

    pub leaves_then : g.is_honest old
        → AlwaysLeaves g old new (AreLeftBeside files (g.state old))
    leaves_then honest =
        let P = AreLeftBeside files (g.state old) in
        let good = before.calls.honest.1 honest in
        let same = before.calls.files honest in
        join P (g.state old) (g.state mid) (g.state new) (g.past old) (g.past mid) (g.past new)
        (before.moments honest)
        (weaker (IsLeftAt (g.state mid) file (λ left. Unit {0})) P (g.state mid) (g.past mid)
        (g.state new) (g.past new)
        (λ left at other apart. subst (λ (slot : Slot). IsFileOutcome slot (left other))
        (same other apart)
        (at.others other (λ is. apart (subst (Contains files) (sym is) has)))) (leaves good))

    -- the file is gone, and those before it stay so
    pub more_gone : (told → ⊥) → (g.is_honest mid → IsNone (seen (g.state new file)))
        → (i : ℕ) → i < length files → file ≡ get_or files i 0 → passed ≡ take i files
        → HaveGone g old new files (take (i + 1) files)
    more_gone works none i within at is = record {
      calls = kept_as g (neither works (λ fails. fails)) (λ a b same. same) gone_then;
      moments = leaves_then;
      gone = λ honest.
          let good = before.calls.honest.1 honest in
          let same = kept.files good in
          let P : ℕ → Type 0 = λ other. IsNone (seen (g.state new other)) in
          All-more P files i 0 within
          (All-weaker (λ other. IsNone (seen (g.state mid other))) P
          (λ other was. elim (cases_eq other file) [
            | inl here ↦ subst P (sym here) (none good)
            | inr apart ↦ subst (λ (slot : Slot). IsNone (seen slot)) (sym (same other apart)) was
          ]) (take i files)
          (subst (λ (l : List ℕ). AreAbsent l (g.state mid)) is (before.gone honest)))
          (subst P at (none good));
    }
