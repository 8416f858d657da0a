-- Removals of several files, one behind another.
use Rattle.std.proofs.Common.{◌≡◌, ◌<◌, ℕ, suc, AllPairs, List, [], ◌∷◌, get_or, length, Option}
use Rattle.std.proofs.Common.{Some, None}
use Rattle.std.proofs.Common.{arith, inl, inr, refl, subst, sym, ◌∙◌}
use Rattle.std.specs.Prelude.{Contains, IsNone, IsSome}
use Rattle.std.proofs.Common.{Bool, Decides, eqb, false, true}
use Rattle.std.specs.List.{IsAnyAnswer}
use Rattle.std.proofs.lemmas.Bool.{cases_eq, false≢true}
use Rattle.std.proofs.lemmas.Bool.Decides.{Decides-eqb}
use Rattle.std.proofs.lemmas.List.Elements.{Decides-contains, contains_decides}
use Rattle.std.proofs.lemmas.List.Kept.{AllPairs-from_increasing}
use Rattle.store_model.specs.PlacesLemmas.{contains_cases, contains_next, contains_none}
use Rattle.disk.specs.declared.Disk.{Ghosts}
use Rattle.disk.specs.{Absent, AlwaysLeaves, AreLeftOf, Fresh, IsFileOutcome, IsSame, IsSameBut}
use Rattle.disk.specs.{Kept, KeepsDisk}
use Rattle.disk.specs.{OnlyLeaves, Passes, Slot, State, seen}
use Rattle.disk.specs.Calls.{ListsFiles}
use Rattle.disk.specs.MomentsLemmas.{one_call_more, none_yet}
use Rattle.disk.specs.States.{ChangesSlot, removed}
use Rattle.disk.specs.KeepingLemmas.{kept_as, kept_behind, neither}
use Rattle.store_files.specs.Settling.{AreAlone, SparesFiles}

-- each of these files exists, and beside them only files that are kept
pub record AreLeft (disk : State) (kept left : List ℕ) : Type 0 where
  pub rising : AllPairs (λ x y. x < y) left
  pub there : (file : ℕ) → Contains left file → IsSome (seen (disk file))
  pub gone : (file : ℕ) → (Contains kept file → ⊥) → (Contains left file → ⊥) →
      IsNone (seen (disk file))

-- ---- one file

head_apart : (file : ℕ) (rest : List ℕ) → AllPairs (λ x y. x < y) (file ∷ rest) →
    Contains rest file → ⊥
head_apart file rest rising (k, lt, is) =
    let below : file < get_or rest k file =
    rising 0 (suc k) file (omega arith) (omega (arith, lt)) in
    omega (arith, below, is)

tail_rises : (file : ℕ) (rest : List ℕ) → AllPairs (λ x y. x < y) (file ∷ rest) →
    AllPairs (λ x y. x < y) rest
tail_rises file rest rising i j d lt within =
    rising (suc i) (suc j) d (omega (arith, lt)) (omega (arith, within))

removed_gone : (slot : Slot) → IsNone (seen (removed slot))
removed_gone (Absent back) = refl
removed_gone (Fresh bytes back) = refl
removed_gone (Kept bytes kept touches) = refl

absent : (file : Option (List ℕ)) → (IsSome file → ⊥) → IsNone file
absent None not = refl
absent (Some bytes) not = absurd (not refl)

-- the files that exist are left
pub listed_left : (old new : State) (kept files : List ℕ) → IsSame old new → ListsFiles old files →
    AreLeft new kept files
listed_left old new kept files same lists = record {
  rising = AllPairs-from_increasing files lists.rising;
  there = λ file listed. subst (λ (slot : Slot). IsSome (seen slot)) (sym (same file))
      ((lists.exact file).0 listed);
  gone = λ file apart unlisted. subst (λ (slot : Slot). IsNone (seen slot)) (sym (same file))
      (absent (seen (old file)) (λ some. unlisted ((lists.exact file).1 some)));
}

-- whether a file is kept is told
module _ (kept : List ℕ) (file : ℕ) (told : Bool)
    (is : IsAnyAnswer (λ one test. eqb one file ≡ test) kept told) where
  decided : Decides told (Contains kept file)
  decided = Decides-contains kept file told (contains_decides eqb Decides-eqb kept file told is)

  pub is_kept : told ≡ true → Contains kept file
  is_kept = decided.0

  pub not_kept : told ≡ false → Contains kept file → ⊥
  not_kept differs it = false≢true (sym differs ∙ decided.1 it)

-- a file that is kept is passed over
pub passed_left : (disk : State) (kept : List ℕ) (file : ℕ) (rest : List ℕ) → Contains kept file →
    AreLeft disk kept (file ∷ rest) → AreLeft disk kept rest
passed_left disk kept file rest keeps before = record {
  rising = tail_rises file rest before.rising;
  there = λ other listed. before.there other (contains_next file rest other listed);
  gone = λ other apart unlisted. before.gone other apart
      (λ listed. elim (contains_cases file rest other listed) [
        | inl is ↦ apart (subst (λ (f : ℕ). Contains kept f) is keeps)
        | inr more ↦ unlisted more
      ]);
}

-- another is removed
pub removed_left : (mid new : State) (kept : List ℕ) (file : ℕ) (rest : List ℕ) →
    ChangesSlot mid new file (removed (mid file)) → AreLeft mid kept (file ∷ rest) →
    AreLeft new kept rest
removed_left mid new kept file rest changes before = record {
  rising = tail_rises file rest before.rising;
  there = λ other listed.
      let apart : other ≡ file → ⊥ = λ is. head_apart file rest before.rising
      (subst (λ (f : ℕ). Contains rest f) is listed) in
      subst (λ (slot : Slot). IsSome (seen slot)) (sym (changes.others other apart))
      (before.there other (contains_next file rest other listed));
  gone = λ other unkept unlisted. elim (cases_eq other file) [
    | inl here ↦ subst (λ (f : ℕ). IsNone (seen (new f))) (sym here)
        (subst (λ (slot : Slot). IsNone (seen slot)) (sym changes.here) (removed_gone (mid file)))
    | inr apart ↦ subst (λ (slot : Slot). IsNone (seen slot)) (sym (changes.others other apart))
        (before.gone other unkept (λ listed. elim (contains_cases file rest other listed) [
          | inl is ↦ apart (sym is)
          | inr more ↦ unlisted more
        ]))
  ];
}

-- none is left to be removed
pub no_items : (items : List ℕ) (len : ℕ) → len ≡ length items → len ≡ 0 → items ≡ []
no_items [] len is none = refl
no_items (file ∷ files) len is none = absurd (omega (arith, is, none))

pub alone_left : (disk : State) (kept left : List ℕ) → left ≡ [] → AreLeft disk kept left →
    AreAlone kept disk
alone_left disk kept left none before file unkept =
    before.gone file unkept
    (λ listed. contains_none file (subst (λ (l : List ℕ). Contains l file) none listed))

-- ---- several calls

-- files were removed, none of them one that is kept; these are left, and no call failed
pub record HaveRemoved {D : Type 0} (g : Ghosts D) (old new : D) (kept left : List ℕ)
    : Type 0 where
  pub calls : KeepsDisk g old new ⊥ ⊥ (SparesFiles kept)
  pub moments : g.is_honest old → AlwaysLeaves g old new (AreLeftOf kept (g.state old))
  pub rest : g.is_honest old → AreLeft (g.state new) kept left

kept_leaves : (kept : List ℕ) (old new : State) → SparesFiles kept old new →
    OnlyLeaves (AreLeftOf kept old) new
kept_leaves kept old new keeps left now file is_kept =
    subst (λ (slot : Slot). IsFileOutcome slot (left file)) (keeps file is_kept) (now file)

keeps_then_keeps : (kept : List ℕ) (a b c : State) → SparesFiles kept a b → SparesFiles kept b c →
    SparesFiles kept a c
keeps_then_keeps kept a b c before after file is_kept =
    after file is_kept ∙ before file is_kept

keeps_others : (kept : List ℕ) (file : ℕ) → (Contains kept file → ⊥) → (a b : State) →
    IsSameBut file a b → SparesFiles kept a b
keeps_others kept file unkept a b same other is_kept =
    same other (λ is. unkept (subst (λ (f : ℕ). Contains kept f) is is_kept))

module _ {D : Type 0} (g : Ghosts D) (kept : List ℕ) where
  -- the files were listed
  pub listing_moments : (old new : D) →
      (g.is_honest old → Passes (g.past old) (g.state old) (g.past new) (g.state new)) →
      (g.is_honest old → IsSame (g.state old) (g.state new)) → g.is_honest old →
      AlwaysLeaves g old new (AreLeftOf kept (g.state old))
  listing_moments old new passes same honest =
      let P = AreLeftOf kept (g.state old) in
      one_call_more P (g.state old) (g.state old) (g.state new) (g.past old) (g.past old)
      (g.past new)
      (none_yet P (g.state old) (g.past old) (λ left at file is_kept. at file)) (passes honest)
      (kept_leaves kept (g.state old) (g.state new) (λ file is_kept. same honest file))

  pub listed : (old new : D) (files : List ℕ) {told : Type 0} → KeepsDisk g old new told ⊥ IsSame →
      (told → ⊥) →
      (g.is_honest old → Passes (g.past old) (g.state old) (g.past new) (g.state new)) →
      (g.is_honest old → ListsFiles (g.state old) files) → HaveRemoved g old new kept files
  listed old new files calls works passes lists = record {
    calls = kept_as g (neither works (λ fails. fails)) (λ a b same file is_kept. same file) calls;
    moments = listing_moments old new passes calls.files;
    rest = λ honest. listed_left (g.state old) (g.state new) kept files (calls.files honest)
        (lists honest);
  }

  module _ (old mid : D) {left : List ℕ} (before : HaveRemoved g old mid kept left) where
    -- a removal more, which failed or not
    pub removal_then : (file : ℕ) {new : D} {told : Type 0} → (Contains kept file → ⊥) →
        KeepsDisk g mid new told ⊥ (IsSameBut file) →
        KeepsDisk g old new told ⊥ (SparesFiles kept)
    removal_then file unkept calls =
        kept_behind g (keeps_then_keeps kept) before.calls (λ fails. fails)
        (kept_as g ((λ fails. fails), (λ fails. fails)) (keeps_others kept file unkept) calls)

    pub removal_moments : (file : ℕ) {new : D} {told : Type 0} → (Contains kept file → ⊥) →
        KeepsDisk g mid new told ⊥ (IsSameBut file) →
        (g.is_honest mid → Passes (g.past mid) (g.state mid) (g.past new) (g.state new)) →
        g.is_honest old → AlwaysLeaves g old new (AreLeftOf kept (g.state old))
    removal_moments file {new = new} unkept calls passes honest =
        one_call_more (AreLeftOf kept (g.state old)) (g.state old) (g.state mid) (g.state new)
        (g.past old) (g.past mid) (g.past new) (before.moments honest)
        (passes (before.calls.honest.1 honest))
        (kept_leaves kept (g.state old) (g.state new)
        ((removal_then file unkept calls).files honest))

    -- the removals end, and none failed
    pub removals_end : {told : Type 0} → (told → ⊥) → KeepsDisk g old mid told ⊥ (SparesFiles kept)
    removals_end ends =
        kept_as g (neither (λ fails. fails) ends) (λ a b keeps. keeps) before.calls
