-- A tend of an engine's store, which leaves a merge under way.
use Rattle.std.proofs.Common.{◌≡◌, ◌≢◌, ◌+◌, ◌≤◌, ℕ, List, [], ◌∷◌, Option, Result, Ok, Err, arith}
use Rattle.std.proofs.Common.{Bool, false, true, not, inl, inr, ap, refl, subst, sym, ◌∙◌}
use Rattle.std.specs.Prelude.{Contains, IfOk, MatchResult}
use Rattle.kv_types.specs.{BatchContent}
use Rattle.kv_types.specs.declared.Limits.{Limits}
use Rattle.disk.specs.declared.Disk.{Ghosts}
use Rattle.disk.specs.MomentsLemmas.{weaker}
use Rattle.manifest.specs.{counting_file, spare_file}
use Rattle.compaction.specs.declared.Merge.{Merge}
use Rattle.compaction.specs.declared.Turn.{Turn}
use Rattle.store_model.specs.PlacesLemmas.{contains_cases}
use Rattle.store_tables.specs.declared.error.EngineError.{EngineError}
use Rattle.store_tables.specs.Errors.{IsEnd}
use Rattle.disk.specs.KeepingLemmas.{kept_but}
use Rattle.store_files.specs.declared.store_files.StoreFiles.{StoreFiles}
use Rattle.store_files.specs.declared.tended.Tended.{Tended}
use Rattle.store_files.specs.declared.tended.Tended.TheVariants as answer
use Rattle.store_files.specs.Apart.{OpenFilesAreApart}
use Rattle.store_files.specs.Files.{Facts}
use Rattle.store_files.specs.OpenFiles.{WereMeantToHold, known_facts}
use Rattle.store_files.specs.Plans.{KeepsPlans}
use Rattle.store_files.specs.Raising.{facts_with_floor}
use Rattle.store_files.specs.StoreFiles.{FilesRepresent, WereMeant}
use Rattle.store_files.specs.TendKeeps.{FilesAreTended, OfEitherFacts}
use Rattle.store_files.specs.Tending.{IsFlushAnswer, IsRewriteAnswer, IsTend}
use Rattle.store_files.specs.Tending.{IsWorkAnswer, IsWorkAnswer as work, TendMayFail}
use Rattle.store_files.specs.Tending.{tended_files}
use Rattle.table_files.specs.{inner_disk}
use Rattle.table_files.specs.declared.cached_disk.CachedDisk.{CachedDisk}
use Rattle.engine.specs.LentFiles.{files_ghosts}
use Rattle.engine.specs.MergeParts.{IsMergeFile as own, IsTendedFile as tended, IsTendedFile}
use Rattle.engine.specs.Tends.{KeepsTended, MergesAreNext, MergesByPlan, TendedStore}
use Rattle.engine.specs.Tends.{TendsByPlan}
use Rattle.engine.specs.Tends.{TendsStore as tends, tended_store}
use Rattle.engine.specs.UnderWay.{MergesOfEngineLast, MergesOfEngineStayBeside}
use Rattle.engine.proofs.Results.{answers_with, of_refusal, on_answer, refused_outside}
use Rattle.engine.proofs.Merges.{goes_with_merge, meant_with_merge, tend_leaves_ok, unused_held}
use Rattle.engine.proofs.Merges.{unused_meant}

-- ---- whether a tend did something

-- by a test that tells it from rest
pub not_idle : (same : Tended → Tended → Bool) → same answer.Idle answer.Idle ≡ true
    → (did : Tended) (differs : Bool) → differs ≡ not (same did answer.Idle) → differs ≡ true
    → did ≢ answer.Idle
not_idle same itself did differs is told idle =
    let now : differs ≡ not (same answer.Idle answer.Idle) =
    subst (λ (d : Tended). differs ≡ not (same d answer.Idle)) idle is in
    let e : true ≡ false = sym told ∙ (now ∙ ap not itself) in absurd cc

pub only_idle : (same : Tended → Tended → Bool) → same answer.Worked answer.Idle ≡ false
    → same answer.Full answer.Idle ≡ false → (did : Tended) (differs : Bool)
    → differs ≡ not (same did answer.Idle) → differs ≡ false → did ≡ answer.Idle
only_idle same worked full answer.Idle differs is none = refl
only_idle same worked full answer.Worked differs is none =
    let e : false ≡ true = sym none ∙ (is ∙ ap not worked) in absurd cc
only_idle same worked full answer.Full differs is none =
    let e : false ≡ true = sym none ∙ (is ∙ ap not full) in absurd cc

-- ---- what a tend of the store leaves

-- a number or the one behind it
free_within : (n file : ℕ) → Contains (n ∷ (n + 1) ∷ []) file → n ≤ file
free_within n file has = elim (contains_cases n ((n + 1) ∷ []) file has) [
  | inl is ↦ omega (arith, is)
  | inr later ↦ elim (contains_cases (n + 1) [] file later) [
    | inl is ↦ omega (arith, is)
    | inr none ↦ let lt = none.1 in absurd (omega (arith, lt))
  ]
]

-- a tend of the store touches files of a merge
tended_within : {D : Type 0} (store : StoreFiles) (merge : Option (Merge D)) (floor file : ℕ) →
    Contains (tended_files store) file → IsTendedFile store merge floor file
tended_within store merge floor file has =
    let free = store.free_file in
    let spare = spare_file store.manifest in
    let rest = free ∷ (free + 1) ∷ [] in
    elim (contains_cases (counting_file store.manifest) (spare ∷ rest) file has) [
      | inl is ↦ tended.IsOfMerge (own.IsSlot (inl (sym is)))
      | inr later ↦ elim (contains_cases spare rest file later) [
        | inl is ↦ tended.IsOfMerge (own.IsSlot (inr (sym is)))
        | inr behind ↦ tended.IsOfMerge (own.IsFree (free_within free file behind))
      ]
    ]

module _ {D : Type 0} (g : Ghosts D) (lasts : MergesOfEngineLast g)
    (edits : MergesOfEngineStayBeside g) (apart : OpenFilesAreApart) where
  -- what a tend of the store keeps, as a part
  pub part_of_tend : (limits : Limits) (floor : ℕ) (merge : Option (Merge D)) (turn : Turn)
      (a b : CachedDisk D g) (old new : StoreFiles) (result : Result Tended EngineError) →
      FilesAreTended (files_ghosts g) (TendMayFail (files_ghosts g) a old) (IsTend old new) a b old
      new result → KeepsPlans (files_ghosts g) (λ list. list) a b old new result →
      KeepsTended g limits floor a b (tended_store old merge turn) (tended_store new merge turn)
      result
  part_of_tend limits floor merge turn a b old new result tends plans =
      let before = g.state (inner_disk a) in
      let after = g.state (inner_disk b) in
      record {
        kept = kept_but (files_ghosts g) (λ cause. elim cause [
          | inl full ↦ inl full
          | inr none ↦ inr (λ list honest h. none list honest h.held)
        ]) tends.kept;
        touches = λ honest file spares. tends.touches honest file
            (λ has. spares (tended_within old merge floor file has));
        numbers = (tends.numbers.0, inl tends.numbers.1);
        usable = tends.usable;
        refused = of_refusal result _ IsEnd tends.did;
        held = λ list honest h.
            let told = (tends.tended list honest h.held).list in
            let held = on_answer result _ _ told in
            answers_with _ _ _ result
            (goes_with_merge g lasts a b old new merge list (λ l. l) result honest plans held h
            (λ m plan is it. tend_leaves_ok g lasts apart a b old new h.held.known.tables m plan it
            edits result tends.did (apart.tended before old list h.held.known)
            (apart.tables before old list h.held.known) (tends.kept.honest.1 honest)
            (tends.touches honest) tends.numbers.1 plans.free
            (unused_held after new list result held))) told;
        any_moment = λ list honest h.
            weaker (FilesRepresent (known_facts old) list)
            (λ left. OfEitherFacts (known_facts old) (facts_with_floor old floor)
            (λ (it : Facts). FilesRepresent it list left)) before (g.past (inner_disk a)) after
            (g.past (inner_disk b)) (λ left it. inl it)
            (tends.tended list honest h.held).any_moment;
        meant = λ list honest w.
            let told = (tends.meant list honest w.was).list in
            let held = on_answer result _ _ told in
            let known = w.was.hold.known in
            refused_outside _ result _ (answers_with _ _ _ result
            (meant_with_merge g lasts a b old new merge list (λ l. l) result
            honest plans held w (λ m plan is it. tend_leaves_ok g lasts apart a b old new
            known.tables m plan it edits result tends.did
            (apart.tended w.was.meant old list known) (apart.tables w.was.meant old list known)
            (tends.kept.honest.1 honest) (tends.touches honest) tends.numbers.1 plans.free
            (unused_meant apart after new list result held))) told);
        meant_moment = λ list honest w.
            weaker (WereMeant (known_facts old) list)
            (λ left. OfEitherFacts (known_facts old) (facts_with_floor old floor)
            (λ (it : Facts). WereMeant it list left)) before (g.past (inner_disk a)) after
            (g.past (inner_disk b)) (λ left it. inl it)
            (tends.meant list honest w.was).any_moment;
      }

-- what holds behind a call that did nothing holds of what was before it
pub behind_rest : {D : Type 0} {g : Ghosts D} (a b : CachedDisk D g) (old new : StoreFiles)
    (P : CachedDisk D g → StoreFiles → Type 0) → (b ≡ a) × (new ≡ old) → P b new → P a old
behind_rest a b old new P rests p =
    subst (λ f. P f old) rests.0 (subst (λ (s : StoreFiles). P b s) rests.1 p)

-- ---- what was done

module _ {D : Type 0} (g : Ghosts D) (limits : Limits) (floor : ℕ) (a b : CachedDisk D g)
    (old new : StoreFiles) (merge : Option (Merge D)) (turn : Turn) where
  -- what a tend of the store did that did not rest
  pub store_did : (result : Result Tended EngineError) (told : Tended) → result ≡ Ok told →
      told ≢ answer.Idle → MatchResult result (IsTend old new) IsEnd →
      ((list : List BatchContent) → g.is_honest (inner_disk a) →
      WereMeantToHold (g.state (inner_disk a)) old list →
      IfOk result (IsWorkAnswer limits.log old new)) →
      TendsByPlan g limits floor a b (tended_store old merge turn) (tended_store new merge turn)
      told
  store_did result told is some did work = record {
    did = tends.OfStore (record {
      some = some;
      did = subst (λ r. MatchResult r (IsTend old new) IsEnd) is did;
      merge = refl;
      turn = refl;
    });
    in_order = λ list honest w. subst (λ r. IfOk r (IsWorkAnswer limits.log old new)) is
        (work list honest w);
    planned = λ list honest w. tt;
  }

  -- where it rested, merges are next
  next_at_rest : (told : Tended) → told ≡ answer.Idle → IsWorkAnswer limits.log old new told →
      MergesAreNext limits.log old
  next_at_rest told idle (work.Rewrites due did) =
      absurd (subst (λ (t : Tended). IsRewriteAnswer old new t) idle did)
  next_at_rest told idle (work.Flushes short due did) =
      absurd (subst (λ (t : Tended). IsFlushAnswer old new t) idle did)
  next_at_rest told idle (work.Rests short few same rests) = (short, few)

  -- and what a tend of merges did, the tend did
  pub merge_did : (later : CachedDisk D g) (end : TendedStore D)
      (called : Result Tended EngineError) → called ≡ Ok answer.Idle →
      ((list : List BatchContent) → g.is_honest (inner_disk a) →
      WereMeantToHold (g.state (inner_disk a)) old list →
      IfOk called (IsWorkAnswer limits.log old new)) → (result : Result Tended EngineError) →
      IfOk result (MergesByPlan g limits floor a later (tended_store old merge turn) end) →
      IfOk result (TendsByPlan g limits floor a later (tended_store old merge turn) end)
  merge_did later end called is work (Ok told) by = record {
    did = tends.OfMerge by.did;
    in_order = λ list honest w. next_at_rest answer.Idle refl
        (subst (λ r. IfOk r (IsWorkAnswer limits.log old new)) is (work list honest w));
    planned = by.planned;
  }
  merge_did later end called is work (Err e) by = tt

  -- a refusal for damage is of a merge, where that rested
  pub merge_refused : (called : Result Tended EngineError) → called ≡ Ok answer.Idle →
      IfOk called (IsWorkAnswer limits.log old new) → MergesAreNext limits.log old
  merge_refused called is work = next_at_rest answer.Idle refl
      (subst (λ r. IfOk r (IsWorkAnswer limits.log old new)) is work)
