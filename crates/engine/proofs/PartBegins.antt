-- What a tend of merges did: one began, or went on, or none was due.
use Rattle.std.proofs.Common.{◌≡◌, ◌==◌, ◌∙◌, ℕ, List, [], Option, None, Some, Result, Ok, Err, ap}
use Rattle.std.proofs.Common.{refl, subst, sym}
use Rattle.std.specs.Prelude.{IfOk, if◌then◌else◌}
use Rattle.std.specs.Option.{option_map_or, option_or}
use Rattle.disk.specs.declared.Disk.{Ghosts}
use Rattle.byte_fields.specs.{StoredKey}
use Rattle.kv_types.specs.declared.Limits.{Limits}
use Rattle.version_edits.specs.declared.TableLine.{TableLine}
use Rattle.compaction.specs.{turn_key}
use Rattle.compaction.specs.Merges.{target_of}
use Rattle.compaction.specs.declared.Merge.{Merge}
use Rattle.compaction.specs.declared.Plan.{Plan}
use Rattle.compaction.specs.declared.Turn.{Turn}
use Rattle.store_tables.specs.declared.error.EngineError.{EngineError}
use Rattle.store_files.specs.declared.store_files.StoreFiles.{StoreFiles}
use Rattle.store_files.specs.declared.tended.Tended.{Tended}
use Rattle.store_files.specs.declared.tended.Tended.TheVariants as tended
use Rattle.store_files.specs.OpenFiles.{known_version}
use Rattle.table_files.specs.declared.cached_disk.CachedDisk.{CachedDisk}
use Rattle.engine.specs.DamagedInputs.{names_of_inputs}
use Rattle.engine.specs.MergeParts.{IsBegunBy}
use Rattle.engine.specs.Tends.{ContinuesAsPlanned, ContinuesMerge, HasMerged as merged}
use Rattle.engine.specs.Tends.{ContinuesMerge as going, MergesByPlan, due_plan}
use Rattle.engine.specs.Tends.{key_of_plan, next_inputs, tended_store, turn_after}
use Rattle.engine.specs.UnderWay.{WasMeantWithMerge}

-- the turn of the table is over, where the plan takes one alone
pub turn_over : (plan : Plan) (named lines : List TableLine) → named ≡ lines → (turn later : Turn)
    (found : Option StoredKey) → found ≡ key_of_plan plan named →
    ((level : ℕ) → turn_key later level
    ≡ (if level == plan.level then option_or found (turn_key turn level)
    else turn_key turn level)) →
    (level : ℕ) → turn_key later level ≡ turn_after plan lines (turn_key turn) level
turn_over plan named lines same turn later found is over level =
    subst (λ (them : List TableLine). turn_key later level
    ≡ turn_after plan them (turn_key turn) level) same
    (subst (λ (k : Option StoredKey). turn_key later level
    ≡ (if level == plan.level then option_or k (turn_key turn level) else turn_key turn level)) is
    (over level))

-- ---- the inputs of the merge that is next

module _ {D : Type 0} (limits : Limits) (store : StoreFiles) (was : Option (Merge D))
    (turn : Turn) where
  -- they are those of the merge that is under way
  pub inputs_under_way : (it : Merge D) → was ≡ Some it →
      next_inputs limits (tended_store store was turn) ≡ it.gone.items
  inputs_under_way it some =
      ap (λ (m : Option (Merge D)). next_inputs limits (tended_store store m turn)) some

  -- or of the plan that is due
  pub inputs_due : (plan : Plan) → was ≡ None →
      due_plan limits (tended_store store was turn) ≡ Some plan →
      next_inputs limits (tended_store store was turn)
      ≡ names_of_inputs plan (known_version store).version.tables
  inputs_due plan none due =
      ap (λ (m : Option (Merge D)). next_inputs limits (tended_store store m turn)) none
      ∙ ap (λ (p : Option Plan). option_map_or (λ q. names_of_inputs q
      (known_version store).version.tables) p []) due

-- ---- what was done

module _ {D : Type 0} (g : Ghosts D) (limits : Limits) (floor : ℕ) (a b : CachedDisk D g)
    (old new : StoreFiles) (was left : Option (Merge D)) (turn later : Turn) where
  -- the merge that was due began
  pub begins : (plan : Plan) (called : Result (Merge D) EngineError) (merge : Merge D) →
      called ≡ Ok merge → IfOk called (IsBegunBy g plan floor a b old new) →
      IfOk called (λ it. target_of it ≡ limits.table) → was ≡ None → left ≡ Some merge →
      due_plan limits (tended_store old was turn) ≡ Some plan →
      ((level : ℕ) → turn_key later level
      ≡ turn_after plan (known_version old).version.tables (turn_key turn) level) →
      MergesByPlan g limits floor a b (tended_store old was turn) (tended_store new left later)
      tended.Worked
  begins plan called merge is did aims none some due over =
      let began = subst (λ r. IfOk r (IsBegunBy g plan floor a b old new)) is did in
      record {
        did = merged.HasBegun plan merge (record {
          none = none;
          due = due;
          raised = began.raised;
          turn = over;
          is = some;
          first = began.first;
          target = subst (λ r. IfOk r (λ it. target_of it ≡ limits.table)) is aims;
        }) refl;
        planned = λ list honest w. (began.begun list honest w.was, began.gone honest);
      }

module _ {D : Type 0} (g : Ghosts D) (limits : Limits) (floor : ℕ) (a b : CachedDisk D g)
    (old new : StoreFiles) (was left : Option (Merge D)) (turn : Turn) where
  -- one that was under way went on
  pub goes_on : (it : Merge D) → was ≡ Some it → (result : Result Tended EngineError) →
      IfOk result (ContinuesAsPlanned g a b old new it left) →
      IfOk result (MergesByPlan g limits floor a b (tended_store old was turn)
      (tended_store new left turn))
  goes_on it some (Ok answer) on = record {
    did = merged.HasContinued it some refl on.did;
    planned = λ list honest w.
        let here = subst (λ m. WasMeantWithMerge g a old m list) some w in (
          here.was.hold.known.tables,
          here.merges.plan,
          here.merges.under_way,
          on.planned here.was.hold.known.tables here.merges.plan here.merges.under_way,
        );
  }
  goes_on it some (Err e) on = tt

-- none was due
pub rests : {D : Type 0} (g : Ghosts D) (limits : Limits) (floor : ℕ) (a : CachedDisk D g)
    (store : StoreFiles) (was left : Option (Merge D)) (turn : Turn) → was ≡ None → left ≡ None →
    due_plan limits (tended_store store was turn) ≡ None →
    MergesByPlan g limits floor a a (tended_store store was turn) (tended_store store left turn)
    tended.Idle
rests g limits floor a store was left turn none after due = record {
  did = merged.HasRested none due (ap (λ m. tended_store store m turn) (after ∙ sym none)) refl;
  planned = λ list honest w. tt;
}

-- a merge that went on is never at rest
pub never_idle : {D : Type 0} (g : Ghosts D) (a b : CachedDisk D g) (old new : StoreFiles)
    (it : Merge D) (left : Option (Merge D)) (P : Type 0) (result : Result Tended EngineError) →
    IfOk result (ContinuesAsPlanned g a b old new it left) →
    IfOk result (λ answer. answer ≡ tended.Idle → P)
never_idle g a b old new it left P (Ok answer) on = λ idle. no on.did idle
  where
    no : ContinuesMerge old new it left answer → answer ≡ tended.Idle → P
    no (going.HasStepped now went is worked) idle = absurd cc
    no (going.EndsByEdit edit used few merged is worked) idle = absurd cc
    no (going.IsGivenUp used few freed is full) idle = absurd cc
never_idle g a b old new it left P (Err e) on = tt
