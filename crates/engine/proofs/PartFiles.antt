-- The files that parts of a merge touch, and what they say of each other.
use Rattle.std.proofs.Common.{◌≡◌, ◌⊎◌, ◌≤◌, ◌<◌, ℕ, zero, suc, List, Option, Some, Result, Ok, ap}
use Rattle.std.proofs.Common.{arith, inl, inr, map, subst, sym}
use Rattle.std.specs.Global.{Vec}
use Rattle.std.specs.Prelude.{Contains}
use Rattle.kv_types.specs.{BatchContent}
use Rattle.disk.specs.declared.Disk.{Ghosts}
use Rattle.version_edits.specs.declared.TableName.{TableName}
use Rattle.manifest.specs.{Change, HasFullSlot, NodeVersion, counting_file, spare_file}
use Rattle.manifest.specs.declared.Manifest.{Manifest}
use Rattle.compaction.specs.declared.Merge.{Merge}
use Rattle.compaction.specs.Leftovers.{IsBesideVersion, IsLeftover}
use Rattle.compaction.specs.Merges.{begun_number}
use Rattle.store_model.specs.PlacesLemmas.{contains_cases}
use Rattle.store_tables.specs.declared.error.EngineError.{EngineError}
use Rattle.store_files.specs.declared.store_files.StoreFiles.{StoreFiles}
use Rattle.store_files.specs.Merging.{merged_files, replaced_files}
use Rattle.store_files.specs.OpenFiles.{known_version}
use Rattle.store_files.specs.Raising.{obsolete_files, raised_files}
use Rattle.table_files.specs.declared.cached_disk.CachedDisk.{CachedDisk}
use Rattle.engine.specs.MergeParts.{IsAdvanced, IsMergeFile, KeepsMerge, PartMayFail}
use Rattle.engine.specs.MergeParts.{IsMergeFile as own, IsTendedFile as tended, IsTendedFile}
use Rattle.engine.specs.UnderWay.{HoldsWithMerge, WasMeantWithMerge}

-- a number is below another, or not
lt_or_le : (a b : ℕ) → (a < b) ⊎ (b ≤ a)
lt_or_le a zero = inr (omega arith)
lt_or_le zero (suc b) = inl (omega arith)
lt_or_le (suc a) (suc b) = elim (lt_or_le a b) [
  | inl lt ↦ inl (omega (arith, lt))
  | inr le ↦ inr (omega (arith, le))
]

module _ {D : Type 0} where
  -- the record of a merge touches the slot that counts and the inputs
  pub merged_within : (store : StoreFiles) (merge : Merge D) (edit : Change) →
      edit.tables_gone ≡ merge.gone.items → (file : ℕ) → Contains (merged_files store edit) file →
      IsMergeFile store (Some merge) file
  merged_within store merge edit gone file has = elim (contains_cases
      (counting_file store.manifest) (replaced_files edit) file has) [
        | inl is ↦ own.IsSlot (inl (sym is))
        | inr later ↦ own.IsInput (subst (λ (them : List TableName).
            Contains (map (λ one. one.file) them) file) gone later)
      ]

  -- a merge that is given up removes what it has written
  pub leftover_within : (store : StoreFiles) (was now : Merge D) →
      begun_number now ≡ begun_number was → (file : ℕ) →
      IsLeftover (begun_number now) store.free_file (known_version store).version file →
      IsMergeFile store (Some was) file
  leftover_within store was now first file left = own.IsWritten (subst (λ (n : ℕ). IsLeftover n
      store.free_file (known_version store).version file) first left)

  -- the version is the same where numbers of files were used
  pub same_version : (old new : StoreFiles) (was now : Merge D) → IsAdvanced old new was now →
      known_version new ≡ known_version old
  same_version old new was now on = ap (λ (s : StoreFiles). known_version s) on.store

  pub same_manifest : (old new : StoreFiles) (was now : Merge D) → IsAdvanced old new was now →
      new.manifest ≡ old.manifest
  same_manifest old new was now on = ap (λ (s : StoreFiles). s.manifest) on.store

  -- what a merge that went on may touch, it might have touched before
  pub went_within : (old new : StoreFiles) (was now : Merge D) → IsAdvanced old new was now →
      (file : ℕ) → IsMergeFile new (Some now) file → IsMergeFile old (Some was) file
  went_within old new was now on file (own.IsSlot either) =
      own.IsSlot (subst (λ (m : Manifest). (file ≡ counting_file m) ⊎ (file ≡ spare_file m))
      (same_manifest old new was now on) either)
  went_within old new was now on file (own.IsFree le) =
      let rises = on.numbers.rises in own.IsFree (omega (arith, le, rises))
  went_within old new was now on file (own.IsWritten left) = elim (lt_or_le file old.free_file) [
    | inl lt ↦ own.IsWritten (record {
      begun = subst (λ (n : ℕ). n ≤ file) on.first left.begun;
      early = lt;
      beside = subst (λ (n : NodeVersion). IsBesideVersion n.version file)
          (same_version old new was now on) left.beside;
    })
    | inr le ↦ own.IsFree le
  ]
  went_within old new was now on file (own.IsOpened is) = elim (on.numbers.own file (inl is)) [
    | inl was_open ↦ own.IsOpened was_open
    | inr le ↦ own.IsFree le
  ]
  went_within old new was now on file (own.IsInput has) =
      own.IsInput (subst (λ (them : Vec TableName).
      Contains (map (λ one. one.file) them.items) file) on.gone has)

  -- so is what it has written
  pub went_leftover : (old new : StoreFiles) (was now : Merge D) → IsAdvanced old new was now →
      (file : ℕ) → IsLeftover (begun_number now) new.free_file (known_version new).version file →
      IsMergeFile old (Some was) file
  went_leftover old new was now on file left =
      went_within old new was now on file (own.IsWritten left)

  -- a merge that begins touches the slot that counts and the obsolete logs
  pub raised_within : (store : StoreFiles) (merge : Option (Merge D)) (floor file : ℕ) →
      Contains (raised_files store floor) file → IsTendedFile store merge floor file
  raised_within store merge floor file has = elim (contains_cases (counting_file store.manifest)
      (obsolete_files store floor) file has) [
        | inl is ↦ tended.IsOfMerge (own.IsSlot (inl (sym is)))
        | inr later ↦ tended.IsObsolete later
      ]

module _ {D : Type 0} (g : Ghosts D) where
  -- where the next part may fail, the first might have
  pub may_fail_behind : {T damage : Type 0} (a b : CachedDisk D g) (old mid : StoreFiles)
      (was next : Option (Merge D)) (now : T → Option (Merge D)) (called : Result T EngineError)
      (x : T) → called ≡ Ok x → KeepsMerge g damage now was a b old mid called → now x ≡ next →
      mid.manifest ≡ old.manifest → PartMayFail g b mid next → PartMayFail g a old was
  may_fail_behind a b old mid was next now called x is part to same (inl full) =
      inl (subst (λ (m : Manifest). HasFullSlot m) same full)
  may_fail_behind {damage = damage} a b old mid was next now called x is part to same (inr none) =
      inr (λ list honest h.
      let here = subst (λ r. KeepsMerge g damage now was a b old mid r) is part in
      none list (here.kept.honest.1 honest) (subst (λ (m : Option (Merge D)).
      HoldsWithMerge g b mid m list) to (here.held list honest h)))

  -- a merge under way over files that hold a list began behind the slots, and so it did before
  pub began_late : (files : CachedDisk D g) (store : StoreFiles) (was now : Merge D)
      (list : List BatchContent) → begun_number now ≡ begun_number was →
      HoldsWithMerge g files store (Some was) list → 3 ≤ begun_number now
  began_late files store was now list first h = subst (λ (n : ℕ). 3 ≤ n) (sym first)
      h.merges.under_way.merging.numbers.late

  -- so did one over files that were meant to
  pub meant_late : (files : CachedDisk D g) (store : StoreFiles) (was now : Merge D)
      (list : List BatchContent) → begun_number now ≡ begun_number was →
      WasMeantWithMerge g files store (Some was) list → 3 ≤ begun_number now
  meant_late files store was now list first w = subst (λ (n : ℕ). 3 ≤ n) (sym first)
      w.merges.under_way.merging.numbers.late
