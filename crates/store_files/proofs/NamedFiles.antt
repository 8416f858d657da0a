-- What the files of a store represent depends on the named files alone.
use Rattle.std.proofs.Common.{◌≡◌, ℕ, suc, ◌+◌, arith, List, [], ◌∷◌, Option, refl, sym, subst, inl}
use Rattle.std.proofs.Common.{inr, length, Contains}
use Rattle.std.specs.Prelude.{IsSomeAnd}
use Rattle.kv_types.specs.{BatchContent}
use Rattle.disk.specs.{Contents}
use Rattle.table_format.specs.{TableRepresents}
use Rattle.store_model.specs.{LevelTable}
use Rattle.store_model.specs.PlacesLemmas.{contains_head, contains_next}
use Rattle.manifest.specs.declared.LogLine.{LogLine}
use Rattle.manifest.specs.declared.TableLine.{TableLine}
use Rattle.manifest.specs.{IsSlotFile, IsSlotIn, IsSuperseded, ManifestRepresents, NodeVersion}
use Rattle.manifest.specs.{ManifestRepresentsIn, SlotsRepresentIn, other_slot}
use Rattle.byte_fields.specs.declared.format.Format.{Format}
use Rattle.byte_fields.specs.declared.format.Format.TheVariants as formats
use Rattle.batch_logs.specs.Layout.{IsLog}
use Rattle.batch_logs.specs.Layout.{records_from}
use Rattle.batch_logs.specs.BatchLogs.{HaveBatches}
use Rattle.store_tables.specs.LevelTables.{AreTablesOf, IsTableOf}
use Rattle.store_files.specs.StoreFiles.{StoreFilesAreNamed}

-- the other slot is a slot
other_is_slot : (slot : ℕ) → IsSlotFile slot → IsSlotFile (other_slot slot)
other_is_slot slot (inl one) = inr (omega (arith, one))
other_is_slot slot (inr two) = inl (omega (arith, two))

module _ (left other : Contents) where
  -- the same slots have the same records
  pub records_same : ((file : ℕ) → IsSlotFile file → other file ≡ left file)
      → (format : Format) (id : ℕ) (records : List (List ℕ))
      → SlotsRepresentIn format id records left → SlotsRepresentIn format id records other
  records_same same format id records h = record {
    slot = h.slot;
    one = h.one;
    generation = h.generation;
    limit = h.limit;
    counting = subst (λ (o : Option (List ℕ)).
        IsSomeAnd o (IsSlotIn format h.generation id records))
        (sym (same h.slot h.one)) h.counting;
    other = subst (λ (o : Option (List ℕ)). IsSomeAnd o (IsSuperseded h.generation))
        (sym (same (other_slot h.slot) (other_is_slot h.slot h.one))) h.other;
  }

  -- and the same version
  pub version_same_in : ((file : ℕ) → IsSlotFile file → other file ≡ left file)
      → (format : Format) (named : NodeVersion) → ManifestRepresentsIn format named left
      → ManifestRepresentsIn format named other
  version_same_in same format named h = record {
    id = h.id;
    changes = h.changes;
    some = h.some;
    each = h.each;
    fit = h.fit;
    is = h.is;
    records = records_same same format named.id _ h.records;
  }

  pub version_same : ((file : ℕ) → IsSlotFile file → other file ≡ left file)
      → (named : NodeVersion) → ManifestRepresents named left → ManifestRepresents named other
  version_same same named h = version_same_in same formats.Two named h

  -- the same logs have the same batches
  pub logs_same : (number : ℕ) (lines : List LogLine) (batches : List BatchContent)
      → ((line : LogLine) → Contains lines line → other line.file ≡ left line.file)
      → HaveBatches left number lines batches → HaveBatches other number lines batches
  logs_same number [] batches there h = h
  logs_same number (line ∷ lines) batches there h = (
    h.0,
    h.1,
    h.2,
    (
      h.3.0,
      subst (λ (o : Option (List ℕ)). IsLog o (records_from number h.0))
          (sym (there line (contains_head line lines))) h.3.1,
    ),
    logs_same (number + length h.0) lines h.1
        (λ one has. there one (contains_next line lines one has)) h.4,
  )

  -- the same table has the same entries
  pub table_same : (line : TableLine) (table : LevelTable) → other line.file ≡ left line.file
      → IsTableOf left line table → IsTableOf other line table
  table_same line table same h = record {
    level = h.level;
    file = h.file;
    range = h.range;
    represents = subst (λ (o : Option (List ℕ)). IsSomeAnd o
        (λ bytes. (length bytes ≡ line.length) × TableRepresents bytes table.entries))
        (sym same) h.represents;
    least = h.least;
    greatest = h.greatest;
  }

  pub tables_same : (lines : List TableLine) (tables : List LevelTable)
      → ((line : TableLine) → Contains lines line → other line.file ≡ left line.file)
      → AreTablesOf left lines tables → AreTablesOf other lines tables
  tables_same [] [] there h = tt
  tables_same [] (table ∷ tables) there h = absurd h
  tables_same (line ∷ lines) [] there h = absurd h
  tables_same (line ∷ lines) (table ∷ tables) there h = (
    table_same line table (there line (contains_head line lines)) h.0,
    tables_same lines tables (λ one has. there one (contains_next line lines one has)) h.1,
  )

-- so the files represent the same
unfoldable pub files_are_named : StoreFilesAreNamed
files_are_named facts list left other agree h =
    let named : NodeVersion = record { id = facts.id; version = h.version } in
    record {
      version = h.version;
      manifest = version_same left other (λ file is. agree file (inl is)) named h.manifest;
      epoch = h.epoch;
      ids = h.ids;
      floor = h.floor;
      logs = logs_same left other (suc facts.kept) h.version.logs _
          (λ line has. agree line.file (inr (named, h.manifest, inl (line, has, refl)))) h.logs;
      tables = h.tables;
      read = tables_same left other h.version.tables h.tables
          (λ line has. agree line.file (inr (named, h.manifest, inr (line, has, refl)))) h.read;
      store = h.store;
      each = h.each;
      few = h.few;
    }
