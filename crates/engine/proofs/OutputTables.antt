-- The lines that a merge adds, and the files of its outputs.
use Rattle.std.proofs.Common.{◌≡◌, ◌≤◌, ℕ, List, [], ◌∷◌, Option, None, Some, ap, arith, length}
use Rattle.std.proofs.Common.{refl, subst, sym}
use Rattle.std.specs.Prelude.{All, IfSome, IsSomeAnd}
use Rattle.std.specs.List.{AllZip}
use Rattle.std.specs.Option.{option_map}
use Rattle.std.proofs.lemmas.List.Elements.{All-cons, All-nil}
use Rattle.byte_fields.specs.{StoredKey}
use Rattle.kv_types.specs.{Entry}
use Rattle.disk.specs.{IsDurable, Kept, Slot, State, contents, seen}
use Rattle.byte_fields.specs.declared.format.Format.TheVariants.{Two}
use Rattle.sorted_table.specs.{greatest_key}
use Rattle.version_edits.specs.declared.TableLine.{TableLine}
use Rattle.compaction.specs.Merges.{IsOutputTable}
use Rattle.store_model.specs.{LevelTable}
use Rattle.store_tables.specs.LevelTables.{IsTableOf, least_key}

-- where two lists stand side by side, each on the first side has what follows of it
pub zip_each : {A B : Type 0} (R : A → B → Type 0) (P : A → Type 0)
    → ((x : A) (y : B) → R x y → P x) →
    (xs : List A) (ys : List B) → AllZip R xs ys → All P xs
zip_each R P so [] ys zip = All-nil P
zip_each R P so (x ∷ xs) [] zip = absurd zip
zip_each R P so (x ∷ xs) (y ∷ ys) zip =
    All-cons P x xs (so x y zip.0) (zip_each R P so xs ys zip.1)

-- a key of an entry that there is
key_is : (entry : Option Entry) (key : StoredKey) →
    (option_map (λ (e : Entry). e.key) entry ≡ None → ⊥) → IfSome entry (λ e. key ≡ e.key) →
    option_map (λ (e : Entry). e.key) entry ≡ Some key
key_is None key some is = absurd (some refl)
key_is (Some entry) key some is = ap (λ k. Some k) (sym is)

-- some entries have ends
has_least : (entries : List Entry) → 1 ≤ length entries → least_key entries ≡ None → ⊥
has_least [] some none = omega (arith, some)
has_least (entry ∷ entries) some none = cc

has_greatest : (entries : List Entry) → 1 ≤ length entries → greatest_key entries ≡ None → ⊥
has_greatest [] some none = omega (arith, some)
has_greatest (entry ∷ []) some none = cc
has_greatest (entry ∷ next ∷ entries) some none =
    has_greatest (next ∷ entries) (omega arith) none

-- what is said of the bytes of a durable file is said of what it reads as
some_and : (P : List ℕ → Type 0) (slot : Slot) (bytes : List ℕ) → slot ≡ Kept bytes bytes [] →
    P bytes → IsSomeAnd (seen slot) P
some_and P slot bytes is p = subst (λ (s : Slot). IsSomeAnd (seen s) P) (sym is) p

-- the line of an output names its table
pub output_read : (disk : State) (level : ℕ) (line : TableLine) (table : LevelTable) →
    IsOutputTable disk level line table → IsTableOf (contents disk) line table
output_read disk level line table it = record {
  level = it.line_of.level;
  file = it.line_of.file;
  range = it.line_of.range;
  represents = some_and _ (disk line.file) it.holds.table.bytes it.holds.table.durable
      (sym it.holds.len, record { format = Two; table = it.holds.table.represents });
  least = key_is _ line.least (has_least table.entries it.holds.table.represents.some)
      it.holds.least;
  greatest = key_is _ line.greatest (has_greatest table.entries it.holds.table.represents.some)
      it.holds.greatest;
}

-- and its file is durable
pub output_durable : (disk : State) (level : ℕ) (line : TableLine) (table : LevelTable) →
    IsOutputTable disk level line table → IsDurable (disk line.file)
output_durable disk level line table it =
    subst IsDurable (sym it.holds.table.durable) (refl, refl)
