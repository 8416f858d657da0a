-- Cursors over tables in order, each over a series of tables of which the keys of each come before
-- those of the next.
use Rattle.std.specs.Prelude.{◌≡◌, ◌++◌, ℕ, List, [], ◌∷◌, Contains, length}
use Rattle.byte_fields.specs.{StoredKey}
use Rattle.kv_types.specs.{Entry}
use Rattle.merge_iter.specs.{AreSound, EntryPrecedes, IsAlike, spot, union_of}
use Rattle.merge_iter.specs.declared.Cursor.{Ghosts}
use Rattle.merge_iter.specs.declared.Direction.TheVariants.{Forward}
use Rattle.store_cursors.specs.Concatenation.{AreConcatenated}
use Rattle.store_model.specs.{FitsRange, LevelTable, tables_entries}

-- each of the tables fits its range
abbrev pub EachFitsRange : List LevelTable → Type 0
EachFitsRange tables = (t : LevelTable) → Contains tables t → FitsRange t

module _ {C S : Type 0} (g : Ghosts C S) (meant : g.Meant) (source : S) where
  -- the cursor has the entries of the tables, and is sound where each fits its range
  pub record IsOver (cursor : C) (tables : List LevelTable) : Type 0 where
    pub sound : EachFitsRange tables → g.is_sound meant cursor source
    pub holds : IsAlike (g.holds meant cursor source) (tables_entries tables)

  -- the cursors go through the tables in order: each through those that come next
  abbrev pub AreOver : List C → List LevelTable → Type 0
  AreOver [] tables = tables ≡ []
  AreOver (cursor ∷ others) tables =
      (next : List LevelTable) × (later : List LevelTable) × (tables ≡ next ++ later)
      × IsOver cursor next × AreOver others later

  -- the cursors are over these tables, one over each, and where each fits its range, the entries
  -- of one come before those of the next
  pub record IsSeries (cursors : List C) (tables : List LevelTable) : Type 0 where
    pub each : AreSound g meant cursors source
    pub len : length cursors ≡ length tables
    pub holds : IsAlike (union_of g meant cursors source) (tables_entries tables)
    pub order : EachFitsRange tables → AreConcatenated (λ c. g.holds meant c source) cursors

  -- each entry of the cursors comes before the key, whatever the number
  abbrev pub AllPrecede : List C → StoredKey → Type 0
  AllPrecede cursors key =
      (entry : Entry) → union_of g meant cursors source entry → (number : ℕ) →
      EntryPrecedes Forward entry (spot key number)

module _ {C T S : Type 0} (g : Ghosts C S) (t : Ghosts T S) (meant : g.Meant) (lent : t.Meant)
    (source : S) where
  -- the cursors over the series that have ended, and those of the last one, go through the tables
  pub record AreSeries (ended : List C) (these : List T) (tables : List LevelTable) : Type 0 where
    pub before : List LevelTable
    pub last : List LevelTable
    pub whole : tables ≡ before ++ last
    pub through : AreOver g meant source ended before
    pub series : IsSeries t lent source these last

  -- the last series ends before the key
  pub record EndsSeries (ended : List C) (these : List T) (tables : List LevelTable) (key :
      StoredKey)
      : Type 0 where
    pub series : AreSeries ended these tables
    pub precede : EachFitsRange series.last → AllPrecede t lent source these key
