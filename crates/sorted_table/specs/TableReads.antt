-- What the calls promise that read a table.
use Rattle.std.specs.Prelude.{◌≡◌, IsErrOf, ℕ, List, Bool, true, Option, None, Result, OnErr}
use Rattle.std.specs.Prelude.{MatchResult}
use Rattle.disk.specs.declared.Disk.{Ghosts}
use Rattle.disk.specs.{IsEnvironmental, IsSame, IsStill, KeepsDisk}
use Rattle.byte_fields.specs.{StoredKey}
use Rattle.kv_types.specs.{Entry}
use Rattle.merge_iter.specs.{ErrorCauses, reports}
use Rattle.merge_iter.specs.declared.CursorError.{CursorError}
use Rattle.disk.specs.{CallsAtMost}
use Rattle.table_files.specs.{KeepsFiles}
use Rattle.table_format.specs.declared.FileError.TheVariants as reading
use Rattle.table_format.specs.declared.IndexLine.{IndexLine}
use Rattle.table_format.specs.declared.FileError.{FileError}
use Rattle.byte_fields.specs.declared.format.Format.{Format}
use Rattle.sorted_table.specs.MovedFiles.{MovesFiles}
use Rattle.sorted_table.specs.Open.{AnswersAsMeant, IsOpenOn, LookupAnswer, LookupFinds}
use Rattle.sorted_table.specs.Open.{TableServes, table_file}
use Rattle.sorted_table.specs.TableCursors.{HasLines}
use Rattle.sorted_table.specs.declared.block_place.BlockPlace.{BlockPlace}
use Rattle.sorted_table.specs.declared.found.FoundVersion.{FoundVersion}
use Rattle.sorted_table.specs.declared.table.Table.{Table}

module _ {D : Type 0} (g : Ghosts D) where
  -- a call that only reads
  pub record ReadsDisk {T : Type 0} (before now : D) (result : Result T FileError) : Type 0 where
    pub kept : KeepsDisk g before now (IsErrOf result reading.Disk) ⊥ IsSame
    pub still : IsStill g before now

  -- a lookup of a key at a number in a table, whose filter may have the key or not
  pub record AnswersLookup (table : Table) (key : StoredKey) (at : ℕ) (may_have : Type 0)
      (before now : D) (result : Result (Option FoundVersion) FileError) : Type 0 where
    pub kept : KeepsDisk g before now (IsErrOf result reading.Disk) ⊥ IsSame
    -- of a table that serves these entries
    pub found : (entries : List Entry) → g.is_honest before →
        TableServes (g.state before (table_file table)) table entries →
        MatchResult result (LookupFinds entries key at)
        (IsEnvironmental reading.Disk reading.Memory)
    -- of a table that is open on its file, whatever that has
    pub checked : g.is_honest before → IsOpenOn (g.state before (table_file table)) table →
        LookupAnswer (g.state before (table_file table)) table key at result
    -- by what the file was meant to be
    pub meant : g.is_honest before →
        AnswersAsMeant (g.state before (table_file table)) table key at result
    -- no call is made where the filter denies the key
    pub unread : (may_have → ⊥) → now ≡ before
    -- and one else at most
    pub calls : CallsAtMost g 1 before now
    pub still : IsStill g before now

  -- a cursor over a file with these lines was moved to a block, or stands on none after a refusal
  pub record EntersBlock (file : ℕ) (format : Format) (lines : List IndexLine) (before now : D)
      (place : Option BlockPlace) (has_failed : Bool) (result : Result (Unit {0}) CursorError)
      : Type 0 where
    pub keeps : KeepsFiles g before now
    pub device : MovesFiles g (reports result) before now
    pub causes : ErrorCauses (g.is_honest before × HasLines format (g.state before file) lines)
        ⊥ (Unit {0}) (g.failures before) (g.failures now) result
    pub refused : OnErr result ((place ≡ None) × (has_failed ≡ true))
