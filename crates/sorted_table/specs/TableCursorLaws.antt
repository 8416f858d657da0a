-- A cursor over a table keeps what every cursor keeps.
use Rattle.std.proofs.Common.{◌≡◌, ℕ, List, Option, Some, None, refl, sym, ◌∙◌}
use Rattle.std.proofs.Common.{subst, IsSomeAnd, Contains, Bool, true, false, slice_get}
use Rattle.std.specs.Rc.{rc_slice_items}
use Rattle.std.specs.Option.{ForSome}
use Rattle.std.proofs.lemmas.Option.{get_or_from_slice_get, slice_get_within}
use Rattle.std.proofs.lemmas.List.Elements.{All-get_or}
use Rattle.disk.specs.declared.Disk.{Ghosts}
use Rattle.disk.specs.{Slot, State, seen}
use Rattle.kv_types.specs.{Entry}
use Rattle.byte_fields.specs.{◌>>=◌}
use Rattle.merge_iter.specs.{AreCursorLaws, IfOn, IsApart, IsTableEntry}
use Rattle.table_format.specs.{AreRising, TableRepresents}
use Rattle.byte_fields.specs.declared.format.Format.{Format}
use Rattle.table_format.specs.declared.IndexLine.{IndexLine}
use Rattle.table_format.specs.TablesLemmas.{table_is_unique}
use Rattle.table_files.specs.{KeepsFiles, keeps_files_itself, keeps_files_through}
use Rattle.sorted_table.specs.declared.block_place.BlockPlace.{BlockPlace}
use Rattle.sorted_table.specs.Open.{FileRepresents}
use Rattle.sorted_table.specs.LineSizes.{IsBounded, blocks_size, steps_left}
use Rattle.sorted_table.specs.LineSizesLemmas.{steps_within}
use Rattle.sorted_table.specs.RisingEntries.{rising_apart}
use Rattle.sorted_table.specs.MovedFiles.{MovesFiles, moves_itself, moves_through}
use Rattle.sorted_table.specs.Meant.{AreAsMeant}
use Rattle.table_files.specs.{entry_read}
use Rattle.sorted_table.specs.TableCursors.{CursorServes, FileHolds, entry_position}
use Rattle.sorted_table.specs.TableCursors.{table_position}

-- ---- the entries of a file

same_of : (file : Option (List ℕ)) (entries others : List Entry)
    → IsSomeAnd file (λ bytes. TableRepresents bytes entries)
    → IsSomeAnd file (λ bytes. TableRepresents bytes others) → entries ≡ others
same_of None entries others a b = absurd a
same_of (Some bytes) entries others a b = table_is_unique bytes entries others a b

-- a file represents at most one list of entries
pub one_list : (file : Slot) (entries others : List Entry) → FileRepresents file entries
    → FileRepresents file others → entries ≡ others
one_list file entries others a b = same_of (seen file) entries others a b

rising_of : (file : Option (List ℕ)) (entries : List Entry)
    → IsSomeAnd file (λ bytes. TableRepresents bytes entries) → AreRising entries
rising_of None entries a = absurd a
rising_of (Some bytes) entries a = a.table.rising

-- of one file no two entries have one key and number
pub files_apart : (file : Slot) → IsApart (FileHolds file)
files_apart file a b p q e =
    let same = one_list file q.0 p.0 q.1 p.1 in
    rising_apart p.0 (rising_of (seen file) p.0 p.1) a b p.2
    (subst (λ l. Contains l b) same q.2) e

-- ---- the entry that a cursor stands on

-- an entry that was read keeps its limits
read_fits : (entry : Option Entry) → IsSomeAnd entry IsTableEntry
    → IfOn (entry_position entry) IsTableEntry
read_fits (Some entry) is = is
read_fits None is = absurd is

fits_at : (format : Format) (block : List ℕ) (start : Option ℕ)
    → ((s : ℕ) → start ≡ Some s → IsSomeAnd (entry_read format block s) IsTableEntry)
    → IfOn (entry_position (start >>= λ s. entry_read format block s)) IsTableEntry
fits_at format block (Some s) is = read_fits (entry_read format block s) (is s refl)
fits_at format block None is = tt

-- so does the one at a place in a block
pub table_fits : (has_failed : Bool) (place : Option BlockPlace)
    → IfOn (table_position has_failed place) IsTableEntry
table_fits has_failed (Some place) =
    let format = place.block.format in
    let block = rc_slice_items place.block.bytes in
    let starts = rc_slice_items place.block.starts in
    let P : ℕ → Type 0 = λ start. IsSomeAnd (entry_read format block start) IsTableEntry in
    fits_at format block (slice_get starts place.at)
    (λ s here. subst P (get_or_from_slice_get starts place.at s s here)
    (All-get_or P starts place.at s (slice_get_within starts place.at s here) place.block.read))
table_fits true None = tt
table_fits false None = tt

-- ---- the laws

-- the files of a disk are those that it was meant to have
abbrev pub AreIntactFiles : {D : Type 0} → Ghosts D → State → D → Type 0
AreIntactFiles g meant disk = g.is_honest disk → (file : ℕ) → g.state disk file ≡ meant file

module _ {C S : Type 0} (g : Ghosts S) (file : C → ℕ) (format : C → Format)
    (lines : C → List IndexLine) (place : C → Option BlockPlace) where
  -- the file was meant to be a table that the cursor serves, and its blocks are as meant
  abbrev pub ServesMeant : State → C → S → Type 0
  ServesMeant meant c s =
      g.is_honest s × CursorServes (format c) (meant (file c)) (lines c) (place c)
      × AreAsMeant (format c) (g.state s (file c)) (meant (file c)) (lines c)

  -- a disk that has the same file serves the cursor as well
  abbrev pub FileSuits : C → S → S → Type 0
  FileSuits c a b = g.is_honest a → g.is_honest b × (g.state b (file c) ≡ g.state a (file c))

  -- the laws of a cursor hold of one over a table
  pub table_laws : (bounded : (c : C) → ForSome (place c) (IsBounded (lines c)))
      → AreCursorLaws {C = C} {S = S} {K = State} g.state (AreIntactFiles g)
      (λ meant c s. FileHolds (meant (file c))) ServesMeant FileSuits
      (KeepsFiles g) (MovesFiles g) (λ c. steps_left (lines c) (place c)) (λ c. blocks_size (lines
      c))
  table_laws bounded = record {
    itself = keeps_files_itself g;
    through = keeps_files_through g;
    makes_itself = moves_itself g;
    makes_through = moves_through g;
    lasts = λ m a b k h honest f. k.same (k.honest.0 honest) f ∙ h (k.honest.0 honest) f;
    whole = λ a honest f. refl;
    stays = λ m c a b k s. (
      (
        k.honest.1 s.0,
        s.1,
        subst (λ slot. AreAsMeant (format c) slot (m (file c)) (lines c))
            (sym (k.same s.0 (file c))) s.2,
      ),
      λ entry. ((λ h. h), (λ h. h)),
      λ v w z. z,
    );
    suited = λ m c a b k s.
        let it = k s.0 in (
          (
            it.0,
            s.1,
            subst (λ slot. AreAsMeant (format c) slot (m (file c)) (lines c)) (sym it.1) s.2,
          ),
          λ entry. ((λ h. h), (λ h. h)),
          λ v w z. z,
        );
    apart = λ m c a s. files_apart (m (file c));
    within = λ c way. steps_within (lines c) (place c) way (bounded c);
  }
