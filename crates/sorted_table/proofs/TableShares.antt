-- What a table gives its cursors.
use Rattle.std.proofs.Common.{◌≡◌, ℕ, List, Option, Some, None, IsSomeAnd, Contains, sym}
use Rattle.std.proofs.Common.{◌∙◌, subst}
use Rattle.std.specs.Rc.{rc_slice_items}
use Rattle.disk.specs.{Slot, seen}
use Rattle.kv_types.specs.{Entry}
use Rattle.merge_iter.specs.{IsAlike}
use Rattle.table_format.specs.{TableRepresents, TableRepresentsIn}
use Rattle.byte_fields.specs.declared.format.Format.{Format}
use Rattle.table_format.specs.declared.IndexLine.{IndexLine}
use Rattle.sorted_table.specs.declared.block_place.BlockPlace.{BlockPlace}
use Rattle.sorted_table.specs.declared.table.Table.{Table}
use Rattle.sorted_table.specs.Open.{FileRepresents, TableServes}
use Rattle.sorted_table.specs.TableCursorLaws.{one_list}
use Rattle.sorted_table.specs.TableCursors.{CursorServes, FileHolds}

represented : (format : Format) (file : Option (List ℕ)) (bytes : List ℕ) (entries : List Entry)
    → file ≡ Some bytes → TableRepresentsIn format bytes entries
    → IsSomeAnd file (λ bytes. TableRepresents bytes entries)
represented format file bytes entries is r =
    subst (λ f. IsSomeAnd f (λ bytes. TableRepresents bytes entries)) (sym is)
    (record { format = format; table = r })

-- a cursor with the table's lines, on none, serves the file, and has the table's entries
pub shared : (file of : Slot) (table : Table) (entries : List Entry) (lines : List IndexLine)
    (place : Option BlockPlace) → TableServes file table entries → of ≡ file
    → lines ≡ rc_slice_items table.lines → place ≡ None
    → CursorServes table.format of lines place × IsAlike (FileHolds of) (Contains entries)
shared file of table entries lines place s same shares off =
    let rep : FileRepresents file entries =
    represented table.format (seen file) s.bytes entries s.present s.represents in
    subst (λ f. CursorServes table.format f lines place × IsAlike (FileHolds f) (Contains entries))
    (sym same) (
      subst (λ o. CursorServes table.format file lines o) (sym off)
          (record {
            table = record {
              bytes = s.bytes;
              present = s.present;
              entries = entries;
              represents = s.represents;
              indexed = shares ∙ s.lines;
            };
            here = tt;
          }),
      λ e. (
        (λ h. subst (λ l. Contains l e) (one_list file h.0 entries h.1 rep) h.2),
        (λ has. (entries, rep, has)),
      ),
    )
