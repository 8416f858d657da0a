-- A cursor over a table whose last key comes before another.
use Rattle.std.proofs.Common.{◌≡◌, ◌↔◌, IsTrue, Bool, ℕ, List, [], ◌∷◌, Some, Contains}
use Rattle.std.proofs.Common.{IsSomeAnd, Option, inl, inr}
use Rattle.std.proofs.Common.{ap, arith, length, subst, sym, ◌∙◌, ◌-◌}
use Rattle.std.specs.List.{slice_get}
use Rattle.std.specs.Option.{option_map}
use Rattle.std.specs.Ordering.{is_lt, ordering_then, nat_cmp}
use Rattle.std.specs.declared.cmp.Ordering.{Ordering}
use Rattle.std.specs.declared.cmp.Ordering.TheVariants.{Less}
use Rattle.disk.specs.{Slot}
use Rattle.byte_fields.specs.{StoredKey, stored_cmp}
use Rattle.kv_types.specs.{Entry}
use Rattle.kv_types.specs.OrderLemmas.{Among, Contains-among, Rises, among_from_Contains}
use Rattle.kv_types.specs.OrderLemmas.{rises_from_AllPairs}
use Rattle.merge_iter.specs.{EntryPrecedes, chain, spot}
use Rattle.merge_iter.specs.OrderLemmas.{less_iff}
use Rattle.merge_iter.specs.declared.Direction.TheVariants.{Forward}
use Rattle.table_format.specs.{TableRepresents, last_entry}
use Rattle.table_format.specs.RisingLemmas.{last_among, last_of_some}
use Rattle.byte_fields.specs.declared.format.Format.{Format}
use Rattle.table_format.specs.declared.IndexLine.{IndexLine}
use Rattle.sorted_table.specs.Open.{FileRepresents, greatest_key, last_line_key}
use Rattle.sorted_table.specs.Searches.{EndsBefore}
use Rattle.sorted_table.specs.TableCursorLaws.{one_list}
use Rattle.sorted_table.specs.TableCursors.{FileHolds, HasLines}
use Rattle.sorted_table.proofs.GreatestKeys.{last_key, last_line_is}

-- entries whose last one comes before a place all do
all_before : (entries : List Entry) (last place : Entry) → Rises (EntryPrecedes Forward) entries
    → last_entry entries ≡ Some last → EntryPrecedes Forward last place → (entry : Entry)
    → Among entry entries → EntryPrecedes Forward entry place
all_before [] last place rises is before entry among = absurd among
all_before (x ∷ []) last place rises is before entry among = elim among [
  | inl e ↦ let same : x ≡ last = cc in
      subst (λ (r : Entry). EntryPrecedes Forward r place) (sym same ∙ e) before
  | inr none ↦ absurd none
]
all_before (x ∷ y ∷ entries) last place rises is before entry among = elim among [
  | inl e ↦ subst (λ (r : Entry). EntryPrecedes Forward r place) e
      (chain Forward x last place (rises.0 last (last_among (y ∷ entries) last is)) before)
  | inr later ↦ all_before (y ∷ entries) last place rises.1 is before entry later
]

-- the key of the last line is that of the last entry
greatest_of : (format : Format) (file : Slot) (lines : List IndexLine)
    → (table : HasLines format file lines)
    → last_line_key lines ≡ greatest_key table.entries
greatest_of format file lines table =
    sym (last_line_is lines)
    ∙ ap (λ (all : List IndexLine). option_map (λ (line : IndexLine). line.key)
    (slice_get all (length all - 1))) table.indexed
    ∙ (last_key format 0 table.represents.blocks ∙ sym (ap greatest_key table.represents.division))

-- where the last key comes before another, every entry does
pub file_ends : (format : Format) (file : Slot) (lines : List IndexLine) (key : StoredKey)
    → HasLines format file lines
    → IsSomeAnd (last_line_key lines) (λ last. stored_cmp last key ≡ Less)
    → EndsBefore (FileHolds file) key
file_ends format file lines key table ends =
    let entries = table.entries in
    let end = last_of_some entries (omega (arith, table.represents.some)) in
    let greatest : last_line_key lines ≡ Some end.0.key =
    greatest_of format file lines table ∙ ap (option_map (λ (e : Entry). e.key)) end.1 in
    let less : stored_cmp end.0.key key ≡ Less =
    subst (λ (o : Option StoredKey). IsSomeAnd o (λ last. stored_cmp last key ≡ Less)) greatest
    ends in
    let here : FileRepresents file entries =
    subst (λ (o : Option (List ℕ)). IsSomeAnd o (λ bytes. TableRepresents bytes entries))
    (sym table.present) (record { format = format; table = table.represents }) in
    let rises = rises_from_AllPairs (EntryPrecedes Forward) entries table.represents.rising in
    let among : (entry : Entry) → FileHolds file entry → Among entry entries = λ entry held.
    among_from_Contains entries entry
    (subst (λ (l : List Entry). Contains l entry) (one_list file held.0 entries held.1 here) held.2)
    in
    record {
      some = end.0;
      held = (entries, here, Contains-among entries end.0 (last_among entries end.0 end.1));
      each = λ entry held number. all_before entries end.0 (spot key number) rises end.1
          (ap (λ (o : Ordering). ordering_then o (nat_cmp number end.0.number)) less) entry
          (among entry held);
    }

-- the test compares the key of the last line
pub line_ends : (kept lines : List IndexLine) (line : IndexLine) (key last : StoredKey)
    (order : Ordering) (result : Bool) → lines ≡ kept
    → Some line ≡ slice_get lines (length lines - 1) → last ≡ line.key
    → order ≡ stored_cmp last key → result ≡ is_lt order
    → IsTrue result ↔ IsSomeAnd (last_line_key kept) (λ last. stored_cmp last key ≡ Less)
line_ends kept lines line key last order result are at is told test =
    let end : last_line_key kept ≡ Some last =
    ap last_line_key (sym are) ∙ sym (last_line_is lines)
    ∙ ap (option_map (λ (one : IndexLine). one.key)) (sym at)
    ∙ ap (λ (k : StoredKey). Some k) (sym is) in
    let same : IsSomeAnd (last_line_key kept) (λ k. stored_cmp k key ≡ Less)
    ≡ (stored_cmp last key ≡ Less) =
    ap (λ (o : Option StoredKey). IsSomeAnd o (λ k. stored_cmp k key ≡ Less)) end in
    subst (λ (P : Type 0). IsTrue result ↔ P) (sym same)
    (subst (λ (r : Bool). IsTrue r ↔ (stored_cmp last key ≡ Less)) (sym test)
    (subst (λ (o : Ordering). IsTrue (is_lt o) ↔ (stored_cmp last key ≡ Less)) (sym told)
    (less_iff (stored_cmp last key))))
