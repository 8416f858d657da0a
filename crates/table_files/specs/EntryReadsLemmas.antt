-- The entries that are read at places of a block: their number, and none behind its end.
use Rattle.std.proofs.Common.{◌≡◌, ℕ, ◌<◌, List, [], length, Some, None, refl, sym, ap, ◌∙◌, arith}
use Rattle.std.specs.Option.{option_map}
use Rattle.std.proofs.lemmas.List.{drop_all, length-map}
use Rattle.byte_fields.specs.{key_at, key_at_in, text_at}
use Rattle.kv_types.specs.{Entry}
use Rattle.table_format.specs.Reading.{table_entry_at}
use Rattle.byte_fields.specs.declared.format.Format.{Format}
use Rattle.byte_fields.specs.declared.format.Format.TheVariants.{One, Two}
use Rattle.table_files.specs.EntryReads.{ReadsEntries, entry_read}

-- of no bytes nothing is read
nothing_read : (format : Format) → table_entry_at format [] ≡ None
unfolding table_entry_at key_at_in key_at text_at
nothing_read One = refl
nothing_read Two = refl

-- behind the end nothing is read
pub none_behind : (format : Format) (bytes : List ℕ) (start : ℕ) → length bytes < start
    → entry_read format bytes start ≡ None
none_behind format bytes start past =
    ap (λ (rest : List ℕ). option_map (λ x. x.0) (table_entry_at format rest))
    (drop_all start bytes (omega arith))
    ∙ ap (option_map (λ x. x.0)) (nothing_read format)

-- as many entries as places
pub count_read : (format : Format) (block starts : List ℕ) (entries : List Entry)
    → ReadsEntries format block starts entries
    → length starts ≡ length entries
count_read format block starts entries is =
    sym (length-map starts (entry_read format block)) ∙ ap length is ∙ length-map entries Some
