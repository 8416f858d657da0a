-- The parts of an edit, written one behind the other, are its spelling.
use Rattle.std.proofs.Common.{◌≡◌, List, ℕ, ◌++◌, Result, Ok, Err, OnOk, ◌∙◌, append_assoc}
use Rattle.std.specs.Int.{w32, w64, to_be_bytes}
use Rattle.configurations.specs.{config_text}
use Rattle.byte_fields.specs.declared.format.Format.TheVariants as formats
use Rattle.version_edits.specs.Versions.{Change}
use Rattle.version_edits.specs.Edits.{change_text, counted_bytes, log_line_bytes, table_name_bytes}
use Rattle.version_edits.specs.Edits.{table_line_bytes, change_text_in}

-- nine parts behind what was there
grouped : (out a b c d ids e f g h : List ℕ) →
    out ++ a ++ b ++ c ++ d ++ ids ++ e ++ f ++ g ++ h
    ≡ out ++ (a ++ b ++ c ++ d ++ ids ++ e ++ f ++ g ++ h)
grouped out a b c d ids e f g h = simp append_assoc

-- the buffer after each part, and after the last one
pub is_spelled : {T E : Type 0} (change : Change) (out numbers ids gone logs names all : List ℕ)
    (result : Result T E) →
    numbers ≡ out ++ to_be_bytes w64 change.next_file ++ to_be_bytes w64 change.floor
    ++ to_be_bytes w64 change.flushed ++ to_be_bytes w32 change.epoch →
    ids ≡ numbers ++ config_text change.ids →
    gone ≡ ids ++ counted_bytes (λ file. to_be_bytes w64 file) change.logs_gone →
    logs ≡ gone ++ counted_bytes log_line_bytes change.logs_added →
    names ≡ logs ++ counted_bytes table_name_bytes change.tables_gone →
    OnOk result (all ≡ names ++ counted_bytes (table_line_bytes formats.Two) change.tables_added) →
    OnOk result (all ≡ out ++ change_text change)
unfolding change_text_in
is_spelled change out numbers ids gone logs names all (Ok x) a b c d e f =
    f ∙ rw (e, d, c, b, a) (grouped out (to_be_bytes w64 change.next_file)
    (to_be_bytes w64 change.floor) (to_be_bytes w64 change.flushed)
    (to_be_bytes w32 change.epoch) (config_text change.ids)
    (counted_bytes (λ file. to_be_bytes w64 file) change.logs_gone)
    (counted_bytes log_line_bytes change.logs_added)
    (counted_bytes table_name_bytes change.tables_gone)
    (counted_bytes (table_line_bytes formats.Two) change.tables_added))
is_spelled change out numbers ids gone logs names all (Err e') a b c d e f = tt

-- two and three parts
pub two_parts : {T E : Type 0} (result : Result T E) (out mid new a b : List ℕ) → mid ≡ out ++ a
    → OnOk result (new ≡ mid ++ b) → OnOk result (new ≡ out ++ (a ++ b))
two_parts (Ok x) out mid new a b first next = next ∙ rw first (append_assoc out a b)
two_parts (Err e) out mid new a b first next = tt

pub three_parts : {T E : Type 0} (result : Result T E) (out one two new a b c : List ℕ)
    → one ≡ out ++ a → two ≡ one ++ b → OnOk result (new ≡ two ++ c)
    → OnOk result (new ≡ out ++ (a ++ b ++ c))
three_parts result out one two new a b c first next last =
    two_parts result out two new (a ++ b) c (next ∙ rw first (append_assoc out a b)) last
