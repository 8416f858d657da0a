-- Where the key and the value of an entry that is read stand.
use Rattle.std.proofs.Common.{◌≡◌, ℕ, ◌+◌, ◌-◌, ◌≤◌, List, [], ◌∷◌, ◌++◌, length, take, drop}
use Rattle.std.proofs.Common.{Option, Some, None, IfSome, refl, sym, ap, subst, ◌∙◌, arith}
use Rattle.std.proofs.Common.{append_assoc, length-append, length-take}
use Rattle.std.specs.List.{slice_range}
use Rattle.std.specs.Int.{w16, to_be_bytes}
use Rattle.std.specs.Option.{ForSome, option_map}
use Rattle.std.proofs.lemmas.List.{drop_at, take_at, take-append-drop, take_rest}
use Rattle.byte_fields.specs.FieldsLemmas.{IsBytes, some_is}
use Rattle.byte_fields.specs.ReadersLemmas.{IsBytes-drop}
use Rattle.byte_fields.specs.declared.Space.{Space}
use Rattle.byte_fields.specs.{IsStoredKey, StoredKey, bytes_of, key_bytes_in, stored_key}
use Rattle.kv_types.specs.{Entry}
use Rattle.byte_fields.specs.declared.format.Format.{Format}
use Rattle.table_format.specs.{be64, entry_bytes, table_entry_at}
use Rattle.byte_fields.specs.declared.format.Format.TheVariants.{One, Two}
use Rattle.table_format.specs.Blocks.{change_bytes}
use Rattle.table_format.specs.EntriesLemmas.{entry_reads}
use Rattle.sorted_table.specs.declared.entry_place.EntryPlace.{EntryPlace}
use Rattle.sorted_table.specs.declared.entry_place.ByteSpan.{ByteSpan}
use Rattle.sorted_table.specs.EntryPlaces.{IsEntryFrom, IsSpanIn, key_front, span_bytes}

abbrev the_entry : StoredKey → ℕ → Option (List ℕ) → Entry
the_entry key number value = record { key = key; number = number; value = value }

-- the part of a text that stands between two others
part_between : (bytes a b c : List ℕ) (start end : ℕ) → bytes ≡ a ++ (b ++ c) → length a ≡ start
    → start + length b ≡ end → slice_range bytes start end ≡ b
part_between bytes a b c start end parts at to =
    ap (λ t. take (end - start) (drop start t)) parts
    ∙ ap (take (end - start)) (drop_at a (b ++ c) start at)
    ∙ take_at b c (end - start) (omega (arith, to))

-- the value of an entry ends where the rest begins
abbrev IsValueAt : List ℕ → ℕ → List ℕ → Type 0
IsValueAt bytes end value =
    (length value ≤ end) × (slice_range bytes (end - length value) end ≡ value)

-- the bytes of the key stand behind those in front of them, and the value before the rest
pub record EntryStands (format : Format) (bytes : List ℕ) (start : ℕ) (entry : Entry)
    (rest : List ℕ)
    : Type 0 where
  pub within : start + key_front format + length (bytes_of entry.key) + length rest ≤ length bytes
  pub key : slice_range bytes (start + key_front format)
      (start + key_front format + length (bytes_of entry.key))
      ≡ bytes_of entry.key
  pub value : IfSome entry.value (IsValueAt bytes (length bytes - length rest))

-- so many bytes stand before the rest
length_before : (bytes front text rest : List ℕ) → bytes ≡ front ++ (text ++ rest)
    → length bytes ≡ length front + length text + length rest
length_before bytes front text rest parts =
    let all = ap length parts in
    omega (arith, all, length-append front (text ++ rest), length-append text rest)

value_stands : (bytes front key number : List ℕ) (value : Option (List ℕ)) (rest : List ℕ)
    → bytes ≡ front ++ ((key ++ (number ++ change_bytes value)) ++ rest)
    → IfSome value (IsValueAt bytes (length bytes - length rest))
value_stands bytes front key number None rest parts = tt
value_stands bytes front key number (Some value) rest parts =
    let before = front ++ (key ++ (number ++ (1 ∷ to_be_bytes w16 (length value)))) in
    let split : bytes ≡ before ++ (value ++ rest) = parts ∙ simp append_assoc refl in
    let size = length_before bytes before value rest split in (
      omega (arith, size),
      part_between bytes before value rest _ _ split (omega (arith, size)) (omega (arith, size)),
    )

stands_by : (format : Format) (bytes front head : List ℕ) (space : ℕ) (key : List ℕ) (number : ℕ)
    (value : Option (List ℕ)) (rest : List ℕ) → length head ≡ key_front format
    → bytes ≡ (front ++ head) ++ (key ++ ((be64 number ++ change_bytes value) ++ rest))
    → bytes ≡ front ++ (entry_bytes format (the_entry (space ∷ key) number value) ++ rest)
    → EntryStands format bytes (length front) (the_entry (space ∷ key) number value) rest
stands_by format bytes front head space key number value rest len split parts =
    let before = front ++ head in
    let change = be64 number ++ change_bytes value in
    let size = length_before bytes before key (change ++ rest) split in
    let at : length before ≡ length front + key_front format =
    omega (arith, len, length-append front head) in
    record {
      within = omega (arith, size, at, length-append change rest);
      key = part_between bytes before key (change ++ rest) _ _ split at (omega arith);
      value = value_stands bytes front (key_bytes_in format (space ∷ key)) (be64 number) value
          rest parts;
    }

stands_behind : (format : Format) (bytes front : List ℕ) (key : StoredKey) (number : ℕ)
    (value : Option (List ℕ)) (rest : List ℕ) → IsStoredKey key
    → bytes ≡ front ++ (entry_bytes format (the_entry key number value) ++ rest)
    → EntryStands format bytes (length front) (the_entry key number value) rest
stands_behind format bytes front [] number value rest is parts =
    absurd (let le = is.0 in omega (arith, le))
stands_behind One bytes front (space ∷ key) number value rest is parts =
    stands_by One bytes front (to_be_bytes w16 (length key)) space key number value rest refl
    (parts ∙ simp append_assoc refl) parts
stands_behind Two bytes front (space ∷ key) number value rest is parts =
    stands_by Two bytes front (space ∷ to_be_bytes w16 (length key)) space key number value rest
    refl (parts ∙ simp append_assoc refl) parts

-- so does an entry that is read
pub read_stands : (format : Format) (bytes : List ℕ) (start : ℕ) (entry : Entry) (rest : List ℕ)
    → IsBytes bytes
    → start ≤ length bytes
    → table_entry_at format (slice_range bytes start (length bytes)) ≡ Some (entry, rest)
    → EntryStands format bytes start entry rest
read_stands format bytes start entry rest fits inside read =
    let spelled = (entry_reads format).takes (drop start bytes) (entry, rest)
    (IsBytes-drop start bytes fits)
    (ap (table_entry_at format) (sym (take_rest bytes start)) ∙ read) in
    let front = take start bytes in
    let parts : bytes ≡ front ++ (entry_bytes format entry ++ rest) =
    sym (take-append-drop start bytes) ∙ ap (λ t. front ++ t) spelled.0.parts in
    let len : length front ≡ start = omega (arith, length-take start bytes) in
    subst (λ n. EntryStands format bytes n entry rest) len
    (stands_behind format bytes front entry.key entry.number entry.value rest spelled.1.limits.key
    parts)

-- ---- the places that are kept

-- the span of a value that ends there
abbrev value_span : ℕ → Option (List ℕ) → Option ByteSpan
value_span end None = None
value_span end (Some value) = Some (record { start = end - length value; end = end })

-- the places of a key of this space and length, and of a value that ends there
abbrev place_of : Format → Space → ℕ → ℕ → ℕ → ℕ → Option (List ℕ) → EntryPlace
place_of format space start len number end value = record {
  space = space;
  key = record { start = start + key_front format; end = start + key_front format + len };
  number = number;
  value = value_span end value;
}

value_there : (bytes : List ℕ) (end : ℕ) (value : Option (List ℕ))
    → IfSome value (IsValueAt bytes end)
    → value ≡ option_map (span_bytes bytes) (value_span end value)
value_there bytes end None is = refl
value_there bytes end (Some value) is = ap Some (sym is.1)

value_within : (bytes : List ℕ) (end : ℕ) (value : Option (List ℕ)) → end ≤ length bytes
    → IfSome value (IsValueAt bytes end) → ForSome (value_span end value) (IsSpanIn bytes)
value_within bytes end None within is = λ span none. absurd cc
value_within bytes end (Some value) within is = λ span same.
    subst (IsSpanIn bytes) (some_is _ span same) (omega arith, within)

same_parts : (number : ℕ) (key other : StoredKey) (value left : Option (List ℕ)) → key ≡ other
    → value ≡ left → the_entry key number value ≡ the_entry other number left
same_parts number key other value left same is =
    ap (λ k. the_entry k number value) same ∙ ap (λ v. the_entry other number v) is

-- the entry that is read has its key and its value there
pub is_entry_from : (format : Format) (bytes : List ℕ) (start : ℕ) (entry : Entry) (rest : List ℕ)
    (space : Space)
    (len : ℕ) (value : Option (List ℕ)) → IsBytes bytes → start ≤ length bytes
    → table_entry_at format (slice_range bytes start (length bytes)) ≡ Some (entry, rest)
    → entry.key ≡ stored_key space (bytes_of entry.key) → len ≡ length (bytes_of entry.key)
    → entry.value ≡ value → IsEntryFrom format bytes start
    (place_of format space start len entry.number (length bytes - length rest) value)
is_entry_from format bytes start entry rest space len value fits inside read of_space long is =
    let stands = read_stands format bytes start entry rest fits inside read in
    let end = length bytes - length rest in
    let there : IfSome value (IsValueAt bytes end) =
    subst (λ v. IfSome v (IsValueAt bytes end)) is stands.value in
    let key : entry.key ≡ stored_key space
    (slice_range bytes (start + key_front format) (start + key_front format + len)) =
    of_space ∙ ap (stored_key space) (sym stands.key
    ∙ ap (λ n. slice_range bytes (start + key_front format) (start + key_front format + n))
    (sym long)) in
    record {
      read =
          ap (λ t. option_map (λ x. x.0) (table_entry_at format t)) (sym (take_rest bytes start))
          ∙ ap (option_map (λ x. x.0)) read
          ∙ ap Some (same_parts entry.number entry.key _ entry.value _ key
          (is ∙ value_there bytes end value there));
      within = (
        (omega arith, omega (arith, stands.within, long)),
        value_within bytes end value (omega arith) there,
      );
    }
