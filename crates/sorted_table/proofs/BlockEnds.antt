-- The entries of a block at its ends, and at a place that divides them.
use Rattle.std.proofs.Common.{◌≡◌, ℕ, zero, suc, ◌-◌, ◌≤◌, ◌<◌, List, [], ◌∷◌, length, Option}
use Rattle.std.proofs.Common.{Some, None, All, refl, sym, ap, subst, ◌∙◌, arith, get_or}
use Rattle.std.specs.List.{slice_get}
use Rattle.std.specs.Option.{option_map}
use Rattle.std.proofs.lemmas.Option.{slice_get-get_or, slice_get_past}
use Rattle.std.proofs.lemmas.List.Elements.{All-from_recursion, recursion_from_All}
use Rattle.byte_fields.specs.FieldsLemmas.{some_is}
use Rattle.kv_types.specs.{Entry}
use Rattle.table_files.specs.{ReadsEntries, entry_read}
use Rattle.table_files.specs.EntryReadsLemmas.{count_read}
use Rattle.byte_fields.specs.declared.format.Format.{Format}
use Rattle.table_format.specs.{last_entry}
use Rattle.sorted_table.specs.EntrySplits.{SplitsEntries}
use Rattle.sorted_table.specs.Searches.{FindsFirstWithout, IsEarlier, IsFirstWithout}
use Rattle.sorted_table.proofs.StartSearches.{entry_of_start, places_agree}

-- ---- ends

-- the last entry stands at the last place
last_there : (entries : List Entry) → slice_get entries (length entries - 1) ≡ last_entry entries
last_there [] = refl
last_there (x ∷ []) = refl
last_there (x ∷ y ∷ entries) =
    let at : length (x ∷ y ∷ entries) - 1 ≡ suc (length (y ∷ entries) - 1) = omega arith in
    ap (slice_get (x ∷ y ∷ entries)) at ∙ last_there (y ∷ entries)

-- what is read at place k is entry k
pub read_there : (format : Format) (block starts : List ℕ) (entries : List Entry)
    → ReadsEntries format block starts entries
    → (k start : ℕ) (entry : Entry) → slice_get starts k ≡ Some start
    → entry_read format block start ≡ Some entry → slice_get entries k ≡ Some entry
read_there format block starts entries is k start entry at read =
    let e = entry_of_start format block starts entries is k start at in
    e.1 ∙ ap Some (some_is e.0 entry (sym e.2 ∙ read))

-- what is read at the last place is the last entry
pub read_last : (format : Format) (block starts : List ℕ) (entries : List Entry)
    → ReadsEntries format block starts entries
    → (start : ℕ) (entry : Entry) → slice_get starts (length starts - 1) ≡ Some start
    → entry_read format block start ≡ Some entry → last_entry entries ≡ Some entry
read_last format block starts entries is start entry at read =
    sym (last_there entries)
    ∙ ap (λ n. slice_get entries (n - 1)) (sym (count_read format block starts entries is))
    ∙ read_there format block starts entries is (length starts - 1) start entry at read

-- ---- places that divide

-- one entry more in front comes before the place
more_before : (place x : Entry) (entries : List Entry) (first : Option Entry)
    → IsEarlier place x → FindsFirstWithout (IsEarlier place) entries first
    → FindsFirstWithout (IsEarlier place) (x ∷ entries) first
more_before place x entries None early all =
    All-from_recursion (IsEarlier place) (x ∷ entries)
    (early, recursion_from_All (IsEarlier place) entries all)
more_before place x entries (Some entry) early first = record {
  before = x ∷ first.before;
  after = first.after;
  split = ap (λ l. x ∷ l) first.split;
  with = All-from_recursion (IsEarlier place) (x ∷ first.before)
      (early, recursion_from_All (IsEarlier place) first.before first.with);
  without = first.without;
}

-- the entry behind those that come before the place is the first that does not
pub first_behind : (entries : List Entry) (place : Entry) (n : ℕ) → SplitsEntries entries place n
    → FindsFirstWithout (IsEarlier place) entries (slice_get entries n)
first_behind [] place n s = All-from_recursion (IsEarlier place) [] tt
first_behind (x ∷ entries) place zero s = record {
  before = [];
  after = entries;
  split = refl;
  with = All-from_recursion (IsEarlier place) [] tt;
  without = s.behind 0 x (omega arith) refl;
}
first_behind (x ∷ entries) place (suc n) s =
    let within = s.within in
    more_before place x entries (slice_get entries n) (s.before 0 x (omega arith) refl)
    (first_behind entries place n (record {
      within = omega (arith, within);
      before = λ k e lt at. s.before (suc k) e (omega (arith, lt)) at;
      behind = λ k e le at. s.behind (suc k) e (omega (arith, le)) at;
    }))

-- ---- the search

none_by : (found : Option Entry) → option_map Some found ≡ None → found ≡ None
none_by None is = refl
none_by (Some entry) is = absurd cc

module _ (format : Format) (block starts : List ℕ) (entries : List Entry) (place : Entry) (n : ℕ)
    (is : ReadsEntries format block starts entries) (split : SplitsEntries entries place n) where
  -- where no place is left all entries come before
  pub all_before : slice_get starts n ≡ None → All (IsEarlier place) entries
  all_before none =
      subst (FindsFirstWithout (IsEarlier place) entries)
      (none_by (slice_get entries n) (sym (places_agree format block starts entries is n)
      ∙ ap (option_map (entry_read format block)) none))
      (first_behind entries place n split)

  -- what is read at the place is the first entry that does not come before
  pub first_read : (start : ℕ) (entry : Entry) → slice_get starts n ≡ Some start
      → entry_read format block start ≡ Some entry → IsFirstWithout (IsEarlier place) entries entry
  first_read start entry at read =
      subst (FindsFirstWithout (IsEarlier place) entries)
      (read_there format block starts entries is n start entry at read)
      (first_behind entries place n split)

-- ---- lent lists

-- the entries that are read of equal lists
pub lent_reads : (format : Format) (entries : List Entry) (block starts bytes places : List ℕ)
    → bytes ≡ block
    → places ≡ starts → ReadsEntries format block starts entries
    → ReadsEntries format bytes places entries
lent_reads format entries block starts bytes places same is reads =
    subst (λ l. ReadsEntries format l places entries) (sym same)
    (subst (λ l. ReadsEntries format block l entries) (sym is) reads)

-- a place that was found in an equal list
pub lent_place : (starts places : List ℕ) (n start : ℕ) → places ≡ starts
    → start ≡ get_or places n start → n < length places → slice_get starts n ≡ Some start
lent_place starts places n start same is within =
    ap (λ l. slice_get l n) (sym same) ∙ slice_get-get_or places n start within ∙ ap Some (sym is)

-- there is none behind the end of an equal list
pub lent_end : (starts places : List ℕ) (n : ℕ) → places ≡ starts → length places ≤ n
    → slice_get starts n ≡ None
lent_end starts places n same past =
    ap (λ l. slice_get l n) (sym same) ∙ slice_get_past places n past
