-- The worked examples of entries and views.
use Rattle.std.proofs.Common.{◌≡◌, ℕ, zero, suc, inl, inr, refl, sym, ap, arith, List, []}
use Rattle.std.proofs.Common.{Option, Some, None, Bool, true, false, unwrap_or, codes}
use Rattle.std.specs.Option.{option_flatten}
use Rattle.std.specs.Str.{bytes_eq}
use Rattle.byte_fields.specs.{row_key}
use Rattle.kv_types.specs.declared.edit.Edit.{Edit}
use Rattle.kv_types.specs.Marks.{unmarked}
use Rattle.kv_types.specs.Content.{BatchContent}
use Rattle.kv_types.specs.Maps.{last_edit}
use Rattle.kv_types.specs.Entries.{Entry, IsNewest, IsSeen, all_entries, stored_edits}
use Rattle.kv_types.specs.Examples.{EntryExamples, changes, row_entry_at}

pub entry_examples : EntryExamples
entry_examples = record {
  last = (0, _, refl, (refl, refl));
  not_the_first = λ h. first_edit h;
  deletion = (1, _, refl, (refl, refl));
  other_key = λ number value h. other_edit number value h;
  before = inr ((λ other seen same. unseen other seen), refl);
  first = inl (1, newest_first);
  second = inl (2, newest_second);
  mark = (0, _, refl, (refl, refl));
  shown = record { newest = newest_first; put = refl };
  deleted = λ h. let z = h.put in cc;
  hidden = λ h. passed h.newest;
}
  where
    -- the edits of a batch that was found
    edits_in : Option BatchContent → List Edit
    edits_in o = stored_edits (unwrap_or o (unmarked []))

    -- whether a result is the value 2
    is_two : Option (Option (List ℕ)) → Bool
    is_two found = bytes_eq (unwrap_or (option_flatten found) []) (codes "2")

    first_edit : all_entries changes (row_entry_at (codes "a") 1 (Some (codes "1"))) → ⊥
    first_edit (zero, batch, is, (same, last)) =
        let one : true ≡ is_two (last_edit (stored_edits batch) (row_key (codes "a"))) =
        ap (λ o. is_two (last_edit (edits_in o) (row_key (codes "a")))) is in
        let two : is_two (last_edit (stored_edits batch) (row_key (codes "a"))) ≡ false =
        ap is_two last in
        absurd (cc (one, two))
    first_edit (suc i, batch, is, (same, last)) = absurd (omega (arith, same))

    no_edit : (batch : BatchContent) (value : Option (List ℕ))
        → last_edit (stored_edits batch) (row_key (codes "b")) ≡ None
        → last_edit (stored_edits batch) (row_key (codes "b")) ≡ Some value → ⊥
    no_edit batch value none some = absurd (cc (none, some))

    other_edit : (number : ℕ) (value : Option (List ℕ)) → all_entries changes
        (row_entry_at (codes "b") number value) → ⊥
    other_edit number value (zero, batch, is, (same, last)) =
        no_edit batch value (sym (ap (λ o. last_edit (edits_in o) (row_key (codes "b"))) is)) last
    other_edit number value (suc zero, batch, is, (same, last)) =
        no_edit batch value (sym (ap (λ o. last_edit (edits_in o) (row_key (codes "b"))) is)) last
    other_edit number value (suc (suc i), batch, is, (same, last)) =
        no_edit batch value (sym (ap (λ o. last_edit (edits_in o) (row_key (codes "b"))) is)) last

    unseen : (other : Entry) → IsSeen 0 (all_entries changes) other → ⊥
    unseen other ((i, batch, is, (same, last)), le) = absurd (omega (arith, same, le))

    newest_first : IsNewest 1 (all_entries changes) (row_entry_at (codes "a") 1 (Some (codes "2")))
    newest_first = record {
      seen = ((0, _, refl, (refl, refl)), omega arith);
      newest =
          λ other seen same. seen.1;
    }

    newest_second : IsNewest 2 (all_entries changes) (row_entry_at (codes "a") 2 None)
    newest_second = record {
      seen = ((1, _, refl, (refl, refl)), omega arith);
      newest =
          λ other seen same. seen.1;
    }

    passed : IsNewest 2 (all_entries changes) (row_entry_at (codes "a") 1 (Some (codes "2"))) → ⊥
    passed h = let le = h.newest (row_entry_at (codes "a") 2 None) newest_second.seen refl in
        absurd (omega (arith, le))
