-- The view of all entries of a list of batches has of each client the entry of its last mark.
use Rattle.std.proofs.Common.{◌≡◌, ℕ, zero, suc, ◌^◌, ◌<◌, ◌≤◌, Bool, true, false, cond}
use Rattle.std.proofs.Common.{List, [], ◌∷◌, map, take, length, option_map}
use Rattle.std.proofs.Common.{Option, Some, None, All, IfSome, take_all, sym, refl, ◌∙◌, ap}
use Rattle.std.proofs.Common.{subst, arith, inl, inr}
use Rattle.std.specs.Int.{w64, to_be_bytes, from_be_bytes}
use Rattle.std.specs.Option.{option_or}
use Rattle.std.specs.Str.{bytes_eq}
use Rattle.std.proofs.lemmas.List.{length-take}
use Rattle.std.proofs.lemmas.List.Elements.{recursion_from_All}
use Rattle.std.proofs.lemmas.Nat.{from_be_bytes-to_be_bytes_8}
use Rattle.std.proofs.lemmas.Slice.Eq.{bytes_eq-Decides}
use Rattle.byte_fields.specs.declared.Space.TheVariants.{Marks}
use Rattle.byte_fields.specs.{bytes_of, mark_key, stored_key}
use Rattle.kv_types.specs.declared.edit.Edit.{Edit}
use Rattle.kv_types.specs.declared.edit.Edit.TheVariants.{Put, Delete}
use Rattle.kv_types.specs.declared.mark.Mark.{Mark}
use Rattle.kv_types.specs.Lists.{place}
use Rattle.kv_types.specs.ListsLemmas.{begins-place, begins_take, every_place, none_at_zero}
use Rattle.kv_types.specs.ListsLemmas.{place-bounds, place-slice_get, place_take}
use Rattle.kv_types.specs.Marks.{HasNoMark, IsLastMark, IsMark, mark_held}
use Rattle.kv_types.specs.MarksLemmas.{held_is_last}
use Rattle.kv_types.specs.BatchesLemmas.{small_mark}
use Rattle.kv_types.specs.Content.{BatchContent, edits_of, mark_of}
use Rattle.kv_types.specs.Spelling.{IsBatch}
use Rattle.kv_types.specs.Maps.{last_edit}
use Rattle.kv_types.specs.Entries.{Entry, IsNewest, IsUnseen, ShowMarks, ViewsAreMarks}
use Rattle.kv_types.specs.Entries.{all_entries, mark_edits, mark_entry, row_edit, stored_edits}
use Rattle.kv_types.specs.Entries.{ViewShows, stored_map_of}
use Rattle.kv_types.proofs.MapLaws.{last_edit-append, option_or_none}
use Rattle.kv_types.proofs.ViewLaws.{views_are_stored}

-- numbers with the same eight bytes are the same
same_bytes : (m n : ℕ) → m < 2 ^ 64 → n < 2 ^ 64 → to_be_bytes w64 m ≡ to_be_bytes w64 n → m ≡ n
same_bytes m n below lt e =
    sym (from_be_bytes-to_be_bytes_8 m below) ∙ ap (from_be_bytes w64) e
    ∙ from_be_bytes-to_be_bytes_8 n lt

-- ---- the entry of a batch at the key of a client

-- no row is a mark
row_is_apart : (edits : List Edit) (bytes : List ℕ)
    → last_edit (map row_edit edits) (stored_key Marks bytes) ≡ None
row_is_apart [] bytes = refl
row_is_apart (Put k v ∷ edits) bytes = ap (λ r. option_or r None) (row_is_apart edits bytes)
row_is_apart (Delete k ∷ edits) bytes = ap (λ r. option_or r None) (row_is_apart edits bytes)

-- at the key of a client a batch leaves what its mark puts
batch_marks : (batch : BatchContent) (client : ℕ)
    → last_edit (stored_edits batch) (mark_key client)
    ≡ last_edit (mark_edits (mark_of batch)) (mark_key client)
batch_marks batch client =
    let key = mark_key client in
    let marks = last_edit (mark_edits (mark_of batch)) key in
    last_edit-append (map row_edit (edits_of batch)) (mark_edits (mark_of batch)) key
    ∙ ap (option_or marks) (row_is_apart (edits_of batch) (to_be_bytes w64 client))
    ∙ option_or_none marks

-- what a mark puts at the key of its client
mark_puts : (mark : Mark) (client : ℕ) → mark.client ≡ client
    → last_edit (mark_edits (Some mark)) (mark_key client)
    ≡ Some (Some (to_be_bytes w64 mark.request))
mark_puts mark client is =
    let same = (bytes_eq-Decides (mark_key mark.client) (mark_key client)).1 (ap mark_key is) in
    ap (λ b. cond b (Some (Some (to_be_bytes w64 mark.request))) None) same

-- of what is put at the key of a client, the mark
record Bears (mark : Option Mark) (client : ℕ) (value : Option (List ℕ)) : Type 0 where
  it : Mark
  is : mark ≡ Some it
  of_client : it.client ≡ client
  puts : value ≡ Some (to_be_bytes w64 it.request)

bears : (mark : Option Mark) (client : ℕ) (value : Option (List ℕ)) → client < 2 ^ 64
    → ((it : Mark) → mark ≡ Some it → it.client < 2 ^ 64)
    → last_edit (mark_edits mark) (mark_key client) ≡ Some value → Bears mark client value
bears None client value lt fits e = absurd cc
bears (Some mark) client value lt fits e = go (bytes_eq (mark_key mark.client) (mark_key client))
    refl e
  where
    put : Option (Option (List ℕ))
    put = Some (Some (to_be_bytes w64 mark.request))

    go : (b : Bool) → bytes_eq (mark_key mark.client) (mark_key client) ≡ b
        → cond b put None ≡ Some value → Bears (Some mark) client value
    go true same e = record {
      it = mark;
      is = refl;
      of_client = same_bytes mark.client client (fits mark refl) lt
          (ap bytes_of ((bytes_eq-Decides (mark_key mark.client) (mark_key client)).0 same));
      puts = let is : value ≡ Some (to_be_bytes w64 mark.request) = cc e in is;
    }
    go false other e = absurd cc

-- ---- the entries of all batches at the key of a client

module _ (l : List BatchContent) (client : ℕ) (each : All IsBatch l) (lt : client < 2 ^ 64) where
  -- a mark of the list is one that a batch may bear
  fits_at : (n : ℕ) (batch : BatchContent) (mark : Mark) → place l n ≡ Some batch
      → batch.mark ≡ Some mark → IsMark mark
  fits_at n batch mark at is =
      let lawful = every_place IsBatch l n batch at (recursion_from_All IsBatch l each) in
      let fits = lawful.mark in
      subst (λ o. IfSome o IsMark) is fits

  -- of an entry there, its batch and the mark
  record Borne (entry : Entry) : Type 0 where
    batch : BatchContent
    mark : Mark
    there : place l entry.number ≡ Some batch
    is : batch.mark ≡ Some mark
    of_client : mark.client ≡ client
    value : entry.value ≡ Some (to_be_bytes w64 mark.request)

  borne : (entry : Entry) → all_entries l entry → entry.key ≡ mark_key client → Borne entry
  borne entry (i, batch, is, (number, last)) at =
      let there : place l (suc i) ≡ Some batch = place-slice_get l i ∙ is in
      let found = subst (λ k. last_edit (stored_edits batch) k ≡ Some entry.value) at last in
      let it = bears batch.mark client entry.value lt
      (λ mark bears. (small_mark mark (fits_at (suc i) batch mark there bears)).0)
      (sym (batch_marks batch client) ∙ found) in
      record {
        batch = batch;
        mark = it.it;
        there = ap (place l) number ∙ there;
        is = it.is;
        of_client = it.of_client;
        value = it.puts;
      }

  -- a batch that bears a mark of the client has the entry
  entry_there : (n : ℕ) (batch : BatchContent) (mark : Mark) → place l n ≡ Some batch
      → batch.mark ≡ Some mark → mark.client ≡ client
      → all_entries l (mark_entry client mark.request n)
  entry_there zero batch mark at is of_client = absurd (none_at_zero l batch at)
  entry_there (suc i) batch mark at is of_client = (
    i,
    batch,
    sym (place-slice_get l i) ∙ at,
    (
      refl,
      batch_marks batch client
          ∙ ap (λ o. last_edit (mark_edits o) (mark_key client)) is
          ∙ mark_puts mark client of_client,
    ),
  )

  -- a place among the first batches is a place of the list, and no later one
  place_of : (at n : ℕ) (batch : BatchContent) → place (take at l) n ≡ Some batch
      → (place l n ≡ Some batch) × (n ≤ at)
  place_of at n batch there = (
    begins-place n batch (begins_take at l) there,
    omega (arith, place-bounds (take at l) n batch there, length-take at l),
  )

  -- the newest entry is that of the last mark
  newest_last : (at request number : ℕ) → request < 2 ^ 64
      → IsNewest at (all_entries l) (mark_entry client request number)
      → IsLastMark (take at l) client request number
  newest_last at request number small it =
      let of = borne (mark_entry client request number) it.seen.0 refl in
      let put : to_be_bytes w64 of.mark.request ≡ to_be_bytes w64 request =
      let value = of.value in cc in
      let fits = small_mark of.mark (fits_at number of.batch of.mark of.there of.is) in
      let asks : of.mark.request ≡ request =
      same_bytes of.mark.request request fits.1 small put in
      record {
        batch = of.batch;
        there = place_take at l number of.batch of.there it.seen.1;
        bears = of.is ∙ (λ j. Some (record { client = of.of_client j; request = asks j }));
        last = λ k other mark there is of_client.
            let place = place_of at k other there in
            it.newest (mark_entry client mark.request k)
            (entry_there k other mark place.0 is of_client, place.1) refl;
      }

  -- the last mark has the newest entry
  last_newest : (at request number : ℕ) → IsLastMark (take at l) client request number
      → IsNewest at (all_entries l) (mark_entry client request number)
  last_newest at request number it =
      let place = place_of at number it.batch it.there in
      record {
        seen = (
          entry_there number it.batch (record { client = client; request = request }) place.0
              it.bears refl,
          place.1,
        );
        newest = λ other seen same.
            let of = borne other seen.0 same in
            it.last other.number of.batch of.mark
            (place_take at l other.number of.batch of.there seen.1) of.is of.of_client;
      }

  unseen_none : (at : ℕ) → IsUnseen at (all_entries l) (mark_key client)
      → HasNoMark (take at l) client
  unseen_none at unseen k other mark there is of_client =
      let place = place_of at k other there in
      unseen (mark_entry client mark.request k)
      (entry_there k other mark place.0 is of_client, place.1) refl

  none_unseen : (at : ℕ) → HasNoMark (take at l) client
      → IsUnseen at (all_entries l) (mark_key client)
  none_unseen at none other seen same =
      let of = borne other seen.0 same in
      none other.number of.batch of.mark (place_take at l other.number of.batch of.there seen.1)
      of.is of.of_client

  -- what is left at the key of the client
  left_of : (held : Option (ℕ × ℕ)) → mark_held l client ≡ held
      → stored_map_of l (mark_key client)
      ≡ option_map (λ (it : ℕ × ℕ). to_be_bytes w64 it.0) held
  left_of held e =
      let size = length l in
      let all : take size l ≡ l = take_all (length l) l (omega arith) in
      subst (λ z. stored_map_of z (mark_key client)
      ≡ option_map (λ (it : ℕ × ℕ). to_be_bytes w64 it.0) held) all
      ((views_are_stored l size (mark_key client) _).0 (shown held e))
    where
      shown : (held : Option (ℕ × ℕ)) → mark_held l client ≡ held
          → ViewShows (length l) (all_entries l) (mark_key client)
          (option_map (λ (it : ℕ × ℕ). to_be_bytes w64 it.0) held)
      shown None e = inr (
        none_unseen (length l)
            (subst (λ z. HasNoMark z client) (sym (take_all (length l) l (omega arith)))
            ((held_is_last l client).none.0 e)),
        refl,
      )
      shown (Some it) e = inl (
        it.1,
        last_newest (length l) it.0 it.1
            (subst (λ z. IsLastMark z client it.0 it.1) (sym (take_all (length l) l (omega arith)))
            (((held_is_last l client).held it.0 it.1).0 e)),
      )

  shows : ShowMarks l client
  shows = record {
    left = left_of (mark_held l client) refl;
    newest = λ at request number small.
        (newest_last at request number small, last_newest at request number);
    unseen = λ at. (unseen_none at, none_unseen at);
    each = λ entry has at.
        let of = borne entry has at in
        record {
          mark = of.mark;
          fits = fits_at entry.number of.batch of.mark of.there of.is;
          of_client = of.of_client;
          value = of.value;
        };
  }

pub views_are_marks : ViewsAreMarks
views_are_marks batches client each lt = shows batches client each lt
