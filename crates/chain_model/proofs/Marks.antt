-- Lists along which the requests of each client's marks rise.
use Rattle.std.proofs.Common.{◌≡◌, ℕ, zero, suc, ◌<◌, ◌≤◌, List, [], ◌∷◌, ◌++◌, length}
use Rattle.std.proofs.Common.{⊎_elim, Option, Some, None, refl, sym, ◌∙◌, ap, subst, arith}
use Rattle.std.proofs.Common.{length-append}
use Rattle.std.proofs.lemmas.Bool.{cases_lt}
use Rattle.kv_types.specs.declared.mark.Mark.{Mark}
use Rattle.kv_types.specs.{IsPrefix, Marked, Part, mark_held, place}
use Rattle.kv_types.specs.ListsLemmas.{begins-place, none_at_zero, part_begins, part_trans}
use Rattle.kv_types.specs.ListsLemmas.{part_wider, place-bounds, place_before, place_last}
use Rattle.kv_types.specs.MarksLemmas.{held_is, last_bounds, last_none}
use Rattle.chain_model.specs.Order.{MarksRise}

module _ {A : Type 0} where
  -- a batch without a mark, or with a greater request than the client's mark that the list holds
  abbrev pub IsNext : List (Marked A) → Option Mark → Type 0
  IsNext l None = Unit {0}
  IsNext l (Some m) = (h : ℕ × ℕ) → mark_held l m.client ≡ Some h → h.0 < m.request

  -- each batch of the client has a lesser request
  next_above : (l : List (Marked A)) → MarksRise l → (m : Mark) → IsNext l (Some m) → (j : ℕ)
      (a : Marked A) (n : Mark) → place l j ≡ Some a → a.mark ≡ Some n → n.client ≡ m.client
      → n.request < m.request
  next_above l rise m next j a n at bears same = go (mark_held l m.client) refl j at
    where
      go : (o : Option (ℕ × ℕ)) → mark_held l m.client ≡ o → (j : ℕ) → place l j ≡ Some a
          → n.request < m.request
      go None e j at = absurd (last_none 1 l m.client e j a n at bears same)
      go (Some h) e zero at = absurd (none_at_zero l a at)
      go (Some h) e (suc i) at =
          let held = held_is l m.client h e in
          let bound : suc i ≤ h.1 =
          omega (arith, last_bounds 1 l m.client h e i a n at bears same) in
          let less : h.0 < m.request = next h e in
          ⊎_elim
          (λ (lt : suc i < h.1). let earlier : n.request < h.0 =
          rise (suc i) h.1 a held.0 n (record { client = m.client; request = h.0 }) at held.1.0
          bears held.1.1 same lt in omega (arith, earlier, less))
          (λ (ge : h.1 ≤ suc i).
          let here : suc i ≡ h.1 = omega (arith, ge, bound) in
          let it : Some a ≡ Some held.0 =
          sym at ∙ ap (place l) here ∙ held.1.0 in
          let one : a ≡ held.0 = cc it in
          let marks : Some n ≡ Some (record { client = m.client; request = h.0 }) =
          sym bears ∙ ap (λ (x : Marked A). x.mark) one ∙ held.1.1 in
          let is : n ≡ record { client = m.client; request = h.0 } = cc marks in
          let asks : n.request ≡ h.0 = ap (λ (x : Mark). x.request) is in
          omega (arith, asks, less))
          (cases_lt (suc i) h.1)

  -- such a batch may follow
  pub rises_next : (l : List (Marked A)) (b : Marked A) → MarksRise l → IsNext l b.mark
      → MarksRise (l ++ b ∷ [])
  rises_next l b rise next j k a a' m n at at' bears bears' same lt =
      let size : length (l ++ b ∷ []) ≡ suc (length l) = omega (arith, length-append l (b ∷ [])) in
      let within : k ≤ suc (length l) = omega (arith, place-bounds (l ++ b ∷ []) k a' at', size) in
      ⊎_elim
      (λ (early : k < suc (length l)). rise j k a a' m n
      (place_before l (b ∷ []) j a at (omega (arith, early, lt)))
      (place_before l (b ∷ []) k a' at' (omega (arith, early))) bears bears' same lt)
      (λ (late : suc (length l) ≤ k).
      let here : k ≡ suc (length l) = omega (arith, late, within) in
      let it : Some a' ≡ Some b =
      sym at' ∙ ap (place (l ++ b ∷ [])) here ∙ place_last l b in
      let one : b ≡ a' = cc it in
      let its : b.mark ≡ Some n = ap (λ (x : Marked A). x.mark) one ∙ bears' in
      next_above l rise n (subst (IsNext l) its next) j a m
      (place_before l (b ∷ []) j a at (omega (arith, within, lt))) bears same)
      (cases_lt k (suc (length l)))

  -- marks rise along each beginning
  pub rises_begins : {l m : List (Marked A)} → IsPrefix l m → MarksRise m → MarksRise l
  rises_begins b rise j k a a' m n at at' =
      rise j k a a' m n (begins-place j a b at) (begins-place k a' b at')

  -- a list was taken from the submitted batches, and marks rise along it
  pub record Taken (l h : List (Marked A)) : Type 0 where
    pub part : Part l h
    pub rises : MarksRise l

  pub taken_nil : (h : List (Marked A)) → Taken [] h
  taken_nil h = record { part = tt; rises = λ j k a b m n at. absurd (cc at) }

  pub taken_wider : (l h r : List (Marked A)) → Taken l h → Taken l (h ++ r)
  taken_wider l h r t = record { part = part_wider l h r t.part; rises = t.rises }

  pub taken_begins : (l m h : List (Marked A)) → IsPrefix l m → Taken m h → Taken l h
  taken_begins l m h b t = record {
    part = part_trans l m h (part_begins b) t.part;
    rises = rises_begins b t.rises;
  }
