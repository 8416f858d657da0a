-- Exactly once, of each list with which the replies of a run agree.
use Rattle.std.proofs.Common.{◌≡◌, ◌⊎◌, inl, inr, ⊎_elim, ℕ, suc, ◌<◌, ◌≤◌, List, [], ◌∷◌}
use Rattle.std.proofs.Common.{Contains, option_map, Some, None, refl, sym, ◌∙◌, ap, arith}
use Rattle.std.proofs.lemmas.Bool.{cases_lt}
use Rattle.std.proofs.lemmas.List.Elements.{All-weaker}
use Rattle.kv_types.specs.{Marked, Part, place}
use Rattle.kv_types.specs.OrderLemmas.{Among, Contains-among, among_from_Contains}
use Rattle.kv_types.specs.declared.mark.Mark.{Mark}
use Rattle.chain_model.specs.Order.{MarksRise}
use Rattle.configurations.specs.{last_of}
use Rattle.chain_model.specs.Requests.{Close, Closed, Committed, Open, Opened, Read, Refused}
use Rattle.chain_model.specs.Requests.{Response, Shows, Submit}
use Rattle.chain_model.specs.System.{Ask, Deliver, Lost, Notice, Start, Stop, SystemEvent, Tend}
use Rattle.chain_model.specs.System.{Tick, reached}
use Rattle.chain_model.specs.Headline.{IsRepeat, OneList, ResponseAgrees, batches, numbered}
use Rattle.chain_model.specs.Headline.{submitted}
use Rattle.chain_model.specs.Once.{ExactlyOnce, HasMarksOnce, HasOneBatch, IsPlaceOfBatch}
use Rattle.chain_model.specs.Once.{ResponseNamesPlace}
use Rattle.chain_model.proofs.Configuration.{IsChain, last_epoch, someone}
use Rattle.chain_model.proofs.Submitted.{among_part, among_place}
use Rattle.chain_model.proofs.Marks.{rises_begins}
use Rattle.chain_model.proofs.SubmitMaps.{map-place_of}
use Rattle.chain_model.proofs.Consequences.{in_order}

module _ {A : Type 0} where
  -- no submitted batch has a lesser place than this
  from : (k : ℕ) (es : List (SystemEvent A)) (p : ℕ × Marked A) → Among p (submitted k es)
      → k ≤ p.0
  from k [] p is = absurd is
  from k (Ask x j (Submit b) went ∷ es) p (inl is) =
      omega (arith, ap (λ (q : ℕ × Marked A). q.0) is)
  from k (Ask x j (Submit b) went ∷ es) p (inr is) = omega (arith, from (suc k) es p is)
  from k (Ask x j (Read at) went ∷ es) p is = omega (arith, from (suc k) es p is)
  from k (Ask x j (Open at) went ∷ es) p is = omega (arith, from (suc k) es p is)
  from k (Ask x j (Close s) went ∷ es) p is = omega (arith, from (suc k) es p is)
  from k (Tick x went ∷ es) p is = omega (arith, from (suc k) es p is)
  from k (Tend x rises gives_up went ∷ es) p is = omega (arith, from (suc k) es p is)
  from k (Notice x e went ∷ es) p is = omega (arith, from (suc k) es p is)
  from k (Deliver d went ∷ es) p is = omega (arith, from (suc k) es p is)
  from k (Start x went ∷ es) p is = omega (arith, from (suc k) es p is)
  from k (Stop x ∷ es) p is = omega (arith, from (suc k) es p is)
  from k (Lost ∷ es) p is = omega (arith, from (suc k) es p is)

  -- submitted batches of one place are one
  one_place : (k : ℕ) (es : List (SystemEvent A)) (p q : ℕ × Marked A)
      → Among p (submitted k es) → Among q (submitted k es) → p.0 ≡ q.0 → p ≡ q
  one_place k [] p q is its same = absurd is
  one_place k (Ask x j (Submit b) went ∷ es) p q (inl is) (inl its) same = sym is ∙ its
  one_place k (Ask x j (Submit b) went ∷ es) p q (inl is) (inr its) same =
      absurd (omega (arith, ap (λ (r : ℕ × Marked A). r.0) is, from (suc k) es q its, same))
  one_place k (Ask x j (Submit b) went ∷ es) p q (inr is) (inl its) same =
      absurd (omega (arith, ap (λ (r : ℕ × Marked A). r.0) its, from (suc k) es p is, same))
  one_place k (Ask x j (Submit b) went ∷ es) p q (inr is) (inr its) same =
      one_place (suc k) es p q is its same
  one_place k (Ask x j (Read at) went ∷ es) p q is its same = one_place (suc k) es p q is its same
  one_place k (Ask x j (Open at) went ∷ es) p q is its same = one_place (suc k) es p q is its same
  one_place k (Ask x j (Close s) went ∷ es) p q is its same = one_place (suc k) es p q is its same
  one_place k (Tick x went ∷ es) p q is its same = one_place (suc k) es p q is its same
  one_place k (Tend x rises gives_up went ∷ es) p q is its same =
      one_place (suc k) es p q is its same
  one_place k (Notice x e went ∷ es) p q is its same = one_place (suc k) es p q is its same
  one_place k (Deliver d went ∷ es) p q is its same = one_place (suc k) es p q is its same
  one_place k (Start x went ∷ es) p q is its same = one_place (suc k) es p q is its same
  one_place k (Stop x ∷ es) p q is its same = one_place (suc k) es p q is its same
  one_place k (Lost ∷ es) p q is its same = one_place (suc k) es p q is its same

  -- batches with one place are one batch
  abbrev PlacesDiffer : List (ℕ × Marked A) → Type 0
  PlacesDiffer asked =
      (p q : ℕ × Marked A) → Contains asked p → Contains asked q → p.0 ≡ q.0 → p ≡ q

  -- so the places of two batches differ
  places_differ : (es : List (SystemEvent A)) → PlacesDiffer (submitted 1 es)
  places_differ es p q is its same =
      let all = submitted 1 es in
      one_place 1 es p q (among_from_Contains all p is) (among_from_Contains all q its) same

  -- where marks rise along the batches, no two of them bear one mark
  rise_once : (B : List (ℕ × Marked A)) → MarksRise (batches B) → HasMarksOnce B
  rise_once B rise j k a b m at at' bears bears' =
      let first : place (batches B) j ≡ Some a.1 =
      map-place_of (λ (p : ℕ × Marked A). p.1) B j ∙ ap (option_map (λ (p : ℕ × Marked A). p.1)) at
      in
      let second : place (batches B) k ≡ Some b.1 =
      map-place_of (λ (p : ℕ × Marked A). p.1) B k
      ∙ ap (option_map (λ (p : ℕ × Marked A). p.1)) at' in
      ⊎_elim
      (λ (lt : j < k). let less : m.request < m.request =
      rise j k a.1 b.1 m m first second bears bears' refl lt in absurd (omega (arith, less)))
      (λ (ge : k ≤ j). ⊎_elim
      (λ (lt : k < j). let less : m.request < m.request =
      rise k j b.1 a.1 m m second first bears' bears refl lt in absurd (omega (arith, less)))
      (λ (le : j ≤ k). omega (arith, ge, le)) (cases_lt k j))
      (cases_lt j k)

  module _ (asked B : List (ℕ × Marked A)) (part : Part B asked) (one : PlacesDiffer asked) where
    -- the batch of a place was submitted
    at_place : (n : ℕ) (p : ℕ × Marked A) → place B n ≡ Some p → Contains asked p
    at_place n p at =
        Contains-among asked p (among_part p B asked part (among_place p B n at))

    -- an acknowledgement of a batch that bears no mark, or bears one
    names : (i n : ℕ) → ResponseAgrees asked B (Committed i n)
        → IsPlaceOfBatch asked B i n
    names i n (p, (at, of)) = record {
      plain = λ b is none. plain b is none of;
      marked = λ b m is bears. (p, (at, marked b m is bears of));
      own = λ b m is bears once. own b m is bears once of;
    }
      where
        own_batch : (b : Marked A) → Contains asked (i, b) → p.0 ≡ i → p ≡ (i, b)
        own_batch b is same = one p (i, b) (at_place n p at) is same

        again_batch : (b : Marked A) → Contains asked (i, b)
            → (again : IsRepeat asked i p) → again.batch ≡ b
        again_batch b is again =
            ap (λ (q : ℕ × Marked A). q.1)
            (one (i, again.batch) (i, b) again.submits is refl)

        plain : (b : Marked A) → Contains asked (i, b) → b.mark ≡ None
            → (p.0 ≡ i) ⊎ IsRepeat asked i p → place B n ≡ Some (i, b)
        plain b is none (inl same) = at ∙ ap (λ q. Some q) (own_batch b is same)
        plain b is none (inr again) =
            let it : Some again.mark ≡ None =
            sym again.same ∙ ap (λ (x : Marked A). x.mark) (again_batch b is again) ∙ none in
            absurd (cc)

        marked : (b : Marked A) (m : Mark) → Contains asked (i, b) → b.mark ≡ Some m
            → (p.0 ≡ i) ⊎ IsRepeat asked i p → (p.1.mark ≡ Some m) × (p.0 ≤ i)
        marked b m is bears (inl same) = (
          ap (λ (q : ℕ × Marked A). q.1.mark) (own_batch b is same) ∙ bears,
          omega (arith, same),
        )
        marked b m is bears (inr again) = (
          again.bears ∙ sym again.same ∙ ap (λ (x : Marked A). x.mark) (again_batch b is again)
              ∙ bears,
          omega (arith, again.earlier),
        )

        own : (b : Marked A) (m : Mark) → Contains asked (i, b) → b.mark ≡ Some m
            → HasOneBatch asked m → (p.0 ≡ i) ⊎ IsRepeat asked i p
            → (j : ℕ) × (place B n ≡ Some (j, b))
        own b m is bears once (inl same) = (i, at ∙ ap (λ q. Some q) (own_batch b is same))
        own b m is bears once (inr again) =
            let marked_so : p.1.mark ≡ Some m =
            again.bears ∙ sym again.same ∙ ap (λ (x : Marked A). x.mark) (again_batch b is again)
            ∙ bears in
            let it : p.1 ≡ b = once p.0 i p.1 b (at_place n p at) is marked_so bears in
            (p.0, at ∙ ap (λ x. Some (p.0, x)) it)

    -- each reply
    names_one : (r : Response A) → ResponseAgrees asked B r
        → ResponseNamesPlace asked B r
    names_one (Committed i n) agrees = names i n agrees
    names_one (Shows i s l) agrees = tt
    names_one (Opened i s) agrees = tt
    names_one (Closed i s) agrees = tt
    names_one (Refused i why) agrees = tt

-- exactly once
pub exactly_once : {A : Type 0} (cs : List (List ℕ)) (es : List (SystemEvent A)) → IsChain cs
    → (one : OneList cs es) → ExactlyOnce cs es one.B
exactly_once {A = A} cs es lawful one =
    let z = someone (last_of cs) (last_epoch cs lawful).1.2 in
    record {
      once = rise_once one.B (rises_begins (one.stands z.0 z.1)
          ((in_order cs lawful (numbered 1 es)).marks z.0));
      named = All-weaker (ResponseAgrees (submitted 1 es) one.B)
          (ResponseNamesPlace (submitted 1 es) one.B)
          (names_one (submitted 1 es) one.B one.taken (places_differ es))
          (reached cs (numbered 1 es)).replies one.agrees;
    }
