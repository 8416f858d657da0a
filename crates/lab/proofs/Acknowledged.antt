-- The batches that acknowledgements name, by their marks.
use Rattle.std.proofs.Common.{◌≡◌, inl, inr, ℕ, List, [], ◌∷◌, Some, None, sym, ◌∙◌, ap, refl}
use Rattle.std.specs.Prelude.{◌⊎◌, All}
use Rattle.std.specs.List.{AllByRecursion, AllZip}
use Rattle.std.proofs.lemmas.List.Elements.{All-from_recursion, All-weaker}
use Rattle.kv_types.specs.declared.mark.Mark.{Mark}
use Rattle.kv_types.specs.{BatchContent, place}
use Rattle.node.specs.declared.Reply.TheVariants as reply
use Rattle.events.specs.declared.EventContent.{EventContent}
use Rattle.events.specs.declared.EventKind.{EventKind}
use Rattle.lab.specs.declared.report.Line.{Line}
use Rattle.lab.specs.declared.report.Line.TheVariants as line
use Rattle.lab.specs.History.{IsRepeatOf, IsSubmitted, LineAgrees, LineNamesBatch}
use Rattle.lab.specs.History.{MarksOneBatch, Placed}
use Rattle.lab.proofs.Places.{place_each}

module _ (events : List EventContent) where
  -- an event submits one batch
  one_batch : (p q : Placed) → IsSubmitted events p → IsSubmitted events q → p.0 ≡ q.0 → p ≡ q
  one_batch (i, a) (j, b) is its same =
      let content : a ≡ b = cc (same, is.2, is.3, its.2, its.3) in
      ap (λ (k : ℕ). (k, a)) same ∙ ap (λ (x : BatchContent). (j, x)) content

  -- what an acknowledgement says of the submitted batch and of the one at its place
  abbrev NamesBatch : ℕ → BatchContent → Placed → Type 0
  NamesBatch i batch placed = (placed.1.mark ≡ batch.mark)
      × (batch.mark ≡ None → placed ≡ (i, batch))
      × ((mark : Mark) → batch.mark ≡ Some mark → MarksOneBatch events mark → placed.1 ≡ batch)

  -- it is so of the batch that event i submits, and of one that it submits again
  names_batch : (i : ℕ) (batch : BatchContent) (placed : Placed) → IsSubmitted events placed
      → IsSubmitted events (i, batch) → (placed.0 ≡ i) ⊎ IsRepeatOf events i placed
      → NamesBatch i batch placed
  names_batch i batch placed was is (inl own) =
      let same : placed ≡ (i, batch) = one_batch placed (i, batch) was is own in (
        ap (λ (p : Placed). p.1.mark) same,
        λ none. same,
        λ mark bears once. ap (λ (p : Placed). p.1) same,
      )
  names_batch i batch placed was is (inr again) =
      let same = one_batch (i, again.batch) (i, batch) again.submits is refl in
      let bears : batch.mark ≡ Some again.mark =
      sym (ap (λ (p : Placed). p.1.mark) same) ∙ again.same in
      let marked : placed.1.mark ≡ batch.mark = again.bears ∙ sym bears in (
        marked,
        λ none. absurd (cc (none, bears)),
        λ mark has once. once placed (i, batch) was is (marked ∙ has) has,
      )

  module _ (B : List Placed) (submitted : All (IsSubmitted events) B) where
    -- a line that agrees with B names its batch
    line_names : (kind : EventKind) (one : Line) → LineAgrees events B kind one
        → LineNamesBatch events B one
    line_names kind (line.Replied (reply.Committed i n)) (placed, at, of) = λ batch is.
        let names = names_batch i batch placed
        (place_each (IsSubmitted events) B n placed submitted at) is of in
        (placed, at, names.0, names.1, names.2)
    line_names kind other agrees = tt

    -- so do the lines of all events
    each_names : (asked : List EventContent) (steps : List (List Line))
        → AllZip (λ event lines. All (LineAgrees events B event.kind) lines) asked steps
        → AllByRecursion (λ lines. All (LineNamesBatch events B) lines) steps
    each_names asked [] agree = tt
    each_names [] (lines ∷ steps) agree = absurd agree
    each_names (event ∷ asked) (lines ∷ steps) agree = (
      All-weaker (LineAgrees events B event.kind) (LineNamesBatch events B) (line_names event.kind)
          lines agree.0,
      each_names asked steps agree.1,
    )

    pub all_named : (asked : List EventContent) (steps : List (List Line))
        → AllZip (λ event lines. All (LineAgrees events B event.kind) lines) asked steps
        → All (λ lines. All (LineNamesBatch events B) lines) steps
    all_named asked steps agree =
        All-from_recursion (λ lines. All (LineNamesBatch events B) lines) steps
        (each_names asked steps agree)
