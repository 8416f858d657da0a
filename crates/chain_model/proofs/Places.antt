-- The headline of batches from that of batches with their places, which the machine does not look
-- into.
use Rattle.std.proofs.Common.{◌≡◌, inl, inr, ⊎_elim, ℕ, suc, ◌+◌, ◌<◌, ◌≤◌, List, [], ◌∷◌, ◌++◌}
use Rattle.std.proofs.Common.{length, map, option_map, take, Contains}
use Rattle.std.proofs.Common.{◌≢◌, sym, refl, ◌∙◌, ap, ap₂, subst, arith}
use Rattle.kv_types.specs.ListsLemmas.{every_append, every_map, part_trans}
use Rattle.kv_types.specs.OrderLemmas.{Among, Contains-among}
use Rattle.std.specs.List.{AllByRecursion}
use Rattle.std.proofs.lemmas.List.Elements.{All-from_recursion}
use Rattle.std.proofs.lemmas.List.{length-map, map-append, take-map}
use Rattle.kv_types.specs.{IsPrefix, Marked, Part}
use Rattle.chain_model.specs.Requests.{Close, Closed, Committed, Open, Opened, Read, Refused}
use Rattle.chain_model.specs.Requests.{Response, Request, Shows, Submit}
use Rattle.chain_model.specs.System.{Ask, Deliver, SystemEvent, Lost, Notice, Start, Stop, Tend}
use Rattle.chain_model.specs.System.{Tick}
use Rattle.chain_model.specs.System.{SystemState, first_state, node_of, reached, run}
use Rattle.chain_model.specs.Headline.{IsRepeat, ResponseAgrees, OneList, batches, numbered}
use Rattle.chain_model.specs.Headline.{submitted}
use Rattle.chain_model.specs.Maps.{event_map, marked_map, reply_map, request_map, world_map}
use Rattle.chain_model.proofs.Configuration.{IsChain}
use Rattle.chain_model.proofs.SubmitMaps.{map-place_of}
use Rattle.chain_model.proofs.Submitted.{WasHandedIn, WasSubmittedAgain, accepted, accepted_part}
use Rattle.chain_model.proofs.Submitted.{every_among, handed, handed_among, handed_by, was_behind}
use Rattle.chain_model.proofs.History.{OneHistory, Speaks, one_history}
use Rattle.chain_model.proofs.Refusals.{AreNumbered, RefusedIsNot, parts_are_not, refused_is_not}
use Rattle.chain_model.proofs.Outcomes.{run_is_outcomes}
use Rattle.chain_model.proofs.WorldMaps.{run_map}

-- elements of a list have their images among those of the list
among_map : {X Y : Type 0} (g : X → Y) (x : X) (l : List X) → Among x l
    → Among (g x) (map g l)
among_map g x [] is = absurd is
among_map g x (y ∷ l) (inl is) = inl (ap g is)
among_map g x (y ∷ l) (inr is) = inr (among_map g x l is)

-- a sublist of images
part_map : {X Y : Type 0} (g : X → Y) (l m : List X) → Part l m → Part (map g l) (map g m)
part_map g [] m part = tt
part_map g (x ∷ l) [] part = absurd part
part_map g (x ∷ l) (y ∷ m) (inl part) = inl (ap g part.0, part_map g l m part.1)
part_map g (x ∷ l) (y ∷ m) (inr part) = inr (part_map g (x ∷ l) m part)

module _ {A : Type 0} where
  -- the content without its place
  abbrev batch_of : ℕ × A → A
  batch_of p = p.1

  -- a batch, and the place that is in its content
  abbrev placed_of : Marked (ℕ × A) → ℕ × Marked A
  placed_of b = (b.content.0, marked_map batch_of b)

  -- each content with its place
  abbrev tag : ℕ → Request A → Request (ℕ × A)
  tag i (Submit b) = Submit (marked_map (λ content. (i, content)) b)
  tag i (Read at) = Read at
  tag i (Open at) = Open at
  tag i (Close s) = Close s

  -- events whose batches have their places
  abbrev tagged : ℕ → List (SystemEvent A) → List (SystemEvent (ℕ × A))
  tagged i [] = []
  tagged i (Ask x j q went ∷ es) = Ask x i (tag i q) went ∷ tagged (suc i) es
  tagged i (Tick x went ∷ es) = Tick x went ∷ tagged (suc i) es
  tagged i (Tend x rises gives_up went ∷ es) = Tend x rises gives_up went ∷ tagged (suc i) es
  tagged i (Notice x e went ∷ es) = Notice x e went ∷ tagged (suc i) es
  tagged i (Deliver p went ∷ es) = Deliver p went ∷ tagged (suc i) es
  tagged i (Start x went ∷ es) = Start x went ∷ tagged (suc i) es
  tagged i (Stop x ∷ es) = Stop x ∷ tagged (suc i) es
  tagged i (Lost ∷ es) = Lost ∷ tagged (suc i) es

  -- a request without places is the request
  untag : (i : ℕ) (q : Request A) → request_map batch_of (tag i q) ≡ q
  untag i (Submit b) = refl
  untag i (Read at) = refl
  untag i (Open at) = refl
  untag i (Close s) = refl

  -- events without places are the numbered events
  untagged : (i : ℕ) (es : List (SystemEvent A)) → map (event_map batch_of) (tagged i es) ≡ numbered
      i es
  untagged i [] = refl
  untagged i (Ask x j q went ∷ es) =
      ap₂ (λ (p : Request A) (r : List (SystemEvent A)). Ask x i p went ∷ r) (untag i q)
      (untagged (suc i) es)
  untagged i (Tick x went ∷ es) = ap (λ r. Tick x went ∷ r) (untagged (suc i) es)
  untagged i (Tend x rises gives_up went ∷ es) = ap (λ r. Tend x rises gives_up went ∷ r)
      (untagged (suc i) es)
  untagged i (Notice x e went ∷ es) = ap (λ r. Notice x e went ∷ r) (untagged (suc i) es)
  untagged i (Deliver p went ∷ es) = ap (λ r. Deliver p went ∷ r) (untagged (suc i) es)
  untagged i (Start x went ∷ es) = ap (λ r. Start x went ∷ r) (untagged (suc i) es)
  untagged i (Stop x ∷ es) = ap (λ r. Stop x ∷ r) (untagged (suc i) es)
  untagged i (Lost ∷ es) = ap (λ r. Lost ∷ r) (untagged (suc i) es)

  -- these events submit batches with places
  handed_tagged : (i : ℕ) (es : List (SystemEvent A))
      → map placed_of (handed (tagged i es)) ≡ submitted i es
  handed_tagged i [] = refl
  handed_tagged i (Ask x j (Submit b) went ∷ es) = ap (λ r. (i, b) ∷ r) (handed_tagged (suc i) es)
  handed_tagged i (Ask x j (Read at) went ∷ es) = handed_tagged (suc i) es
  handed_tagged i (Ask x j (Open at) went ∷ es) = handed_tagged (suc i) es
  handed_tagged i (Ask x j (Close s) went ∷ es) = handed_tagged (suc i) es
  handed_tagged i (Tick x went ∷ es) = handed_tagged (suc i) es
  handed_tagged i (Tend x rises gives_up went ∷ es) = handed_tagged (suc i) es
  handed_tagged i (Notice x e went ∷ es) = handed_tagged (suc i) es
  handed_tagged i (Deliver p went ∷ es) = handed_tagged (suc i) es
  handed_tagged i (Start x went ∷ es) = handed_tagged (suc i) es
  handed_tagged i (Stop x ∷ es) = handed_tagged (suc i) es
  handed_tagged i (Lost ∷ es) = handed_tagged (suc i) es

  -- a request's batch bears the request's number
  number_tagged : (k : ℕ) (es : List (SystemEvent A)) (i : ℕ) (p : Marked (ℕ × A))
      → WasHandedIn (tagged k es) i p → p.content.0 ≡ i
  number_tagged k [] i p was = absurd was
  number_tagged k (Ask x j (Submit b) went ∷ es) i p (inl is) =
      ap (λ (q : Marked (ℕ × A)). q.content.0) (sym is.1) ∙ is.0
  number_tagged k (Ask x j (Submit b) went ∷ es) i p (inr was) = number_tagged (suc k) es i p was
  number_tagged k (Ask x j (Read at) went ∷ es) i p (inl is) = absurd is
  number_tagged k (Ask x j (Read at) went ∷ es) i p (inr was) = number_tagged (suc k) es i p was
  number_tagged k (Ask x j (Open at) went ∷ es) i p (inl is) = absurd is
  number_tagged k (Ask x j (Open at) went ∷ es) i p (inr was) = number_tagged (suc k) es i p was
  number_tagged k (Ask x j (Close s) went ∷ es) i p (inl is) = absurd is
  number_tagged k (Ask x j (Close s) went ∷ es) i p (inr was) = number_tagged (suc k) es i p was
  number_tagged k (Tick x went ∷ es) i q (inl is) = absurd is
  number_tagged k (Tick x went ∷ es) i q (inr was) = number_tagged (suc k) es i q was
  number_tagged k (Tend x rises gives_up went ∷ es) i q (inl is) = absurd is
  number_tagged k (Tend x rises gives_up went ∷ es) i q (inr was) = number_tagged (suc k) es i q was
  number_tagged k (Notice x e went ∷ es) i q (inl is) = absurd is
  number_tagged k (Notice x e went ∷ es) i q (inr was) = number_tagged (suc k) es i q was
  number_tagged k (Deliver p went ∷ es) i q (inl is) = absurd is
  number_tagged k (Deliver p went ∷ es) i q (inr was) = number_tagged (suc k) es i q was
  number_tagged k (Start x went ∷ es) i q (inl is) = absurd is
  number_tagged k (Start x went ∷ es) i q (inr was) = number_tagged (suc k) es i q was
  number_tagged k (Stop x ∷ es) i q (inl is) = absurd is
  number_tagged k (Lost ∷ es) i q (inl is) = absurd is
  number_tagged k (Stop x ∷ es) i q (inr was) = number_tagged (suc k) es i q was
  number_tagged k (Lost ∷ es) i q (inr was) = number_tagged (suc k) es i q was

  -- the submitted batches do not depend on the numbers of requests
  pub handed_in_numbered : (i j : ℕ) (es : List (SystemEvent A))
      → submitted i (numbered j es) ≡ submitted i es
  handed_in_numbered i j [] = refl
  handed_in_numbered i j (Ask x k (Submit b) went ∷ es) =
      ap (λ r. (i, b) ∷ r) (handed_in_numbered (suc i) (suc j) es)
  handed_in_numbered i j (Ask x k (Read at) went ∷ es) = handed_in_numbered (suc i) (suc j) es
  handed_in_numbered i j (Ask x k (Open at) went ∷ es) = handed_in_numbered (suc i) (suc j) es
  handed_in_numbered i j (Ask x k (Close s) went ∷ es) = handed_in_numbered (suc i) (suc j) es
  handed_in_numbered i j (Tick x went ∷ es) = handed_in_numbered (suc i) (suc j) es
  handed_in_numbered i j (Tend x rises gives_up went ∷ es) = handed_in_numbered (suc i) (suc j) es
  handed_in_numbered i j (Notice x e went ∷ es) = handed_in_numbered (suc i) (suc j) es
  handed_in_numbered i j (Deliver p went ∷ es) = handed_in_numbered (suc i) (suc j) es
  handed_in_numbered i j (Start x went ∷ es) = handed_in_numbered (suc i) (suc j) es
  handed_in_numbered i j (Stop x ∷ es) = handed_in_numbered (suc i) (suc j) es
  handed_in_numbered i j (Lost ∷ es) = handed_in_numbered (suc i) (suc j) es

  -- one more event in front
  one_more : (e : SystemEvent A) (i : ℕ) (es fs : List (SystemEvent A))
      → numbered (suc i) (es ++ fs) ≡ numbered (suc i) es ++ numbered (suc i + length es) fs
      → e ∷ numbered (suc i) (es ++ fs)
      ≡ e ∷ (numbered (suc i) es ++ numbered (i + suc (length es)) fs)
  one_more e i es fs rest =
      let same : suc i + length es ≡ i + suc (length es) = omega arith in
      ap (λ r. e ∷ r) (rest ∙ ap (λ k. numbered (suc i) es ++ numbered k fs) same)

  -- events behind others have the numbers behind theirs
  pub numbered_append : (i : ℕ) (es fs : List (SystemEvent A))
      → numbered i (es ++ fs) ≡ numbered i es ++ numbered (i + length es) fs
  numbered_append i [] fs = ap (λ k. numbered k fs) (omega arith)
  numbered_append i (Ask x j q went ∷ es) fs =
      one_more (Ask x i q went) i es fs (numbered_append (suc i) es fs)
  numbered_append i (Tick x went ∷ es) fs =
      one_more (Tick x went) i es fs (numbered_append (suc i) es fs)
  numbered_append i (Tend x rises gives_up went ∷ es) fs =
      one_more (Tend x rises gives_up went) i es fs (numbered_append (suc i) es fs)
  numbered_append i (Notice x e went ∷ es) fs =
      one_more (Notice x e went) i es fs (numbered_append (suc i) es fs)
  numbered_append i (Deliver p went ∷ es) fs =
      one_more (Deliver p went) i es fs (numbered_append (suc i) es fs)
  numbered_append i (Start x went ∷ es) fs =
      one_more (Start x went) i es fs (numbered_append (suc i) es fs)
  numbered_append i (Stop x ∷ es) fs = one_more (Stop x) i es fs (numbered_append (suc i) es fs)
  numbered_append i (Lost ∷ es) fs = one_more Lost i es fs (numbered_append (suc i) es fs)

  -- events with places have the numbers of these, and so have their batches
  tagged_are : (k : ℕ) (es : List (SystemEvent A)) → AreNumbered k (tagged k es)
  tagged_are k [] = tt
  tagged_are k (Ask x j (Submit b) went ∷ es) = ((refl, (refl, tt)), tagged_are (suc k) es)
  tagged_are k (Ask x j (Read at) went ∷ es) = ((refl, tt), tagged_are (suc k) es)
  tagged_are k (Ask x j (Open at) went ∷ es) = ((refl, tt), tagged_are (suc k) es)
  tagged_are k (Ask x j (Close s) went ∷ es) = ((refl, tt), tagged_are (suc k) es)
  tagged_are k (Tick x went ∷ es) = ((tt, tt), tagged_are (suc k) es)
  tagged_are k (Tend x rises gives_up went ∷ es) = ((tt, tt), tagged_are (suc k) es)
  tagged_are k (Notice x e went ∷ es) = ((tt, tt), tagged_are (suc k) es)
  tagged_are k (Deliver p went ∷ es) = ((tt, tt), tagged_are (suc k) es)
  tagged_are k (Start x went ∷ es) = ((tt, tt), tagged_are (suc k) es)
  tagged_are k (Stop x ∷ es) = ((tt, tt), tagged_are (suc k) es)
  tagged_are k (Lost ∷ es) = ((tt, tt), tagged_are (suc k) es)

  -- events after others are numbered behind these
  numbered_later : (k : ℕ) (before later : List (SystemEvent (ℕ × A)))
      → AreNumbered k (before ++ later)
      → AreNumbered k before × AreNumbered (k + length before) later
  numbered_later k [] later are = (tt, subst (λ j. AreNumbered j later) (omega arith) are)
  numbered_later k (e ∷ before) later are =
      let rest = numbered_later (suc k) before later are.1 in
      let same : suc k + length before ≡ k + suc (length before) = omega arith in
      ((are.0, rest.0), subst (λ j. AreNumbered j later) same rest.1)

  -- the places of what numbered events submit are theirs
  handed_within : (k : ℕ) (es : List (SystemEvent (ℕ × A))) → AreNumbered k es
      → AllByRecursion (λ (p : Marked (ℕ × A)). (k ≤ p.content.0) × (p.content.0 < k + length es))
      (handed es)
  handed_within k [] are = tt
  handed_within k (e ∷ es) are =
      let Within : Marked (ℕ × A) → Type 0 =
      λ p. (k ≤ p.content.0) × (p.content.0 < k + suc (length es)) in
      every_append Within (handed_by e) (handed es)
      (every_map (λ (p : Marked (ℕ × A)). p.content.0 ≡ k) Within (handed_by e)
      (λ p is. (omega (arith, is), omega (arith, is))) are.0.1)
      (every_map (λ (p : Marked (ℕ × A)). (suc k ≤ p.content.0)
      × (p.content.0 < suc k + length es)) Within (handed es)
      (λ p within. (omega (arith, within.0), omega (arith, within.1)))
      (handed_within (suc k) es are.1))

  -- a request's batch is among the submitted ones, with the request's number
  submits_tagged : (es : List (SystemEvent A)) (i : ℕ) (b : Marked (ℕ × A))
      → WasHandedIn (tagged 1 es) i b → Contains (submitted 1 es) (i, marked_map batch_of b)
  submits_tagged es i b was =
      let is : b.content.0 ≡ i = number_tagged 1 es i b was in
      subst (λ j. Contains (submitted 1 es) (j, marked_map batch_of b)) is
      (Contains-among (submitted 1 es) (placed_of b)
      (subst (Among (placed_of b)) (handed_tagged 1 es)
      (among_map placed_of b (handed (tagged 1 es)) (handed_among (tagged 1 es) i b was))))

  -- a batch that is submitted again was submitted before
  again_tagged : (es : List (SystemEvent A)) (i : ℕ) (p : Marked (ℕ × A))
      → WasSubmittedAgain (tagged 1 es) i p → IsRepeat (submitted 1 es) i (placed_of p)
  again_tagged es i p again =
      let are = numbered_later 1 again.before again.later
      (subst (AreNumbered 1) (sym again.whole) (tagged_are 1 es)) in
      let was : WasHandedIn (tagged 1 es) i again.batch =
      subst (λ l. WasHandedIn l i again.batch) again.whole
      (was_behind again.before again.later i again.batch again.submits) in
      let first = every_among (λ (q : Marked (ℕ × A)). (1 ≤ q.content.0)
      × (q.content.0 < 1 + length again.before)) p (handed again.before)
      (handed_within 1 again.before are.0) again.earlier in
      let next = every_among (λ (q : Marked (ℕ × A)). (1 + length again.before ≤ q.content.0)
      × (q.content.0 < (1 + length again.before) + length again.later)) again.batch
      (handed again.later) (handed_within (1 + length again.before) again.later are.1)
      (handed_among again.later i again.batch again.submits) in
      let number : again.batch.content.0 ≡ i = number_tagged 1 es i again.batch was in
      record {
        earlier = omega (arith, first.1, next.0, number);
        mark = again.mark;
        bears = again.bears;
        batch = marked_map batch_of again.batch;
        submits = submits_tagged es i again.batch was;
        same = again.same;
      }

  -- batches that have places, without these
  batches_placed : (l : List (Marked (ℕ × A)))
      → batches (map placed_of l) ≡ map (marked_map batch_of) l
  batches_placed [] = refl
  batches_placed (b ∷ l) = ap (λ r. marked_map batch_of b ∷ r) (batches_placed l)

  -- batches with places of which none is of a request
  none_placed : (i : ℕ) (l : List (Marked (ℕ × A)))
      → AllByRecursion (λ (p : Marked (ℕ × A)). p.content.0 ≢ i) l
      → AllByRecursion (λ (p : ℕ × Marked A). p.0 ≢ i) (map placed_of l)
  none_placed i [] none = tt
  none_placed i (b ∷ l) none = (none.0, none_placed i l none.1)

  -- a refusal in a run of batches with places is of none of these, which the run has accepted
  refused_in : (cs : List (List ℕ)) (es : List (SystemEvent A)) (B : List (Marked (ℕ × A)))
      → Part B (accepted cs (tagged 1 es) (first_state cs))
      → AllByRecursion (RefusedIsNot 1 B) (reached cs (tagged 1 es)).replies
  refused_in cs es B part =
      let told = accepted cs (tagged 1 es) (first_state cs) in
      subst (λ (rs : List (Response (ℕ × A))). AllByRecursion (RefusedIsNot 1 B) rs)
      (sym (run_is_outcomes cs (tagged 1 es)).replies)
      (parts_are_not 1 B told _ part
      (refused_is_not cs 1 (tagged 1 es) (first_state cs) (tagged_are 1 es)))

  -- a reply that speaks of batches with places agrees with the list
  agrees_with : (es : List (SystemEvent A)) (B : List (Marked (ℕ × A))) (r : Response (ℕ × A))
      → Speaks (tagged 1 es) B r → RefusedIsNot 1 B r
      → ResponseAgrees (submitted 1 es) (map placed_of B) (reply_map batch_of r)
  agrees_with es B (Committed i n) (p, (may, at)) none = (
    placed_of p,
    (
      map-place_of placed_of B n ∙ ap (option_map placed_of) at,
      ⊎_elim (λ was. inl (number_tagged 1 es i p was))
          (λ again. inr (again_tagged es i p again)) may,
    ),
  )
  agrees_with es B (Shows i s l) ok none = (
    omega (arith, ok.0, length-map B placed_of),
    ap (map (marked_map batch_of)) ok.1 ∙ sym (take-map (marked_map batch_of) s B)
        ∙ ap (take s) (sym (batches_placed B)),
  )
  agrees_with es B (Opened i s) ok none = tt
  agrees_with es B (Closed i s) ok none = tt
  agrees_with es B (Refused i why) ok none =
      All-from_recursion (λ (p : ℕ × Marked A). p.0 ≢ i) (map placed_of B)
      (none_placed i B none.1)

  -- all replies that speak of batches with places agree with the list
  agree_with : (es : List (SystemEvent A)) (B : List (Marked (ℕ × A)))
      (rs : List (Response (ℕ × A)))
      → AllByRecursion (Speaks (tagged 1 es) B) rs → AllByRecursion (RefusedIsNot 1 B) rs
      → AllByRecursion (ResponseAgrees (submitted 1 es) (map placed_of B))
      (map (reply_map batch_of) rs)
  agree_with es B [] ok none = tt
  agree_with es B (r ∷ rs) ok none =
      (agrees_with es B r ok.0 none.0, agree_with es B rs ok.1 none.1)

  -- the headline, of batches and places
  pub one_list : (cs : List (List ℕ)) (es : List (SystemEvent A)) → IsChain cs → OneList cs es
  one_list cs es lawful =
      let h : OneHistory cs (tagged 1 es) = one_history cs (tagged 1 es) lawful in
      let w : SystemState A = reached cs (numbered 1 es) in
      let is : world_map batch_of (reached cs (tagged 1 es)) ≡ w =
      run_map batch_of cs (tagged 1 es) (first_state cs) ∙ ap (λ k. run cs k (first_state cs))
      (untagged 1 es) in
      let B : List (ℕ × Marked A) = map placed_of h.B in
      let Agrees : Response A → Type 0 = ResponseAgrees (submitted 1 es) B in
      record {
        B = B;
        taken = subst (λ l. Part B l) (handed_tagged 1 es)
            (part_map placed_of h.B (handed (tagged 1 es))
            (part_trans h.B (accepted cs (tagged 1 es) (first_state cs)) (handed (tagged 1 es))
            h.taken (accepted_part cs (tagged 1 es) (first_state cs))));
        agrees = All-from_recursion Agrees w.replies
            (subst (λ (v : SystemState A). AllByRecursion Agrees v.replies) is
            (agree_with es h.B (reached cs (tagged 1 es)).replies h.speaks
            (refused_in cs es h.B h.taken)));
        stands = λ x last.
            let b = h.stands x last in
            let plain : Marked (ℕ × A) → Marked A = marked_map batch_of in
            let mapped : IsPrefix (map plain h.B) (map plain (node_of cs (tagged 1 es) x).list) =
            record {
              rest = map plain b.rest;
              whole = sym (map-append plain h.B b.rest) ∙ ap (map plain) b.whole;
            } in
            subst (λ (l : List (Marked A)). IsPrefix l (w.nodes x).list) (sym (batches_placed h.B))
            (subst (λ (v : SystemState A). IsPrefix (map plain h.B) (v.nodes x).list) is
            mapped);
      }
