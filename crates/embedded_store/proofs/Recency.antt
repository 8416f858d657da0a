-- How recent a batch is in a list, and what is answered then.
use Rattle.std.proofs.Common.{◌≡◌, ◌++◌, ◌∷◌, ◌+◌, ◌≤◌, ◌∙◌, ℕ, zero, suc, List, [], length}
use Rattle.std.proofs.Common.{Option, Some, None, ap, arith, eqb-true, inl, inr, length-append}
use Rattle.std.proofs.Common.{refl, subst, sym}
use Rattle.std.proofs.lemmas.Bool.{cond_both}
use Rattle.std.specs.Prelude.{Result, Ok, Err, IfErr, IfSome, MatchResult, nat_lt, ◌==◌}
use Rattle.std.specs.Prelude.{if◌then◌else◌}
use Rattle.kv_types.specs.declared.bounds.TheConstants.{MAX_NUMBER}
use Rattle.kv_types.specs.declared.mark.Mark.{Mark}
use Rattle.kv_types.specs.ListsLemmas.{place_last}
use Rattle.kv_types.specs.MarksLemmas.{held_is_last}
use Rattle.kv_types.specs.{BatchContent, IsLastMark, mark_held, mark_of, place}
use Rattle.engine.specs.EngineError.{EngineError}
use Rattle.engine.specs.EngineError.TheVariants as engine
use Rattle.engine.specs.{IsAppendRefusal, IsEnd, IsEndOrAfter, LookUps}
use Rattle.embedded_store.specs.declared.error.OnceError.{OnceError}
use Rattle.embedded_store.specs.declared.error.OnceError.TheVariants.{OldRequest, Store}
use Rattle.embedded_store.specs.Once.{AnswersOnce, FindsRecency, IsLookRefusal, Recency, recency}
use Rattle.embedded_store.specs.Once.{recency_behind}
use Rattle.embedded_store.specs.Once.{recency_by, with_new, with_once}
use Rattle.embedded_store.specs.Once.Recency.{Last, New, Old}
use Rattle.embedded_store.specs.Stores.{with_one_written}
use Rattle.embedded_store.proofs.Endings.{as_once}

-- ---- what a look found

-- none: the batch is new
pub none_found : (o : Option ℕ) (r : Recency) → o ≡ None → FindsRecency r (Ok o) → r ≡ New
none_found None r is found = found
none_found (Some n) r is found = cc

-- a number: the batch is the last of its client
pub some_found : (o : Option ℕ) (r : Recency) (n : ℕ) → o ≡ Some n → FindsRecency r (Ok o) →
    r ≡ Last n
some_found None r n is found = cc
some_found (Some k) r n is found =
    let same : k ≡ n = cc is in
    found ∙ ap Last same

-- ---- a look that is refused

-- a look never lacks a number
never_exhausted : (e : EngineError) → IsEndOrAfter e → e ≡ engine.Exhausted → ⊥
never_exhausted e why none = grind (arith, why, none)

-- the request is an old one, or the engine refuses
pub answers_refused : (batch : BatchContent) (list : List BatchContent) (mark : Mark)
    (e : OnceError) → mark_of batch ≡ Some mark →
    FindsRecency (recency_by (Some mark) list) (Err e) → IsLookRefusal e →
    AnswersOnce batch list (Err e)
answers_refused batch list mark OldRequest bears found told = record {
  answer = ap (λ (o : Option Mark). recency_by o list) bears ∙ found;
  last = tt;
}
answers_refused batch list mark (Store e) bears found told = record {
  answer = λ none. absurd (never_exhausted e told none);
  last = tt;
}

-- ---- a batch that is new

-- an element has one of the places of its list
place_bound : {A : Type 0} (l : List A) (k : ℕ) (x : A) → place l k ≡ Some x → k ≤ length l
place_bound [] k x at = absurd (cc)
place_bound (y ∷ l) zero x at = absurd (cc)
place_bound (y ∷ l) (suc zero) x at = omega arith
place_bound (y ∷ l) (suc (suc k)) x at = omega (arith, place_bound l (suc k) x at)

-- a batch behind a list bears the last mark of its client
last_behind : (list : List BatchContent) (batch : BatchContent) (mark : Mark) →
    mark_of batch ≡ Some mark →
    IsLastMark (list ++ batch ∷ []) mark.client mark.request (length list + 1)
last_behind list batch mark bears = record {
  batch = batch;
  there = subst (λ n. place (list ++ batch ∷ []) n ≡ Some batch) (omega arith)
      (place_last list batch);
  bears = bears;
  last = λ k other its at has is. omega (
    arith,
    place_bound (list ++ batch ∷ []) k other at,
    length-append list (batch ∷ []),
  );
}

-- it has the next number, if there is one
pub answers_new : (batch : BatchContent) (list : List BatchContent) (old mid new : LookUps)
    (wrote : Result ℕ EngineError) → recency batch list ≡ New → old.count ≡ length list →
    mid ≡ old → MatchResult wrote (λ n. (n ≡ new.count) × (new ≡ with_one_written mid))
    (λ _. new ≡ mid) → IfErr wrote (IsAppendRefusal mid.count) →
    AnswersOnce batch list (as_once wrote)
answers_new batch list old mid new (Ok n) is_new count same told causes =
    let next : n ≡ length list + 1 =
    told.0 ∙ ap (λ (l : LookUps). l.count) told.1 ∙ ap (λ (l : LookUps). l.count + 1) same
    ∙ ap (λ k. k + 1) count in
    record {
      answer = inl (is_new, next);
      last = subst (λ (r : Recency). IfSome (mark_of batch) (λ mark.
          IsLastMark (with_new r batch list) mark.client mark.request n)) (sym is_new)
          (subst (λ k. IfSome (mark_of batch) (λ mark.
          IsLastMark (list ++ batch ∷ []) mark.client mark.request k)) (sym next)
          (each (mark_of batch) refl));
    }
  where
    each : (o : Option Mark) → mark_of batch ≡ o → IfSome o (λ mark.
        IsLastMark (list ++ batch ∷ []) mark.client mark.request (length list + 1))
    each None bears = tt
    each (Some mark) bears = last_behind list batch mark bears
answers_new batch list old mid new (Err e) is_new count same told causes = record {
  answer = λ none. (
    is_new,
    subst (λ k. MAX_NUMBER ≤ k) (ap (λ (l : LookUps). l.count) same ∙ count)
        (no_number e mid.count causes none),
  );
  last = tt;
}
  where
    no_number : (e : EngineError) (count : ℕ) → IsAppendRefusal count e → e ≡ engine.Exhausted →
        MAX_NUMBER ≤ count
    no_number e count (inl (inl end)) none = absurd (subst IsEnd none end)
    no_number e count (inl (inr failed)) none = cc
    no_number e count (inr full) none = full.1

-- ---- a batch that is the last of its client

-- its request and its number are those that are held
held_of_last : (held : Option (ℕ × ℕ)) (request n : ℕ) → recency_behind held request ≡ Last n →
    held ≡ Some (request, n)
held_of_last None request n is = cc
held_of_last (Some last) request n is =
    cond_both (nat_lt last.0 request) New (if last.0 == request then Last last.1 else Old)
    (λ r. r ≡ Last n → Some last ≡ Some (request, n)) (λ less is. cc)
    (λ more is. cond_both (last.0 == request) (Last last.1) Old
    (λ r. r ≡ Last n → Some last ≡ Some (request, n)) (λ same is.
    let asks : last.0 ≡ request = eqb-true last.0 request same in
    let number : last.1 ≡ n = cc in
    λ j. Some (asks j, number j)) (λ other is. cc) is) is

module _ (batch : BatchContent) (list : List BatchContent) (mark : Mark) (n : ℕ)
    (bears : mark_of batch ≡ Some mark) (is_last : recency_by (Some mark) list ≡ Last n) where
  last_once : recency batch list ≡ Last n
  last_once = ap (λ (o : Option Mark). recency_by o list) bears ∙ is_last

  -- it leaves the list as it was
  pub stays_same : with_once batch list ≡ list
  stays_same = ap (λ (r : Recency). with_new r batch list) last_once

  -- and is answered with its number
  pub answers_last : AnswersOnce batch list (Ok n)
  answers_last =
      let held : IsLastMark list mark.client mark.request n =
      ((held_is_last list mark.client).held mark.request n).0
      (held_of_last (mark_held list mark.client) mark.request n is_last) in
      record {
        answer = inr last_once;
        last = subst (λ (l : List BatchContent). IfSome (mark_of batch) (λ mark.
            IsLastMark l mark.client mark.request n)) (sym stays_same)
            (subst (λ (o : Option Mark). IfSome o (λ mark.
            IsLastMark list mark.client mark.request n)) (sym bears) held);
      }
