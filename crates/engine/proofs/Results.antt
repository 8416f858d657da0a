-- What an answer or a refusal says.
use Rattle.std.proofs.Common.{◌≡◌, ◌∙◌, Result, Ok, Err, ap, inl, inr, refl, sym, subst}
use Rattle.std.proofs.Common.{Bool, false, true}
use Rattle.std.specs.Prelude.{◌⊎◌, ◌↔◌, IfErr, IfOk, IsErrAnd, IsErrOf, IsTrue, MatchResult, OnOk}
use Rattle.std.specs.Prelude.{is_err}
use Rattle.disk.specs.{IsEnvironmental}
use Rattle.store_tables.specs.declared.error.EngineError.{EngineError}
use Rattle.store_tables.specs.declared.error.EngineError.TheVariants as engine
use Rattle.store_tables.specs.Errors.{EndsEngine, IsEnd}
use Rattle.engine.specs.Calls.{IsEndOrAfter}
use Rattle.engine.specs.MergeParts.{IsPartRefusal}

-- a refusal is none
pub not_true : false ≡ true → ⊥
not_true e = cc

-- an answer leaves an engine that works
pub works_on_ok : {T : Type 0} (result : Result T EngineError) (ended : Bool) →
    ended ≡ is_err result → OnOk result (IsTrue ended → ⊥)
works_on_ok (Ok x) ended is = λ h. cc
works_on_ok (Err e) ended is = tt

-- a call of an engine that works ends it where it is refused, and only there
module _ {T : Type 0} where
  pub closed_by : (result : Result T EngineError) (was : Bool) → was ≡ false →
      IfErr result IsEnd → IsErrOf result engine.Failed ↔ IsTrue was
  closed_by (Ok x) was off causes = (λ failed. absurd cc, λ h. absurd cc)
  closed_by (Err e) was off causes = (
    λ failed.
        let is : e ≡ engine.Failed = cc in
        absurd (subst IsEnd is causes),
    λ h. absurd cc,
  )

  pub ends_by : (result : Result T EngineError) (was ended : Bool) → was ≡ false →
      ended ≡ is_err result → IfErr result IsEnd → IsTrue ended ↔ (IsTrue was ⊎ EndsEngine result)
  ends_by (Ok x) was ended off is causes =
      (λ h. absurd cc, λ either. elim either [ inl h ↦ absurd cc | inr none ↦ absurd none ])
  ends_by (Err e) was ended off is causes = (λ h. inr causes, λ either. is)

  pub no_refusal : (result : Result T EngineError) → IfErr result IsEnd →
      IsErrAnd result (λ e. IsEnd e → ⊥) → ⊥
  no_refusal (Ok x) causes told = told
  no_refusal (Err e) causes told = told causes

  -- an end is one of a working engine
  pub ends_or_after : (result : Result T EngineError) → IfErr result IsEnd →
      IfErr result IsEndOrAfter
  ends_or_after (Ok x) causes = tt
  ends_or_after (Err e) causes = inl causes

  -- what holds of an answer, and that a refusal is an end of a working engine
  pub answer_or_end : (result : Result T EngineError) (P : T → Type 0) → IfOk result P →
      IfErr result IsEnd → MatchResult result P IsEndOrAfter
  answer_or_end (Ok x) P answer causes = answer
  answer_or_end (Err e) P answer causes = inl causes

  -- what holds of an answer and what holds of a refusal
  pub of_answer : (result : Result T EngineError) (P : T → Type 0) (Q : EngineError → Type 0) →
      MatchResult result P Q → IfOk result P
  of_answer (Ok x) P Q both = both
  of_answer (Err e) P Q both = tt

  pub on_answer : (result : Result T EngineError) (P : Type 0) (Q : EngineError → Type 0) →
      MatchResult result (λ _. P) Q → OnOk result P
  on_answer (Ok x) P Q both = both
  on_answer (Err e) P Q both = tt

  pub of_refusal : (result : Result T EngineError) (P : T → Type 0) (Q : EngineError → Type 0) →
      MatchResult result P Q → IfErr result Q
  of_refusal (Ok x) P Q both = tt
  of_refusal (Err e) P Q both = both

-- a value that is not true is false
pub off_of : (b : Bool) → (IsTrue b → ⊥) → b ≡ false
off_of true off = absurd (off refl)
off_of false off = refl

-- a refusal is one
pub is_refused : {T : Type 0} (result : Result T EngineError) (e : EngineError) →
    IsErrAnd result (λ s. s ≡ e) → is_err result ≡ true
is_refused (Ok x) e told = absurd told
is_refused (Err s) e told = refl

-- one that ends no engine is not for damage
pub not_for_damage : {T : Type 0} (result : Result T EngineError) (e : EngineError) →
    IsErrAnd result (λ s. s ≡ e) → (IsEnd e → ⊥) → IsErrOf result engine.Damaged → ⊥
not_for_damage (Ok x) e told lives damaged = absurd told
not_for_damage (Err s) e told lives damaged =
    let is : e ≡ engine.Damaged = cc in
    lives (subst IsEnd (sym is) tt)

-- an answer and a refusal
pub match_of : {T : Type 0} (result : Result T EngineError) (P : T → Type 0)
    (Q : EngineError → Type 0) → IfOk result P → IfErr result Q → MatchResult result P Q
match_of (Ok x) P Q answer why = answer
match_of (Err e) P Q answer why = why

-- an answer has both that it has and that no refusal is told of
pub answers_with : {T : Type 0} (P Q : Type 0) (E : EngineError → Type 0)
    (result : Result T EngineError) → OnOk result P → MatchResult result (λ _. Q) E →
    MatchResult result (λ _. P) E
answers_with P Q E (Ok x) p q = p
answers_with P Q E (Err e) p why = why

-- what is so of each answer
pub if_ok : {T : Type 0} {P Q : T → Type 0} (result : Result T EngineError) →
    ((x : T) → P x → Q x) → IfOk result P → IfOk result Q
if_ok (Ok x) so p = so x p
if_ok (Err e) so p = tt

-- what an answer has, a call has that is not refused
pub unless_refused : {T : Type 0} (P : Type 0) (result : Result T EngineError) (ended : Bool) →
    ended ≡ is_err result → OnOk result P → ended ≡ false → P
unless_refused P (Ok x) ended is p works = p
unless_refused P (Err e) ended is p works = let both = sym is ∙ works in cc

-- ---- damage

-- damage that is told is another
pub refused_for : {damage other : Type 0} (e : EngineError) → (damage → other) →
    IsPartRefusal damage e → IsPartRefusal other e
refused_for e so (inl outside) = inl outside
refused_for e so (inr told) = inr (told.0, so told.1)

-- and so is that of an answer or a refusal
pub match_for : {T damage other : Type 0} (result : Result T EngineError) (P : T → Type 0) →
    (damage → other) → MatchResult result P (IsPartRefusal damage) →
    MatchResult result P (IsPartRefusal other)
match_for (Ok x) P so both = both
match_for (Err e) P so both = refused_for e so both

-- one that is refused by the environment alone is not refused for damage
pub refused_outside : {T : Type 0} (damage : Type 0) (result : Result T EngineError)
    (P : T → Type 0) →
    MatchResult result P (IsEnvironmental engine.Disk engine.Memory) →
    MatchResult result P (IsPartRefusal damage)
refused_outside damage (Ok x) P both = both
refused_outside damage (Err e) P outside = inl outside

-- so nothing has to be shown of its damage
pub damage_apart : {T next : Type 0} (result : Result T EngineError) →
    IfErr result (IsEnvironmental engine.Disk engine.Memory) →
    IsErrOf result engine.Damaged → next
damage_apart (Ok x) outside damaged = absurd cc
damage_apart (Err e) (inl disk) damaged = absurd cc
damage_apart (Err e) (inr memory) damaged = absurd cc

-- where damage is told only at this time, it is told then
pub refused_then : {T : Type 0} (damage next : Type 0) (result : Result T EngineError)
    (P : T → Type 0) →
    MatchResult result P (IsPartRefusal damage) → (IsErrOf result engine.Damaged → next) →
    IfErr result (IsPartRefusal (next × damage))
refused_then damage next (Ok x) P both then = tt
refused_then damage next (Err e) P (inl outside) then = inl outside
refused_then damage next (Err e) P (inr told) then =
    inr (told.0, (then (ap (λ s. Err s) told.0), told.1))
