-- The lines of a settle in any world: those of tends of which each but the last worked.
use Rattle.std.proofs.Common.{◌≡◌, ◌≤◌, ◌-◌, ◌+◌, ℕ, suc, List, [], ◌∷◌, ◌++◌, length, drop, Bool}
use Rattle.std.proofs.Common.{ap, ap₂, arith, append_assoc, append-nil, false, length-append, refl}
use Rattle.std.proofs.Common.{subst, sym, true, ◌∙◌, All}
use Rattle.std.specs.Prelude.{if◌then◌else◌}
use Rattle.std.proofs.lemmas.Bool.{false≢true}
use Rattle.std.proofs.lemmas.List.Elements.{All-nil, All-push}
use Rattle.lab.specs.declared.Line.{Line}
use Rattle.scripts.specs.declared.statement.Action.{Action}
use Rattle.client.specs.declared.statement_result.Note.TheVariants as note
use Rattle.client.specs.declared.statement_result.StatementResult.{StatementResult}
use Rattle.client.specs.ReportedRuns.{EndsIn, EndsSo, HaveWorked}
use Rattle.client.specs.ScriptRuns.{HasSettled, ShowsLast, has_worked, most}
use Rattle.client.proofs.Settling.{all_worked}

-- a settle has lines behind those that there were
abbrev pub HasTendedOn : (old new : List (List Line)) → Type 0
HasTendedOn old new = (own : List (List Line)) × (new ≡ old ++ own) × HasSettled own

-- whether the last of these lines are those of a tend that worked
abbrev pub TellsWhetherWorked : List (List Line) → Bool → Type 0
TellsWhetherWorked lines b = (before : List (List Line)) (last : List Line) →
    lines ≡ before ++ last ∷ [] → b ≡ has_worked last

pub none_worked : (lines : List (List Line)) → HaveWorked lines lines 0
none_worked lines = record {
  own = [];
  added = sym (append-nil lines);
  each = refl;
  worked = All-nil (λ step. has_worked step ≡ true);
}

one_list : (more : List (List Line)) → length more ≡ 1 → (last : List Line) × (more ≡ last ∷ [])
one_list [] is = absurd (omega (arith, is))
one_list (last ∷ []) is = (last, refl)
one_list (last ∷ next ∷ more) is = absurd (omega (arith, is))

-- one tend more
module _ (first mid now more : List (List Line)) (count : ℕ) (w : HaveWorked first mid count)
    (added : now ≡ mid ++ more) (one : length more ≡ 1) (few : suc count ≤ most) (b : Bool)
    (told : TellsWhetherWorked now b) where
  abbrev last : List Line
  last = (one_list more one).0

  ends : now ≡ mid ++ last ∷ []
  ends = added ∙ ap (λ (l : List (List Line)). mid ++ l) (one_list more one).1

  all : now ≡ first ++ (w.own ++ last ∷ [])
  all = ends ∙ ap (λ (l : List (List Line)). l ++ last ∷ []) w.added
      ∙ append_assoc first w.own (last ∷ [])

  pub worked_more : b ≡ true → HaveWorked first now (count + 1)
  worked_more is = record {
    own = w.own ++ last ∷ [];
    added = all;
    each = omega (arith, w.each, length-append w.own (last ∷ []));
    worked = All-push (λ step. has_worked step ≡ true) w.own last w.worked
        (sym (told mid last ends) ∙ is);
  }

  pub settled_now : b ≡ false → HasTendedOn first now
  settled_now is = (
    w.own ++ last ∷ [],
    all,
    record {
      before = w.own;
      last = last;
      all = refl;
      each = w.worked;
      few = omega (arith, few, w.each, length-append w.own (last ∷ []));
      bound = λ worked. absurd (false≢true (sym is ∙ (told mid last ends ∙ worked)));
    },
  )

pub settled_at_bound : (first now : List (List Line)) (count : ℕ) → HaveWorked first now count →
    count ≤ most → most ≤ count → HasTendedOn first now
settled_at_bound first now count w few reached =
    (w.own, w.added, all_worked w.own (omega (arith, reached, few, w.each)) w.worked)

-- ---- what a settle prints

drop_all : (first own : List (List Line)) → drop (length first) (first ++ own) ≡ own
drop_all [] own = refl
drop_all (step ∷ first) own = drop_all first own

-- behind the same lines stand the same
pub same_more : (first a b : List (List Line)) → first ++ a ≡ first ++ b → a ≡ b
same_more first a b is = sym (drop_all first a)
    ∙ (ap (λ (l : List (List Line)). drop (length first) l) is ∙ drop_all first b)

pub shows_last : (old new own : List (List Line)) (count : ℕ) (more : Bool) → new ≡ old ++ own →
    (settled : HasSettled own) → count ≡ length own → TellsWhetherWorked new more →
    ShowsLast settled.last (if more then count else count - 1) (length own)
    (if more then note.Busy else note.Nothing)
shows_last old new own count more added settled each told =
    let worked : more ≡ has_worked settled.last =
    told (old ++ settled.before) settled.last
    (added ∙ (ap (λ (l : List (List Line)). old ++ l) settled.all
    ∙ sym (append_assoc old settled.before (settled.last ∷ [])))) in
    record {
      first = ap₂ (λ (b : Bool) (n : ℕ). if b then n else n - 1) worked each;
      besides = ap (λ (b : Bool). if b then note.Busy else note.Nothing) worked;
    }

-- how a statement ends is so of its own lines
pub ends_own : (action : Action) (turn : StatementResult) (old new more : List (List Line)) →
    new ≡ old ++ more → EndsIn action turn old new → EndsSo action turn more
ends_own action turn old new more added ends =
    subst (λ (l : List (List Line)). EndsSo action turn l)
    (same_more old ends.0 more (sym ends.1 ∙ added)) ends.2
