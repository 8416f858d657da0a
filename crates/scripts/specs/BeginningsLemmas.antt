-- What is reported of a text that shows the fault of a longer one.
use Rattle.scripts.specs.Beginnings.{IsEnough}
use Rattle.scripts.specs.Faults.{IsReported}
use Rattle.std.proofs.Common.{List, [], ap, arith, inl, inr, length, sym, ℕ, ◌++◌, ◌∙◌, ◌∷◌, ◌≤◌}
use Rattle.script_words.specs.declared.error.ScriptError.{ScriptError}
use Rattle.std.proofs.lemmas.Bool.{cases_Bool}
use Rattle.std.specs.List.{onto_first}
use Rattle.script_words.specs.Lines.{script_lines}
use Rattle.std.specs.Prelude.{◌==◌, Bool}

onto_grows : (b : ℕ) (xs ys : List (List ℕ)) → length xs ≤ length ys →
    length (onto_first b xs) ≤ length (onto_first b ys)
onto_grows b [] [] less = omega arith
onto_grows b [] (y ∷ ys) less = omega arith
onto_grows b (x ∷ xs) [] less = absurd (omega (arith, less))
onto_grows b (x ∷ xs) (y ∷ ys) less = omega (arith, less)

-- a text has no more lines than one that begins with it
lines_grow : (text more : List ℕ) →
    length (script_lines text) ≤ length (script_lines (text ++ more))
lines_grow [] more = omega arith
lines_grow (b ∷ text) more = elim (cases_Bool (b == 10)) [
  | inl t ↦ rw t (omega (arith, lines_grow text more))
  | inr f ↦ rw f (onto_grows b (script_lines text) (script_lines (text ++ more))
      (lines_grow text more))
]

-- what is reported of a text that is enough is reported of the whole
pub reported_enough : (faults : Bool) (whole text : List ℕ) (line : ℕ) (e : ScriptError) →
    IsEnough whole text → IsReported faults (script_lines text) line e →
    IsReported faults (script_lines whole) line e
reported_enough faults whole text line e enough r = record {
  least = λ other. enough.fault faults ∙ r.least other;
  begun = λ is.
      let b = r.begun is in record {
        above = b.above;
        below = omega (
          arith,
          b.below,
          lines_grow text enough.behind,
          ap (λ t. length (script_lines t)) enough.begins,
        );
        sound = λ n x at. b.sound n x (sym (enough.fault faults) ∙ at);
      };
}
