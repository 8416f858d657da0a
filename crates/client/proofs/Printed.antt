-- What is printed so far.
use Rattle.std.proofs.Common.{◌≡◌, ◌≤◌, ◌+◌, ◌<◌, ℕ, zero, suc, List, [], ◌∷◌, ◌++◌, Option}
use Rattle.std.proofs.Common.{length, map, take, drop, replicate, refl, sym, ap, ap₂, ◌∙◌, arith}
use Rattle.std.proofs.Common.{append_assoc, append-nil, add-one, get_or, length-append, Some, None}
use Rattle.std.proofs.Math.Seq.{take-suc}
use Rattle.std.proofs.lemmas.Grind.{flat_map-append}
use Rattle.std.specs.List.{flat_map}
use Rattle.kv_types.specs.{Row}
use Rattle.lab.specs.declared.Line.{Line}
use Rattle.client.specs.declared.statement_result.StatementResult.{StatementResult}
use Rattle.client.specs.Text.{event_lines, line_output, line_text, note_text, numbered_line}
use Rattle.client.specs.Text.{reply_place, results_text, result_text, rows_of_line}
use Rattle.client.specs.Text.{step_text}
use Rattle.store_texts.specs.Texts.{printed_row}

-- the next element is printed
pub prints_next : {A : Type 0} (old mid new : List ℕ) (f : A → List ℕ) (xs : List A)
    (i : ℕ) (d it : A) → i < length xs → it ≡ get_or xs i d
    → mid ≡ old ++ flat_map f (take i xs) → new ≡ mid ++ f it
    → new ≡ old ++ flat_map f (take (i + 1) xs)
prints_next old mid new f xs i d it within at before wrote =
    let more : take (suc i) xs ≡ take i xs ++ it ∷ [] =
    rw at (take-suc xs i d within) in
    rw (add-one, more, flat_map-append f (take i xs) (it ∷ []), append-nil (f it))
    (rw (wrote, before, append_assoc) refl)

-- a line of a report is printed: its rows, then its own line
pub prints_line : (old mid new : List ℕ) (events : List ℕ) (here number : ℕ) (line : Line)
    (rows : List Row) → number ≡ reply_place events here line → rows ≡ rows_of_line line
    → mid ≡ old ++ flat_map (numbered_line number) (map printed_row rows)
    → new ≡ mid ++ numbered_line number (line_text line)
    → new ≡ old ++ line_output events here line
prints_line old mid new events here number line rows place are wrote own =
    let own_line = numbered_line number (line_text line) in
    rw (
      ← place,
      ← are,
      flat_map-append (numbered_line number) (map printed_row rows) (line_text line ∷ []),
      append-nil own_line,
    ) (rw (own, wrote, append_assoc) refl)

-- so many copies have this length
pub replicate-length : {A : Type 0} (k : ℕ) (x : A) → length (replicate k x) ≡ k
replicate-length zero x = refl
replicate-length (suc k) x = ap suc (replicate-length k x)

take_front : {A : Type 0} (xs ys : List A) (k : ℕ) → k ≤ length xs →
    take k (xs ++ ys) ≡ take k xs
take_front xs ys zero within = refl
take_front [] ys (suc k) within = absurd (omega (arith, within))
take_front {A} (x ∷ xs) ys (suc k) within =
    ap (λ (l : List A). x ∷ l) (take_front xs ys k (omega (arith, within)))

drop_front : {A : Type 0} (xs ys : List A) (k : ℕ) → k ≤ length xs →
    drop k (xs ++ ys) ≡ drop k xs ++ ys
drop_front xs ys zero within = refl
drop_front [] ys (suc k) within = absurd (omega (arith, within))
drop_front (x ∷ xs) ys (suc k) within = drop_front xs ys k (omega (arith, within))

length-left : {A : Type 0} (xs : List A) (k : ℕ) → k ≤ length xs →
    length (drop k xs) + k ≡ length xs
length-left xs zero within = omega arith
length-left [] (suc k) within = absurd (omega (arith, within))
length-left (x ∷ xs) (suc k) within = omega (arith, length-left xs k (omega (arith, within)))

-- a result has the same text where more steps stand behind its own
result_alone : (places : List ℕ) (turn : StatementResult) (steps own : List (List Line)) →
    turn.events ≤ length steps → result_text places turn (steps ++ own)
    ≡ result_text places turn steps
result_alone places turn steps own within =
    ap (λ (l : List (List Line)). flat_map (step_text places turn.line) (drop turn.silent l)
    ++ note_text turn.line turn.note) (take_front steps own turn.events within)

-- the text of statements, and of one behind them
pub texts_more : (places : List ℕ) (turns : List StatementResult) (turn : StatementResult)
    (steps own : List (List Line)) → length (event_lines turns) ≡ length steps →
    results_text places (turns ++ turn ∷ []) (steps ++ own) ≡ results_text places turns steps
    ++ result_text (places ++ event_lines (turns ++ turn ∷ [])) turn own
texts_more places [] turn [] own each =
    append-nil (result_text (places ++ replicate turn.events turn.line) turn own)
    ∙ ap (λ (l : List ℕ). result_text (places ++ l) turn own)
    (sym (append-nil (replicate turn.events turn.line)))
texts_more places [] turn (step ∷ steps) own each = absurd (omega (arith, each))
texts_more places (t ∷ turns) turn steps own each =
    let rep = replicate t.events t.line in
    let sum : t.events + length (event_lines turns) ≡ length steps =
    omega (arith, each, length-append rep (event_lines turns), replicate-length t.events t.line) in
    let within : t.events ≤ length steps = omega (arith, sum) in
    let left = drop t.events steps in
    let rest : length (event_lines turns) ≡ length left =
    omega (arith, sum, length-left steps t.events within) in
    let more = texts_more (places ++ rep) turns turn left own rest in
    let first = result_text (places ++ rep) t steps in
    ap₂ (λ (a : List ℕ) (l : List (List Line)). a
    ++ results_text (places ++ rep) (turns ++ turn ∷ []) l)
    (result_alone (places ++ rep) t steps own within) (drop_front steps own t.events within)
    ∙ (ap (λ (l : List ℕ). first ++ l) more
    ∙ (ap (λ (l : List ℕ). first ++ (results_text (places ++ rep) turns left
    ++ result_text l turn own)) (append_assoc places rep (event_lines (turns ++ turn ∷ [])))
    ∙ sym (append_assoc first (results_text (places ++ rep) turns left)
    (result_text (places ++ event_lines ((t ∷ turns) ++ turn ∷ [])) turn own))))
