-- The words behind a name, and their places.
use Rattle.std.proofs.Common.{◌≡◌, ◌-◌, ◌<◌, ℕ, List, [], ◌∷◌, length, get_or, take, drop, map}
use Rattle.std.proofs.Common.{Bool, true, false, not, refl, arith, Bor, codes, Some, None, cond}
use Rattle.std.proofs.Common.{◌≤◌}
use Rattle.std.specs.List.{list_any, list_all, zip}
use Rattle.std.proofs.Math.Seq.{take-length}
use Rattle.std.proofs.lemmas.List.{length-drop}
use Rattle.script_words.specs.Words.{is_number, is_positive}
use Rattle.scripts.specs.Statements.{Kind, is_bad_number, is_bad_text, is_bad_junk, fault_of_words}
use Rattle.script_words.specs.Edits.{is_edit}
use Rattle.scripts.specs.Statements.Kind.{edit}
use Rattle.script_words.specs.declared.error.ScriptError.TheVariants.{BadBytes}

-- what `rest @ ..` behind k elements is
pub rest_is : {A : Type 0} (k : ℕ) (xs : List A) → take (length xs - k) (drop k xs) ≡ drop k xs
rest_is k xs = rw (← length-drop k xs) (take-length (drop k xs))

-- words are their first and what follows it
pub named : (words : List (Bor (List ℕ))) (d : Bor (List ℕ)) (name : List ℕ) → 0 < length words
    → (get_or words 0 d).now ≡ name
    → map (λ w. w.now) words ≡ name ∷ map (λ w. w.now) (take (length words - 1) (drop 1 words))
named [] d name some e = absurd (omega arith)
named (w ∷ ws) d name some e = rw (rest_is 1 (w ∷ ws), e) refl

-- the same, at what the code reads
pub named_word : (words : List (Bor (List ℕ))) (name : List ℕ) → 0 < length words
    → (get_or words 0 (record { ref_ptr = (0, 0); now = [] })).now ≡ name
    → map (λ w. w.now) words ≡ name ∷ map (λ w. w.now) (take (length words - 1) (drop 1 words))
named_word words name some e = named words _ name some e

-- words are their first three and what follows them
pub three_named : (words : List (Bor (List ℕ))) (d : Bor (List ℕ)) (u v w : List ℕ)
    → 3 ≤ length words → (get_or words 0 d).now ≡ u → (get_or words 1 d).now ≡ v
    → (get_or words 2 d).now ≡ w → map (λ w. w.now) words
    ≡ u ∷ v ∷ w ∷ map (λ w. w.now) (take (length words - 3) (drop 3 words))
three_named (a ∷ b ∷ c ∷ ws) d u v w most first second third =
    rw (rest_is 3 (a ∷ b ∷ c ∷ ws), first, second, third) refl
three_named (a ∷ b ∷ []) d u v w most first second third = absurd (omega (arith, most))
three_named (a ∷ []) d u v w most first second third = absurd (omega (arith, most))
three_named [] d u v w most first second third = absurd (omega (arith, most))

abbrev of_edits : List (Bor (List ℕ)) → List (Kind × List ℕ)
of_edits ws = zip (map (λ _. edit) (map (λ w. w.now) ws)) (map (λ w. w.now) ws)

bad_numbers : (ws : List (Bor (List ℕ))) → list_any is_bad_number (of_edits ws) ≡ false
bad_numbers [] = refl
bad_numbers (w ∷ ws) = bad_numbers ws

bad_junk : (ws : List (Bor (List ℕ))) → list_any is_bad_junk (of_edits ws) ≡ false
bad_junk [] = refl
bad_junk (w ∷ ws) = bad_junk ws

bad_texts : (ws : List (Bor (List ℕ))) → list_any is_bad_text (of_edits ws) ≡ list_any (λ w. not
    (is_edit w.now)) ws
bad_texts [] = refl
bad_texts (w ∷ ws) = rw (bad_texts ws) refl

-- the fault of a submit whose node is a number
pub submit_fault : (words : List (Bor (List ℕ))) (d : Bor (List ℕ)) → 0 < length words
    → is_number (get_or words 0 d).now ≡ true
    → fault_of_words (codes "submit" ∷ map (λ w. w.now) words) ≡ cond (list_any (λ w. not
    (is_edit w.now)) (take (length words - 1) (drop 1 words))) (Some BadBytes) None
submit_fault [] d some e = absurd (omega arith)
submit_fault (w ∷ ws) d some e = rw (
  rest_is 1 (w ∷ ws),
  e,
  bad_numbers ws,
  bad_texts ws,
  bad_junk ws,
) refl

-- the fault of a once whose numbers are good
pub once_fault : (words : List (Bor (List ℕ))) (d : Bor (List ℕ)) → 3 ≤ length words
    → is_number (get_or words 0 d).now ≡ true → is_positive (get_or words 1 d).now ≡ true
    → is_positive (get_or words 2 d).now ≡ true
    → fault_of_words (codes "once" ∷ map (λ w. w.now) words) ≡ cond (list_any (λ w. not
    (is_edit w.now)) (take (length words - 3) (drop 3 words))) (Some BadBytes) None
once_fault (n ∷ c ∷ r ∷ ws) d most node client request = rw (
  rest_is 3 (n ∷ c ∷ r ∷ ws),
  node,
  client,
  request,
  bad_numbers ws,
  bad_texts ws,
  bad_junk ws,
) refl
once_fault (n ∷ c ∷ []) d most node client request = absurd (omega (arith, most))
once_fault (n ∷ []) d most node client request = absurd (omega (arith, most))
once_fault [] d most node client request = absurd (omega (arith, most))

-- a test of what words borrow
pub all_texts : (p : List ℕ → Bool) (ws : List (Bor (List ℕ)))
    → list_all p (map (λ w. w.now) ws) ≡ list_all (λ w. p w.now) ws
all_texts p [] = refl
all_texts p (w ∷ ws) = rw (all_texts p ws) refl

-- the only word
pub only_word : (words : List (Bor (List ℕ))) (d : Bor (List ℕ)) (w : List ℕ)
    → length words ≡ 1 → (get_or words 0 d).now ≡ w → map (λ w. w.now) words ≡ w ∷ []
only_word [] d w one e = absurd (omega (arith, one))
only_word (v ∷ []) d w one e = rw e refl
only_word (v ∷ u ∷ ws) d w one e = absurd (omega (arith, one))

-- no word
pub no_word : (words : List (Bor (List ℕ))) → length words ≡ 0 → map (λ w. w.now) words ≡ []
no_word [] none = refl
no_word (w ∷ ws) none = absurd (omega (arith, none))
