-- What stands where in a version after an edit.
use Rattle.std.proofs.Common.{◌≡◌, ◌≤◌, ℕ, List, [], ◌∷◌, ◌++◌, All, Bool, false, map, refl, ap}
use Rattle.std.proofs.lemmas.Bool.{le-ltb}
use Rattle.std.proofs.lemmas.List.Elements.{All-head, All-tail, All-weaker}
use Rattle.version_edits.specs.declared.line.LogLine.{LogLine}
use Rattle.version_edits.specs.declared.line.TableLine.{TableLine}
use Rattle.byte_fields.specs.declared.format.Format.{Format}
use Rattle.version_edits.specs.Edits.{change_text_in}
use Rattle.version_edits.specs.Versions.{AreFit, Change, IsFit, StoreVersion, after_all, changed}
use Rattle.version_edits.specs.Versions.{log_is_before, logs_left, placed, tables_left, with_log}

-- what comes before none stands last
pub placed_last : {A : Type 0} (before : A → A → Bool) (xs : List A) (x : A)
    → All (λ y. before x y ≡ false) xs → placed before xs x ≡ xs ++ x ∷ []
placed_last before [] x all = refl
placed_last {A} before (y ∷ ys) x all =
    let f : before x y ≡ false = All-head (λ y. before x y ≡ false) y ys all in
    rw f (ap (λ (l : List A). y ∷ l)
    (placed_last before ys x (All-tail (λ y. before x y ≡ false) y ys all)))

-- a log that begins behind all others stands last
pub log_behind : (logs : List LogLine) (line : LogLine)
    → All (λ (other : LogLine). other.first ≤ line.first) logs
    → with_log logs line ≡ logs ++ line ∷ []
log_behind logs line all =
    placed_last log_is_before logs line
    (All-weaker (λ (other : LogLine). other.first ≤ line.first)
    (λ other. log_is_before line other ≡ false)
    (λ other le. le-ltb line.first other.first le) logs all)

-- where nothing is given up, everything is left
pub all_logs_left : (logs : List LogLine) → logs_left [] logs ≡ logs
all_logs_left [] = refl
all_logs_left (line ∷ lines) = ap (λ (l : List LogLine). line ∷ l) (all_logs_left lines)

-- where no table is given up, all are left
pub all_tables_left : (tables : List TableLine) → tables_left [] tables ≡ tables
all_tables_left [] = refl
all_tables_left (line ∷ lines) = ap (λ (l : List TableLine). line ∷ l) (all_tables_left lines)

-- one edit more gives the version after it
pub after_push : (v : StoreVersion) (changes : List Change) (one : Change)
    → after_all v (changes ++ one ∷ []) ≡ changed (after_all v changes) one
after_push v [] one = refl
after_push v (first ∷ others) one = after_push (changed v first) others one

-- and it may be taken if the version before it may take it
pub fit_push : (v : StoreVersion) (changes : List Change) (one : Change) → AreFit v changes
    → IsFit (after_all v changes) one → AreFit v (changes ++ one ∷ [])
fit_push v [] one fit last = (last, tt)
fit_push v (first ∷ others) one fit last = (fit.0, fit_push (changed v first) others one fit.1 last)

-- their spellings are one more
pub map_push : (format : Format) (changes : List Change) (one : Change)
    → map (change_text_in format) (changes ++ one ∷ [])
    ≡ map (change_text_in format) changes ++ change_text_in format one ∷ []
map_push format [] one = refl
map_push format (first ∷ others) one =
    ap (λ (l : List (List ℕ)). change_text_in format first ∷ l) (map_push format others one)
