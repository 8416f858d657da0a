-- A place is left out of those that are left, which rise.
use Rattle.std.proofs.Common.{◌≡◌, ◌<◌, ◌≤◌, ◌+◌, ◌++◌, ℕ, zero, suc, List, [], ◌∷◌, length, get_or}
use Rattle.std.proofs.Common.{drop, nat_lt, true, false, refl, ap, arith, inl, inr, subst}
use Rattle.std.specs.Prelude.{◌==◌}
use Rattle.std.specs.List.{remove}
use Rattle.std.proofs.lemmas.Bool.{cases_Bool}
use Rattle.std.proofs.lemmas.Bool.Decides.{nat_tests}
use Rattle.kv_types.specs.Snapshots.{without}
use Rattle.lab.specs.EventKind.{EventKind}
use Rattle.lab.specs.EventKind.TheVariants.{Submit, Get, Deliver, Tick, Tend, Start, Stop}
use Rattle.lab.specs.EventKind.TheVariants.{Rows, Open, Close, Notice}
use Rattle.scripts.specs.declared.statement.Action.{Action}
use Rattle.scripts.specs.declared.statement.Action.TheVariants.{Event, Invalid, Flow}
use Rattle.scripts.specs.declared.statement.Action.TheVariants.{Settle, Show}
use Rattle.client.specs.ScriptRuns.{IsRising, places_after, left_after, left_after_event, most}

apart : (x place : ℕ) → (x ≡ place → ⊥) → (place == x) ≡ false
apart x place differ = grind (arith, nat_tests)

same : (x place : ℕ) → x ≡ place → (place == x) ≡ true
same x place e = grind (arith, nat_tests)

above : (xs : List ℕ) (low high i : ℕ) → IsRising low high xs → i < length xs →
    low < get_or xs i 0
above [] low high i up within = absurd (omega (arith, within))
above (x ∷ xs) low high zero up within = up.0
above (x ∷ xs) low high (suc i) up within =
    omega (arith, up.0, above xs x high i up.1 (omega (arith, within)))

-- no element comes before a smaller one
pub rises : (xs : List ℕ) (low high i j : ℕ) → IsRising low high xs → i ≤ j → j < length xs →
    get_or xs i 0 ≤ get_or xs j 0
rises [] low high i j up order within = absurd (omega (arith, within))
rises (x ∷ xs) low high zero zero up order within = omega arith
rises (x ∷ xs) low high zero (suc j) up order within =
    omega (arith, above xs x high j up.1 (omega (arith, within)))
rises (x ∷ xs) low high (suc i) zero up order within = absurd (omega (arith, order))
rises (x ∷ xs) low high (suc i) (suc j) up order within =
    rises xs x high i j up.1 (omega (arith, order)) (omega (arith, within))

-- it stands here
pub left_out : (xs : List ℕ) (low high i place : ℕ) → IsRising low high xs → i < length xs →
    get_or xs i 0 ≡ place → remove xs i ≡ without place xs
left_out [] low high i place up within at = absurd (omega (arith, within))
left_out (x ∷ xs) low high zero place up within at = rw (same x place at) refl
left_out (x ∷ xs) low high (suc i) place up within at =
    let inside : i < length xs = omega (arith, within) in
    let next = above xs x high i up.1 inside in
    rw (apart x place (λ e. absurd (omega (arith, e, at, next))))
    (ap (λ (l : List ℕ). x ∷ l) (left_out xs x high i place up.1 inside at))

-- it is none of them
pub not_there : (xs : List ℕ) (place : ℕ) →
    ((k : ℕ) → k < length xs → get_or xs k 0 ≡ place → ⊥) → xs ≡ without place xs
not_there [] place other = refl
not_there (x ∷ xs) place other = rw (apart x place (other 0 (omega arith)))
    (ap (λ (l : List ℕ). x ∷ l)
    (not_there xs place (λ k within. other (suc k) (omega (arith, within)))))

-- all before an index are below it, and all others above it
pub beyond : (xs : List ℕ) (place i : ℕ) → ((k : ℕ) → k < i → get_or xs k 0 < place) →
    ((k : ℕ) → i ≤ k → k < length xs → place < get_or xs k 0) →
    (k : ℕ) → k < length xs → get_or xs k 0 ≡ place → ⊥
beyond xs place i below over k within at = elim (cases_Bool (nat_lt k i)) [
  | inl t ↦ absurd (omega (arith, at, below k (grind (arith, nat_tests))))
  | inr f ↦ absurd (omega (arith, at, over k (grind (arith, nat_tests)) within))
]

-- ---- what is left still rises

lower : (xs : List ℕ) (low mid high : ℕ) → low ≤ mid → IsRising mid high xs → IsRising low high xs
lower [] low mid high order up = omega (arith, order, up)
lower (x ∷ xs) low mid high order up = (omega (arith, order, up.0), up.1)

tail : (xs : List ℕ) (x low high : ℕ) → IsRising low high (x ∷ xs) → IsRising low high xs
tail xs x low high up = lower xs low x high (omega (arith, up.0)) up.1

new_rise : (sent count low : ℕ) → low ≤ sent → IsRising low (sent + count) (places_after sent count)
new_rise sent zero low order = omega (arith, order)
new_rise sent (suc count) low order =
    let all : suc sent + count ≡ sent + suc count = omega arith in (
      omega (arith, order),
      subst (λ (high : ℕ). IsRising (suc sent) high (places_after (suc sent) count)) all
          (new_rise (suc sent) count (suc sent) (omega arith)),
    )

-- those that are sent meanwhile rise behind all others
pub all_rise : (xs : List ℕ) (low sent count : ℕ) → IsRising low sent xs →
    IsRising low (sent + count) (xs ++ places_after sent count)
all_rise [] low sent count up = new_rise sent count low up
all_rise (x ∷ xs) low sent count up = (up.0, all_rise xs x sent count up.1)

without_rises : (xs : List ℕ) (low high place : ℕ) → IsRising low high xs →
    IsRising low high (without place xs)
without_rises [] low high place up = up
without_rises (x ∷ xs) low high place up = elim (cases_Bool (place == x)) [
  | inl t ↦ rw t (tail xs x low high up)
  | inr f ↦ rw f (up.0, without_rises xs x high place up.1)
]

drop_rises : (k : ℕ) (xs : List ℕ) (low high : ℕ) → IsRising low high xs →
    IsRising low high (drop k xs)
drop_rises zero xs low high up = up
drop_rises (suc k) [] low high up = up
drop_rises (suc k) (x ∷ xs) low high up = drop_rises k xs low high (tail xs x low high up)

event_rises : (what : EventKind) (xs : List ℕ) (low high : ℕ) → IsRising low high xs →
    IsRising low high (left_after_event what xs)
event_rises (Submit node batch) xs low high up = up
event_rises (Get node key at) xs low high up = up
event_rises (Rows node range at) xs low high up = up
event_rises (Open node at) xs low high up = up
event_rises (Close node number) xs low high up = up
event_rises (Deliver place) xs low high up = without_rises xs low high place up
event_rises (Notice node epoch) xs low high up = up
event_rises (Tick node) xs low high up = up
event_rises (Tend node) xs low high up = up
event_rises (Start node) xs low high up = up
event_rises (Stop node junk) xs low high up = up

rest_rises : (action : Action) (xs : List ℕ) (low high : ℕ) → IsRising low high xs →
    IsRising low high (left_after action xs)
rest_rises (Event event) xs low high up = event_rises event.kind xs low high up
rest_rises (Invalid e) xs low high up = up
rest_rises Flow xs low high up = drop_rises most xs low high up
rest_rises (Settle node) xs low high up = up
rest_rises (Show node) xs low high up = up

-- what a statement leaves
pub left_rises : (action : Action) (left : List ℕ) (sent count : ℕ) → IsRising 0 sent left →
    IsRising 0 (sent + count) (left_after action (left ++ places_after sent count))
left_rises action left sent count up =
    rest_rises action (left ++ places_after sent count) 0 (sent + count)
    (all_rise left 0 sent count up)
