-- What a settle has done so far: the tends of its node.
use Rattle.std.proofs.Common.{◌≡◌, ◌≤◌, ◌<◌, ◌-◌, ℕ, zero, suc, List, [], ◌∷◌, ◌++◌, length}
use Rattle.std.proofs.Common.{refl, sym, ap, subst, ◌∙◌, arith, append-nil, length-append, Some}
use Rattle.std.proofs.Common.{All, true, false, replicate}
use Rattle.std.specs.Prelude.{slice_get}
use Rattle.std.specs.Option.{option_map_or}
use Rattle.std.proofs.lemmas.Bool.{false≢true}
use Rattle.std.proofs.lemmas.List.Elements.{All-cons, All-head, All-nil, All-push, All-tail}
use Rattle.disk.specs.declared.disk.Disk.{Ghosts}
use Rattle.carriers.specs.declared.Carrier.{Ghosts as Carriers}
use Rattle.lab.specs.EventContent as lab
use Rattle.lab.specs.declared.Line.{Line}
use Rattle.lab.specs.declared.world.World.{World}
use Rattle.lab.specs.{Choice, frames_in_steps, frames_of_step}
use Rattle.scripts.specs.declared.setup.Setup.{Setup}
use Rattle.client.specs.ScriptRuns.{places_after, HasRunTo, HasSettled, Stretch, has_worked}
use Rattle.client.specs.ScriptRuns.{followed_by, no_stretch, one_step, most, tending}
use Rattle.client.proofs.Flowing.{all_left, joined_assoc, joined_nothing, grown}

-- a node tended so often, and each tend worked
pub record Settles {D C : Type 0} {g : Ghosts D} (h : Carriers C)
    (world : World D C g) (setup : Setup) (past : Stretch) (node : ℕ)
    (old left : List ℕ) (count : ℕ) : Type 0 where
  pub own : Stretch
  pub run : HasRunTo h world setup (followed_by past own)
  pub events : own.events ≡ replicate count (tending node)
  pub each : count ≡ length own.steps
  pub worked : All (λ step. has_worked step ≡ true) own.steps
  pub behind : left ≡ all_left old past.steps own.steps
  pub few : count ≤ most

pub settles_none : {D C : Type 0} {g : Ghosts D} {h : Carriers C}
    (world : World D C g) (setup : Setup) (past : Stretch) (node : ℕ)
    (old : List ℕ) → HasRunTo h world setup past → Settles h world setup past node old old 0
settles_none {h = h} world setup past node old run = record {
  own = no_stretch;
  run = subst (λ (s : Stretch). HasRunTo h world setup s) (sym (joined_nothing past)) run;
  events = refl;
  each = refl;
  worked = All-nil (λ step. has_worked step ≡ true);
  behind = sym (append-nil old);
  few = omega arith;
}

replicate-more : {A : Type 0} (k : ℕ) (x : A) → replicate k x ++ x ∷ [] ≡ replicate (suc k) x
replicate-more zero x = refl
replicate-more {A = A} (suc k) x = ap (λ (l : List A). x ∷ l) (replicate-more k x)

-- the last step
got_behind : (before : List (List Line)) (last : List Line) →
    slice_get (before ++ last ∷ []) (length before) ≡ Some last
got_behind [] last = refl
got_behind (step ∷ before) last = got_behind before last

pub last_got : (steps reported before : List (List Line)) (last : List Line) (n : ℕ) →
    reported ≡ steps → steps ≡ before ++ last ∷ [] → n ≡ length reported - 1 →
    slice_get reported n ≡ Some last
last_got steps reported before last n same is at =
    let whole : reported ≡ before ++ last ∷ [] = same ∙ is in
    let place : n ≡ length before =
    omega (arith, at, ap length whole, length-append before (last ∷ [])) in
    rw (whole, place) (got_behind before last)

pub same_step : (one other : List Line) → Some one ≡ Some other → one ≡ other
same_step one other e = ap (λ o. option_map_or (λ l. l) o []) e

-- what a settle promises
abbrev pub HasSettledSo : {D C : Type 0} {g : Ghosts D} → Carriers C
    → World D C g → Setup → Stretch → ℕ → List ℕ → List ℕ → ℕ → Type 0
HasSettledSo h world setup past node old left count = (own : Stretch)
    × HasRunTo h world setup (followed_by past own)
    × (own.events ≡ replicate count (tending node)) × (count ≡ length own.steps)
    × HasSettled own.steps × (left ≡ all_left old past.steps own.steps)

module _ {D C : Type 0} {g : Ghosts D} {h : Carriers C}
    (setup : Setup) (past : Stretch) (node : ℕ) (old : List ℕ) (world after : World D C g)
    (left next : List ℕ) (count : ℕ) (s : Settles h world setup past node old left count)
    (few : suc count ≤ most) (choice : Choice) (lines : List Line)
    (run : HasRunTo h after setup (followed_by (followed_by past s.own)
    (one_step (tending node) choice lines)))
    (is : next ≡ left ++ places_after (frames_in_steps (past.steps ++ s.own.steps))
    (frames_of_step lines)) where
  abbrev more : Stretch
  more = followed_by s.own (one_step (tending node) choice lines)

  happened : HasRunTo h after setup (followed_by past more)
  happened = subst (λ (it : Stretch). HasRunTo h after setup it)
      (joined_assoc past s.own (one_step (tending node) choice lines)) run

  tended : more.events ≡ replicate (suc count) (tending node)
  tended = ap (λ (l : List lab.EventContent). l ++ tending node ∷ []) s.events
      ∙ replicate-more count (tending node)

  behind : next ≡ all_left old past.steps more.steps
  behind = is ∙ (ap (λ (l : List ℕ). l ++ places_after
      (frames_in_steps (past.steps ++ s.own.steps)) (frames_of_step lines)) s.behind
      ∙ sym (grown setup past old s.own.steps lines))

  -- a tend worked
  pub settles_on : has_worked lines ≡ true → Settles h after setup past node old next (suc count)
  settles_on worked = record {
    own = more;
    run = happened;
    events = tended;
    each = omega (arith, s.each, length-append s.own.steps (lines ∷ []));
    worked = All-push (λ step. has_worked step ≡ true) s.own.steps lines s.worked worked;
    behind = behind;
    few = few;
  }

  -- a tend did not work
  pub settled : has_worked lines ≡ false → HasSettledSo h after setup past node old next (suc count)
  settled idle = (
    more,
    happened,
    tended,
    omega (arith, s.each, length-append s.own.steps (lines ∷ [])),
    record {
      before = s.own.steps;
      last = lines;
      all = refl;
      each = s.worked;
      few = omega (arith, few, s.each, length-append s.own.steps (lines ∷ []));
      bound = λ worked. absurd (false≢true (sym idle ∙ worked));
    },
    behind,
  )

-- all but the last of some steps, and the last
front_of : (steps : List (List Line)) → 0 < length steps →
    (before : List (List Line)) × (last : List Line) × (steps ≡ before ++ last ∷ [])
front_of [] some = absurd (omega (arith, some))
front_of (step ∷ []) some = ([], step, refl)
front_of (step ∷ next ∷ steps) some =
    let rest = front_of (next ∷ steps) (omega arith) in
    (step ∷ rest.0, rest.1, ap (λ (l : List (List Line)). step ∷ l) rest.2)

front_all : (P : List Line → Type 0) (before : List (List Line)) (last : List Line) →
    All P (before ++ last ∷ []) → All P before
front_all P [] last all = All-nil P
front_all P (step ∷ before) last all =
    All-cons P step before (All-head P step (before ++ last ∷ []) all)
    (front_all P before last (All-tail P step (before ++ last ∷ []) all))

All-before : (P : List Line → Type 0) (steps before : List (List Line)) (last : List Line) →
    steps ≡ before ++ last ∷ [] → All P steps → All P before
All-before P steps before last is all =
    front_all P before last (subst (λ (l : List (List Line)). All P l) is all)

-- the steps of a settle that reached its bound
pub all_worked : (steps : List (List Line)) → length steps ≡ most →
    All (λ step. has_worked step ≡ true) steps → HasSettled steps
all_worked steps many worked = record {
  before = (front_of steps (omega (arith, many))).0;
  last = (front_of steps (omega (arith, many))).1;
  all = (front_of steps (omega (arith, many))).2;
  each = All-before (λ step. has_worked step ≡ true) steps
      (front_of steps (omega (arith, many))).0 (front_of steps (omega (arith, many))).1
      (front_of steps (omega (arith, many))).2 worked;
  few = omega (arith, many);
  bound = λ _. many;
}

pub settled_most : {D C : Type 0} {g : Ghosts D} {h : Carriers C}
    (world : World D C g) (setup : Setup) (past : Stretch) (node : ℕ)
    (old left : List ℕ) (count : ℕ) → Settles h world setup past node old left count →
    most ≤ count →
    HasSettledSo h world setup past node old left count
settled_most world setup past node old left count s reached = (
  s.own,
  s.run,
  s.events,
  s.each,
  all_worked s.own.steps (omega (arith, reached, s.few, s.each)) s.worked,
  s.behind,
)
