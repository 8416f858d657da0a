-- What a flow has done so far: the frames that it delivered.
use Rattle.std.proofs.Common.{◌≡◌, ◌≤◌, ◌+◌, ◌-◌, ℕ, zero, suc, List, [], ◌∷◌, ◌++◌, length, map}
use Rattle.std.proofs.Common.{take, drop, refl, sym, ap, ap₂, subst, ◌∙◌, arith, append_assoc}
use Rattle.std.proofs.Common.{append-nil, length-append}
use Rattle.disk.specs.declared.disk.Disk.{Ghosts}
use Rattle.carriers.specs.declared.Carrier.{Ghosts as Carriers}
use Rattle.lab.specs.EventContent as lab
use Rattle.lab.specs.declared.Line.{Line}
use Rattle.lab.specs.declared.world.World.{World}
use Rattle.lab.specs.{Choice, frames_in_steps, frames_of_step}
use Rattle.scripts.specs.declared.setup.Setup.{Setup}
use Rattle.client.specs.ScriptRuns.{places_after, delivery, deliveries, HasRunTo, Stretch}
use Rattle.client.specs.ScriptRuns.{followed_by, no_stretch, one_step, most}

-- ---- places and frames add up

pub places_after-push : (s k : ℕ) →
    places_after s (suc k) ≡ places_after s k ++ suc (s + k) ∷ []
places_after-push s zero = ap (λ (n : ℕ). suc n ∷ []) (omega arith)
places_after-push s (suc k) =
    ap (λ (l : List ℕ). suc s ∷ l) (places_after-push (suc s) k
    ∙ ap (λ (n : ℕ). places_after (suc s) k ++ suc n ∷ []) (omega arith))

pub places_after-more : (s a b : ℕ) →
    places_after s (a + b) ≡ places_after s a ++ places_after (s + a) b
places_after-more s zero b =
    let start : s ≡ s + 0 = omega arith in
    let count : 0 + b ≡ b = omega arith in
    ap₂ (λ (t n : ℕ). places_after t n) start count
places_after-more s (suc a) b =
    let count : suc a + b ≡ suc (a + b) = omega arith in
    let start : suc s + a ≡ s + suc a = omega arith in
    ap (λ (n : ℕ). places_after s n) count
    ∙ ap (λ (l : List ℕ). suc s ∷ l) (places_after-more (suc s) a b
    ∙ ap (λ (n : ℕ). places_after (suc s) a ++ places_after n b) start)

pub frames_in_steps-more : (xs ys : List (List Line)) →
    frames_in_steps (xs ++ ys) ≡ frames_in_steps xs + frames_in_steps ys
frames_in_steps-more [] ys = omega arith
frames_in_steps-more (x ∷ xs) ys = omega (arith, frames_in_steps-more xs ys)

pub frames_in_steps-push : (xs : List (List Line)) (step : List Line) →
    frames_in_steps (xs ++ step ∷ []) ≡ frames_in_steps xs + frames_of_step step
frames_in_steps-push xs step = omega (arith, frames_in_steps-more xs (step ∷ []))

-- the places that a world's step adds
pub added : (before now : ℕ) (left old : List ℕ) (steps : List (List Line)) (lines : List Line) →
    before ≡ frames_in_steps steps → now ≡ frames_in_steps (steps ++ lines ∷ []) →
    left ≡ old ++ places_after before (now - before) →
    left ≡ old ++ places_after (frames_in_steps steps) (frames_of_step lines)
added before now left old steps lines was is e =
    let more : now - before ≡ frames_of_step lines =
    omega (arith, was, is, frames_in_steps-push steps lines) in
    e ∙ ap₂ (λ (s k : ℕ). old ++ places_after s k) was more

-- ---- a flow

-- the frames that are left, with those that were sent in these steps
abbrev pub all_left : List ℕ → List (List Line) → List (List Line) → List ℕ
all_left left steps own = left ++ places_after (frames_in_steps steps) (frames_in_steps own)

-- stretches of a run are followed_by as lists are
pub joined_assoc : (a b c : Stretch)
    → followed_by (followed_by a b) c ≡ followed_by a (followed_by b c)
joined_assoc a b c = rw (
  append_assoc a.events b.events c.events,
  append_assoc a.choices b.choices c.choices,
  append_assoc a.steps b.steps c.steps,
) refl

pub joined_nothing : (a : Stretch) → followed_by a no_stretch ≡ a
joined_nothing a = rw (append-nil a.events, append-nil a.choices, append-nil a.steps) refl

-- so many of them were delivered
pub record Flows {D C : Type 0} {g : Ghosts D} (h : Carriers C)
    (world : World D C g) (setup : Setup) (past : Stretch) (old left : List ℕ)
    (count : ℕ) : Type 0 where
  pub own : Stretch
  pub run : HasRunTo h world setup (followed_by past own)
  pub events : own.events ≡ map delivery (take count (all_left old past.steps own.steps))
  pub each : count ≡ length own.steps
  pub behind : left ≡ drop count (all_left old past.steps own.steps)
  pub within : count ≤ length (all_left old past.steps own.steps)
  pub few : count ≤ most

pub flows_none : {D C : Type 0} {g : Ghosts D} {h : Carriers C}
    (world : World D C g) (setup : Setup) (past : Stretch) (old : List ℕ) →
    HasRunTo h world setup past → Flows h world setup past old old 0
flows_none {h = h} world setup past old run = record {
  own = no_stretch;
  run = subst (λ (s : Stretch). HasRunTo h world setup s) (sym (joined_nothing past)) run;
  events = refl;
  each = refl;
  behind = sym (append-nil old);
  within = omega arith;
  few = omega arith;
}

-- one element more is taken of a list that may have grown
pub take_more : (xs ys rest : List ℕ) (k p : ℕ) → p ∷ rest ≡ drop k xs →
    take (suc k) (xs ++ ys) ≡ take k xs ++ p ∷ []
take_more [] ys rest zero p e = absurd (omega (arith, ap length e))
take_more [] ys rest (suc k) p e = absurd (omega (arith, ap length e))
take_more (x ∷ xs) ys rest zero p e = ap (λ (l : List ℕ). take 1 l) (sym e)
take_more (x ∷ xs) ys rest (suc k) p e =
    ap (λ (l : List ℕ). x ∷ l) (take_more xs ys rest k p e)

pub drop_more : (xs ys rest : List ℕ) (k p : ℕ) → p ∷ rest ≡ drop k xs →
    drop (suc k) (xs ++ ys) ≡ rest ++ ys
drop_more [] ys rest zero p e = absurd (omega (arith, ap length e))
drop_more [] ys rest (suc k) p e = absurd (omega (arith, ap length e))
drop_more (x ∷ xs) ys rest zero p e = ap (λ (l : List ℕ). drop 1 l ++ ys) (sym e)
drop_more (x ∷ xs) ys rest (suc k) p e = drop_more xs ys rest k p e

pub reaches : (xs ys rest : List ℕ) (k p : ℕ) → p ∷ rest ≡ drop k xs → suc k ≤ length (xs ++ ys)
reaches [] ys rest zero p e = absurd (omega (arith, ap length e))
reaches [] ys rest (suc k) p e = absurd (omega (arith, ap length e))
reaches (x ∷ xs) ys rest zero p e = omega arith
reaches (x ∷ xs) ys rest (suc k) p e = omega (arith, reaches xs ys rest k p e)

pub map-more : (xs : List ℕ) (p : ℕ) →
    map delivery (xs ++ p ∷ []) ≡ map delivery xs ++ delivery p ∷ []
map-more [] p = refl
map-more (x ∷ xs) p = ap (λ (l : List lab.EventContent). delivery x ∷ l) (map-more xs p)

-- one frame more
module _ (setup : Setup) (past : Stretch) (old : List ℕ) where
  -- all that is left grows by what is sent
  pub grown : (own : List (List Line)) (lines : List Line) →
      all_left old past.steps (own ++ lines ∷ []) ≡ all_left old past.steps own
      ++ places_after (frames_in_steps (past.steps ++ own)) (frames_of_step lines)
  grown own lines =
      ap (λ (k : ℕ). old ++ places_after (frames_in_steps past.steps) k)
      (frames_in_steps-push own lines)
      ∙ ap (λ (l : List ℕ). old ++ l)
      (places_after-more (frames_in_steps past.steps) (frames_in_steps own) (frames_of_step lines))
      ∙ ap (λ (s : ℕ). old ++ (places_after (frames_in_steps past.steps) (frames_in_steps own)
      ++ places_after s (frames_of_step lines))) (sym (frames_in_steps-more past.steps own))
      ∙ sym (append_assoc old (places_after (frames_in_steps past.steps) (frames_in_steps own))
      (places_after (frames_in_steps (past.steps ++ own)) (frames_of_step lines)))

  pub flows_on : {D C : Type 0} {g : Ghosts D} {h : Carriers C}
      (world after : World D C g) (left rest next : List ℕ) (count p : ℕ)
      (f : Flows h world setup past old left count) → left ≡ p ∷ rest → suc count ≤ most →
      (choice : Choice) (lines : List Line) →
      HasRunTo h after setup (followed_by (followed_by past f.own)
      (one_step (delivery p) choice lines)) →
      next ≡ rest ++ places_after (frames_in_steps (past.steps ++ f.own.steps))
      (frames_of_step lines) → Flows h after setup past old next (suc count)
  flows_on {h = h} world after left rest next count p f first few choice lines run is =
      let all = all_left old past.steps f.own.steps in
      let new = places_after (frames_in_steps (past.steps ++ f.own.steps)) (frames_of_step lines)
      in
      let front : p ∷ rest ≡ drop count all = sym first ∙ f.behind in
      let more = grown f.own.steps lines in
      let taken : take (suc count) (all_left old past.steps (f.own.steps ++ lines ∷ []))
      ≡ take count all ++ p ∷ [] =
      ap (λ (l : List ℕ). take (suc count) l) more ∙ take_more all new rest count p front in
      record {
        own = followed_by f.own (one_step (delivery p) choice lines);
        run = subst (λ (s : Stretch). HasRunTo h after setup s)
            (joined_assoc past f.own (one_step (delivery p) choice lines)) run;
        events = ap (λ (l : List lab.EventContent). l ++ delivery p ∷ []) f.events
            ∙ (sym (map-more (take count all) p) ∙ ap (λ (l : List ℕ). map delivery l) (sym taken));
        each = omega (arith, f.each, length-append f.own.steps (lines ∷ []));
        behind = is ∙ sym (drop_more all new rest count p front)
            ∙ ap (λ (l : List ℕ). drop (suc count) l) (sym more);
        within = subst (λ (l : List ℕ). suc count ≤ length l) (sym more)
            (reaches all new rest count p front);
        few = few;
      }

take_none : (n : ℕ) → ◌≡◌ {A = List ℕ} (take n []) []
take_none zero = refl
take_none (suc n) = refl

drop_none : (n : ℕ) → ◌≡◌ {A = List ℕ} (drop n []) []
drop_none zero = refl
drop_none (suc n) = refl

-- a list that is used up
pub used_up : (xs : List ℕ) (k m : ℕ) → [] ≡ drop k xs → k ≤ m →
    (take m xs ≡ take k xs) × (drop m xs ≡ [])
used_up [] k m e le = (take_none m ∙ sym (take_none k), drop_none m)
used_up (x ∷ xs) zero m e le = absurd (omega (arith, ap length e))
used_up (x ∷ xs) (suc k) zero e le = absurd (omega (arith, le))
used_up (x ∷ xs) (suc k) (suc m) e le =
    let u = used_up xs k m e (omega (arith, le)) in
    (ap (λ (l : List ℕ). x ∷ l) u.0, u.1)

length-map : (xs : List ℕ) → length (map delivery xs) ≡ length xs
length-map [] = refl
length-map (x ∷ xs) = ap suc (length-map xs)

length-take : (xs : List ℕ) (k : ℕ) → k ≤ length xs → length (take k xs) ≡ k
length-take [] zero le = refl
length-take [] (suc k) le = absurd (omega (arith, le))
length-take (x ∷ xs) zero le = refl
length-take (x ∷ xs) (suc k) le = ap suc (length-take xs k (omega (arith, le)))

-- what a flow promises
abbrev pub HasFlowed : {D C : Type 0} {g : Ghosts D} → Carriers C
    → World D C g → Setup → Stretch → List ℕ → List ℕ → ℕ → Type 0
HasFlowed h world setup past old left count =
    (own : Stretch) × HasRunTo h world setup (followed_by past own)
    × (own.events ≡ deliveries (all_left old past.steps own.steps))
    × (count ≡ length own.steps) × (count ≡ length own.events)
    × (left ≡ drop most (all_left old past.steps own.steps))

-- the frames that were delivered are as many as there were events
counted : (xs : List ℕ) (events : List lab.EventContent) (count : ℕ) →
    events ≡ map delivery (take count xs) → count ≤ length xs → count ≡ length events
counted xs events count is within = sym (length-take xs count within)
    ∙ (sym (length-map (take count xs)) ∙ ap length (sym is))

-- no frame is left
pub flowed_all : {D C : Type 0} {g : Ghosts D} {h : Carriers C}
    (world : World D C g) (setup : Setup) (past : Stretch) (old left : List ℕ)
    (count : ℕ) → Flows h world setup past old left count → left ≡ [] →
    HasFlowed h world setup past old left count
flowed_all world setup past old left count f empty =
    let all = all_left old past.steps f.own.steps in
    let u = used_up all count most (sym empty ∙ f.behind) f.few in (
      f.own,
      f.run,
      f.events ∙ ap (λ (l : List ℕ). map delivery l) (sym u.0),
      f.each,
      counted all f.own.events count f.events f.within,
      empty ∙ sym u.1,
    )

-- the bound is reached
pub flowed_most : {D C : Type 0} {g : Ghosts D} {h : Carriers C}
    (world : World D C g) (setup : Setup) (past : Stretch) (old left : List ℕ)
    (count : ℕ) → Flows h world setup past old left count → most ≤ count →
    HasFlowed h world setup past old left count
flowed_most world setup past old left count f reached =
    let same : count ≡ most = omega (arith, reached, f.few) in
    let all = all_left old past.steps f.own.steps in (
      f.own,
      f.run,
      f.events ∙ ap (λ (k : ℕ). map delivery (take k all)) same,
      f.each,
      counted all f.own.events count f.events f.within,
      f.behind ∙ ap (λ (k : ℕ). drop k all) same,
    )

-- a front that is none
pub emptied : (xs ys : List ℕ) → xs ≡ ys → ys ≡ drop 1 xs → ys ≡ []
emptied [] ys e f = sym e
emptied (x ∷ xs) ys e f = absurd (omega (arith, ap length e, ap length f))
