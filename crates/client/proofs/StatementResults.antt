-- The result of a statement, by what it did.
use Rattle.std.proofs.Common.{◌≡◌, ◌+◌, ◌-◌, ℕ, List, [], ◌∷◌, ◌++◌, length, refl, sym, ap, ap₂}
use Rattle.std.proofs.Common.{subst, ◌∙◌, arith, append-nil, Option, Some, None, Bool, true, false}
use Rattle.std.proofs.Common.{if◌then◌else◌, replicate}
use Rattle.std.specs.Prelude.{IfSome}
use Rattle.kv_types.specs.Snapshots.{without}
use Rattle.disk.specs.declared.disk.Disk.{Ghosts}
use Rattle.carriers.specs.declared.Carrier.{Ghosts as Carriers}
use Rattle.lab.specs.EventContent as lab
use Rattle.lab.specs.EventKind.{EventKind}
use Rattle.lab.specs.EventKind.TheVariants.{Submit, Get, Deliver, Tick, Tend, Start, Stop}
use Rattle.lab.specs.EventKind.TheVariants.{Rows, Open, Close, Notice}
use Rattle.lab.specs.declared.Line.{Line}
use Rattle.lab.specs.declared.world.World.{World}
use Rattle.lab.specs.Numbers.{Numbers}
use Rattle.lab.specs.{AreNumbersOf, Choice, ShowsNumbers, frames_in_steps, frames_of_step}
use Rattle.lab.specs.{delivered_place}
use Rattle.scripts.specs.declared.setup.Setup.{Setup}
use Rattle.scripts.specs.declared.statement.Statement.{Statement}
use Rattle.scripts.specs.declared.statement.Action.TheVariants.{Event, Flow, Settle, Show}
use Rattle.client.specs.declared.statement_result.StatementResult.{StatementResult}
use Rattle.client.specs.declared.statement_result.Note.{Note}
use Rattle.client.specs.declared.statement_result.Note.TheVariants as note
use Rattle.client.specs.ScriptRuns.{places_after, left_after, left_after_event, HasRunTo}
use Rattle.client.specs.ScriptRuns.{HasTurned, HasShownNumbers, IsResultOfAction, Stretch}
use Rattle.client.specs.ScriptRuns.{has_worked, followed_by, no_stretch, one_step, busy, shown}
use Rattle.client.specs.ScriptRuns.{tending}
use Rattle.client.proofs.Flowing.{HasFlowed, joined_nothing}
use Rattle.client.proofs.Printed.{replicate-length}
use Rattle.client.proofs.Settling.{HasSettledSo}

-- an event that delivers no frame leaves all
leaves_all : (what : EventKind) (left : List ℕ) → ((place : ℕ) → what ≡ Deliver place → ⊥) →
    left_after_event what left ≡ left
leaves_all (Submit node batch) left other = refl
leaves_all (Get node key at) left other = refl
leaves_all (Rows node range at) left other = refl
leaves_all (Open node at) left other = refl
leaves_all (Close node number) left other = refl
leaves_all (Deliver place) left other = absurd (other place refl)
leaves_all (Notice node epoch) left other = refl
leaves_all (Tick node) left other = refl
leaves_all (Tend node) left other = refl
leaves_all (Start node) left other = refl
leaves_all (Stop node junk) left other = refl

pub left_as : (what : EventKind) (left new : List ℕ) → ((place : ℕ) → what ≡ Deliver place → ⊥) →
    new ≡ left → new ≡ left_after_event what left
left_as what left new other e = e ∙ sym (leaves_all what left other)

-- an event that delivers a place is a delivery
pub delivered_kind : (what : EventKind) (place : ℕ) → delivered_place what ≡ Some place →
    what ≡ Deliver place
delivered_kind (Deliver place) other is = ap Deliver (cc)
delivered_kind (Submit node batch) other is = cc
delivered_kind (Get node key at) other is = cc
delivered_kind (Rows node range at) other is = cc
delivered_kind (Open node at) other is = cc
delivered_kind (Close node number) other is = cc
delivered_kind (Notice node epoch) other is = cc
delivered_kind (Tick node) other is = cc
delivered_kind (Tend node) other is = cc
delivered_kind (Start node) other is = cc
delivered_kind (Stop node junk) other is = cc

-- an event that delivers no place leaves all frames
pub undelivered_kind : (what : EventKind) (left : List ℕ) → delivered_place what ≡ None →
    left ≡ left_after_event what left
undelivered_kind (Deliver place) left is = cc
undelivered_kind (Submit node batch) left is = refl
undelivered_kind (Get node key at) left is = refl
undelivered_kind (Rows node range at) left is = refl
undelivered_kind (Open node at) left is = refl
undelivered_kind (Close node number) left is = refl
undelivered_kind (Notice node epoch) left is = refl
undelivered_kind (Tick node) left is = refl
undelivered_kind (Tend node) left is = refl
undelivered_kind (Start node) left is = refl
undelivered_kind (Stop node junk) left is = refl

-- an event that delivers a frame leaves the others
pub left_delivered : (what : EventKind) (place : ℕ) (left mid new : List ℕ) → what ≡ Deliver place →
    mid ≡ left → new ≡ without place mid → new ≡ left_after_event what left
left_delivered what place left mid new is same cut = cut
    ∙ (ap (λ (l : List ℕ). without place l) same
    ∙ ap (λ (w : EventKind). left_after_event w left) (sym is))

-- a look tells the numbers
is_shown : {D C : Type 0} {g : Ghosts D}
    (world : World D C g) (setup : Setup) (past : Stretch) (node : ℕ)
    (numbers : Option Numbers) → AreNumbersOf setup.configs past.events past.choices node numbers →
    IfSome numbers (ShowsNumbers world.nodes.items node) →
    HasShownNumbers world setup.configs past (shown node numbers)
is_shown world setup past node None told tables = told
is_shown world setup past node (Some numbers) told tables = (told, tables)

-- a flow shows no node
never_shown : {D C : Type 0} {g : Ghosts D}
    (world : World D C g) (setup : Setup) (past : Stretch) (left : List ℕ) →
    HasShownNumbers world setup.configs past (busy left)
never_shown world setup past [] = tt
never_shown world setup past (place ∷ places) = tt

-- what statements have done, by their events
module _ {D C : Type 0} {g : Ghosts D} {h : Carriers C} (setup : Setup) (past : Stretch)
    (it : Statement)
    (old new : World D C g) (left behind : List ℕ) where
  pub turned_by_event : (event : lab.EventContent) (choice : Choice) (lines : List Line) →
      it.action ≡ Event event → HasRunTo h new setup
      (followed_by past (one_step event choice lines)) →
      behind ≡ left_after_event event.kind (left
      ++ places_after (frames_in_steps past.steps) (frames_of_step lines)) →
      HasTurned h setup past it
      (record { line = it.line; events = 1; silent = 0; note = note.Nothing }) old new left behind
  turned_by_event event choice lines is run leaves = record {
    own = one_step event choice lines;
    did = record { line = refl; count = refl; each = refl; did = rw is (refl, refl, refl) };
    shown = tt;
    run = run;
    left =
        let same : frames_of_step lines ≡ frames_of_step lines + 0 = omega arith in
        rw is (subst (λ (k : ℕ). behind ≡ left_after_event event.kind
        (left ++ places_after (frames_in_steps past.steps) k)) same leaves);
  }

  pub turned_by_flow : (count : ℕ) → it.action ≡ Flow →
      (flowed : HasFlowed h new setup past left behind count) →
      HasTurned h setup past it (record {
        line = it.line;
        events = count;
        silent = 0;
        note = busy behind;
      }) old new left behind
  turned_by_flow count is flowed = record {
    own = flowed.0;
    did = record {
      line = refl;
      count = flowed.4;
      each = sym flowed.3 ∙ flowed.4;
      did = rw is (flowed.2, refl, ap busy flowed.5);
    };
    shown = never_shown old setup past behind;
    run = flowed.1;
    left = rw is flowed.5;
  }

  pub turned_by_settle : (node count : ℕ) (turn : StatementResult) (goes_on : Bool) →
      it.action ≡ Settle node →
      (settles : HasSettledSo h new setup past node left behind count) →
      goes_on ≡ has_worked settles.4.last → turn ≡ (record {
        line = it.line;
        events = count;
        silent = (if goes_on then count else count - 1);
        note = (if goes_on then note.Busy else note.Nothing);
      }) → HasTurned h setup past it turn old new left behind
  turned_by_settle node count turn goes_on is settles same told =
      let tends : length settles.0.events ≡ count =
      ap (λ (l : List lab.EventContent). length l) settles.2
      ∙ replicate-length count (tending node) in
      record {
        own = settles.0;
        did = record {
          line = ap (λ (t : StatementResult). t.line) told;
          count = ap (λ (t : StatementResult). t.events) told ∙ sym tends;
          each = sym settles.3 ∙ sym tends;
          did = rw is (
            settles.2 ∙ ap (λ (k : ℕ). replicate k (tending node)) settles.3,
            (
              settles.4,
              record {
                first = ap (λ (t : StatementResult). t.silent) told
                    ∙ ap₂ (λ (b : Bool) (k : ℕ). if b then k else k - 1) same settles.3;
                besides = ap (λ (t : StatementResult). t.note) told
                    ∙ ap (λ (b : Bool). if b then note.Busy else note.Nothing) same;
              },
            ),
          );
        };
        shown = rw told (quiet goes_on);
        run = settles.1;
        left = rw is settles.5;
      }
    where
      quiet : (b : Bool) → HasShownNumbers old setup.configs past
          (if b then note.Busy else note.Nothing)
      quiet true = tt
      quiet false = tt

-- statements without an event
module _ {D C : Type 0} {g : Ghosts D} {h : Carriers C} (setup : Setup) (past : Stretch)
    (it : Statement)
    (world : World D C g) (left : List ℕ) where
  -- nothing happened
  pub turned_without : (said : Note) → HasRunTo h world setup past →
      IsResultOfAction it.action (left ++ []) [] [] 0 said →
      HasShownNumbers world setup.configs past said → left_after it.action left ≡ left →
      HasTurned h setup past it
      (record { line = it.line; events = 0; silent = 0; note = said }) world world left left
  turned_without said run did shows leaves = record {
    own = no_stretch;
    did = record { line = refl; count = refl; each = refl; did = did };
    shown = shows;
    run = subst (λ (s : Stretch). HasRunTo h world setup s) (sym (joined_nothing past)) run;
    left = rw (append-nil left) (sym leaves);
  }

  pub turned_by_show : (node : ℕ) (numbers : Option Numbers) (said : Note) →
      it.action ≡ Show node → said ≡ shown node numbers → HasRunTo h world setup past →
      AreNumbersOf setup.configs past.events past.choices node numbers →
      IfSome numbers (ShowsNumbers world.nodes.items node) → HasTurned h setup past it
      (record { line = it.line; events = 0; silent = 0; note = said }) world world left left
  turned_by_show node numbers said is same run shows tables =
      turned_without said run (rw is (refl, refl, (numbers, same)))
      (subst (λ (n : Note). HasShownNumbers world setup.configs past n) (sym same)
      (is_shown world setup past node numbers shows tables)) (rw is refl)
