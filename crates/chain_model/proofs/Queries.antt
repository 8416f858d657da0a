-- Each read, snapshot and tend, each start and stop keeps the invariant.
use Rattle.std.proofs.Common.{◌≡◌, ℕ, ◌≤◌, min, max, List, [], ◌∷◌, ◌++◌, length, take, Option}
use Rattle.std.proofs.Common.{Bool, true, false, ◌==◌, sym, refl, ◌∙◌, arith, length-take-le}
use Rattle.std.specs.List.{AllByRecursion}
use Rattle.std.proofs.lemmas.Bool.{cond_both, false≢true}
use Rattle.kv_types.specs.{Marked, Part}
use Rattle.configurations.specs.{is_tail, last_of}
use Rattle.chain_model.specs.declared.refusal.Refusal.{Refusal}
use Rattle.chain_model.specs.Requests.{Close, Closed, Open, Opened, Read, Response, Request, Submit}
use Rattle.kv_types.specs.Snapshots.{least, without}
use Rattle.chain_model.specs.Machine.{MachineState, refused, replied, started, stopped}
use Rattle.chain_model.specs.Rules.{ask, close_snapshot, number_read, open_snapshot, read, tend}
use Rattle.chain_model.specs.System.{SystemEvent}
use Rattle.kv_types.specs.ListsLemmas.{begins_trans, every_map, take_less}
use Rattle.chain_model.proofs.Configuration.{IsChain}
use Rattle.chain_model.proofs.Submitted.{AreAnswers, WasHandedIn}
use Rattle.chain_model.proofs.Invariant.{NodeOk, ReplyOk, Safe, shorter_committed}
use Rattle.chain_model.proofs.Cases.{close_cases, open_cases, read_cases}
use Rattle.chain_model.proofs.Sends.{AnswerOk, Lands, refused_ok, safe_last, silent_ok}
use Rattle.chain_model.proofs.Appends.{submit_ok, tail_sound}

-- the least is below each of them
pub least_below : (f m : ℕ) (ts : List ℕ) → f ≤ least m ts
    → (f ≤ m) × AllByRecursion (λ t. f ≤ t) ts
least_below f m [] le = (le, tt)
least_below f m (t ∷ ts) le = let rest = least_below f (min m t) ts le in
    (omega (arith, rest.0), (omega (arith, rest.0), rest.1))

-- the least is above each number that is below all of them
pub least_above : (f m : ℕ) (ts : List ℕ) → f ≤ m → AllByRecursion (λ t. f ≤ t) ts → f ≤ least m ts
least_above f m [] le each = le
least_above f m (t ∷ ts) le each = least_above f (min m t) ts (omega (arith, le, each.0)) each.1

-- a property of each element holds with one left out
every_without : (P : ℕ → Type 0) (s : ℕ) (ts : List ℕ) → AllByRecursion P ts
    → AllByRecursion P (without s ts)
every_without P s [] each = tt
every_without P s (t ∷ ts) each = cond_both (s == t) ts (t ∷ without s ts) (λ l. AllByRecursion P l)
    (λ is. each.1) (λ not. (each.0, every_without P s ts each.1))

-- `lists` are the lists of all nodes after the step.
module _ {A : Type 0} (cs : List (List ℕ)) (lawful : IsChain cs) (events : List (SystemEvent A))
    (h : List (Marked A)) (lists : ℕ → List (Marked A)) (x : ℕ) where
  -- every node of the last configuration has the batches of a readable number
  readable_last : (n : MachineState A) (s : ℕ) → NodeOk cs events h lists x n → s ≤ n.committed
      → (length (take s n.list) ≡ s) × Safe lists (last_of cs) (take s n.list)
  readable_last n s ok le = (
    length-take-le s n.list (omega (arith, le, ok.sound.committed_le)),
    safe_last cs lawful events h lists x n ok.sound (take s n.list)
        (λ y k. begins_trans (take_less s n.committed n.list le) (ok.sound.safe y k)),
  )

  -- a refusal changes nothing
  refuses : (n : MachineState A) (i : ℕ) → NodeOk cs events h lists x n → (why : Refusal)
      → AnswerOk cs events h lists x (refused n i why)
  refuses n i ok why = refused_ok cs lawful events h lists x n i ok why

  -- a read
  read_ok : (n : MachineState A) (i : ℕ) (at : Option ℕ) → NodeOk cs events h lists x n
      → AnswerOk cs events h lists x (read x n i at)
  read_ok n i at ok =
      read_cases (AnswerOk cs events h lists x) x n i at (refuses n i ok)
      (λ low le. record {
        node = ok;
        frames = tt;
        replies = (readable_last n (number_read n at) ok le, tt);
      })

  -- snapshots matter for the floor alone
  snapshots_ok : (n : MachineState A) (ss : List ℕ) (r : Response A) → NodeOk cs events h lists x n
      → AllByRecursion (λ s. n.floor ≤ s) ss → ReplyOk cs events lists r
      → AnswerOk cs events h lists x (replied (record n { snapshots = ss }) r)
  snapshots_ok n ss r ok above good = record {
    node = record {
      sound = ok.sound;
      pending = ok.pending;
      tail = ok.tail;
      snapshots = above;
      rising = ok.rising;
      resend = ok.resend;
    };
    frames = tt;
    replies = (good, tt);
  }

  -- a snapshot is opened
  open_ok : (n : MachineState A) (i : ℕ) (at : Option ℕ) → NodeOk cs events h lists x n
      → AnswerOk cs events h lists x (open_snapshot x n i at)
  open_ok n i at ok =
      let s = number_read n at in
      open_cases (AnswerOk cs events h lists x) x n i at (refuses n i ok)
      (λ low le. snapshots_ok n (s ∷ n.snapshots) (Opened i s) ok (low, ok.snapshots)
      (take s n.list, readable_last n s ok le))

  -- a snapshot is closed
  close_ok : (n : MachineState A) (i s : ℕ) → NodeOk cs events h lists x n
      → AnswerOk cs events h lists x (close_snapshot x n i s)
  close_ok n i s ok =
      close_cases (AnswerOk cs events h lists x) x n i s (refuses n i ok)
      (snapshots_ok n (without s n.snapshots) (Closed i s) ok
      (every_without (λ t. n.floor ≤ t) s n.snapshots ok.snapshots) tt)

  -- a tend raises the floor up to what is committed and open, and the kept number up to the floor
  pub tend_ok : (n : MachineState A) (rises : Bool) (gives_up : ℕ) → NodeOk cs events h lists x n
      → AnswerOk cs events h lists x (tend n rises gives_up)
  tend_ok n false gives_up ok = silent_ok cs lawful events h lists x n ok
  tend_ok n true gives_up ok =
      let low = least n.committed n.snapshots in
      let below : (low ≤ n.committed) × AllByRecursion (λ s. low ≤ s) n.snapshots =
      least_below low n.committed n.snapshots (omega arith) in
      let above : n.floor ≤ low = least_above n.floor n.committed n.snapshots ok.sound.floor_le
      ok.snapshots in
      silent_ok cs lawful events h lists x
      (record n {
        floor = max n.floor low;
        kept = max n.kept (min (max n.floor low) gives_up);
      }) (record {
        sound = record {
          in_range = ok.sound.in_range;
          knows = ok.sound.knows;
          behind = ok.sound.behind;
          safe = ok.sound.safe;
          known = ok.sound.known;
          kept_le = omega (arith, ok.sound.kept_le);
          floor_le = omega (arith, below.0, ok.sound.floor_le);
          committed_le = ok.sound.committed_le;
          handed = ok.sound.handed;
        };
        pending = ok.pending;
        tail = ok.tail;
        snapshots = every_map (λ s. low ≤ s) (λ s. max n.floor low ≤ s) n.snapshots
            (λ s le. omega (arith, above, le)) below.1;
        rising = ok.rising;
        resend = ok.resend;
      })

  -- a stop
  pub stopped_ok : (n : MachineState A) → NodeOk cs events h lists x n → NodeOk cs events h lists x
      (stopped n)
  stopped_ok n ok = record {
    sound = ok.sound;
    pending = ok.pending;
    tail = λ up t. absurd (false≢true up);
    snapshots = ok.snapshots;
    rising = ok.rising;
    resend = λ up t. absurd (false≢true up);
  }

  -- a start knows as committed what its disk shows to be
  pub started_ok : (n : MachineState A) → NodeOk cs events h lists x n → Lands cs events lists x n
      → NodeOk cs events h lists x (started x n)
  started_ok n ok here =
      let s = ok.sound in
      cond_both (is_tail n.ids x) (length n.list) n.floor
      (λ c. NodeOk cs events h lists x
      (record n {
        committed = c;
        successor_has = c;
        snapshots = [];
        pending = [];
        running = true;
      }))
      (λ is. record {
        sound = tail_sound cs lawful events h lists x n here is s;
        pending = tt;
        tail = λ up t. refl;
        snapshots = tt;
        rising = tt;
        resend = λ up t. omega arith;
      })
      (λ not. record {
        sound = record {
          in_range = s.in_range;
          knows = s.knows;
          behind = s.behind;
          safe = λ y k. begins_trans (take_less n.floor n.committed n.list s.floor_le) (s.safe y k);
          known = (
            s.known.0,
            (
              s.known.1.0,
              s.known.1.1,
              shorter_committed s.known.0
                  (take n.floor n.list) (take n.committed n.list)
                  (take_less n.floor n.committed n.list s.floor_le) s.known.1.2,
            ),
          );
          kept_le = s.kept_le;
          floor_le = omega arith;
          committed_le = omega (arith, s.floor_le, s.committed_le);
          handed = s.handed;
        };
        pending = tt;
        tail = λ up t. absurd (false≢true (sym not ∙ t));
        snapshots = tt;
        rising = tt;
        resend = λ up t. omega arith;
      })

  -- the premises of a request
  abbrev pub RequestOk : MachineState A → ℕ → Request A → Type 0
  RequestOk n i (Submit b) = WasHandedIn events i b × Part (n.list ++ b ∷ []) h
      × AreAnswers events n.list i b
  RequestOk n i _ = Unit {0}

  -- a request
  pub ask_ok : (n : MachineState A) (i : ℕ) (q : Request A) → NodeOk cs events h lists x n
      → Lands cs events lists x (ask x n i q).node → RequestOk n i q
      → AnswerOk cs events h lists x (ask x n i q)
  ask_ok n i (Submit b) ok here given =
      submit_ok cs lawful events h lists x n i b ok given.0 given.1 given.2 here
  ask_ok n i (Read at) ok here given = read_ok n i at ok
  ask_ok n i (Open at) ok here given = open_ok n i at ok
  ask_ok n i (Close s) ok here given = close_ok n i s ok
