-- The names of events: which there are, and that none is that of another statement.
use Rattle.std.proofs.Common.{◌≡◌, ◌≤◌, ℕ, List, ◌∷◌, refl, ap, inl, inr, false, codes, lit≤, Bool}
use Rattle.std.proofs.Common.{true, Option, Some, None}
use Rattle.std.specs.Str.{bytes_eq}
use Rattle.kv_types.specs.{mark_of}
use Rattle.kv_types.specs.declared.mark.Mark.{Mark}
use Rattle.events.specs.declared.EventKind.{EventKind}
use Rattle.events.specs.declared.EventKind.TheVariants.{Submit, Get, Deliver, Tick}
use Rattle.events.specs.declared.EventKind.TheVariants.{Tend, Start, Stop}
use Rattle.events.specs.declared.EventKind.TheVariants.{Rows, Open, Close, Notice}
use Rattle.scripts.specs.Statements.{IsSpelled, submit_name, walk_name}
use Rattle.scripts.proofs.FirstBytes.{first_byte}
use Rattle.scripts.proofs.FirstWords.{first_word}

-- what begins the spelling of an event
abbrev pub name_of : EventKind → List ℕ
name_of (Submit node batch) = submit_name (mark_of batch)
name_of (Get node key at) = codes "get"
name_of (Rows node range at) = walk_name range.backward
name_of (Open node at) = codes "open"
name_of (Close node number) = codes "close"
name_of (Deliver place) = codes "deliver"
name_of (Notice node epoch) = codes "notice"
name_of (Tick node) = codes "tick"
name_of (Tend node) = codes "tend"
name_of (Start node) = codes "start"
name_of (Stop node junk) = codes "stop"

-- this holds of the name of each event
pub record HoldsOfNames (P : List ℕ → Type 0) : Type 0 where
  pub submit : P (codes "submit")
  pub once : P (codes "once")
  pub get : P (codes "get")
  pub rows : P (codes "rows")
  pub back : P (codes "back")
  pub opening : P (codes "open")
  pub closing : P (codes "close")
  pub deliver : P (codes "deliver")
  pub notice : P (codes "notice")
  pub tick : P (codes "tick")
  pub tend : P (codes "tend")
  pub start : P (codes "start")
  pub stop : P (codes "stop")

-- .. and so of that of a submit, whether its batch bears a mark or not
pub of_submit : (P : List ℕ → Type 0) → P (codes "submit") → P (codes "once")
    → (mark : Option Mark) → P (submit_name mark)
of_submit P submit once None = submit
of_submit P submit once (Some mark) = once

-- .. and of that of a walk in each direction
pub of_walk : (P : List ℕ → Type 0) → P (codes "rows") → P (codes "back") → (backward : Bool)
    → P (walk_name backward)
of_walk P rows back true = back
of_walk P rows back false = rows

pub of_name : (P : List ℕ → Type 0) → HoldsOfNames P → (what : EventKind) → P (name_of what)
of_name P all (Submit node batch) = of_submit P all.submit all.once (mark_of batch)
of_name P all (Get node key at) = all.get
of_name P all (Rows node range at) = of_walk P all.rows all.back range.backward
of_name P all (Open node at) = all.opening
of_name P all (Close node number) = all.closing
of_name P all (Deliver place) = all.deliver
of_name P all (Notice node epoch) = all.notice
of_name P all (Tick node) = all.tick
of_name P all (Tend node) = all.tend
of_name P all (Start node) = all.start
of_name P all (Stop node junk) = all.stop

pub named : (what : EventKind) (words : List (List ℕ)) → IsSpelled what words
    → first_word words ≡ name_of what
named (Submit node batch) words e = ap first_word e
named (Get node key None) words e = ap first_word e
named (Get node key (Some at)) words e = ap first_word e
named (Rows node range at) words e = ap first_word e
named (Open node at) words e = ap first_word e
named (Close node number) words e = ap first_word e
named (Deliver place) words e = ap first_word e
named (Notice node epoch) words e = ap first_word e
named (Tick node) words e = ap first_word e
named (Tend node) words e = ap first_word e
named (Start node) words e = ap first_word e
named (Stop node junk) words (inl p) = ap first_word p.1
named (Stop node junk) words (inr p) = ap first_word p.2

-- ---- what no event is named

-- no event's name is that of a line that sets up, or of one that shows
pub no_config : (what : EventKind) → bytes_eq (name_of what) (codes "config") ≡ false
no_config = of_name (λ name. bytes_eq name (codes "config") ≡ false) (record {
  submit = refl;
  once = refl;
  get = refl;
  rows = refl;
  back = refl;
  opening = refl;
  closing = refl;
  deliver = refl;
  notice = refl;
  tick = refl;
  tend = refl;
  start = refl;
  stop = refl;
})

pub no_limit : (what : EventKind) → bytes_eq (name_of what) (codes "limit") ≡ false
no_limit = of_name (λ name. bytes_eq name (codes "limit") ≡ false) (record {
  submit = refl;
  once = refl;
  get = refl;
  rows = refl;
  back = refl;
  opening = refl;
  closing = refl;
  deliver = refl;
  notice = refl;
  tick = refl;
  tend = refl;
  start = refl;
  stop = refl;
})

pub never_shows : (what : EventKind) → bytes_eq (name_of what) (codes "show") ≡ false
never_shows = of_name (λ name. bytes_eq name (codes "show") ≡ false) (record {
  submit = refl;
  once = refl;
  get = refl;
  rows = refl;
  back = refl;
  opening = refl;
  closing = refl;
  deliver = refl;
  notice = refl;
  tick = refl;
  tend = refl;
  start = refl;
  stop = refl;
})

-- each begins with a letter
pub lettered : (what : EventKind) (args : List (List ℕ)) → 97 ≤ first_byte (name_of what ∷ args)
lettered what args = of_name (λ name. 97 ≤ first_byte (name ∷ args)) (record {
  submit = lit≤ tt;
  once = lit≤ tt;
  get = lit≤ tt;
  rows = lit≤ tt;
  back = lit≤ tt;
  opening = lit≤ tt;
  closing = lit≤ tt;
  deliver = lit≤ tt;
  notice = lit≤ tt;
  tick = lit≤ tt;
  tend = lit≤ tt;
  start = lit≤ tt;
  stop = lit≤ tt;
}) what
