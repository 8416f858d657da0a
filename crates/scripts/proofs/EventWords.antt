-- The words of an event: where those of its kind end, and what they and those of its fault say.
use Rattle.std.proofs.Common.{◌≡◌, ◌/◌, ◌<◌, ℕ, List, [], ◌∷◌, ◌++◌, Some, None, refl, sym, ap}
use Rattle.std.proofs.Common.{ap₂, subst, ◌∙◌, inl, inr, arith, true, false, map, drop, length}
use Rattle.std.proofs.Common.{append-nil, Option}
use Rattle.std.specs.Prelude.{All, IfSome, Bool, codes, if◌then◌else◌, not, ◌&&◌, ◌==◌}
use Rattle.std.specs.Fmt.{decimal}
use Rattle.std.proofs.lemmas.Bool.{cases_Bool, and_parts}
use Rattle.std.proofs.lemmas.Bool.Decides.{nat_tests}
use Rattle.std.proofs.lemmas.List.Elements.{All-head, All-tail}
use Rattle.disk.specs.declared.Fault.{Fault}
use Rattle.disk.specs.declared.Junk.{Junk}
use Rattle.disk.specs.declared.Junk.TheVariants.{Old, New, Bytes}
use Rattle.kv_types.specs.{edits_of, mark_of}
use Rattle.kv_types.specs.declared.mark.Mark.{Mark}
use Rattle.kv_types.specs.declared.Edit.{Edit}
use Rattle.kv_types.specs.declared.Edit.TheVariants.{Put, Delete}
use Rattle.events.specs.declared.EventContent.{EventContent}
use Rattle.events.specs.declared.EventKind.{EventKind}
use Rattle.events.specs.declared.EventKind.TheVariants.{Submit, Get, Deliver, Tick}
use Rattle.events.specs.declared.EventKind.TheVariants.{Tend, Start, Stop}
use Rattle.events.specs.declared.EventKind.TheVariants.{Rows, Open, Close, Notice}
use Rattle.script_words.specs.Words.{AreBytes, is_plain, bound_text, bytes_text, begins_fault}
use Rattle.script_words.specs.Words.{has_fault, before_fault, from_fault}
use Rattle.script_words.specs.Edits.{AreBytesIn, edit_word}
use Rattle.script_words.specs.Junks.{AreBytesOf, hex_text, IsJunk}
use Rattle.scripts.specs.Statements.{CanBeSaid, IsSpelled, MarkCanBeSaid, NumberCanBeSaid}
use Rattle.scripts.specs.Statements.{mark_words, number_words}
use Rattle.script_words.specs.FaultWords.{FaultCanBeSaid, IsFault, fault_word}
use Rattle.script_words.specs.FaultWords.{may_bear_fault}
use Rattle.scripts.specs.Events.{SpellsEvent}
use Rattle.scripts.specs.Faults.{spelling_fault, junk_fault}
use Rattle.script_words.specs.FaultWordsLemmas.{AreOfFault, joined_words, faultless_before}
use Rattle.script_words.specs.WordsLemmas.{number_faultless, number_word, one_number}
use Rattle.script_words.specs.WordsLemmas.{positive_word}
use Rattle.scripts.proofs.Placing.{bears}
use Rattle.script_words.specs.JunksLemmas.{junk_read, one_junk}
use Rattle.scripts.proofs.ReadBack.{event_read}
use Rattle.scripts.proofs.FirstWords.{first_word, words_behind}
use Rattle.scripts.proofs.EventNames.{name_of}
use Rattle.scripts.proofs.OneEvent.{one_event}
use Rattle.script_words.specs.declared.error.ScriptError.TheVariants.{BadFault}
use Rattle.scripts.specs.Laws.{EventsAreRead, is_faultless}
use Rattle.script_words.specs.declared.error.ScriptError.{ScriptError}
use Rattle.std.specs.Str.{bytes_eq}
use Rattle.std.proofs.lemmas.Grind.{common_steps}
use Rattle.disk.specs.declared.Fault.TheVariants as disk

-- ---- no word of an event begins a fault

text_begins : (k xs : List ℕ) → AreBytes k → begins_fault (bytes_text k ++ xs) ≡ false
text_begins [] xs all = refl
text_begins (b ∷ k) xs all = elim (cases_Bool (is_plain b)) [
  | inl t ↦ rw t (grind (arith, nat_tests))
  | inr f ↦ rw f refl
]

edit_begins : (e : Edit) → AreBytesIn e → begins_fault (edit_word e) ≡ false
edit_begins (Put key value) all = text_begins key (61 ∷ bytes_text value) all.0
edit_begins (Delete key) all = refl

edits_begin : (edits : List Edit) → All AreBytesIn edits → has_fault (map edit_word edits) ≡ false
edits_begin [] all = refl
edits_begin (e ∷ edits) all =
    rw (edit_begins e (All-head AreBytesIn e edits all))
    (edits_begin edits (All-tail AreBytesIn e edits all))

hex_begins : (bytes : List ℕ) → AreBytes bytes → begins_fault (hex_text bytes) ≡ false
hex_begins [] all = refl
hex_begins (b ∷ bytes) all =
    let small : b < 256 = All-head (λ x. x < 256) b bytes all in
    let high : b / 16 < 16 = omega arith in
    grind (arith, nat_tests)

junk_begins : (junk : Junk) (word : List ℕ) → AreBytesOf junk → IsJunk junk word →
    begins_fault word ≡ false
junk_begins Old word all is = rw is refl
junk_begins New word all is = rw is refl
junk_begins (Bytes bytes) word all is = rw is.1 (hex_begins bytes all)

text_alone : (k : List ℕ) → AreBytes k → begins_fault (bytes_text k) ≡ false
text_alone k all = rw (append-nil (bytes_text k)) at (text_begins k [] all)

bound_begins : (to : Option (List ℕ)) → IfSome to AreBytes → begins_fault (bound_text to) ≡ false
bound_begins None all = refl
bound_begins (Some key) all = text_alone key all

at_begins : (at : Option ℕ) → NumberCanBeSaid at → has_fault (number_words at) ≡ false
at_begins None small = refl
at_begins (Some n) small = rw (number_faultless (decimal n) (number_word n small)) refl

mark_begins : (mark : Option Mark) (words : List (List ℕ)) → IfSome mark MarkCanBeSaid
    → has_fault (mark_words mark ++ words) ≡ has_fault words
mark_begins None words said = refl
mark_begins (Some mark) words said =
    rw (
      number_faultless (decimal mark.client) (number_word mark.client said.0.1),
      number_faultless (decimal mark.request) (number_word mark.request said.1.1),
    ) refl

no_fault : (what : EventKind) (words : List (List ℕ)) → CanBeSaid what → IsSpelled what words →
    has_fault (drop 1 words) ≡ false
no_fault (Submit node batch) words said e =
    rw (
      e,
      number_faultless (decimal node) (number_word node said.0),
      mark_begins (mark_of batch) (map edit_word (edits_of batch)) said.2,
    ) (edits_begin (edits_of batch) said.1)
no_fault (Get node key None) words said e =
    rw (e, number_faultless (decimal node) (number_word node said.0), text_alone key said.1) refl
no_fault (Get node key (Some at)) words said e =
    rw (
      e,
      number_faultless (decimal node) (number_word node said.0),
      text_alone key said.1,
      number_faultless (decimal at) (number_word at said.2),
    ) refl
no_fault (Rows node range at) words said e =
    rw (
      e,
      number_faultless (decimal node) (number_word node said.0),
      text_alone range.from said.1.0,
      bound_begins range.to said.1.1,
      number_faultless (decimal range.limit) (number_word range.limit said.1.2),
    ) (at_begins at said.2)
no_fault (Open node at) words said e =
    rw (e, number_faultless (decimal node) (number_word node said.0)) (at_begins at said.1)
no_fault (Close node number) words said e =
    rw (
      e,
      number_faultless (decimal node) (number_word node said.0),
      number_faultless (decimal number) (number_word number said.1),
    ) refl
no_fault (Deliver place) words said e =
    rw (e, number_faultless (decimal place) (number_word place said)) refl
no_fault (Notice node epoch) words said e =
    rw (
      e,
      number_faultless (decimal node) (number_word node said.0),
      number_faultless (decimal epoch) (number_word epoch said.1),
    ) refl
no_fault (Tick node) words said e =
    rw (e, number_faultless (decimal node) (number_word node said)) refl
no_fault (Tend node) words said e =
    rw (e, number_faultless (decimal node) (number_word node said)) refl
no_fault (Start node) words said e =
    rw (e, number_faultless (decimal node) (number_word node said)) refl
no_fault (Stop node junk) words said (inl e) =
    rw (e.1, number_faultless (decimal node) (number_word node said.0)) refl
no_fault (Stop node junk) words said (inr e) =
    rw (
      e.2,
      number_faultless (decimal node) (number_word node said.0),
      junk_begins junk e.0 said.1 e.1,
    ) refl

-- ---- the words of a fault

none_after : (words : List (List ℕ)) → has_fault words ≡ false → [] ≡ from_fault words
none_after [] e = refl
none_after (w ∷ ws) e = elim (cases_Bool (begins_fault w)) [
  | inl t ↦ absurd (grind (arith, common_steps))
  | inr f ↦ rw f (none_after ws (rw f at e))
]

fault_begins : (f : Fault) (words : List (List ℕ)) → IsFault f words → AreOfFault words
fault_begins disk.None words is = rw is tt
fault_begins (disk.Fail call) words is = rw is refl
fault_begins (disk.Stop call junk) words is = rw is.2 refl

-- no words of a fault stand where none may
abbrev FitsFaults : Bool → List (List ℕ) → Type 0
FitsFaults faults words = faults ≡ false → words ≡ []

fault_read : (faults : Bool) (f : Fault) (name : List ℕ) (words : List (List ℕ))
    → FaultCanBeSaid f → IsFault f words → (may_bear_fault name ≡ false → f ≡ disk.None)
    → FitsFaults faults words → fault_word faults name words ≡ None
fault_read false f name words said is none fits = rw (fits refl) refl
fault_read true disk.None name words said is none fits = rw is refl
fault_read true (disk.Fail call) name words said is none fits =
    elim (cases_Bool (may_bear_fault name)) [
      | inl t ↦ rw (is, t, positive_word call said) refl
      | inr f ↦ absurd (cc (none f))
    ]
fault_read true (disk.Stop call junk) name words said is none fits =
    elim (cases_Bool (may_bear_fault name)) [
      | inl t ↦ rw (
        is.2,
        t,
        positive_word call said.0,
        junk_read junk is.0 said.1 is.1,
      ) refl
      | inr f ↦ absurd (cc (none f))
    ]

one_fault : (f g : Fault) (words : List (List ℕ)) → FaultCanBeSaid f → FaultCanBeSaid g
    → IsFault f words → IsFault g words → f ≡ g
one_fault disk.None disk.None words sf sg p q = refl
one_fault disk.None (disk.Fail call) words sf sg p q =
    let size : 0 ≡ 2 = ap length (sym p ∙ q) in
    absurd (omega (arith, size))
one_fault disk.None (disk.Stop call junk) words sf sg p q =
    let size : 0 ≡ 3 = ap length (sym p ∙ q.2) in
    absurd (omega (arith, size))
one_fault (disk.Fail call) disk.None words sf sg p q =
    let size : 2 ≡ 0 = ap length (sym p ∙ q) in
    absurd (omega (arith, size))
one_fault (disk.Fail m) (disk.Fail n) words sf sg p q =
    rw (one_number m n sf.1 sg.1 (ap (λ w. first_word (words_behind w)) (sym p ∙ q))) refl
one_fault (disk.Fail m) (disk.Stop call junk) words sf sg p q =
    let size : 2 ≡ 3 = ap length (sym p ∙ q.2) in
    absurd (omega (arith, size))
one_fault (disk.Stop call junk) disk.None words sf sg p q =
    let size : 3 ≡ 0 = ap length (sym p.2 ∙ q) in
    absurd (omega (arith, size))
one_fault (disk.Stop call junk) (disk.Fail n) words sf sg p q =
    let size : 3 ≡ 2 = ap length (sym p.2 ∙ q) in
    absurd (omega (arith, size))
one_fault (disk.Stop m j) (disk.Stop n k) words sf sg p q =
    let both = sym p.2 ∙ q.2 in
    let same = ap (λ w. first_word (words_behind (words_behind w))) both in
    rw (
      one_number m n sf.0.1 sg.0.1 (ap (λ w. first_word (words_behind w)) both),
      one_junk j k q.0 sf.1 sg.1 (rw same at p.1) q.1,
    ) refl

-- ---- the words of an event

-- the words of a kind begin with its name
pub opens : (what : EventKind) (words : List (List ℕ)) → IsSpelled what words
    → (args : List (List ℕ)) × (words ≡ name_of what ∷ args)
opens (Submit node batch) words e = (_, e)
opens (Get node key None) words e = (_, e)
opens (Get node key (Some at)) words e = (_, e)
opens (Rows node range at) words e = (_, e)
opens (Open node at) words e = (_, e)
opens (Close node number) words e = (_, e)
opens (Deliver place) words e = (_, e)
opens (Notice node epoch) words e = (_, e)
opens (Tick node) words e = (_, e)
opens (Tend node) words e = (_, e)
opens (Start node) words e = (_, e)
opens (Stop node junk) words (inl p) = (_, p.1)
opens (Stop node junk) words (inr p) = (_, p.2)

-- an event's words, divided where its fault begins
pub record Divides (event : EventContent) (name : List ℕ) (args : List (List ℕ)) : Type 0 where
  pub kind_said : CanBeSaid event.kind
  pub kind : IsSpelled event.kind (name ∷ before_fault args)
  pub fault_said : FaultCanBeSaid event.fault
  pub fault : IsFault event.fault (from_fault args)
  pub none : may_bear_fault name ≡ false → event.fault ≡ disk.None

pub divides : (event : EventContent) (name : List ℕ) (args : List (List ℕ))
    → SpellsEvent (name ∷ args) event → Divides event name args
divides event name args s =
    let front = opens event.kind s.first s.kind in
    let own : IsSpelled event.kind (name_of event.kind ∷ front.0) =
    subst (λ (ws : List (List ℕ)). IsSpelled event.kind ws) front.1 s.kind in
    let all : name ∷ args ≡ name_of event.kind ∷ (front.0 ++ s.behind) = rw front.1 at s.parts in
    let same : name ≡ name_of event.kind = ap first_word all in
    let rest : args ≡ front.0 ++ s.behind = ap words_behind all in
    let cut = joined_words front.0 s.behind
    (no_fault event.kind (name_of event.kind ∷ front.0) s.kind_said own)
    (fault_begins event.fault s.behind s.fault) in
    let first : name_of event.kind ∷ front.0 ≡ name ∷ before_fault args =
    ap₂ (λ (n : List ℕ) (ws : List (List ℕ)). n ∷ ws) (sym same)
    (sym cut.0 ∙ ap before_fault (sym rest)) in
    let behind : s.behind ≡ from_fault args = sym cut.1 ∙ ap from_fault (sym rest) in
    let kind = subst (λ (ws : List (List ℕ)). IsSpelled event.kind ws) first own in
    record {
      kind_said = s.kind_said;
      kind = kind;
      fault_said = s.fault_said;
      fault = subst (λ (ws : List (List ℕ)). IsFault event.fault ws) behind s.fault;
      none = λ no. s.none (sym (bears event.kind name (before_fault args) kind) ∙ no);
    }

-- a stop may spell what it leaves where faults may be
junk_allowed : (stop two : Bool) → (stop && two && false) ≡ false
junk_allowed true true = refl
junk_allowed true false = refl
junk_allowed false two = refl

-- a stop that does not spell it may stand anywhere
junk_lacks : (stop two : Bool) → not (stop && two) ≡ true → (stop && two && true) ≡ false
junk_lacks true true e = absurd (cc)
junk_lacks true false e = refl
junk_lacks false two e = refl

is_not : (b : Bool) → not b ≡ true → b ≡ false
is_not true e = absurd (cc)
is_not false e = refl

abbrev bad_if : Bool → Option ScriptError
bad_if b = if b then Some BadFault else None

-- faultless words have none of a fault, and of a stop none for what it leaves
bare : (faults : Bool) (name : List ℕ) (args : List (List ℕ))
    → (faults ≡ false → is_faultless (name ∷ args) ≡ true)
    → (junk_fault faults name (before_fault args) ≡ None) × FitsFaults faults (from_fault args)
bare true name args fits = (
  ap bad_if (junk_allowed (bytes_eq name (codes "stop")) (length (before_fault args) == 2)),
  λ no. absurd (cc),
)
bare false name args fits =
    let both = and_parts (not (has_fault args)) _ (fits refl) in
    let none : has_fault args ≡ false = is_not (has_fault args) both.0 in (
      subst (λ (ws : List (List ℕ)). junk_fault false name ws ≡ None)
          (faultless_before args (sym none))
          (ap bad_if (junk_lacks (bytes_eq name (codes "stop")) (length args == 2) both.1)),
      λ _. sym (none_after args none),
    )

pub divided_read : (faults : Bool) (event : EventContent) (name : List ℕ) (args : List (List ℕ))
    → (faults ≡ false → is_faultless (name ∷ args) ≡ true) → Divides event name args
    → spelling_fault faults name args ≡ None
divided_read faults event name args fits d =
    let fit = bare faults name args fits in
    rw (event_read event.kind (name ∷ before_fault args) d.kind_said d.kind, fit.0)
    (fault_read faults event.fault name (from_fault args) d.fault_said d.fault d.none fit.1)

pub whole_read : EventsAreRead
whole_read faults event name args fits s =
    divided_read faults event name args fits (divides event name args s)

no_words : (event : EventContent) → SpellsEvent [] event → ⊥
no_words event s =
    let front = opens event.kind s.first s.kind in
    let all : [] ≡ name_of event.kind ∷ (front.0 ++ s.behind) = rw front.1 at s.parts in
    absurd (omega (arith, ap length all))

same_event : (k l : EventKind) (f g : Fault) → k ≡ l → f ≡ g
    → ◌≡◌ {A = EventContent} (record { kind = k; fault = f }) (record { kind = l; fault = g })
same_event k l f g kinds faults = rw (kinds, faults) refl

pub one_whole : (a b : EventContent) (words : List (List ℕ)) → SpellsEvent words a
    → SpellsEvent words b → a ≡ b
one_whole a b [] p q = absurd (no_words a p)
one_whole a b (name ∷ args) p q =
    let d = divides a name args p in
    let e = divides b name args q in
    same_event a.kind b.kind a.fault b.fault
    (one_event a.kind b.kind (name ∷ before_fault args) d.kind_said e.kind_said d.kind e.kind)
    (one_fault a.fault b.fault (from_fault args) d.fault_said e.fault_said d.fault e.fault)
