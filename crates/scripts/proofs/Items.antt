-- What a line says, by the words of its statement, and whether a run has begun with it.
use Rattle.std.proofs.Common.{◌≡◌, ◌∙◌, ◌++◌, ◌∷◌, ℕ, List, Err, None, Ok, Option, Some, ap, codes}
use Rattle.std.proofs.Common.{false, inl, inr, length, not, refl, true}
use Rattle.std.specs.Prelude.{nat_lt, Result}
use Rattle.std.specs.Option.{option_map_or}
use Rattle.std.specs.Str.{bytes_eq}
use Rattle.kv_types.specs.declared.KvError.{KvError}
use Rattle.configurations.specs.NodeLists.{Configurations}
use Rattle.script_words.specs.declared.error.ScriptError.{ScriptError}
use Rattle.scripts.specs.declared.statement.Action.{Action}
use Rattle.scripts.specs.declared.statement.Action.TheVariants.{Event, Invalid}
use Rattle.scripts.specs.declared.statement.LineItem.{LineItem}
use Rattle.scripts.specs.declared.statement.LineItem.TheVariants.{Asks, Config, Limit, Skipped}
use Rattle.scripts.specs.declared.statement.ParserState.{ParserState}
use Rattle.scripts.specs.Actions.{error_of}
use Rattle.scripts.specs.Reading.{Places, ReadsLine, ReadsWords}
use Rattle.scripts.specs.Scripts.{IsStatement, begins, is_skipped}
use Rattle.script_words.specs.Lines.{words_of}
use Rattle.scripts.proofs.EventWords.{opens}
use Rattle.scripts.proofs.FirstWords.{first_word}
use Rattle.scripts.proofs.EventNames.{name_of, never_shows}
use Rattle.events.specs.declared.EventContent.{EventContent}

event_begins : (event : EventContent) (o : Option KvError) →
    begins (option_map_or (λ e. Invalid e) o (Event event)) ≡ true
event_begins event None = refl
event_begins event (Some e) = refl

-- a statement of any other name than show is more than a look
pub begins_by_name : (cs : Configurations) (name : List ℕ) (args : List (List ℕ))
    (action : Action) → IsStatement cs (name ∷ args) action →
    not (bytes_eq name (codes "show")) ≡ begins action
begins_by_name cs name args action (inl (inl is)) =
    rw (is.0, ap first_word is.1) refl
begins_by_name cs name args action (inl (inr is)) = elim is.said [
  | inl said ↦ rw (said.0, ap first_word said.1) refl
  | inr said ↦ rw (said.0, ap first_word said.1) refl
]
begins_by_name cs name args action (inr (event, spells, there, known, same)) =
    let front = opens event.kind spells.first spells.kind in
    let is : name ≡ name_of event.kind = ap first_word (spells.parts
    ∙ ap (λ (ws : List (List ℕ)). ws ++ spells.behind) front.1) in
    rw (same, is, never_shows event.kind, event_begins event (error_of event.kind)) refl

-- what the reader answers for a statement, from its words and from its line
pub asks : (before : ParserState) (words : List (List ℕ)) (name : List ℕ) (args : List (List ℕ))
    (action : Action) → words ≡ name ∷ args → bytes_eq name (codes "config") ≡ false →
    bytes_eq name (codes "limit") ≡ false → Places before name args (Ok action) →
    ReadsWords before words (Ok (Asks action))
asks before words name args action e config limit (good, (cs, at, is)) = (
  rw (e, config, limit) good,
  (cs, at, rw e is),
  rw (e, config, limit, begins_by_name cs name args action is) refl,
)

line_says : (before : ParserState) (line : List ℕ) (item : LineItem) →
    nat_lt 262144 (length line) ≡ false → is_skipped line ≡ false →
    ReadsWords before (words_of line) (Ok item) → ReadsLine before line (Ok item)
line_says before line Skipped short reads (good, is, later) = absurd is
line_says before line (Limit name number) short reads (good, is, later) =
    (rw (short, reads) good, is, rw reads later)
line_says before line (Config cs) short reads (good, is, later) =
    (rw (short, reads) good, is, rw reads later)
line_says before line (Asks action) short reads (good, is, later) =
    (rw (short, reads) good, is, rw reads later)

pub line_read : (before : ParserState) (line : List ℕ) (result : Result LineItem ScriptError) →
    nat_lt 262144 (length line) ≡ false → is_skipped line ≡ false →
    ReadsWords before (words_of line) result → ReadsLine before line result
line_read before line (Ok item) short reads h = line_says before line item short reads h
line_read before line (Err e) short reads h = λ other. rw (short, reads) (h other)
