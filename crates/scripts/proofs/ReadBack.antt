-- What is spelled is read: the words of an event have no fault.
use Rattle.std.proofs.Common.{◌≡◌, ℕ, List, [], ◌∷◌, refl, inl, inr, true, false, Bool, map, length}
use Rattle.std.proofs.Common.{Some, None}
use Rattle.std.specs.Prelude.{All, IfSome, Option, ◌++◌, ◌<◌, ◌^◌}
use Rattle.std.specs.Option.{option_map_or}
use Rattle.std.specs.Fmt.{decimal}
use Rattle.std.specs.List.{list_any, zip}
use Rattle.std.proofs.lemmas.List.Elements.{All-head, All-tail}
use Rattle.kv_types.specs.{Span, edits_of, mark_of}
use Rattle.kv_types.specs.declared.Edit.{Edit}
use Rattle.kv_types.specs.declared.mark.Mark.{Mark}
use Rattle.events.specs.declared.EventKind.{EventKind}
use Rattle.events.specs.declared.EventKind.TheVariants.{Submit, Get, Deliver, Tick}
use Rattle.events.specs.declared.EventKind.TheVariants.{Tend, Start, Stop}
use Rattle.events.specs.declared.EventKind.TheVariants.{Rows, Open, Close, Notice}
use Rattle.script_words.specs.Words.{bytes_text, bound_text}
use Rattle.script_words.specs.Edits.{edit_word, AreBytesIn}
use Rattle.scripts.specs.Statements.{IsSpelled, is_bad_number, is_bad_text, is_bad_junk}
use Rattle.scripts.specs.Statements.{fault_of_places, fault_of_words, number_words, rows_shape}
use Rattle.scripts.specs.Statements.{walk_name, Kind, CanBeSaid, MarkCanBeSaid, mark_words}
use Rattle.scripts.specs.Statements.{submit_name}
use Rattle.scripts.specs.Statements.Kind.{edit}
use Rattle.script_words.specs.declared.error.ScriptError.{ScriptError}
use Rattle.script_words.specs.declared.error.ScriptError.TheVariants.{WrongNumberOfWords}
use Rattle.script_words.specs.WordsLemmas.{bytes_read, number_word, bound_read, positive_word}
use Rattle.script_words.specs.JunksLemmas.{junk_read}
use Rattle.script_words.specs.EditsLemmas.{edit_read}

abbrev edits_at : List (List ℕ) → List (Kind × List ℕ)
edits_at ws = zip (map (λ _. edit) ws) ws

no_numbers : (ws : List (List ℕ)) → list_any is_bad_number (edits_at ws) ≡ false
no_numbers [] = refl
no_numbers (w ∷ ws) = no_numbers ws

no_junk : (ws : List (List ℕ)) → list_any is_bad_junk (edits_at ws) ≡ false
no_junk [] = refl
no_junk (w ∷ ws) = no_junk ws

no_texts : (es : List Edit) → All AreBytesIn es → list_any is_bad_text (edits_at
    (map edit_word es)) ≡ false
no_texts [] la = refl
no_texts (e ∷ es) la =
    rw (edit_read e (All-head AreBytesIn e es la), no_texts es (All-tail AreBytesIn e es la)) refl

-- the words of a submit, whether its batch bears a mark or not
submit_read : (node : ℕ) (mark : Option Mark) (edits : List Edit) → node < 2 ^ 63
    → All AreBytesIn edits → IfSome mark MarkCanBeSaid
    → fault_of_words (submit_name mark ∷ decimal node ∷ mark_words mark ++ map edit_word edits)
    ≡ None
submit_read node None edits small all la =
    rw (
      number_word node small,
      no_numbers (map edit_word edits),
      no_texts edits all,
      no_junk (map edit_word edits),
    ) refl
submit_read node (Some mark) edits small all la =
    rw (
      number_word node small,
      positive_word mark.client la.0,
      positive_word mark.request la.1,
      no_numbers (map edit_word edits),
      no_texts edits all,
      no_junk (map edit_word edits),
    ) refl

-- the fault of the words of a walk, in each direction
abbrev pub fault_of_walk : List (List ℕ) → Option ScriptError
fault_of_walk args =
    option_map_or (λ kinds. fault_of_places (zip kinds args)) (rows_shape (length args))
    (Some WrongNumberOfWords)

pub rows_fault : (backward : Bool) (args : List (List ℕ))
    → fault_of_words (walk_name backward ∷ args) ≡ fault_of_walk args
rows_fault true args = refl
rows_fault false args = refl

rows_read : (node : ℕ) (range : Span) (at : Option ℕ) → CanBeSaid (Rows node range at)
    → fault_of_walk (decimal node ∷ bytes_text range.from ∷ bound_text range.to
    ∷ decimal range.limit ∷ number_words at) ≡ None
rows_read node range None la =
    rw (
      number_word node la.0,
      number_word range.limit la.1.2,
      bytes_read range.from la.1.0,
      bound_read range.to la.1.1,
    ) refl
rows_read node range (Some at) la =
    rw (
      number_word node la.0,
      number_word range.limit la.1.2,
      number_word at la.2,
      bytes_read range.from la.1.0,
      bound_read range.to la.1.1,
    ) refl

pub event_read : (what : EventKind) (words : List (List ℕ)) → CanBeSaid what → IsSpelled what words
    → fault_of_words words ≡ None
event_read (Submit node batch) words la e =
    rw e (submit_read node (mark_of batch) (edits_of batch) la.0 la.1 la.2)
event_read (Get node key None) words la e =
    rw (e, number_word node la.0, bytes_read key la.1) refl
event_read (Get node key (Some at)) words la e =
    rw (e, number_word node la.0, bytes_read key la.1, number_word at la.2) refl
event_read (Rows node range at) words la e =
    rw (e, rows_fault range.backward) (rows_read node range at la)
event_read (Open node None) words la e = rw (e, number_word node la.0) refl
event_read (Open node (Some at)) words la e =
    rw (e, number_word node la.0, number_word at la.1) refl
event_read (Close node number) words la e =
    rw (e, number_word node la.0, number_word number la.1) refl
event_read (Deliver place) words la e = rw (e, number_word place la) refl
event_read (Notice node epoch) words la e =
    rw (e, number_word node la.0, number_word epoch la.1) refl
event_read (Tick node) words la e = rw (e, number_word node la) refl
event_read (Tend node) words la e = rw (e, number_word node la) refl
event_read (Start node) words la e = rw (e, number_word node la) refl
event_read (Stop node junk) words la (inl p) = rw (p.1, number_word node la.0) refl
event_read (Stop node junk) words la (inr p) =
    rw (p.2, number_word node la.0, junk_read junk p.0 la.1 p.1) refl
