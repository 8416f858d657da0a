-- Nothing has two meanings, and what is spelled is read.
use Rattle.std.specs.Prelude.{◌≡◌, ◌≤◌, ℕ, List, ◌∷◌, All, length, None, Bool, [], codes, false}
use Rattle.std.specs.Prelude.{not, true, ◌&&◌, ◌==◌}
use Rattle.kv_types.specs.declared.Edit.{Edit}
use Rattle.events.specs.declared.EventContent.{EventContent}
use Rattle.script_words.specs.declared.limits.ScriptLimits.{ScriptLimits}
use Rattle.scripts.specs.declared.setup.Setup.{Setup}
use Rattle.scripts.specs.declared.statement.Statement.{Statement}
use Rattle.script_words.specs.Words.{AreBytes, bytes_text, has_fault}
use Rattle.script_words.specs.Edits.{AreBytesIn, edit_word}
use Rattle.scripts.specs.Events.{SpellsEvent}
use Rattle.script_words.specs.Limits.{AreLimits}
use Rattle.scripts.specs.Scripts.{IsScript, is_skipped}
use Rattle.scripts.specs.Faults.{spelling_fault, script_fault, start}
use Rattle.std.specs.Str.{bytes_eq}
use Rattle.script_words.specs.Lines.{words_of}

-- no two byte strings have one spelling
abbrev pub StringsDiffer : Type 0
StringsDiffer = (a b : List ℕ) → AreBytes a → AreBytes b → bytes_text a ≡ bytes_text b → a ≡ b

-- no two edits have one spelling
abbrev pub EditsDiffer : Type 0
EditsDiffer = (a b : Edit) → AreBytesIn a → AreBytesIn b → edit_word a ≡ edit_word b → a ≡ b

-- no two events have one spelling
abbrev pub EventsDiffer : Type 0
EventsDiffer = (a b : EventContent) (words : List (List ℕ)) → SpellsEvent words a
    → SpellsEvent words b
    → a ≡ b

-- two setups have the same configurations and the same limits
pub record AreAlike (one other : Setup) : Type 0 where
  pub configs : one.configs ≡ other.configs
  pub script : ScriptLimits
  pub limits : AreLimits script one.limits
  pub others : AreLimits script other.limits

-- no lines spell two scripts
abbrev pub ScriptsDiffer : Type 0
ScriptsDiffer = (lines : List (List ℕ)) (one other : Setup) (a b : List Statement)
    → IsScript 1 lines one a → IsScript 1 lines other b → AreAlike one other × (a ≡ b)

-- words that bear no fault, and do not spell what a stop leaves
abbrev pub is_faultless : List (List ℕ) → Bool
is_faultless [] = true
is_faultless (name ∷ args) =
    not (has_fault args) && not (bytes_eq name (codes "stop") && (length args == 2))

-- the words of each line that is not skipped are faultless
abbrev pub AreFaultless : List (List ℕ) → Type 0
AreFaultless lines =
    All (λ line. is_skipped line ≡ false → is_faultless (words_of line) ≡ true) lines

-- the words that spell an event have no fault of their own, where they may spell what they do
abbrev pub EventsAreRead : Type 0
EventsAreRead = (faults : Bool) (event : EventContent) (name : List ℕ) (args : List (List ℕ))
    → (faults ≡ false → is_faultless (name ∷ args) ≡ true)
    → SpellsEvent (name ∷ args) event → spelling_fault faults name args ≡ None

-- a script has no fault, where its lines are neither too long nor too many, and faultless or else
-- where faults may be spelled
abbrev pub ScriptsAreRead : Type 0
ScriptsAreRead = (faults : Bool) (lines : List (List ℕ)) (setup : Setup)
    (statements : List Statement)
    → All (λ line. length line ≤ 262144) lines → length lines ≤ 100000
    → (faults ≡ false → AreFaultless lines)
    → IsScript 1 lines setup statements → script_fault (start faults) 1 lines ≡ None

-- where faults may not be spelled, lines that are no faulty script are faultless
abbrev pub FaultsAreRefused : Type 0
FaultsAreRefused = (lines : List (List ℕ)) → script_fault (start false) 1 lines ≡ None
    → AreFaultless lines
