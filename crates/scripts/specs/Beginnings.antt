-- What the beginning of a script shows of the whole.
use Rattle.std.specs.Prelude.{◌≡◌, ◌≤◌, ◌<◌, ◌⊎◌, ℕ, List, ◌++◌, length, Some, None, Bool}
use Rattle.script_words.specs.declared.error.ScriptError.{ScriptError}
use Rattle.scripts.specs.declared.extent.Extent.{Extent}
use Rattle.script_words.specs.Lines.{HasNoFeed, script_lines}
use Rattle.scripts.specs.Faults.{script_fault, start}

-- whatever follows the text, the fault is this one
abbrev pub HasFaultOfAll : Bool → List ℕ → Type 0
HasFaultOfAll faults text =
    (fault : ℕ × ScriptError)
    × ((more : List ℕ) → script_fault (start faults) 1 (script_lines (text ++ more)) ≡ Some fault)

-- the text has such a fault, whether faults may be spelled or not
abbrev pub IsFaulty : List ℕ → Type 0
IsFaulty text = (faults : Bool) → HasFaultOfAll faults text

-- whatever follows the text, its lines begin with the ended ones, of this number, and the bytes
-- behind the last of them, of this number, have no line feed
pub record HasExtent (text : List ℕ) (extent : Extent) : Type 0 where
  pub ended : List (List ℕ)
  pub behind : List ℕ
  pub plain : HasNoFeed behind
  pub same : (more : List ℕ) → script_lines (text ++ more) ≡ ended ++ script_lines (behind ++ more)
  pub lines : length ended ≡ extent.lines
  pub line : length behind ≡ extent.line

-- so many lines, and so many bytes behind them, may be the beginning of a script
pub record IsWithinLimits (extent : Extent) : Type 0 where
  pub lines : extent.lines ≤ 100000
  pub line : extent.line ≤ 262144

-- a beginning of the text has more ended lines than a script may have, or behind them more bytes
-- than a line may have
pub record HasPassedLimit (text : List ℕ) : Type 0 where
  pub begin : List ℕ
  pub behind : List ℕ
  pub is : text ≡ begin ++ behind
  pub extent : Extent
  pub has : HasExtent begin extent
  pub passed : (100000 < extent.lines) ⊎ (262144 < extent.line)

-- a beginning of a script that has the fault of the whole, and is the whole where it has none,
-- whether faults may be spelled or not
pub record IsEnough (whole text : List ℕ) : Type 0 where
  pub behind : List ℕ
  pub begins : whole ≡ text ++ behind
  pub fault : (faults : Bool) → script_fault (start faults) 1 (script_lines whole)
      ≡ script_fault (start faults) 1 (script_lines text)
  pub all : (faults : Bool) → script_fault (start faults) 1 (script_lines text) ≡ None
      → whole ≡ text
