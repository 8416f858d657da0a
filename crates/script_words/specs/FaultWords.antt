-- The words of a fault of the disk, at the end of a statement.
use Rattle.std.specs.Prelude.{◌≡◌, ◌≢◌, ℕ, Bool, false, ◌&&◌, ◌||◌, not}
use Rattle.std.specs.Prelude.{if◌then◌else◌, List, [], ◌∷◌, codes, Option, Some, None}
use Rattle.std.specs.Prelude.{Result, Ok, Err}
use Rattle.std.specs.Fmt.{decimal}
use Rattle.std.specs.Str.{bytes_eq}
use Rattle.disk.specs.declared.fault.Fault.{Fault}
use Rattle.disk.specs.declared.fault.Fault.TheVariants as disk
use Rattle.script_words.specs.declared.error.ScriptError.{ScriptError}
use Rattle.script_words.specs.declared.error.ScriptError.TheVariants.{BadFault, OutOfMemory}
use Rattle.script_words.specs.Words.{IsPositive, is_positive}
use Rattle.script_words.specs.Junks.{AreBytesOf, IsJunk, is_junk}

-- a fault of bytes, at a call that a script may name; calls are counted from 1
abbrev pub FaultCanBeSaid : Fault → Type 0
FaultCanBeSaid disk.None = Unit {0}
FaultCanBeSaid (disk.Fail call) = IsPositive call
FaultCanBeSaid (disk.Stop call junk) = IsPositive call × AreBytesOf junk

-- these words spell the fault
abbrev pub IsFault : Fault → List (List ℕ) → Type 0
IsFault disk.None words = words ≡ []
IsFault (disk.Fail call) words = words ≡ codes "!fail" ∷ decimal call ∷ []
IsFault (disk.Stop call junk) words =
    (word : List ℕ) × IsJunk junk word × (words ≡ codes "!stop" ∷ decimal call ∷ word ∷ [])

-- !fail K, or !stop K JUNK
abbrev pub is_fault : List (List ℕ) → Bool
is_fault [] = false
is_fault (name ∷ []) = false
is_fault (name ∷ call ∷ []) = bytes_eq name (codes "!fail") && is_positive call
is_fault (name ∷ call ∷ junk ∷ []) =
    bytes_eq name (codes "!stop") && is_positive call && is_junk junk
is_fault (name ∷ call ∷ junk ∷ more ∷ words) = false

-- a statement of this name may bear a fault
abbrev pub may_bear_fault : List ℕ → Bool
may_bear_fault name = not (bytes_eq name (codes "stop") || bytes_eq name (codes "flow")
    || bytes_eq name (codes "settle") || bytes_eq name (codes "show"))

-- the fault of the words from the first that begins with !, behind a statement of this name, where
-- faults may be spelled or not
abbrev pub fault_word : Bool → List ℕ → List (List ℕ) → Option ScriptError
fault_word faults name [] = None
fault_word faults name (w ∷ ws) =
    if may_bear_fault name && is_fault (w ∷ ws) && faults then None else Some BadFault

-- a reader gives the fault that is spelled behind a statement of this name
pub record ReadsFaultAs (faults : Bool) (name : List ℕ) (words : List (List ℕ)) (fault : Fault) :
    Type 0
  where
    pub good : fault_word faults name words ≡ None
    pub said : FaultCanBeSaid fault
    pub spelled : IsFault fault words
    pub none : may_bear_fault name ≡ false → fault ≡ disk.None

-- what a reader returned for the fault behind a statement: the one spelled, or what is wrong
abbrev pub ReadsFault : Bool → List ℕ → List (List ℕ) → Result Fault ScriptError → Type 0
ReadsFault faults name words (Ok fault) = ReadsFaultAs faults name words fault
ReadsFault faults name words (Err e) = (e ≢ OutOfMemory) → fault_word faults name words ≡ Some e
