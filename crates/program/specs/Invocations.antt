-- The program's words in their plain forms.
use Rattle.std.specs.Prelude.{◌≡◌, ℕ, Bool, false, ◌==◌, ◌&&◌, ◌||◌, not}
use Rattle.std.specs.Prelude.{if◌then◌else◌, List, [], ◌∷◌, ◌++◌, codes}
use Rattle.std.specs.Prelude.{Option, Some, None}
use Rattle.std.specs.List.{list_any}
use Rattle.std.specs.Str.{bytes_eq}
use Rattle.program.specs.declared.invocation.Invocation.{Invocation}
use Rattle.program.specs.declared.invocation.Invocation.TheVariants.{Input, Script}

-- ---- words

-- a word that begins with - is an option, or a path where it is - alone
abbrev pub is_dashed : List ℕ → Bool
is_dashed [] = false
is_dashed (b ∷ bs) = b == 45

-- a word that names a path where no `--` stands before it: one that does not begin with -, or `-`
-- itself, which names standard input where a script has its place
abbrev pub names_path : List ℕ → Bool
names_path word = bytes_eq word (codes "-") || not (is_dashed word)

-- words that name this command
abbrev pub is_named : List ℕ → List (List ℕ) → Bool
is_named command (program ∷ name ∷ words) = bytes_eq name command
is_named command _ = false

-- ---- plain forms

-- the PATH of the words `PROGRAM COMMAND PATH`, `PROGRAM COMMAND PATH --` and
-- `PROGRAM COMMAND -- PATH`; only behind `--` may it be any word
abbrev pub path_of : List ℕ → List (List ℕ) → Option (List ℕ)
path_of command (program ∷ name ∷ path ∷ []) =
    if bytes_eq name command && names_path path then Some path else None
path_of command (program ∷ name ∷ first ∷ second ∷ []) =
    if not (bytes_eq name command) then None
    else if bytes_eq first (codes "--") then Some second
    else if bytes_eq second (codes "--") && names_path first then Some first
    else None
path_of command _ = None

-- the SCRIPT of the words behind `lab`
abbrev pub lab_script : List (List ℕ) → Option (List ℕ)
lab_script words = path_of (codes "lab") words

-- the DIR of the words behind `dump`
abbrev pub dump_folder : List (List ℕ) → Option (List ℕ)
dump_folder words = path_of (codes "dump") words

-- the DIR of the words behind `upgrade`
abbrev pub upgrade_folder : List (List ℕ) → Option (List ℕ)
upgrade_folder words = path_of (codes "upgrade") words

-- the words `--dir D`
abbrev pub is_dir_option : List ℕ → List ℕ → Bool
is_dir_option option folder = bytes_eq option (codes "--dir") && names_path folder

-- SCRIPT and D of the words `PROGRAM loop SCRIPT --dir D` and `PROGRAM loop --dir D SCRIPT`
abbrev pub loop_paths : List (List ℕ) → Option (List ℕ × List ℕ)
loop_paths (program ∷ name ∷ first ∷ second ∷ third ∷ []) =
    if not (bytes_eq name (codes "loop")) then None
    else if is_dir_option first second && names_path third then Some (third, second)
    else if is_dir_option second third && names_path first then Some (first, third)
    else None
loop_paths _ = None

-- words that name this command, with two words or more behind it, one of which begins with -
abbrev pub has_option : List ℕ → List (List ℕ) → Bool
has_option command (program ∷ name ∷ first ∷ second ∷ words) =
    bytes_eq name command && list_any is_dashed (first ∷ second ∷ words)
has_option command _ = false

-- words that have no plain form of a command, and no option behind one
pub record AsksForNothing (words : List (List ℕ)) : Type 0 where
  pub lab : lab_script words ≡ None
  pub loop : loop_paths words ≡ None
  pub dump : dump_folder words ≡ None
  pub upgrade : upgrade_folder words ≡ None
  pub lab_option : has_option (codes "lab") words ≡ false
  pub loop_option : has_option (codes "loop") words ≡ false
  pub dump_option : has_option (codes "dump") words ≡ false
  pub upgrade_option : has_option (codes "upgrade") words ≡ false

-- ---- requests

-- a request for the run of the script at this path
abbrev pub AsksForScript : Invocation → List ℕ → Type 0
AsksForScript Input path = ⊥
AsksForScript (Script word) path = word.now ≡ path

-- the line for words that ask for nothing
abbrev pub usage_line : List ℕ
usage_line =
    codes "usage: chainstore lab SCRIPT | loop SCRIPT --dir D | dump DIR | upgrade DIR" ++ 10 ∷ []
