-- Words that name one command name no other.
use Rattle.std.proofs.Common.{◌≡◌, ◌∙◌, ℕ, List, Bool, Option, Some, None, codes, refl, sym}
use Rattle.std.proofs.Common.{[], ◌∷◌, true, false}
use Rattle.std.specs.Prelude.{if◌then◌else◌, ◌&&◌, not}
use Rattle.std.specs.Str.{bytes_eq}
use Rattle.std.proofs.lemmas.Bool.{false≢true}
use Rattle.std.proofs.lemmas.Slice.Eq.{bytes_eq-Decides}
use Rattle.program.specs.Invocations.{is_named, names_path, path_of}

-- where a path is found behind two tests, the first one holds
both_hold : (a b : Bool) (p q : List ℕ) → (if a && b then Some p else None) ≡ Some q → a ≡ true
both_hold true b p q is = refl
both_hold false b p q is = cc

first_holds : (a : Bool) (rest : Option (List ℕ)) (q : List ℕ) →
    (if not a then None else rest) ≡ Some q → a ≡ true
first_holds true rest q is = refl
first_holds false rest q is = cc

-- words with a path behind a command name the command
pub path_names : (command : List ℕ) (words : List (List ℕ)) (q : List ℕ) →
    path_of command words ≡ Some q → is_named command words ≡ true
path_names command [] q is = cc
path_names command (program ∷ []) q is = cc
path_names command (program ∷ name ∷ []) q is = cc
path_names command (program ∷ name ∷ path ∷ []) q is =
    both_hold (bytes_eq name command) (names_path path) path q is
path_names command (program ∷ name ∷ first ∷ second ∷ []) q is =
    first_holds (bytes_eq name command) _ q is
path_names command (program ∷ name ∷ first ∷ second ∷ third ∷ more) q is = cc

-- no words name two commands
never_two : (one other : List ℕ) (words : List (List ℕ)) → bytes_eq one other ≡ false →
    is_named one words ≡ true → is_named other words ≡ true → ⊥
never_two one other [] apart first second = false≢true first
never_two one other (program ∷ []) apart first second = false≢true first
never_two one other (program ∷ name ∷ words) apart first second =
    let same : one ≡ other =
    sym ((bytes_eq-Decides name one).0 first) ∙ (bytes_eq-Decides name other).0 second in
    false≢true (sym apart ∙ (bytes_eq-Decides one other).1 same)

pub never_both : (words : List (List ℕ)) → is_named (codes "loop") words ≡ true →
    is_named (codes "dump") words ≡ true → ⊥
never_both words loop dump = never_two (codes "loop") (codes "dump") words refl loop dump

pub never_loop : (words : List (List ℕ)) → is_named (codes "loop") words ≡ true →
    is_named (codes "upgrade") words ≡ true → ⊥
never_loop words loop upgrade = never_two (codes "loop") (codes "upgrade") words refl loop upgrade

pub never_dump : (words : List (List ℕ)) → is_named (codes "dump") words ≡ true →
    is_named (codes "upgrade") words ≡ true → ⊥
never_dump words dump upgrade = never_two (codes "dump") (codes "upgrade") words refl dump upgrade
