-- The names of the files of a folder.
use Rattle.std.specs.Prelude.{ℕ, ◌++◌, List, codes}
use Rattle.std.specs.Fmt.{decimal}

-- the path of the file with this number: the folder's path, a slash, and the number in decimal
abbrev pub file_path : List ℕ → ℕ → List ℕ
file_path folder file = folder ++ (codes "/" ++ decimal file)
