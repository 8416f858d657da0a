-- Three logs, and which of them are obsolete at a floor.
use Rattle.std.specs.Prelude.{◌≡◌, List, [], ◌∷◌}
use Rattle.version_edits.specs.declared.line.LogLine.{LogLine}
use Rattle.store_files.specs.Raising.{obsolete_logs}

-- file 3 from batch 1 on, file 5 from batch 3 on, and file 7 from batch 5 on
abbrev pub three_lines : List LogLine
three_lines = record { file = 3; first = 1 } ∷ record { file = 5; first = 3 }
    ∷ record { file = 7; first = 5 } ∷ []

-- At floor 1 none of them is obsolete, at floor 2 the first is, and at floor 4 the second one too.
-- The newest never is.
pub record FloorsPassLogs : Type 0 where
  pub none : obsolete_logs 1 three_lines ≡ []
  pub first : obsolete_logs 2 three_lines ≡ 3 ∷ []
  pub two : obsolete_logs 4 three_lines ≡ 3 ∷ 5 ∷ []
  pub newest : obsolete_logs 9 three_lines ≡ 3 ∷ 5 ∷ []
