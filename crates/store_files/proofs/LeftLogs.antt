-- Which logs a rise of the floor leaves, and which it gives up.
use Rattle.std.proofs.Common.{◌≡◌, ◌≤◌, ◌<◌, ◌+◌, ◌∙◌, ℕ, List, [], ◌∷◌, ◌++◌, length, map, drop}
use Rattle.std.proofs.Common.{ap, arith, false, inl, inr, leb-true, ltb-false, refl, subst, sym}
use Rattle.std.specs.Prelude.{Contains, nat_le}
use Rattle.std.proofs.lemmas.List.{length-append, length-map}
use Rattle.std.proofs.lemmas.List.Elements.{All-head, Contains-append_left}
use Rattle.std.proofs.Math.Seq.{drop-append_seam}
use Rattle.version_edits.specs.declared.line.LogLine.{LogLine}
use Rattle.manifest.specs.Versions.{AreInOrder, log_is_before}
use Rattle.store_files.specs.Raising.{before_oldest, obsolete_logs, live_logs}
use Rattle.store_files.specs.StoreFiles.{before_newest}
use Rattle.store_files.proofs.KeptNames.{map_contains}
use Rattle.store_files.proofs.Records.{either}

-- the file of a log's line
abbrev pub file_in : LogLine → ℕ
file_in line = line.file

-- some first logs are given up, and the others are left
pub record IsCut (lines left : List LogLine) (gone : List ℕ) : Type 0 where
  pub front : List LogLine
  pub parted : lines ≡ front ++ left
  pub files : gone ≡ map file_in front

module _ (floor : ℕ) where
  -- so a rise of the floor cuts them
  pub raise_cuts : (lines : List LogLine)
      → IsCut lines (live_logs floor lines) (obsolete_logs floor lines)
  raise_cuts [] = record { front = []; parted = refl; files = refl }
  raise_cuts (line ∷ []) = record { front = []; parted = refl; files = refl }
  raise_cuts (line ∷ next ∷ lines) = elim (either (nat_le next.first (floor + 1))) [
    | inl up ↦
        let more = raise_cuts (next ∷ lines) in
        rw up (record {
          front = line ∷ more.front;
          parted = ap (λ (l : List LogLine). line ∷ l) more.parted;
          files = ap (λ (l : List ℕ). line.file ∷ l) more.files;
        })
    | inr high ↦ rw high (record { front = []; parted = refl; files = refl })
  ]

  -- some log is left
  pub some_left : (lines : List LogLine) → 0 < length lines → 0 < length (live_logs floor lines)
  some_left [] some = some
  some_left (line ∷ []) some = some
  some_left (line ∷ next ∷ lines) some = elim (either (nat_le next.first (floor + 1))) [
    | inl up ↦ rw up (some_left (next ∷ lines) (omega arith))
    | inr high ↦ rw high some
  ]

  -- the newest stays
  pub newest_left : (lines : List LogLine)
      → before_newest (live_logs floor lines) ≡ before_newest lines
  newest_left [] = refl
  newest_left (line ∷ []) = refl
  newest_left (line ∷ next ∷ lines) = elim (either (nat_le next.first (floor + 1))) [
    | inl up ↦ rw up (newest_left (next ∷ lines))
    | inr high ↦ rw high refl
  ]

  -- no batch above the floor is trimmed
  pub left_low : (lines : List LogLine) → before_oldest lines ≤ floor
      → before_oldest (live_logs floor lines) ≤ floor
  left_low [] low = low
  left_low (line ∷ []) low = low
  left_low (line ∷ next ∷ lines) low = elim (either (nat_le next.first (floor + 1))) [
    | inl up ↦
        let le = leb-true next.first (floor + 1) up in
        rw up (left_low (next ∷ lines) (omega (arith, le)))
    | inr high ↦ rw high low
  ]

  -- a log begins no later than the next one
  next_behind : (line next : LogLine) (lines : List LogLine)
      → AreInOrder log_is_before (line ∷ next ∷ lines) → line.first ≤ next.first
  next_behind line next lines order = ltb-false next.first line.first
      (All-head (λ (y : LogLine). log_is_before y line ≡ false) next lines order.0)

  -- the oldest begins no later than the newest
  oldest_is_first : (lines : List LogLine) → AreInOrder log_is_before lines
      → before_oldest lines ≤ before_newest lines
  oldest_is_first [] order = omega arith
  oldest_is_first (line ∷ []) order = omega arith
  oldest_is_first (line ∷ next ∷ lines) order =
      let le = next_behind line next lines order in
      let more = oldest_is_first (next ∷ lines) order.1 in
      omega (arith, le, more)

  -- no log that is left begins before the oldest one
  pub left_rises : (lines : List LogLine) → AreInOrder log_is_before lines
      → before_oldest lines ≤ before_oldest (live_logs floor lines)
  left_rises [] order = omega arith
  left_rises (line ∷ []) order = omega arith
  left_rises (line ∷ next ∷ lines) order = elim (either (nat_le next.first (floor + 1))) [
    | inl up ↦
        let le = next_behind line next lines order in
        let more = left_rises (next ∷ lines) order.1 in
        rw up (omega (arith, le, more))
    | inr high ↦ rw high (omega arith)
  ]

  -- and none behind the newest
  pub left_before_newest : (lines : List LogLine) → AreInOrder log_is_before lines
      → before_oldest (live_logs floor lines) ≤ before_newest lines
  left_before_newest [] order = omega arith
  left_before_newest (line ∷ []) order = omega arith
  left_before_newest (line ∷ next ∷ lines) order =
      elim (either (nat_le next.first (floor + 1))) [
        | inl up ↦ rw up (left_before_newest (next ∷ lines) order.1)
        | inr high ↦ rw high (oldest_is_first (line ∷ next ∷ lines) order)
      ]

  -- so many of the oldest logs are given up
  abbrev pub gone_count : List LogLine → ℕ
  gone_count lines = length (obsolete_logs floor lines)

  pub left_dropped : (lines : List LogLine)
      → live_logs floor lines ≡ drop (gone_count lines) lines
  left_dropped lines =
      let cut = raise_cuts lines in
      let long : gone_count lines ≡ length cut.front =
      ap length cut.files ∙ length-map cut.front file_in in
      sym (ap (λ (n : ℕ). drop n lines) long
      ∙ ap (drop (length cut.front)) cut.parted
      ∙ drop-append_seam cut.front (live_logs floor lines))

  -- the newest is none of them
  pub gone_few : (lines : List LogLine) → 0 < length lines → gone_count lines < length lines
  gone_few lines some =
      let cut = raise_cuts lines in
      let all = ap length cut.parted ∙ length-append cut.front (live_logs floor lines) in
      let left = some_left lines some in
      let gone = ap length cut.files ∙ length-map cut.front file_in in
      omega (arith, all, left, gone)

  -- each file that is given up is that of a log
  pub gone_named : (lines : List LogLine) (file : ℕ) → Contains (obsolete_logs floor lines) file
      → (line : LogLine) × Contains lines line × (line.file ≡ file)
  gone_named lines file has =
      let cut = raise_cuts lines in
      let found = map_contains file_in cut.front file
      (subst (λ (l : List ℕ). Contains l file) cut.files has) in (
        found.0,
        subst (λ (l : List LogLine). Contains l found.0) (sym cut.parted)
            (Contains-append_left cut.front (live_logs floor lines) found.0 found.1),
        found.2,
      )
