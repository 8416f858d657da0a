-- A version may take the edit of a flush.
use Rattle.std.proofs.Common.{◌≡◌, ℕ, suc, ◌+◌, ◌<◌, ◌≤◌, List, [], ◌∷◌, ◌++◌, length, map, All}
use Rattle.std.proofs.Common.{Bool, true, false, arith, refl, sym, ap, subst, ◌∙◌, inl, inr}
use Rattle.std.proofs.Common.{append_assoc}
use Rattle.std.specs.Prelude.{not, ◌&&◌, ◌||◌, ◌==◌}
use Rattle.std.specs.List.{list_all, list_any}
use Rattle.std.proofs.lemmas.Bool.{and_from, and_parts, le-leb, lt-ltb, ne_eqb}
use Rattle.std.proofs.lemmas.List.{length-append, map-append}
use Rattle.std.proofs.lemmas.List.Elements.{All-append, All-cons, All-head, All-map, All-nil}
use Rattle.std.proofs.lemmas.List.Elements.{All-tail, All-weaker}
use Rattle.std.proofs.lemmas.List.Folds.{list_all-append, list_any-append, list_any_none}
use Rattle.kv_types.specs.declared.bounds.TheConstants.{MAX_NUMBER}
use Rattle.kv_types.specs.{is_part}
use Rattle.version_edits.specs.declared.line.TheConstants.{MAX_LINES, MAX_NEXT}
use Rattle.manifest.specs.declared.LogLine.{LogLine}
use Rattle.manifest.specs.declared.TableLine.{TableLine}
use Rattle.manifest.specs.Lawful.{IsAllocated, IsVersion}
use Rattle.manifest.specs.Versions.{all_apart, are_apart, are_once, files_of, is_new_file}
use Rattle.manifest.specs.Versions.{keeps_ids, AreLawful, log_is_before, placed, table_is_before}
use Rattle.manifest.specs.Versions.{with_log, with_table}
use Rattle.manifest.specs.VersionsLemmas.{all_logs_left, all_tables_left}
use Rattle.manifest.specs.{IsChange, IsFit, IsLogLine, IsTableLine, StoreVersion, changed}
use Rattle.store_files.specs.StoreFiles.{begun_log, flush_change}
use Rattle.store_tables.specs.TableWriting.{IsNewLine}
use Rattle.store_files.specs.Tending.{LacksPlace}
use Rattle.store_files.proofs.KeptNames.{some_is_given}
use Rattle.store_files.proofs.Records.{either}

-- ---- where one more stands

-- an element that was placed stands between two parts
record IsBetween {A : Type 0} (xs : List A) (x : A) (after : List A) : Type 0 where
  front : List A
  back : List A
  parted : xs ≡ front ++ back
  is : after ≡ front ++ x ∷ back

placed_between : {A : Type 0} (before : A → A → Bool) (xs : List A) (x : A)
    → IsBetween xs x (placed before xs x)
placed_between before [] x = record { front = []; back = []; parted = refl; is = refl }
placed_between {A} before (y ∷ ys) x = elim (either (before x y)) [
  | inl first ↦ rw first (record { front = []; back = y ∷ ys; parted = refl; is = refl })
  | inr later ↦
      let more = placed_between before ys x in
      rw later (record {
        front = y ∷ more.front;
        back = more.back;
        parted = ap (λ (l : List A). y ∷ l) more.parted;
        is = ap (λ (l : List A). y ∷ l) more.is;
      })
]

between_long : {A : Type 0} (xs : List A) (x : A) (after : List A) → IsBetween xs x after
    → length after ≡ suc (length xs)
between_long xs x after it =
    let all = ap length it.is ∙ length-append it.front (x ∷ it.back) in
    let old = ap length it.parted ∙ length-append it.front it.back in
    omega (arith, all, old)

-- ---- numbers that stand once

-- a number above all others is none of them
none_is : (n : ℕ) (ns : List ℕ) → All (λ m. m < n) ns → list_any (λ m. m == n) ns ≡ false
none_is n ns all =
    list_any_none (λ m. m == n) ns (All-weaker (λ m. m < n) (λ m. (m == n) ≡ false)
    (λ m lt. ne_eqb m n (λ same. omega (arith, same, lt))) ns all)

-- with such a number more, they still stand once
once_more : (xs ys : List ℕ) (n : ℕ) → All (λ m. m < n) (xs ++ ys)
    → are_once (xs ++ ys) ≡ true → are_once (xs ++ n ∷ ys) ≡ true
once_more [] ys n less once = rw (none_is n ys less, once) refl
once_more (x ∷ xs) ys n less once =
    let parts = and_parts (not (list_any (λ m. m == x) (xs ++ ys))) (are_once (xs ++ ys)) once in
    let lt = All-head (λ m. m < n) x (xs ++ ys) less in
    let apart : (n == x) ≡ false = ne_eqb n x (λ same. omega (arith, same, lt)) in
    let same : list_any (λ m. m == x) (xs ++ n ∷ ys) ≡ list_any (λ m. m == x) (xs ++ ys) =
    list_any-append (λ m. m == x) xs (n ∷ ys)
    ∙ ap (λ (b : Bool). list_any (λ m. m == x) xs || (b || list_any (λ m. m == x) ys)) apart
    ∙ sym (list_any-append (λ m. m == x) xs ys) in
    and_from (not (list_any (λ m. m == x) (xs ++ n ∷ ys))) (are_once (xs ++ n ∷ ys))
    (ap (λ (b : Bool). not b) same ∙ parts.0)
    (once_more xs ys n (All-tail (λ m. m < n) x (xs ++ ys) less) parts.1)

all_more : (P : ℕ → Type 0) (xs ys : List ℕ) (n : ℕ) → All P (xs ++ ys) → P n
    → All P (xs ++ n ∷ ys)
all_more P [] ys n all is = All-cons P n ys is all
all_more P (x ∷ xs) ys n all is =
    All-cons P x (xs ++ n ∷ ys) (All-head P x (xs ++ ys) all)
    (all_more P xs ys n (All-tail P x (xs ++ ys) all) is)

-- and so with a second one, in another part
once_two : (ws bs cs ds : List ℕ) (n : ℕ) → All (λ m. m < n) ((ws ++ bs) ++ (cs ++ ds))
    → are_once ((ws ++ bs) ++ (cs ++ ds)) ≡ true
    → are_once ((ws ++ suc n ∷ bs) ++ (cs ++ n ∷ ds)) ≡ true
once_two ws bs cs ds n less once =
    let grouped : (ws ++ bs) ++ (cs ++ ds) ≡ ((ws ++ bs) ++ cs) ++ ds =
    sym (append_assoc (ws ++ bs) cs ds) in
    let all = subst (All (λ m. m < n)) grouped less in
    let parted : ((ws ++ bs) ++ cs) ++ n ∷ ds ≡ ws ++ (bs ++ (cs ++ n ∷ ds)) =
    append_assoc (ws ++ bs) cs (n ∷ ds) ∙ append_assoc ws bs (cs ++ n ∷ ds) in
    let one = subst (λ (l : List ℕ). are_once l ≡ true) parted
    (once_more ((ws ++ bs) ++ cs) ds n all
    (subst (λ (l : List ℕ). are_once l ≡ true) grouped once)) in
    let less' = subst (All (λ m. m < suc n)) parted
    (all_more (λ m. m < suc n) ((ws ++ bs) ++ cs) ds n
    (All-weaker (λ m. m < n) (λ m. m < suc n) (λ m lt. omega (arith, lt)) _ all) (omega arith)) in
    subst (λ (l : List ℕ). are_once l ≡ true) (sym (append_assoc ws (suc n ∷ bs) (cs ++ n ∷ ds)))
    (once_more ws (bs ++ (cs ++ n ∷ ds)) (suc n) less' one)

-- ---- ranges apart

-- a line of level 0 is apart from every other
module _ (line : TableLine) (level : line.level ≡ 0) where
  apart_before : (others : List TableLine) → list_all (λ other. are_apart line other) others ≡ true
  apart_before [] = refl
  apart_before (other ∷ others) =
      elim (either (line.level == other.level)) [
        | inl same ↦ rw (same, level, apart_before others) refl
        | inr deeper ↦ rw (deeper, apart_before others) refl
      ]

  apart_behind : (other : TableLine) → are_apart other line ≡ true
  apart_behind other = rw level (elim (either (other.level == 0)) [
    | inl same ↦ rw same refl
    | inr deeper ↦ rw deeper refl
  ])

  apart_more : (front back : List TableLine) → all_apart (front ++ back) ≡ true
      → all_apart (front ++ line ∷ back) ≡ true
  apart_more [] back apart = rw (apart_before back, apart) refl
  apart_more (one ∷ front) back apart =
      let each = list_all (λ other. are_apart one other) in
      let parts = and_parts (each (front ++ back)) (all_apart (front ++ back)) apart in
      let same : each (front ++ line ∷ back) ≡ each (front ++ back) =
      list_all-append (λ other. are_apart one other) front (line ∷ back)
      ∙ ap (λ (b : Bool). each front && (b && each back)) (apart_behind one)
      ∙ sym (list_all-append (λ other. are_apart one other) front back) in
      and_from (each (front ++ line ∷ back)) (all_apart (front ++ line ∷ back))
      (same ∙ parts.0) (apart_more front back parts.1)

-- ---- the edit

same_part : (ids : List ℕ) → is_part ids ids ≡ true
same_part [] = refl
same_part (x ∷ ids) = let rest = same_part ids in grind arith

pub same_ids : (ids : List ℕ) → keeps_ids ids ids ≡ true
same_ids [] = refl
same_ids (x ∷ ids) = same_part (x ∷ ids)

module _ (version : StoreVersion) (is : IsVersion version) (free : ℕ)
    (above : version.next_file ≤ free) (count : ℕ) (line : TableLine)
    (place : LacksPlace version free → ⊥) (few : count ≤ MAX_NUMBER)
    (rises : version.flushed ≤ count) (next : IsNewLine free line) where
  abbrev begun : LogLine
  begun = begun_log free count

  abbrev after : StoreVersion
  after = changed version (flush_change version free count line)

  few_tables : length version.tables < MAX_LINES
  few_tables =
      let no : (MAX_LINES ≤ length version.tables) → ⊥ = λ le. place (inl (inl le)) in
      omega (arith, no)

  few_logs : length version.logs < MAX_LINES
  few_logs =
      let no : (MAX_LINES ≤ length version.logs) → ⊥ = λ le. place (inl (inr le)) in
      omega (arith, no)

  free_few : free + 2 ≤ MAX_NEXT
  free_few =
      let no : (MAX_NEXT < free + 2) → ⊥ = λ lt. place (inr lt) in
      omega (arith, no)

  free_least : 3 < free
  free_least =
      let least = some_is_given version is version.logs is.lawful.some is.lines.log_files in
      omega (arith, least, above)

  log_files : All (λ (l : LogLine). l.file < free) version.logs
  log_files = All-weaker (λ (l : LogLine). IsAllocated version l.file)
      (λ (l : LogLine). l.file < free) (λ l given. omega (arith, given.1, above)) version.logs
      is.lines.log_files

  table_files : All (λ (l : TableLine). l.file < free) version.tables
  table_files = All-weaker (λ (l : TableLine). IsAllocated version l.file)
      (λ (l : TableLine). l.file < free) (λ l given. omega (arith, given.1, above)) version.tables
      is.lines.table_files

  -- a number from the free one on is new
  new_file : (file : ℕ) → free ≤ file → file < free + 2
      → is_new_file version (flush_change version free count line) file ≡ true
  new_file file low high =
      let least = free_least in
      let no_log = list_any_none (λ (l : LogLine). l.file == file) version.logs
      (All-weaker (λ (l : LogLine). l.file < free)
      (λ (l : LogLine). (l.file == file) ≡ false)
      (λ l lt. ne_eqb l.file file (λ same. omega (arith, same, lt, low))) version.logs
      log_files) in
      let no_table = list_any_none (λ (l : TableLine). l.file == file) version.tables
      (All-weaker (λ (l : TableLine). l.file < free)
      (λ (l : TableLine). (l.file == file) ≡ false)
      (λ l lt. ne_eqb l.file file (λ same. omega (arith, same, lt, low))) version.tables
      table_files) in
      rw (
        le-leb 3 file (omega (arith, least, low)),
        lt-ltb file (free + 2) high,
        no_log,
        no_table,
      ) refl

  logs_between : IsBetween version.logs begun after.logs
  logs_between = subst (λ (l : List LogLine). IsBetween version.logs begun (with_log l begun))
      (sym (all_logs_left version.logs)) (placed_between log_is_before version.logs begun)

  tables_between : IsBetween version.tables line after.tables
  tables_between =
      subst (λ (l : List TableLine). IsBetween version.tables line (with_table l line))
      (sym (all_tables_left version.tables))
      (placed_between table_is_before version.tables line)

  abbrev log_file : LogLine → ℕ
  log_file l = l.file

  abbrev table_file : TableLine → ℕ
  table_file l = l.file

  files_once : are_once (files_of after.logs after.tables) ≡ true
  files_once =
      let l = logs_between in
      let t = tables_between in
      let were : files_of version.logs version.tables
      ≡ (map log_file l.front ++ map log_file l.back)
      ++ (map table_file t.front ++ map table_file t.back) =
      ap (λ (x : List LogLine). files_of x version.tables) l.parted
      ∙ ap (λ (x : List TableLine). files_of (l.front ++ l.back) x) t.parted
      ∙ ap (λ (x : List ℕ). x ++ map table_file (t.front ++ t.back))
      (map-append log_file l.front l.back)
      ∙ ap (λ (x : List ℕ). (map log_file l.front ++ map log_file l.back) ++ x)
      (map-append table_file t.front t.back) in
      let are : files_of after.logs after.tables
      ≡ (map log_file l.front ++ begun.file ∷ map log_file l.back)
      ++ (map table_file t.front ++ line.file ∷ map table_file t.back) =
      ap (λ (x : List LogLine). files_of x after.tables) l.is
      ∙ ap (λ (x : List TableLine). files_of (l.front ++ begun ∷ l.back) x) t.is
      ∙ ap (λ (x : List ℕ). x ++ map table_file (t.front ++ line ∷ t.back))
      (map-append log_file l.front (begun ∷ l.back))
      ∙ ap (λ (x : List ℕ). (map log_file l.front ++ begun.file ∷ map log_file l.back) ++ x)
      (map-append table_file t.front (line ∷ t.back)) in
      let less : All (λ m. m < free) (files_of version.logs version.tables) =
      All-append (λ m. m < free) (map log_file version.logs)
      (map table_file version.tables)
      (All-map (λ m. m < free) log_file version.logs log_files)
      (All-map (λ m. m < free) table_file version.tables table_files) in
      let new : begun.file ≡ suc free = omega arith in
      let two = once_two (map log_file l.front) (map log_file l.back) (map table_file t.front)
      (map table_file t.back) free (subst (All (λ m. m < free)) were less)
      (subst (λ (x : List ℕ). are_once x ≡ true) were is.lawful.files_once) in
      let log_is = subst (λ (n : ℕ). are_once ((map log_file l.front ++ n ∷ map log_file l.back)
      ++ (map table_file t.front ++ free ∷ map table_file t.back)) ≡ true)
      (sym new) two in
      subst (λ (x : List ℕ). are_once x ≡ true) (sym are)
      (subst (λ (n : ℕ). are_once ((map log_file l.front ++ begun.file ∷ map log_file l.back)
      ++ (map table_file t.front ++ n ∷ map table_file t.back)) ≡ true) (sym next.file) log_is)

  flush_lawful : AreLawful after.logs after.tables
  flush_lawful =
      let logs = between_long version.logs begun after.logs logs_between in
      let tables = between_long version.tables line after.tables tables_between in
      let t = tables_between in
      record {
        some = omega (arith, logs);
        few_logs = omega (arith, logs, few_logs);
        few_tables = omega (arith, tables, few_tables);
        files_once = files_once;
        apart = subst (λ (x : List TableLine). all_apart x ≡ true) (sym t.is)
            (apart_more line next.level t.front t.back
            (subst (λ (x : List TableLine). all_apart x ≡ true) t.parted is.lawful.apart));
      }

  pub flush_fit : IsFit version (flush_change version free count line)
  flush_fit = record {
    numbers = record {
      next_file = omega (arith, above);
      floor = omega arith;
      flushed = rises;
      epoch = omega arith;
    };
    ids = same_ids version.ids;
    there = record { logs = refl; logs_once = refl; tables = refl; tables_once = refl };
    new = record {
      logs = rw (new_file (free + 1) (omega arith) (omega arith)) refl;
      tables = rw (new_file line.file (omega (arith, next.file)) (omega (arith, next.file))) refl;
    };
    lawful = flush_lawful;
  }

  pub flush_change_is : IsChange (flush_change version free count line)
  flush_change_is = record {
    next_file = free_few;
    floor = is.floor;
    flushed = few;
    epoch = is.epoch;
    ids = is.ids;
    logs_gone = (omega arith, All-nil _);
    logs_added = (
      omega arith,
      All-cons IsLogLine begun []
          (omega (arith, free_few), (omega arith, omega (arith, few))) (All-nil IsLogLine),
    );
    tables_gone = (omega arith, All-nil _);
    tables_added = (omega arith, All-cons IsTableLine line [] next.proper (All-nil IsTableLine));
  }
