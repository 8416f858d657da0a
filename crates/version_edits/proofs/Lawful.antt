-- Each edit that may be taken keeps what holds of versions, and one edit gives each of them whole.
use Rattle.std.proofs.Common.{◌≡◌, ◌≢◌, ℕ, ◌≤◌, List, [], ◌∷◌, All, refl}
use Rattle.std.proofs.Common.{sym, ap, subst, ◌∙◌, arith}
use Rattle.std.specs.List.{fold}
use Rattle.std.proofs.lemmas.List.Elements.{All-cons, All-nil, All-head, All-tail, All-filter}
use Rattle.std.proofs.lemmas.List.Elements.{All-weaker}
use Rattle.kv_types.specs.declared.bounds.TheConstants.{MAX_NUMBER}
use Rattle.version_edits.specs.declared.line.LogLine.{LogLine}
use Rattle.version_edits.specs.declared.line.TableName.{TableName}
use Rattle.version_edits.specs.declared.line.TableLine.{TableLine}
use Rattle.version_edits.specs.Versions.{StoreVersion, NodeVersion, Change, empty, changed, IsFit}
use Rattle.version_edits.specs.Versions.{AreFit, after_all}
use Rattle.version_edits.specs.Versions.{logs_left, tables_left}
use Rattle.version_edits.specs.Versions.{log_is_before, table_is_before, placed}
use Rattle.version_edits.specs.Versions.{is_new_file, names_file, names_log, version_in}
use Rattle.std.specs.Prelude.{MatchOption}
use Rattle.std.specs.Global.{Vec}
use Rattle.std.proofs.Common.{Option, Some}
use Rattle.std.proofs.Common.{Bool, true, false, not, ◌&&◌, nat_le, nat_lt}
use Rattle.std.specs.List.{list_all}
use Rattle.std.proofs.lemmas.Bool.{leb-true, le-leb, ltb-true, lt-ltb}
use Rattle.version_edits.specs.Edits.{IsChange, IsLogLine, IsTableLine, change_text}
use Rattle.version_edits.specs.Lawful.{IsAllocated, AreLines, IsVersion, IsFullEdit, full_change}
use Rattle.version_edits.proofs.Placed.{fold_all, fold_order, fold_same, filter_order}
use Rattle.version_edits.proofs.Placed.{logs_are_ordered, tables_are_ordered}

-- ---- edits keep it

both_true : (a b : Bool) → (a && b) ≡ true → (a ≡ true) × (b ≡ true)
both_true true b e = (refl, e)
both_true false b e = absurd cc

pub empty_lines : AreLines empty
empty_lines = record {
  logs = All-nil IsLogLine;
  tables = All-nil IsTableLine;
  log_files = All-nil (λ (line : LogLine). IsAllocated empty line.file);
  table_files = All-nil (λ (line : TableLine). IsAllocated empty line.file);
  logs_in_order = tt;
  tables_in_order = tt;
}

module _ (v : StoreVersion) (c : Change) (lines : AreLines v) (fit : IsFit v c)
    (is : IsChange c) where
  abbrev new : StoreVersion
  new = changed v c

  still_given : (file : ℕ) → IsAllocated v file → IsAllocated new file
  still_given file given = (given.0, omega (arith, given.1, fit.numbers.next_file))

  given : (file : ℕ) → is_new_file v c file ≡ true → IsAllocated new file
  given file t =
      let p = both_true (nat_le 3 file && nat_lt file c.next_file && not (names_log v.logs file))
      (not (names_file v.tables file)) t in
      let q = both_true (nat_le 3 file && nat_lt file c.next_file) (not (names_log v.logs file))
      p.0 in
      let r = both_true (nat_le 3 file) (nat_lt file c.next_file) q.0 in
      (leb-true 3 file r.0, ltb-true file c.next_file r.1)

  given_all : {A : Type 0} (file_of : A → ℕ) (lines : List A)
      → list_all (λ line. is_new_file v c (file_of line)) lines ≡ true
      → All (λ line. IsAllocated new (file_of line)) lines
  given_all file_of [] t = All-nil (λ line. IsAllocated new (file_of line))
  given_all file_of (line ∷ lines) t =
      let p = both_true (is_new_file v c (file_of line))
      (list_all (λ line. is_new_file v c (file_of line)) lines) t in
      All-cons (λ line. IsAllocated new (file_of line)) line lines (given (file_of line) p.0)
      (given_all file_of lines p.1)

  pub lines_kept : AreLines new
  lines_kept = record {
    logs = fold_all IsLogLine log_is_before (logs_left c.logs_gone v.logs) c.logs_added
        (All-filter _ IsLogLine v.logs lines.logs) is.logs_added.1;
    tables = fold_all IsTableLine table_is_before
        (tables_left c.tables_gone v.tables) c.tables_added
        (All-filter _ IsTableLine v.tables lines.tables) is.tables_added.1;
    log_files = fold_all (λ (line : LogLine). IsAllocated new line.file) log_is_before
        (logs_left c.logs_gone v.logs) c.logs_added
        (All-filter _ (λ (line : LogLine). IsAllocated new line.file) v.logs
        (All-weaker (λ (line : LogLine). IsAllocated v line.file)
        (λ (line : LogLine). IsAllocated new line.file)
        (λ line given. still_given line.file given) v.logs lines.log_files))
        (given_all (λ (line : LogLine). line.file) c.logs_added fit.new.logs);
    table_files = fold_all (λ (line : TableLine). IsAllocated new line.file) table_is_before
        (tables_left c.tables_gone v.tables) c.tables_added
        (All-filter _ (λ (line : TableLine). IsAllocated new line.file) v.tables
        (All-weaker (λ (line : TableLine). IsAllocated v line.file)
        (λ (line : TableLine). IsAllocated new line.file)
        (λ line given. still_given line.file given) v.tables lines.table_files))
        (given_all (λ (line : TableLine). line.file) c.tables_added fit.new.tables);
    logs_in_order = fold_order log_is_before logs_are_ordered (logs_left c.logs_gone v.logs)
        c.logs_added (filter_order log_is_before _ v.logs lines.logs_in_order);
    tables_in_order = fold_order table_is_before tables_are_ordered
        (tables_left c.tables_gone v.tables) c.tables_added
        (filter_order table_is_before _ v.tables lines.tables_in_order);
  }

  pub version_fit : IsVersion new
  version_fit = record {
    next_file = is.next_file;
    floor = is.floor;
    flushed = is.flushed;
    epoch = is.epoch;
    ids = is.ids;
    lines = lines_kept;
    lawful = fit.lawful;
  }

-- what the code makes of a version and an edit
pub version_made : (named view : NodeVersion) (change edit : Change) (ids : List ℕ)
    (logs : List LogLine) (tables : List TableLine) → named ≡ view → change ≡ edit
    → IsVersion view.version → IsFit named.version change → IsChange change → ids ≡ edit.ids
    → logs ≡ (changed view.version edit).logs → tables ≡ (changed view.version edit).tables
    → IsVersion (record {
      next_file = edit.next_file;
      floor = edit.floor;
      flushed = edit.flushed;
      epoch = edit.epoch;
      ids = ids;
      logs = logs;
      tables = tables;
    })
version_made named view change edit ids logs tables seen read is fit right i l t =
    let fit' : IsFit view.version edit =
    subst (λ (n : NodeVersion). IsFit n.version edit) seen
    (subst (λ (c : Change). IsFit named.version c) read fit) in
    let right' : IsChange edit = subst IsChange read right in
    let same : record {
      next_file = edit.next_file;
      floor = edit.floor;
      flushed = edit.flushed;
      epoch = edit.epoch;
      ids = ids;
      logs = logs;
      tables = tables;
    } ≡ changed view.version edit =
    ap (λ (x : List ℕ). made x logs tables) i ∙ ap (λ (x : List LogLine). made edit.ids x tables) l
    ∙ ap (λ (x : List TableLine). made edit.ids (changed view.version edit).logs x) t in
    subst IsVersion (sym same) (version_fit view.version edit is.lines fit' right')
  where
    made : List ℕ → List LogLine → List TableLine → StoreVersion
    made i l t = record {
      next_file = edit.next_file;
      floor = edit.floor;
      flushed = edit.flushed;
      epoch = edit.epoch;
      ids = i;
      logs = l;
      tables = t;
    }

-- an edit's numbers and ids, with these lines
abbrev with_lines : Change → List LogLine → List TableLine → StoreVersion
with_lines c logs tables = record {
  next_file = c.next_file;
  floor = c.floor;
  flushed = c.flushed;
  epoch = c.epoch;
  ids = c.ids;
  logs = logs;
  tables = tables;
}

-- what the code makes of the version so far and an edit that it takes
pub next_made : (old : Option NodeVersion) (change edit : Change) (ids : List ℕ)
    (made : Option (Vec LogLine × Vec TableLine)) (x : Vec LogLine × Vec TableLine)
    → made ≡ Some x → change ≡ edit → ids ≡ edit.ids → AreLines (version_in old) → IsChange change
    → MatchOption made (IsFit (version_in old) change → ⊥) (λ y. IsFit (version_in old) change
    × (y.0.items ≡ (changed (version_in old) change).logs)
    × (y.1.items ≡ (changed (version_in old) change).tables))
    → IsVersion (with_lines (record edit { ids = ids }) x.0.items x.1.items)
next_made old change edit copy made x some read i lines is found =
    let v = version_in old in
    let new = changed v change in
    let fit = subst (λ (o : Option (Vec LogLine × Vec TableLine)).
    MatchOption o (IsFit v change → ⊥) (λ y. IsFit v change × (y.0.items ≡ new.logs)
    × (y.1.items ≡ new.tables))) some found in
    let same : with_lines change x.0.items x.1.items ≡ new =
    ap (λ (l : List LogLine). with_lines change l x.1.items) fit.1
    ∙ ap (λ (t : List TableLine). with_lines change new.logs t) fit.2 in
    let whole : IsVersion (with_lines edit x.0.items x.1.items) =
    subst (λ (c : Change). IsVersion (with_lines c x.0.items x.1.items)) read
    (subst IsVersion (sym same) (version_fit v change lines fit.0 is)) in
    subst (λ (l : List ℕ). IsVersion (with_lines (record edit { ids = l }) x.0.items x.1.items))
    (sym i) whole

-- all of them
pub after_version : (v : StoreVersion) (changes : List Change) → AreLines v → changes ≢ []
    → All IsChange changes → AreFit v changes → IsVersion (after_all v changes)
after_version v [] lines some each fit = absurd (some refl)
after_version v (one ∷ []) lines some each fit =
    version_fit v one lines fit.0 (All-head IsChange one [] each)
after_version v (one ∷ two ∷ others) lines some each fit =
    after_version (changed v one) (two ∷ others)
    (lines_kept v one lines fit.0 (All-head IsChange one (two ∷ others) each))
    (λ e. absurd cc) (All-tail IsChange one (two ∷ others) each) fit.1

-- ---- the whole edit

module _ (v : StoreVersion) (is : IsVersion v) where
  logs_same : fold (placed log_is_before) [] v.logs ≡ v.logs
  logs_same = fold_same log_is_before [] v.logs is.lines.logs_in_order

  tables_same : fold (placed table_is_before) [] v.tables ≡ v.tables
  tables_same = fold_same table_is_before [] v.tables is.lines.tables_in_order

  pub whole_is : changed empty (full_change v) ≡ v
  whole_is =
      ap (λ (logs : List LogLine). record v {
        logs = logs;
        tables = fold (placed table_is_before) [] v.tables;
      }) logs_same
      ∙ ap (λ (tables : List TableLine). record v { tables = tables }) tables_same

  pub whole_change_is : IsChange (full_change v)
  whole_change_is = record {
    next_file = is.next_file;
    floor = is.floor;
    flushed = is.flushed;
    epoch = is.epoch;
    ids = is.ids;
    logs_gone = (omega arith, All-nil (λ (file : ℕ). file ≤ MAX_NUMBER));
    logs_added = (omega (arith, is.lawful.few_logs), is.lines.logs);
    tables_gone = (
      omega arith,
      All-nil (λ (one : TableName).
          (one.level ≤ 6) × (one.file ≤ MAX_NUMBER)),
    );
    tables_added = (omega (arith, is.lawful.few_tables), is.lines.tables);
  }

  new_file : (file : ℕ) → IsAllocated v file → is_new_file empty (full_change v) file ≡ true
  new_file file given = rw (le-leb 3 file given.0, lt-ltb file v.next_file given.1) refl

  new_all : {A : Type 0} (file_of : A → ℕ) (lines : List A)
      → All (λ line. IsAllocated v (file_of line)) lines
      → list_all (λ line. is_new_file empty (full_change v) (file_of line)) lines ≡ true
  new_all file_of [] all = refl
  new_all file_of (line ∷ lines) all =
      rw (
        new_file (file_of line) (All-head (λ line. IsAllocated v (file_of line)) line lines all),
        new_all file_of lines (All-tail (λ line. IsAllocated v (file_of line)) line lines all),
      ) refl

  -- what holds of the version holds of what the edit gives
  gives_version : IsVersion (changed empty (full_change v))
  gives_version = subst IsVersion (sym whole_is) is

  pub whole_fit : IsFit empty (full_change v)
  whole_fit = record {
    numbers = record {
      next_file = omega arith;
      floor = omega arith;
      flushed = omega arith;
      epoch = omega arith;
    };
    ids = refl;
    there = record { logs = refl; logs_once = refl; tables = refl; tables_once = refl };
    new = record {
      logs = new_all (λ (line : LogLine). line.file) v.logs is.lines.log_files;
      tables = new_all (λ (line : TableLine). line.file) v.tables is.lines.table_files;
    };
    lawful = gives_version.lawful;
  }

pub whole_is_whole : (named : NodeVersion) → IsVersion named.version → (bytes : List ℕ)
    → bytes ≡ change_text (full_change named.version) → IsFullEdit named bytes
whole_is_whole named is bytes same = record {
  change = full_change named.version;
  is = whole_change_is named.version is;
  fit = whole_fit named.version is;
  whole = whole_is named.version is;
  spelled = same;
}
