-- What a manifest names, and how an edit changes it.
use Rattle.std.specs.Prelude.{◌≡◌, ℕ, ◌<◌, ◌≤◌, List, [], ◌∷◌, ◌++◌, length, map, All, Bool, true}
use Rattle.std.specs.Prelude.{false}
use Rattle.std.specs.Prelude.{Option, Some, None, not, ◌&&◌, ◌||◌, nat_le, nat_lt, ◌==◌}
use Rattle.std.specs.Prelude.{if◌then◌else◌, IsTrue}
use Rattle.std.specs.List.{fold, filter, list_all, list_any}
use Rattle.std.specs.Ordering.{is_lt}
use Rattle.byte_fields.specs.{stored_cmp}
use Rattle.kv_types.specs.{is_part}
use Rattle.version_edits.specs.declared.line.TheConstants.{MAX_LINES}
use Rattle.version_edits.specs.declared.line.LogLine.{LogLine}
use Rattle.version_edits.specs.declared.line.TableName.{TableName}
use Rattle.version_edits.specs.declared.line.TableLine.{TableLine}

-- a version: its numbers, the ids of its configuration, its logs in order of their first numbers,
-- and its tables, level by level
pub record StoreVersion : Type 0 where
  pub next_file : ℕ
  pub floor : ℕ
  pub flushed : ℕ
  pub epoch : ℕ
  pub ids : List ℕ
  pub logs : List LogLine
  pub tables : List TableLine

-- a version and the node that it is of
pub record NodeVersion : Type 0 where
  pub id : ℕ
  pub version : StoreVersion

-- new numbers and ids, and what is given up and what is added
pub record Change : Type 0 where
  pub next_file : ℕ
  pub floor : ℕ
  pub flushed : ℕ
  pub epoch : ℕ
  pub ids : List ℕ
  pub logs_gone : List ℕ
  pub logs_added : List LogLine
  pub tables_gone : List TableName
  pub tables_added : List TableLine

-- the version that the first edit changes
abbrev pub empty : StoreVersion
empty = record {
  next_file = 0;
  floor = 0;
  flushed = 0;
  epoch = 0;
  ids = [];
  logs = [];
  tables = [];
}

-- ---- what an edit makes of a version

-- one more element, before the first that it precedes
abbrev pub placed : {A : Type 0} → (A → A → Bool) → List A → A → List A
placed before [] x = x ∷ []
placed before (y ∷ ys) x = if before x y then x ∷ y ∷ ys else y ∷ placed before ys x

-- no later element precedes an earlier one
abbrev pub AreInOrder : {A : Type 0} → (A → A → Bool) → List A → Type 0
AreInOrder before [] = Unit {0}
AreInOrder before (x ∷ xs) = All (λ y. before y x ≡ false) xs × AreInOrder before xs

-- a log precedes those with greater first numbers
abbrev pub log_is_before : LogLine → LogLine → Bool
log_is_before a b = nat_lt a.first b.first

-- the logs and one more, at its place
abbrev pub with_log : List LogLine → LogLine → List LogLine
with_log logs line = placed log_is_before logs line

-- tables stand by level, in level 0 by file, and in a deeper one by key
abbrev pub table_is_before : TableLine → TableLine → Bool
table_is_before a b = nat_lt a.level b.level || (a.level == b.level &&
    (if a.level == 0 then nat_lt a.file b.file else is_lt (stored_cmp a.least b.least)))

-- the tables and one more, at its place
abbrev pub with_table : List TableLine → TableLine → List TableLine
with_table tables line = placed table_is_before tables line

-- the logs that are left when those of these files are given up
abbrev pub logs_left : List ℕ → List LogLine → List LogLine
logs_left gone logs = filter (λ line. not (list_any (λ file. file == line.file) gone)) logs

-- the tables that are left when those of these names are given up
abbrev pub tables_left : List TableName → List TableLine → List TableLine
tables_left gone tables = filter
    (λ line. not (list_any (λ one. one.level == line.level && one.file == line.file) gone)) tables

-- lines are given up first, and then added
abbrev pub changed : StoreVersion → Change → StoreVersion
changed version change = record {
  next_file = change.next_file;
  floor = change.floor;
  flushed = change.flushed;
  epoch = change.epoch;
  ids = change.ids;
  logs = fold with_log (logs_left change.logs_gone version.logs) change.logs_added;
  tables = fold with_table (tables_left change.tables_gone version.tables) change.tables_added;
}

-- a node's version after an edit
abbrev pub node_version_after : NodeVersion → Change → NodeVersion
node_version_after named change = record { id = named.id; version = changed named.version change }

-- ---- which edits a version may take

-- no number stands twice in the list
abbrev pub are_once : List ℕ → Bool
are_once [] = true
are_once (n ∷ ns) = not (list_any (λ other. other == n) ns) && are_once ns

-- a log has this file
abbrev pub names_log : List LogLine → ℕ → Bool
names_log logs file = list_any (λ line. line.file == file) logs

-- a table of this level has this file
abbrev pub names_table : List TableLine → TableName → Bool
names_table tables one = list_any (λ line. line.level == one.level && line.file == one.file) tables

-- a table has this file
abbrev pub names_file : List TableLine → ℕ → Bool
names_file tables file = list_any (λ line. line.file == file) tables

-- the files of logs and tables
abbrev pub files_of : List LogLine → List TableLine → List ℕ
files_of logs tables = map (λ line. line.file) logs ++ map (λ line. line.file) tables

-- The number of a file that is added: from 3 on, below the new next file, and that of no file that
-- the version names. A former version may have named it.
abbrev pub is_new_file : StoreVersion → Change → ℕ → Bool
is_new_file version change file =
    nat_le 3 file && nat_lt file change.next_file && not (names_log version.logs file)
    && not (names_file version.tables file)

-- two ranges of one level below level 0 share no key
abbrev pub are_apart : TableLine → TableLine → Bool
are_apart a b =
    not (a.level == b.level) || a.level == 0 || is_lt (stored_cmp a.greatest b.least)
    || is_lt (stored_cmp b.greatest a.least)

-- each two of the tables
abbrev pub all_apart : List TableLine → Bool
all_apart [] = true
all_apart (line ∷ lines) = list_all (λ other. are_apart line other) lines && all_apart lines

-- the ids are the old ones with some left out, or the first
abbrev pub keeps_ids : List ℕ → List ℕ → Bool
keeps_ids [] ids = true
keeps_ids (id ∷ old) ids = is_part ids (id ∷ old)

-- no number falls
pub record NumbersRise (version : StoreVersion) (change : Change) : Type 0 where
  pub next_file : version.next_file ≤ change.next_file
  pub floor : version.floor ≤ change.floor
  pub flushed : version.flushed ≤ change.flushed
  pub epoch : version.epoch ≤ change.epoch

-- what is given up is there, and given up once
pub record IsThere (version : StoreVersion) (change : Change) : Type 0 where
  pub logs : IsTrue (list_all (λ file. names_log version.logs file) change.logs_gone)
  pub logs_once : IsTrue (are_once change.logs_gone)
  pub tables : IsTrue (list_all (λ one. names_table version.tables one) change.tables_gone)
  pub tables_once : IsTrue (are_once (map (λ one. one.file) change.tables_gone))

-- what is added is new
pub record IsNew (version : StoreVersion) (change : Change) : Type 0 where
  pub logs : IsTrue (list_all (λ line. is_new_file version change line.file) change.logs_added)
  pub tables : IsTrue (list_all (λ line. is_new_file version change line.file) change.tables_added)

-- some logs, few lines, no file twice, and ranges apart
pub record AreLawful (logs : List LogLine) (tables : List TableLine) : Type 0 where
  pub some : 0 < length logs
  pub few_logs : length logs ≤ MAX_LINES
  pub few_tables : length tables ≤ MAX_LINES
  pub files_once : IsTrue (are_once (files_of logs tables))
  pub apart : IsTrue (all_apart tables)

-- the version may take the edit
pub record IsFit (version : StoreVersion) (change : Change) : Type 0 where
  pub numbers : NumbersRise version change
  pub ids : IsTrue (keeps_ids version.ids change.ids)
  pub there : IsThere version change
  pub new : IsNew version change
  pub lawful : AreLawful (changed version change).logs (changed version change).tables

-- the version before each edit may take it
abbrev pub AreFit : StoreVersion → List Change → Type 0
AreFit version [] = Unit {0}
AreFit version (first ∷ others) = IsFit version first × AreFit (changed version first) others

-- the version after all of them
abbrev pub after_all : StoreVersion → List Change → StoreVersion
after_all version [] = version
after_all version (first ∷ others) = after_all (changed version first) others

-- the version of a new node: one log, and nothing in it
abbrev pub first_version : ℕ → List ℕ → NodeVersion
first_version id ids = record {
  id = id;
  version = record {
    next_file = 4;
    floor = 0;
    flushed = 0;
    epoch = 0;
    ids = ids;
    logs = record { file = 3; first = 1 } ∷ [];
    tables = [];
  };
}

-- the version that some edits gave, or the empty one before the first
abbrev pub version_in : Option NodeVersion → StoreVersion
version_in None = empty
version_in (Some named) = named.version
