-- What open files hold does not depend on files that their version does not name.
use Rattle.std.proofs.Common.{◌≡◌, ℕ, suc, List, arith, drop, refl, ap, subst, sym}
use Rattle.std.specs.Prelude.{Contains, IsNone}
use Rattle.std.proofs.lemmas.List.Elements.{All-contains, All-contains_itself, All-weaker}
use Rattle.kv_types.specs.{BatchContent}
use Rattle.disk.specs.{Contents, DurableFileIsLeft, IsDurable, Slot, State, contents, seen}
use Rattle.manifest.specs.declared.LogLine.{LogLine}
use Rattle.manifest.specs.declared.TableLine.{TableLine}
use Rattle.manifest.specs.{HeldVersionIsLeft, HeldVersionStays, StoreVersion}
use Rattle.store_files.specs.declared.store_files.StoreFiles.{StoreFiles}
use Rattle.store_files.specs.BesideFiles.{HasSameNamed, IsNamedLeft, OtherFilesAreFree, with_free}
use Rattle.store_files.specs.OpenFiles.{FilesAreRead, FilesHold, WereMeantToHold, known_facts}
use Rattle.store_files.specs.OpenFiles.{known_version, trimmed_count}
use Rattle.store_files.specs.StoreFiles.{WereMeant}
use Rattle.store_files.proofs.KeptNames.{log_is_kept, slot_is_kept, table_is_kept}
use Rattle.store_files.proofs.KeptFiles.{named_logs_in, read_is_left, served_in}
use Rattle.store_files.proofs.Meant.{as_meant_stays}
use Rattle.store_files.proofs.MeantFiles.{follows, named_were_left, tables_of_meant, unnamed_beside}
use Rattle.store_files.proofs.MeantOpenings.{mended, mended_at, mended_beside}
use Rattle.store_files.proofs.MeantTends.{manifest_holds, named_of}
use Rattle.store_files.proofs.NamedFiles.{tables_same}

module _ (stays : HeldVersionStays) (old new : State) (files : StoreFiles) (free : ℕ)
    (list : List BatchContent) (same : HasSameNamed files free old new) where
  abbrev version : StoreVersion
  version = (known_version files).version

  -- the named logs and tables stay
  log_same : (line : LogLine) → Contains version.logs line → new line.file ≡ old line.file
  log_same line has = same.named line.file (log_is_kept version line has)

  table_same : (line : TableLine) → Contains version.tables line → new line.file ≡ old line.file
  table_same line has = same.named line.file (table_is_kept version line has)

  -- so the open files know what they knew, with the other first free file
  abbrev read_with : FilesAreRead old files list → FilesAreRead new (with_free files free) list
  read_with r = record {
    usable = record {
      works = r.usable.works;
      version = r.usable.version;
      logs = r.usable.logs;
      lines = r.usable.lines;
      tables = r.usable.tables;
      memtable = r.usable.memtable;
      numbers = r.usable.numbers;
      free = same.above;
      free_few = same.few;
    };
    manifest = stays old new files.manifest (known_version files) r.manifest
        (λ slot is. same.named slot (slot_is_kept version slot is));
    logs = named_logs_in old new files.logs (suc (trimmed_count files))
        (drop (trimmed_count files) list) (λ line has. log_same line
        (subst (λ (lines : List LogLine). Contains lines line) r.usable.lines has)) r.logs;
    tables = r.tables;
    read = tables_same (contents old) (contents new) version.tables r.tables
        (λ line has. ap seen (table_same line has)) r.read;
    served = served_in old new version.tables files.tables.tables.items r.tables table_same r.read
        r.served;
    durable = All-weaker (Contains version.tables) (λ (line : TableLine). IsDurable (new line.file))
        (λ line has. subst IsDurable (sym (table_same line has))
        (All-contains (λ (one : TableLine). IsDurable (old one.file)) version.tables line r.durable
        has)) version.tables (All-contains_itself version.tables);
    store = r.store;
    entries = r.entries;
    count = r.count;
    each = r.each;
  }

  -- and hold it
  abbrev hold_with : FilesHold old files list → FilesHold new (with_free files free) list
  hold_with was = record { known = read_with was.known; unused = same.unused }

module _ (stays : HeldVersionStays) (old new : State) (files : StoreFiles) (free : ℕ)
    (list : List BatchContent) (w : WereMeantToHold old files list)
    (same : HasSameNamed files free old new) where
  abbrev own_version : StoreVersion
  own_version = (known_version files).version

  -- the second disk, with the tables as they were meant
  abbrev later : State
  later = mended own_version.tables w.meant new

  -- the named files stay as they were meant
  same_meant : HasSameNamed files free w.meant later
  same_meant = record {
    named = λ file is. follows old w.meant own_version.tables
        (tables_of_meant old w.meant own_version files.tables w.disk_is) new file
        (same.named file is);
    unused = λ file above. subst (λ (s : Slot). IsNone (seen s))
        (sym (mended_beside own_version.tables w.meant new file
        (unnamed_beside own_version w.hold.known.usable.version file
        (let least = same.above in omega (arith, least, above))))) (same.unused file above);
    above = same.above;
    few = same.few;
  }

  -- so the open files were meant to hold what they were
  abbrev meant_with_free : WereMeantToHold new (with_free files free) list
  meant_with_free = record {
    meant = later;
    hold = hold_with stays w.meant later files free list same_meant w.hold;
    disk_is = as_meant_stays old new w.meant later own_version files.tables w.hold.known.tables
        w.hold.known.read w.hold.known.served
        (λ line has. same.named line.file (table_is_kept own_version line has))
        (λ line has. mended_at own_version.tables w.meant new line has)
        (λ file beside. sym (mended_beside own_version.tables w.meant new file beside)) w.disk_is;
  }

-- what a crash left of the named files was meant to represent the list
meant_is_left : HeldVersionIsLeft → HeldVersionStays → DurableFileIsLeft → (disk : State)
    (files : StoreFiles) (list : List BatchContent) (left : Contents)
    → WereMeantToHold disk files list → IsNamedLeft files disk left
    → WereMeant (known_facts files) list left
meant_is_left held stays law disk files list left w leaves =
    let known = known_version files in
    let version = known.version in
    let hold = w.hold.known in
    named_were_left disk w.meant version hold.usable.version files.logs (trimmed_count files)
    hold.tables list (named_of w.meant files list hold)
    (tables_of_meant disk w.meant version files.tables w.disk_is) law known.id left
    (held disk files.manifest known left (manifest_holds disk files list w stays)
    (λ slot is. leaves slot (slot_is_kept version slot is)))
    (λ line has. leaves line.file (log_is_kept version line has))
    (λ line has. leaves line.file (table_is_kept version line has))

pub others_are_free : HeldVersionIsLeft → HeldVersionStays → DurableFileIsLeft → OtherFilesAreFree
others_are_free held stays law = record {
  held = λ old new files free list was same.
      (hold_with stays old new files free list same was, refl);
  left = λ disk files list left h leaves.
      read_is_left disk files list h.known held law left leaves;
  meant = λ old new files free list was same.
      (meant_with_free stays old new files free list was same, refl);
  meant_left = meant_is_left held stays law;
}
