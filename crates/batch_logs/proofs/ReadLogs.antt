-- Logs that are opened one behind another, and the batches that their files have.
use Rattle.std.proofs.Common.{◌≡◌, ◌≢◌, ◌↔◌, ℕ, suc, ◌+◌, ◌<◌, ◌≤◌, List, [], ◌∷◌, ◌++◌, length}
use Rattle.std.proofs.Common.{inl, inr, refl, sym, ap, subst, ◌∙◌, arith, length-append, map}
use Rattle.std.proofs.Common.{drop, drop-cons, take}
use Rattle.std.specs.Prelude.{All, slice_index_or}
use Rattle.std.proofs.lemmas.Bool.{cases_eq}
use Rattle.std.proofs.lemmas.Bool.Decides.{eqb_tells}
use Rattle.std.proofs.lemmas.List.{append_assoc, map-append, take-append-drop, take_more}
use Rattle.std.proofs.lemmas.List.Elements.{All-append, All-cons, All-head, All-nil, All-push}
use Rattle.std.proofs.lemmas.List.Elements.{All-same}
use Rattle.std.proofs.lemmas.List.Elements.{All-tail}
use Rattle.kv_types.specs.declared.bounds.TheConstants.{MAX_NUMBER}
use Rattle.kv_types.specs.{BatchContent, Entry, IsBatch, SpellingsDiffer}
use Rattle.disk.specs.declared.Disk.{Ghosts}
use Rattle.disk.specs.{AddsNoOutcome, Contents, IsFileOutcome, IsStill, KeepsDisk, Slot, State}
use Rattle.disk.specs.{contents, seen}
use Rattle.disk.specs.StillLemmas.{still, still_more}
use Rattle.memtable.specs.declared.Memtable.{Memtable}
use Rattle.memtable.specs.{HasFailedAdd, TableHolds}
use Rattle.record_log.specs.{RecordsAreUnique, count_of, file_of}
use Rattle.store_model.specs.{replayed_entries}
use Rattle.version_edits.specs.declared.line.LogLine.{LogLine}
use Rattle.batch_logs.specs.declared.batch_logs.BatchLog.{BatchLog}
use Rattle.batch_logs.specs.BatchLogs.{AreBeside, AreJoined, AreParted, HasPart, HaveBatches}
use Rattle.batch_logs.specs.BatchLogs.{HoldsPart}
use Rattle.batch_logs.specs.BatchLogs.{IsWorking, end_of_log, line_of}
use Rattle.batch_logs.specs.Layout.{IsLog}
use Rattle.disk.specs.KeepingLemmas.{kept_as, kept_behind, neither, unchanged}
use Rattle.batch_logs.specs.Layout.{records_from}
use Rattle.batch_logs.specs.Replaying.{AreInLine, AreReadLogs, IsOpenedBehind, IsReadLog}
use Rattle.batch_logs.specs.Replaying.{AddsBatches}
use Rattle.batch_logs.specs.Syncs.{AddsNothing, SlotSettles}
use Rattle.batch_logs.specs.Memtables.{IsNumberedTo}
use Rattle.batch_logs.specs.MemtablesLemmas.{none_numbered}
use Rattle.batch_logs.specs.SyncsLemmas.{settles_twice}
use Rattle.batch_logs.proofs.LongerLogs.{kept_beside}
use Rattle.batch_logs.specs.PartsLemmas.{part_ends}
use Rattle.batch_logs.specs.PartsLemmas.{all_before, all_behind}
use Rattle.batch_logs.proofs.JoinedLogs.{joined_push}
use Rattle.batch_logs.specs.PartsLemmas.{parted_in}
use Rattle.batch_logs.specs.PartsLemmas.{parted_push}
use Rattle.batch_logs.proofs.Replays.{none_replayed, replayed_behind, replayed_either}
use Rattle.batch_logs.proofs.Replays.{replayed_front}
use Rattle.batch_logs.specs.PartsLemmas.{same_parts}

-- ---- the files of some lines were synced

-- the line is of another file
abbrev pub IsBeside : ℕ → LogLine → Type 0
IsBeside file line = line.file ≢ file

-- a crash leaves only what it might have left, and the other files are the same
pub record SyncsFiles (lines : List LogLine) (old new : State) : Type 0 where
  pub adds : AddsNothing old new
  pub others : (file : ℕ) → All (IsBeside file) lines → new file ≡ old file

one_adds : (file : ℕ) (old new : State) → AddsNoOutcome file old new → AddsNothing old new
one_adds file old new synced other left leaves =
    elim (eqb_tells other file) as (λ _. IsFileOutcome (old other) left) [
      | inl same ↦ subst (λ (f : ℕ). IsFileOutcome (old f) left) (sym same.1)
          (synced.crash left (subst (λ (f : ℕ). IsFileOutcome (new f) left) same.1 leaves))
      | inr apart ↦ subst (λ (slot : Slot). IsFileOutcome slot left)
          (synced.others other apart.1) leaves
    ]

pub then_adds : (lines : List LogLine) (file : ℕ) (old mid new : State) →
    SyncsFiles lines old mid → AddsNoOutcome file mid new → AddsNothing old new
then_adds lines file old mid new before synced other left leaves =
    before.adds other left (one_adds file mid new synced other left leaves)

then_syncs : (lines : List LogLine) (line : LogLine) (old mid new : State) →
    SyncsFiles lines old mid → AddsNoOutcome line.file mid new →
    SyncsFiles (lines ++ line ∷ []) old new
then_syncs lines line old mid new before synced = record {
  adds = then_adds lines line.file old mid new before synced;
  others = λ file apart.
      let both = apart_of lines file apart in
      synced.others file (λ same. both.1 (sym same)) ∙ before.others file both.0;
}
  where
    apart_of : (some : List LogLine) (file : ℕ) → All (IsBeside file) (some ++ line ∷ []) →
        All (IsBeside file) some × IsBeside file line
    apart_of [] file apart =
        (All-nil (IsBeside file), All-head (IsBeside file) line [] apart)
    apart_of (other ∷ some) file apart =
        let rest = apart_of some file
        (All-tail (IsBeside file) other (some ++ line ∷ []) apart) in (
          All-cons (IsBeside file) other some
              (All-head (IsBeside file) other (some ++ line ∷ []) apart) rest.0,
          rest.1,
        )

-- no call failed, and the files of these lines were synced
pub record HasSynced {D : Type 0} (g : Ghosts D) (lines : List LogLine) (old new : D) : Type 0
  where
    pub kept : KeepsDisk g old new ⊥ ⊥ (SyncsFiles lines)
    pub still : IsStill g old new

pub none_synced : {D : Type 0} (g : Ghosts D) (disk : D) → HasSynced g [] disk disk
none_synced g disk = record {
  kept = unchanged g (λ state. record {
    adds = λ file left leaves. leaves;
    others =
        λ file apart. refl;
  });
  still = λ honest. still (g.state disk) (g.past disk);
}

module _ {D : Type 0} (g : Ghosts D) (lines : List LogLine) (old mid : D)
    (before : HasSynced g lines old mid) where
  -- a call more, which failed or not
  pub synced_then : {new : D} {told : Type 0} (file : ℕ) →
      KeepsDisk g mid new told ⊥ (AddsNoOutcome file) → KeepsDisk g old new told ⊥ AddsNothing
  synced_then file kept =
      kept_behind g (then_adds lines file) before.kept (λ fails. fails) kept

  pub still_then : {new : D} → IsStill g mid new → IsStill g old new
  still_then more honest =
      still_more (before.still honest) (more (before.kept.honest.1 honest))

  -- a call more, which did not fail
  pub synced_more : {new : D} {told : Type 0} (line : LogLine) →
      KeepsDisk g mid new told ⊥ (AddsNoOutcome line.file) → (told → ⊥) → IsStill g mid new →
      HasSynced g (lines ++ line ∷ []) old new
  synced_more line kept works more = record {
    kept = kept_behind g (then_syncs lines line) before.kept (λ fails. fails)
        (kept_as g (neither works (λ fails. fails)) (λ a b synced. synced) kept);
    still = still_then more;
  }

  -- the calls end, and none failed
  pub synced_all : {told : Type 0} → (told → ⊥) → KeepsDisk g old mid told ⊥ AddsNothing
  synced_all ends = kept_as g (neither (λ fails. fails) ends)
      (λ a b synced. synced.adds) before.kept

-- ---- the batches of files

-- the part of one line, behind those of others
pub record PartBehind (left : Contents) (number : ℕ) (passed : List LogLine) (line : LogLine)
    (batches : List BatchContent) : Type 0 where
  pub before : List BatchContent
  pub here : List BatchContent
  pub behind : List BatchContent
  pub parted : batches ≡ before ++ (here ++ behind)
  pub had : HaveBatches left number passed before
  pub has : HasPart left (number + length before) line here

pub part_behind : (left : Contents) (number : ℕ) (passed : List LogLine) (line : LogLine)
    (lines : List LogLine) (batches : List BatchContent) →
    HaveBatches left number (passed ++ line ∷ lines) batches →
    PartBehind left number passed line batches
part_behind left number [] line lines batches (here, later, is, has, others) = record {
  before = [];
  here = here;
  behind = later;
  parted = is;
  had = refl;
  has = subst (λ (n : ℕ). HasPart left n line here) (omega arith) has;
}
part_behind left number (first ∷ passed) line lines batches (mine, later, is, has, others) =
    let part = part_behind left (number + length mine) passed line lines later others in
    let at : number + length mine + length part.before ≡ number + length (mine ++ part.before) =
    omega (arith, length-append mine part.before) in
    record {
      before = mine ++ part.before;
      here = part.here;
      behind = part.behind;
      parted = is ∙ ap (λ (l : List BatchContent). mine ++ l) part.parted
          ∙ sym (append_assoc mine part.before (part.here ++ part.behind));
      had = (mine, part.before, refl, has, part.had);
      has = subst (λ (n : ℕ). HasPart left n line part.here) at part.has;
    }

-- ---- one log more

-- no log was opened
pub none_in_line : (before : ℕ) (logs : List BatchLog) (memtable : Memtable) → logs ≡ [] →
    before ≤ MAX_NUMBER → (HasFailedAdd memtable → ⊥) →
    ((entry : Entry) → TableHolds memtable entry → ⊥) → AreInLine [] before before logs memtable
none_in_line before logs memtable none few works empty = record {
  named = ap (map line_of) none;
  working = All-same IsWorking logs [] none (All-nil IsWorking);
  joined = subst (λ (l : List BatchLog). AreJoined (suc before) l (suc before)) (sym none) refl;
  numbered = none_numbered memtable works empty before;
  few = few;
}

pub none_read : (disk : State) (before flushed : ℕ) (logs : List BatchLog) (memtable : Memtable) →
    logs ≡ [] → ((entry : Entry) → TableHolds memtable entry → ⊥) →
    AreReadLogs disk disk [] before flushed before logs memtable
none_read disk before flushed logs memtable none empty = record {
  batches = [];
  had = refl;
  settles = λ file. inl refl;
  each = All-nil IsBatch;
  holds = subst (λ (l : List BatchLog). AreParted (HoldsPart disk) (suc before) l [])
      (sym none) refl;
  counted = omega arith;
  entries = λ entry. (
    λ holds. absurd (empty entry holds),
    λ it. absurd (none_replayed before flushed entry it),
  );
}

-- the memtable has the entries of more batches
has_more : (mid new : Memtable) (before flushed : ℕ) (a b : List BatchContent) →
    ((entry : Entry) → TableHolds mid entry ↔ replayed_entries before flushed a entry) →
    AddsBatches mid new (before + length a) flushed b → (entry : Entry) →
    TableHolds new entry ↔ replayed_entries before flushed (a ++ b) entry
has_more mid new before flushed a b first second entry = (to, back)
  where
    to : TableHolds new entry → replayed_entries before flushed (a ++ b) entry
    to holds = elim ((second entry).0 holds) as
        (λ _. replayed_entries before flushed (a ++ b) entry) [
          | inl was ↦ replayed_front before flushed a b entry ((first entry).0 was)
          | inr behind ↦ replayed_behind before flushed a b entry behind
        ]

    back : replayed_entries before flushed (a ++ b) entry → TableHolds new entry
    back it = elim (replayed_either before flushed a b entry it) as (λ _. TableHolds new entry) [
      | inl front ↦ (second entry).1 (inl ((first entry).1 front))
      | inr behind ↦ (second entry).1 (inr behind)
    ]

-- logs of other files than a line's
pub beside_of : (file : ℕ) (logs : List BatchLog) → All (IsBeside file) (map line_of logs) →
    AreBeside file logs
beside_of file [] apart = All-nil (λ (one : BatchLog). file_of one.log ≢ file)
beside_of file (one ∷ logs) apart =
    All-cons (λ (other : BatchLog). file_of other.log ≢ file) one logs
    (All-head (IsBeside file) (line_of one) (map line_of logs) apart)
    (beside_of file logs (All-tail (IsBeside file) (line_of one) (map line_of logs) apart))

-- The logs of the lines that were passed, and the log of one line more.
module _ (passed : List LogLine) (line : LogLine) (before count : ℕ) (logs : List BatchLog)
    (memtable : Memtable) (was : AreInLine passed before count logs memtable)
    (follows : line.first ≡ count + 1) where
  -- its file is beside theirs
  pub logs_beside : All (IsBeside line.file) passed → AreBeside line.file logs
  logs_beside apart =
      beside_of line.file logs (subst (All (IsBeside line.file)) (sym was.named) apart)

  module _ (now : List BatchLog) (one : BatchLog) (after : Memtable) (next : ℕ)
      (opened : IsOpenedBehind line.file count one after) (pushed : now ≡ logs ++ one ∷ [])
      (counts : next ≡ count + count_of one.log) where
    line_so : (f n : ℕ) → f ≡ line.file → n ≡ line.first →
        ◌≡◌ {A = LogLine} (record { file = f; first = n }) line
    line_so f n is_file is_first = rw (is_file, is_first) refl

    pub in_line_more : AreInLine (passed ++ line ∷ []) before next now after
    in_line_more =
        let ends : end_of_log one ≡ suc next = omega (arith, opened.first, counts) in
        let number : next ≡ count + count_of one.log = counts in
        record {
          named = ap (map line_of) pushed ∙ map-append line_of logs (one ∷ [])
              ∙ ap (λ (l : List LogLine). l ++ line_of one ∷ []) was.named
              ∙ ap (λ (l : LogLine). passed ++ l ∷ [])
              (line_so (file_of one.log) one.first opened.in_file
              (omega (arith, opened.first, follows)));
          working = All-same IsWorking now (logs ++ one ∷ []) pushed
              (All-push IsWorking logs one was.working opened.works);
          joined = subst (λ (l : List BatchLog). AreJoined (suc before) l (suc next)) (sym pushed)
              (joined_push (suc before) (suc next) logs one
              (subst (λ (n : ℕ). AreJoined (suc before) logs n) (sym opened.first) was.joined)
              ends);
          numbered = subst (λ (n : ℕ). IsNumberedTo after n) (sym number) opened.numbered;
          few = omega (arith, counts, opened.few);
        }

    pub read_more : (old mid new : State) (flushed : ℕ) →
        AreReadLogs old mid passed before flushed count logs memtable →
        IsReadLog mid new line.file count flushed one memtable after →
        mid line.file ≡ old line.file → All (IsBeside line.file) passed →
        ((other : ℕ) → other ≢ line.file → new other ≡ mid other) →
        AreReadLogs old new (passed ++ line ∷ []) before flushed next now after
    read_more old mid new flushed read it same apart others =
        let at : suc count ≡ suc before + length read.batches = omega (arith, read.counted) in
        let stood : IsLog (seen (old line.file)) (records_from (suc before + length read.batches)
        it.here) = subst (λ (n : ℕ). IsLog (seen (old line.file)) (records_from n it.here)) at
        (subst (λ (slot : Slot). IsLog (seen slot) (records_from (suc count) it.here)) same it.had)
        in
        let first : line.first ≡ suc before + length read.batches = omega (arith, follows, at) in
        let ends = part_ends new (suc count) one it.here it.holds in
        record {
          batches = read.batches ++ it.here;
          had = parted_push (HasPart (contents old)) (suc before) passed line read.batches it.here
              read.had (first, stood);
          settles = λ file. settles_twice old mid new file (read.settles file)
              (elim (cases_eq file line.file) [
                | inl is ↦ subst (λ (f : ℕ). SlotSettles mid new f) (sym is) it.settles
                | inr apart ↦ inl (others file apart)
              ]);
          each = All-append IsBatch read.batches it.here read.each it.each;
          holds = subst (λ (l : List BatchLog).
              AreParted (HoldsPart new) (suc before) l (read.batches ++ it.here)) (sym pushed)
              (parted_push (HoldsPart new) (suc before) logs one read.batches it.here
              (parted_in mid new (suc before) logs read.batches
              (kept_beside mid new line.file logs others (logs_beside apart)) read.holds)
              (subst (λ (n : ℕ). HoldsPart new n one it.here) at it.holds));
          counted = omega (
            arith,
            counts,
            ends,
            opened.first,
            read.counted,
            length-append read.batches it.here,
          );
          entries = has_more memtable after before flushed read.batches it.here read.entries
              (subst (λ (n : ℕ). AddsBatches memtable after n flushed it.here) read.counted
              it.entries);
        }

-- ---- why a log is not opened

-- the file of a line has batches behind the number, where it begins
pub record HasHere (disk : State) (line : LogLine) (count : ℕ) : Type 0 where
  pub here : List BatchContent
  pub first : line.first ≡ count + 1
  pub stood : IsLog (seen (disk line.file)) (records_from (suc count) here)
  pub each : All IsBatch here
  pub few : count + length here ≤ MAX_NUMBER

-- where all files have batches, that of the next line has them
pub has_here : RecordsAreUnique → SpellingsDiffer → (old mid : State) (passed lines : List LogLine)
    (line : LogLine) (before flushed count : ℕ) (logs : List BatchLog) (memtable : Memtable)
    (batches : List BatchContent) → AreReadLogs old mid passed before flushed count logs memtable →
    mid line.file ≡ old line.file →
    HaveBatches (contents old) (suc before) (passed ++ line ∷ lines) batches → All IsBatch batches →
    before + length batches ≤ MAX_NUMBER → HasHere mid line count
has_here law spell old mid passed lines line before flushed count logs memtable batches read same
    have each few =
    let part = part_behind (contents old) (suc before) passed line lines batches have in
    let all = subst (All IsBatch) part.parted each in
    let is : part.before ≡ read.batches =
    same_parts law spell (contents old) (suc before) passed part.before read.batches
    (all_before part.before (part.here ++ part.behind) all) read.each part.had read.had in
    let at : suc before + length part.before ≡ suc count =
    omega (arith, ap length is, read.counted) in
    let stood : IsLog (seen (old line.file)) (records_from (suc count) part.here) =
    subst (λ (n : ℕ). IsLog (seen (old line.file)) (records_from n part.here)) at part.has.1 in
    record {
      here = part.here;
      first = omega (arith, part.has.0, at);
      stood = subst (λ (slot : Slot). IsLog (seen slot) (records_from (suc count) part.here))
          (sym same) stood;
      each = all_before part.here part.behind
          (all_behind part.before (part.here ++ part.behind) all);
      few = omega (
        arith,
        few,
        at,
        ap length part.parted,
        length-append part.before (part.here ++ part.behind),
        length-append part.here part.behind,
      );
    }

-- ---- the line of a place

abbrev pub line_at : List LogLine → ℕ → LogLine
line_at lines i = slice_index_or lines i (record { file = 0; first = 0 })

pub lines_at : (lines : List LogLine) (i : ℕ) → i < length lines →
    lines ≡ take i lines ++ line_at lines i ∷ drop (i + 1) lines
lines_at lines i lt =
    let next : suc i ≡ i + 1 = omega arith in
    sym (take-append-drop i lines) ∙ ap (λ (l : List LogLine). take i lines ++ l)
    (drop-cons lines i (record { file = 0; first = 0 }) lt
    ∙ ap (λ (n : ℕ). line_at lines i ∷ drop n lines) next)

pub lines_more : (lines : List LogLine) (i : ℕ) → i < length lines →
    take i lines ++ line_at lines i ∷ [] ≡ take (i + 1) lines
lines_more lines i lt = sym (take_more lines i (record { file = 0; first = 0 }) lt)
