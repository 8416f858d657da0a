-- What a file is opened as, and why it is not.
use Rattle.std.proofs.Common.{◌≡◌, ℕ, List, Option, Some, None, drop, inl, inr, refl, sym, ap}
use Rattle.std.proofs.Common.{length, subst, ◌∙◌, arith, ◌<◌}
use Rattle.std.specs.Prelude.{IsSomeAnd}
use Rattle.disk.specs.{IsEnvironmental, State, seen}
use Rattle.disk.specs.Calls.{IsRefusalOf}
use Rattle.disk.specs.declared.DiskError.{DiskError}
use Rattle.disk.specs.declared.DiskError.TheVariants as disk
use Rattle.record_log.specs.declared.error.LogError.{LogError}
use Rattle.record_log.specs.declared.error.LogError.TheVariants as log
use Rattle.record_log.specs.declared.log.OpenedLog.{OpenedLog}
use Rattle.record_log.specs.Error.{log_error}
use Rattle.record_log.specs.Grammar.{Represents, ends_from, end_of}
use Rattle.record_log.specs.Logs.{OpenRefusal, HasRead, HasRecords, LogHolds}
use Rattle.record_log.specs.Logs.{IsRest}
use Rattle.record_log.proofs.Fronts.{one_reading}
use Rattle.record_log.proofs.First.{nothing_past}

-- a file that ends before the log begins represents no records
pub declines_bytes : (e : DiskError) (old : State) (file start : ℕ) →
    IsRefusalOf e old file start → OpenRefusal (log_error e) (seen (old file)) start
declines_bytes disk.Failed old file start why = tt
declines_bytes disk.NoFile old file start why = why
declines_bytes disk.Short old file start why = ends_before (seen (old file)) why
  where
    ends_before : (bytes : Option (List ℕ)) → IsSomeAnd bytes (λ it. length it < start) →
        OpenRefusal (log.Disk disk.Short) bytes start
    ends_before None short = absurd short
    ends_before (Some it) short = λ records. nothing_past it start records short
declines_bytes disk.Memory old file start why = tt

-- opening a file that represents records is refused for environment errors alone
pub declined : (e : LogError) (bytes : Option (List ℕ)) (start : ℕ) (records : List (List ℕ))
    → OpenRefusal e bytes start →
    IsSomeAnd bytes (λ it. Represents (drop start it) records) →
    IsEnvironmental (log.Disk disk.Failed) log.Memory e
declined (log.Disk disk.Failed) bytes start records why stood = inl refl
declined (log.Disk disk.NoFile) None start records why stood = absurd stood
declined (log.Disk disk.NoFile) (Some it) start records why stood = absurd cc
declined (log.Disk disk.Short) None start records why stood = absurd stood
declined (log.Disk disk.Short) (Some it) start records why stood = absurd (why records stood)
declined (log.Disk disk.Memory) bytes start records why stood = absurd why
declined log.Memory bytes start records why stood = inr refl
declined log.TooLong bytes start records why stood = absurd why
declined log.Failed bytes start records why stood = absurd why

-- the bytes that were read represent what the scan found
pub read_them : (opened : OpenedLog) (found : List (List ℕ)) →
    Represents opened.bytes.items found → opened.log.ends.items ≡ ends_from 0 found →
    HasRead opened found
read_them opened found stands ends = record { stands = stands; ends = ends }

-- the file had the records that were read
pub had_them : (old new : State) (file start : ℕ) (opened : OpenedLog) (found : List (List ℕ)) →
    IsRest old file start new opened.bytes.items → HasRead opened found →
    HasRecords old file start found
had_them old new file start opened found r read =
    subst (λ (o : Option (List ℕ)). IsSomeAnd o (λ it. Represents (drop start it) found))
    (sym r.was) (subst (λ (b : List ℕ). Represents b found) r.is read.stands)

-- a log that knows where the file's records end holds them
pub holds_them : (old new : State) (file start : ℕ) (opened : OpenedLog)
    (found records : List (List ℕ)) →
    IsRest old file start new opened.bytes.items → HasRead opened found →
    opened.log.file ≡ file → opened.log.start ≡ start → opened.log.end ≡ end_of 0 found →
    HasRecords old file start records →
    LogHolds new opened.log records × HasRead opened records
holds_them old new file start opened found records r read file_is start_is end_is stood =
    let whole : Represents (drop start r.whole) records =
    subst (λ (o : Option (List ℕ)). IsSomeAnd o (λ it. Represents (drop start it) records))
    r.was
    stood in
    let again : Represents (drop start r.whole) found =
    subst (λ (b : List ℕ). Represents b found) r.is read.stands in
    let same : found ≡ records = one_reading (drop start r.whole) found records again whole in (
      record {
        bytes = r.whole;
        sure = ap new file_is ∙ r.sure;
        start = omega (arith, start_is, r.within);
        fits = r.fits;
        stands = subst (λ (s : ℕ). Represents (drop s r.whole) records) (sym start_is) whole;
        ends = read.ends ∙ ap (ends_from 0) same;
        end = end_is ∙ ap (end_of 0) same;
      },
      subst (HasRead opened) same read,
    )
