-- One batch more in the newest log, and what a crash leaves of open logs then.
use Rattle.std.proofs.Common.{◌≡◌, ◌≢◌, ◌⊎◌, ℕ, ◌+◌, List, [], ◌∷◌, ◌++◌}
use Rattle.std.proofs.Common.{length, drop, inl, inr, refl, sym, ap, subst, ◌∙◌}
use Rattle.std.proofs.Common.{Option, Some, None}
use Rattle.std.specs.Prelude.{IsSomeAnd}
use Rattle.std.proofs.lemmas.List.{append_assoc}
use Rattle.std.proofs.lemmas.List.Elements.{All-weaker}
use Rattle.kv_types.specs.{BatchContent}
use Rattle.disk.specs.{Contents, DurableFileIsLeft, IsLeftAt}
use Rattle.disk.specs.{LeavesSince, State}
use Rattle.disk.specs.MomentsLemmas.{none_yet, weaker}
use Rattle.record_log.specs.{IsOldOrNewFrom, LogHolds, Represents, file_of}
use Rattle.record_log.specs.{start_of}
use Rattle.batch_logs.specs.declared.batch_logs.BatchLog.{BatchLog}
use Rattle.batch_logs.specs.declared.batch_logs.BatchLogs.{BatchLogs}
use Rattle.batch_logs.specs.BatchLogs.{AreBeside, AreLeftWith, AreParted}
use Rattle.batch_logs.specs.BatchLogs.{HaveBatches}
use Rattle.batch_logs.specs.BatchLogs.{HoldsPart, LogsHold}
use Rattle.batch_logs.specs.BatchLogs.{lines_of}
use Rattle.batch_logs.specs.BatchLogs.{newest_file, next_number}
use Rattle.batch_logs.specs.Layout.{IsLog}
use Rattle.batch_logs.specs.Layout.{batch_record, records_from}
use Rattle.batch_logs.proofs.Records.{records_from-push}
use Rattle.batch_logs.specs.PartsLemmas.{AreKept, all_left, batches_left, part_ends, parted_in}

-- files beside one that changed are the same
pub kept_beside : (old new : State) (file : ℕ) (logs : List BatchLog) →
    ((other : ℕ) → other ≢ file → new other ≡ old other) → AreBeside file logs →
    AreKept old new logs
kept_beside old new file logs same apart =
    All-weaker (λ (one : BatchLog). file_of one.log ≢ file)
    (λ (one : BatchLog). new (file_of one.log) ≡ old (file_of one.log))
    (λ one not. same (file_of one.log) not) logs apart

-- no call leaves the batches as they are
pub none_more : DurableFileIsLeft → (disk : State) (logs : BatchLogs) (first : ℕ)
    (batches : List BatchContent) (batch : BatchContent) → LogsHold disk logs first batches →
    AreBeside (newest_file logs) logs.older.items → (past : List State) →
    LeavesSince disk past disk past (AreLeftWith disk logs first batches batch)
none_more law disk logs first batches batch h apart past =
    none_yet (AreLeftWith disk logs first batches batch) disk past (λ left leaves. record {
      either = inl (batches_left law disk left logs first batches h apart leaves);
      others = λ other not. leaves other;
    })

-- ---- one batch more in the newest log

module _ (disk : State) (logs : BatchLogs) (first : ℕ) (batches : List BatchContent)
    (h : LogsHold disk logs first batches) (batch : BatchContent) (one : List ℕ)
    (is : one ≡ batch_record (next_number logs) batch) where
  abbrev pub at : ℕ
  at = first + length h.before

  one_more : records_from at h.here ++ one ∷ [] ≡ records_from at (h.here ++ batch ∷ [])
  one_more =
      let next : next_number logs ≡ at + length h.here =
      part_ends disk at logs.newest h.here h.newest in
      ap (λ (r : List ℕ). records_from at h.here ++ r ∷ [])
      (is ∙ ap (λ (n : ℕ). batch_record n batch) next)
      ∙ sym (records_from-push at h.here batch)

  all_more : batches ++ batch ∷ [] ≡ h.before ++ (h.here ++ batch ∷ [])
  all_more = ap (λ (b : List BatchContent). b ++ batch ∷ []) h.parted
      ∙ append_assoc h.before h.here (batch ∷ [])

  -- the logs hold it too
  pub held_more : (new : State) (newest : BatchLog) (after : BatchLogs) →
      after.older.items ≡ logs.older.items → after.newest ≡ newest →
      ((other : ℕ) → other ≢ newest_file logs → new other ≡ disk other) →
      AreBeside (newest_file logs) logs.older.items → newest.first ≡ logs.newest.first →
      start_of newest.log ≡ start_of logs.newest.log →
      LogHolds new newest.log (records_from at h.here ++ one ∷ []) →
      LogsHold new after first (batches ++ batch ∷ [])
  held_more new newest after older is_newest others apart same_first same_start holds = record {
    before = h.before;
    here = h.here ++ batch ∷ [];
    parted = all_more;
    older = subst (λ (l : List BatchLog). AreParted (HoldsPart new) first l h.before) (sym older)
        (parted_in disk new first logs.older.items h.before
        (kept_beside disk new (newest_file logs) logs.older.items others apart) h.older);
    newest = subst (λ (l : BatchLog). HoldsPart new at l (h.here ++ batch ∷ [])) (sym is_newest)
        (record {
          first = same_first ∙ h.newest.first;
          from = same_start ∙ h.newest.from;
          log = subst (λ (r : List (List ℕ)). LogHolds new newest.log r) one_more holds;
        });
  }

  -- a crash while its record is appended leaves the batches with it or without
  left_with : DurableFileIsLeft → AreBeside (newest_file logs) logs.older.items →
      (left : Contents) → IsLeftAt disk (newest_file logs) (λ o. IsSomeAnd o
      (IsOldOrNewFrom h.newest.log.bytes (start_of logs.newest.log) (records_from at h.here) one))
      left → AreLeftWith disk logs first batches batch left
  left_with law apart left is_left = record {
    either = split (left (newest_file logs)) refl is_left.here;
    others = is_left.others;
  }
    where
      split : (bytes : Option (List ℕ)) → left (newest_file logs) ≡ bytes → IsSomeAnd bytes
          (IsOldOrNewFrom h.newest.log.bytes (start_of logs.newest.log) (records_from at h.here)
          one) →
          HaveBatches left first (lines_of logs) batches
          ⊎ HaveBatches left first (lines_of logs) (batches ++ batch ∷ [])
      split None same none = absurd none
      split (Some it) same from = elim from.is as
          (λ _. HaveBatches left first (lines_of logs) batches
          ⊎ HaveBatches left first (lines_of logs) (batches ++ batch ∷ [])) [
            | inl old ↦ inl (subst (HaveBatches left first (lines_of logs)) (sym h.parted)
                (all_left law disk left logs first batches h.here h is_left.others apart (
                  h.newest.first,
                  subst (λ (o : Option (List ℕ)). IsLog o (records_from at h.here)) (sym same)
                      (subst (λ (k : ℕ). Represents (drop k it) (records_from at h.here))
                      h.newest.from old),
                )))
            | inr new ↦ inr (subst (HaveBatches left first (lines_of logs)) (sym all_more)
                (all_left law disk left logs first batches (h.here ++ batch ∷ []) h is_left.others
                apart (
                  h.newest.first,
                  subst (λ (o : Option (List ℕ)). IsLog o (records_from at (h.here ++ batch ∷ [])))
                      (sym same)
                      (subst (λ (r : List (List ℕ)). Represents it r) one_more
                      (subst (λ (k : ℕ). Represents (drop k it)
                      (records_from at h.here ++ one ∷ []))
                      h.newest.from new)),
                )))
          ]

  pub crashed_more : DurableFileIsLeft → AreBeside (newest_file logs) logs.older.items →
      (new : State) (past since : List State) →
      LeavesSince disk past new since (IsLeftAt disk (newest_file logs) (λ o. IsSomeAnd o
      (IsOldOrNewFrom h.newest.log.bytes (start_of logs.newest.log) (records_from at h.here)
      one))) →
      LeavesSince disk past new since (AreLeftWith disk logs first batches batch)
  crashed_more law apart new past since run =
      let Q : Option (List ℕ) → Type 0 = λ o. IsSomeAnd o
      (IsOldOrNewFrom h.newest.log.bytes (start_of logs.newest.log) (records_from at h.here) one) in
      weaker (IsLeftAt disk (newest_file logs) Q) (AreLeftWith disk logs first batches batch) disk
      past new since (left_with law apart) run
