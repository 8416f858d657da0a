-- Files represent one list of batches at most, the trimmed ones apart.
use Rattle.std.proofs.Common.{◌≡◌, ◌<◌, ℕ, suc, List, [], ◌∷◌, ap, arith, drop, length, subst, sym}
use Rattle.std.proofs.Common.{◌∙◌}
use Rattle.std.proofs.lemmas.List.{length-drop}
use Rattle.std.proofs.lemmas.List.Elements.{All-drop}
use Rattle.kv_types.specs.{BatchContent, IsBatch, SpellingsDiffer}
use Rattle.disk.specs.{Contents}
use Rattle.record_log.specs.{RecordsAreUnique}
use Rattle.manifest.specs.declared.LogLine.{LogLine}
use Rattle.manifest.specs.{NodeVersion, StoreVersion, VersionIsOne, VersionsAreLawful}
use Rattle.batch_logs.specs.BatchLogs.{HaveBatches}
use Rattle.store_files.specs.StoreFiles.{StoreFilesAreOne}
use Rattle.store_files.proofs.ReadFiles.{facts_are}
use Rattle.batch_logs.specs.PartsLemmas.{same_parts}

-- the first line tells the number of the first batch
same_first : (left : Contents) (a b : ℕ) (lines : List LogLine) (xs ys : List BatchContent) →
    0 < length lines → HaveBatches left a lines xs → HaveBatches left b lines ys → a ≡ b
same_first left a b [] xs ys some h k = absurd (omega (arith, some))
same_first left a b (line ∷ lines) xs ys some (here, later, is, has, others)
    (here', later', is', has', others') = sym has.0 ∙ has'.0

pub files_are_one : VersionIsOne → VersionsAreLawful → RecordsAreUnique → SpellingsDiffer →
    StoreFilesAreOne
files_are_one version_is_one lawful records spell facts list facts' list' left h k =
    let named : NodeVersion = record { id = facts.id; version = h.version } in
    let same = version_is_one named (record { id = facts'.id; version = k.version }) left h.manifest
    k.manifest in
    let id = ap (λ (n : NodeVersion). n.id) same in
    let version = ap (λ (n : NodeVersion). n.version) same in
    let logs = subst (λ (v : StoreVersion).
    HaveBatches left (suc facts'.kept) v.logs (drop facts'.kept list')) (sym version) k.logs in
    let some = (lawful named left h.manifest).lawful.some in
    let first = same_first left (suc facts.kept) (suc facts'.kept) h.version.logs _ _ some h.logs
    logs in
    let kept : facts.kept ≡ facts'.kept = omega (arith, first) in
    let logs' = subst (λ (n : ℕ). HaveBatches left (suc n) h.version.logs (drop n list')) (sym kept)
    logs in
    let behind = same_parts records spell left (suc facts.kept) h.version.logs
    (drop facts.kept list) (drop facts.kept list') (All-drop IsBatch facts.kept list h.each)
    (All-drop IsBatch facts.kept list' k.each) h.logs logs' in
    let long = length-drop facts.kept list in
    let long' = length-drop facts.kept list' in
    let lengths = ap length behind in
    let floor = h.store.kept_floor in
    let count = h.store.floor_count in
    let floor' = k.store.kept_floor in
    let count' = k.store.floor_count in (
      sym (facts_are facts facts'.id facts'.epoch facts'.ids facts'.floor facts'.kept (sym id)
          (sym k.epoch ∙ sym (ap (λ (v : StoreVersion). v.epoch) version) ∙ h.epoch)
          (sym k.ids ∙ sym (ap (λ (v : StoreVersion). v.ids) version) ∙ h.ids)
          (sym k.floor ∙ sym (ap (λ (v : StoreVersion). v.floor) version) ∙ h.floor) (sym kept)),
      omega (arith, long, long', lengths, kept, floor, count, floor', count'),
      behind,
    )
