-- The slots are looked at; then the node is started, or created.
use Rattle.std.proofs.Common.{inl, inr, refl, subst, sym, true≢false, ◌∙◌}
use Rattle.disk.specs.{contents}
use Rattle.disk.specs.StillLemmas.{spares_more}
use Rattle.disk.specs.KeepingLemmas.{kept_as, neither}
use Rattle.node.specs.{DiskRefines}
use Rattle.folder_nodes.specs.Finding.{StartsFrom}
use Rattle.engine.specs.{AreShut, kept_files}
use Rattle.manifest.specs.{ManifestRepresents}
use Rattle.manifest.specs.declared.error.ManifestError.TheVariants as manifest
use Rattle.folder_nodes.specs.declared.fault.FolderError.TheVariants.{OtherNode}
use Rattle.folder_nodes.proofs.FindingLemmas.{answers, created_explains, device_opened, env_opened}
use Rattle.folder_nodes.proofs.FindingLemmas.{finds, is_created, kept_on, later_still, none_failed}
use Rattle.folder_nodes.proofs.FindingLemmas.{one_is_created, other_not_device, own_machine}
use Rattle.folder_nodes.proofs.FindingLemmas.{only_before, only_looked, refused_as, refused_still}
use Rattle.folder_nodes.proofs.FindingLemmas.{rests_on, rests_still, rests_then, same_contents}
use Rattle.folder_nodes.proofs.FindingLemmas.{slots_explain, started_explains, still_on}
use Rattle.folder_nodes.proofs.finding.node_over.Goals as goal

-- the own node
pub returns-in-Ok-true-clause-kept : goal.returns-in-Ok-true-clause-kept
returns-in-Ok-true-clause-kept g c =
    kept_on g.D.Disk c.started.result c.in-Ok-true.ensures.reads.kept answers
    c.started.ensures.kept

pub returns-in-Ok-true-clause-told : goal.returns-in-Ok-true-clause-told
returns-in-Ok-true-clause-told g c = λ honest.
    let told = c.in-Ok-true.ensures.told honest in
    let kept = c.names_own.ensures.reads.kept in
    let same = same_contents (g.D.Disk.state c.args.disk) (g.D.Disk.state c.names_own.new.disk)
    told.read (kept.files honest) in
    started_explains c.version_is_one.ensures.created c.args.configs.now c.args.id
    (contents (g.D.Disk.state c.args.disk)) c.started.result
    (told.named, told.represents, told.decides.0 c.in-Ok-true.field-0-test)
    (subst (λ left. StartsFrom left c.started.result) same
    (c.started.ensures.told (kept.honest.1 honest)))

pub returns-in-Ok-true-clause-started : goal.returns-in-Ok-true-clause-started
returns-in-Ok-true-clause-started g c = λ x n honest read.
    let told = c.in-Ok-true.ensures.told honest in
    let kept = c.names_own.ensures.reads.kept in
    let same = same_contents (g.D.Disk.state c.args.disk) (g.D.Disk.state c.names_own.new.disk)
    told.read (kept.files honest) in
    finds c.args.configs.now c.args.id x n c.started.result
    (c.started.ensures.started x n (kept.honest.1 honest)
    (subst (λ left. DiskRefines left x n) (sym same) read))
    ((own_machine c.version_is_one.ensures.one c.args.configs.now c.args.id x n
    c.in-Ok-true.field-0 (contents (g.D.Disk.state c.args.disk))
    (g.D.Disk.state c.names_own.new.disk) told read).0 c.in-Ok-true.field-0-test)

pub returns-in-Ok-true-clause-any_moment : goal.returns-in-Ok-true-clause-any_moment
returns-in-Ok-true-clause-any_moment g c = λ x n m honest rests.
    let reads = c.names_own.ensures.reads in
    rests_on g.D.Disk c.args.disk c.names_own.new.disk x n m reads.still honest rests _
    (c.started.ensures.any_moment x n m (reads.kept.honest.1 honest)
    (rests_then g.D.Disk c.args.disk c.names_own.new.disk x n m reads.still honest rests))

pub returns-in-Ok-true-clause-files : goal.returns-in-Ok-true-clause-files
returns-in-Ok-true-clause-files g c =
    let reads = c.names_own.ensures.reads in
    let old = c.args.disk in
    let mid = c.names_own.new.disk in
    let left = c.started.ensures.still in
    record {
      named = λ named honest represents.
          let told = c.in-Ok-true.ensures.told honest in
          let same = same_contents (g.D.Disk.state old) (g.D.Disk.state mid) told.read
          (reads.kept.files honest) in
          spares_more (kept_files named.version) (reads.still honest)
          (left.named named (reads.kept.honest.1 honest)
          (subst (ManifestRepresents named) (sym same) represents));
      refused = later_still old mid c.started.result reads.still reads.kept.honest.1
          (refused_still mid c.started.result left);
      shut = λ none cut honest.
          let told = c.in-Ok-true.ensures.told honest in
          let same = same_contents (g.D.Disk.state old) (g.D.Disk.state mid) told.read
          (reads.kept.files honest) in
          still_on g.D.Disk old mid _ reads.kept.honest.1 reads.still
          (left.shut (inl (subst AreShut (sym same) none))) honest;
    }

-- another node
pub returns-in-Ok-false-clause-kept : goal.returns-in-Ok-false-clause-kept
returns-in-Ok-false-clause-kept g c =
    kept_as g.D.Disk (neither answers other_not_device) (λ a b spares. tt)
    c.in-Ok-false.ensures.reads.kept

pub returns-in-Ok-false-clause-told : goal.returns-in-Ok-false-clause-told
returns-in-Ok-false-clause-told g c = λ honest.
    let told = c.in-Ok-false.ensures.told honest in (
      told.named,
      told.represents,
      λ own. true≢false (sym (told.decides.1 own) ∙ c.in-Ok-false.field-0-test),
    )

pub returns-in-Ok-false-clause-started : goal.returns-in-Ok-false-clause-started
returns-in-Ok-false-clause-started g c = λ x n honest read.
    let told = c.in-Ok-false.ensures.told honest in
    inr (
      refl,
      λ own. true≢false (sym
          ((own_machine c.version_is_one.ensures.one c.args.configs.now c.args.id x n
          c.in-Ok-false.field-0 (contents (g.D.Disk.state c.args.disk))
          (g.D.Disk.state c.names_own.new.disk) told read).1 own) ∙ c.in-Ok-false.field-0-test),
    )

pub returns-in-Ok-false-clause-any_moment : goal.returns-in-Ok-false-clause-any_moment
returns-in-Ok-false-clause-any_moment g c = λ x n m honest rests.
    rests_still g.D.Disk c.args.disk c.names_own.new.disk x n m c.names_own.ensures.reads.still
    honest rests

pub returns-in-Ok-false-clause-files : goal.returns-in-Ok-false-clause-files
returns-in-Ok-false-clause-files g c = only_looked c.args.disk c.names_own.new.disk OtherNode
    c.names_own.ensures.reads.still

-- no slot is open
pub returns-in-NotCreated-clause-kept : goal.returns-in-NotCreated-clause-kept
returns-in-NotCreated-clause-kept g c =
    kept_on g.D.Disk c.created_again.result c.in-Err.ensures.reads.kept
    (none_failed c.in-Err.e c.in-NotCreated.is) c.created_again.ensures.kept

pub returns-in-NotCreated-clause-started : goal.returns-in-NotCreated-clause-started
returns-in-NotCreated-clause-started g c = λ x n honest read.
    absurd (is_created c.version_is_one.ensures.created
    (contents (g.D.Disk.state c.args.disk)) x n read
    (refused_as c.in-Err.e manifest.NotCreated _ c.in-NotCreated.is
    (c.in-Err.ensures.told honest)))

pub returns-in-NotCreated-clause-told : goal.returns-in-NotCreated-clause-told
returns-in-NotCreated-clause-told g c = λ honest.
    let kept = c.names_own.ensures.reads.kept in
    created_explains c.args.configs.now c.args.id (g.D.Disk.state c.args.disk)
    (g.D.Disk.state c.names_own.new.disk) c.created_again.result
    (refused_as c.in-Err.e manifest.NotCreated _ c.in-NotCreated.is
    (c.in-Err.ensures.told honest))
    (kept.files honest) (c.created_again.ensures.created (kept.honest.1 honest))

pub returns-in-NotCreated-clause-any_moment : goal.returns-in-NotCreated-clause-any_moment
returns-in-NotCreated-clause-any_moment g c = λ x n m honest rests.
    absurd (one_is_created c.version_is_one.ensures.created (g.D.Disk.state c.args.disk) x n m rests
    (refused_as c.in-Err.e manifest.NotCreated _ c.in-NotCreated.is
    (c.in-Err.ensures.told honest)))

pub returns-in-NotCreated-clause-files : goal.returns-in-NotCreated-clause-files
returns-in-NotCreated-clause-files g c =
    let reads = c.names_own.ensures.reads in
    let old = c.args.disk in
    let mid = c.names_own.new.disk in
    record {
      named = λ named honest represents.
          absurd (c.version_is_one.ensures.created named (contents (g.D.Disk.state old)) represents
          (refused_as c.in-Err.e manifest.NotCreated _ c.in-NotCreated.is
          (c.in-Err.ensures.told honest)));
      refused = later_still old mid c.created_again.result reads.still reads.kept.honest.1
          c.created_again.ensures.refused;
      shut = λ none cut honest.
          let free = refused_as c.in-Err.e manifest.NotCreated _ c.in-NotCreated.is
          (c.in-Err.ensures.told honest) in
          still_on g.D.Disk old mid _ reads.kept.honest.1 reads.still
          (c.created_again.ensures.more (λ only. cut (
            free,
            only_before (g.D.Disk.state old)
                (g.D.Disk.state mid) (reads.kept.files honest) only,
          ))) honest;
    }

-- the manifest was refused
pub returns-in_default : goal.returns-in_default
returns-in_default g c = record {
  kept = kept_as g.D.Disk (device_opened c.in-Err.e c.from.result c.from.ensures)
      (λ a b spares. tt) c.in-Err.ensures.reads.kept;
  started = λ x n honest read. inl (env_opened c.version_is_one.ensures.created
      c.version_is_one.ensures.old c.in-Err.e c.from.result
      (contents (g.D.Disk.state c.args.disk)) x n c.from.ensures (c.in-Err.ensures.told honest)
      read);
  told = λ honest. slots_explain c.args.configs.now c.args.id c.in-Err.e c.from.result
      (contents (g.D.Disk.state c.args.disk)) c.from.ensures
      (λ same. c.in_default.not-NotCreated same) (c.in-Err.ensures.told honest);
  works = tt;
  limits = tt;
  any_moment = λ x n m honest rests. rests_still g.D.Disk c.args.disk c.names_own.new.disk x n m
      c.names_own.ensures.reads.still honest rests;
  files = only_looked c.args.disk c.names_own.new.disk c.from.result
      c.names_own.ensures.reads.still;
}
