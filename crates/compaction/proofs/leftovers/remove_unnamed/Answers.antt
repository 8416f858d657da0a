use Rattle.std.proofs.Common.{◌≡◌, List, false, ap, sym, subst, ◌∙◌}
use Rattle.version_edits.specs.Versions.{names_file, names_log}
use Rattle.version_edits.specs.declared.LogLine.{LogLine}
use Rattle.version_edits.specs.declared.TableLine.{TableLine}
use Rattle.version_edits.specs.{NodeVersion}
use Rattle.compaction.specs.Leftovers.{IsBesideVersion}
use Rattle.compaction.proofs.Calls.{done, writes_nothing, writes_wider}
use Rattle.compaction.proofs.leftovers.remove_unnamed.Goals as goal

pub returns-then-names_log-clause-writes : goal.returns-then-names_log-clause-writes
returns-then-names_log-clause-writes g c =
    writes_nothing g.D.Disk
    (λ one. (c.args.file ≡ one) × IsBesideVersion c.args.version.now.version one) c.args.disk.now
    done

pub returns-then-names_file-clause-writes : goal.returns-then-names_file-clause-writes
returns-then-names_file-clause-writes g c =
    writes_nothing g.D.Disk
    (λ one. (c.args.file ≡ one) × IsBesideVersion c.args.version.now.version one) c.args.disk.now
    done

pub returns-clause-writes : goal.returns-clause-writes
returns-clause-writes g c =
    let version = c.args.version.now.version in
    let logs : c.deref.result.now ≡ version.logs =
    cc (c.deref.ensures.value, ap (λ (v : NodeVersion). v.version.logs) c.version.view_is) in
    let tables : c.deref-2.result.now ≡ version.tables =
    cc (c.deref-2.ensures.value, ap (λ (v : NodeVersion). v.version.tables) c.version.view_is) in
    let no_log : names_log version.logs c.args.file ≡ false =
    sym (ap (λ (l : List LogLine). names_log l c.args.file) logs) ∙ sym c.names_log.ensures
    ∙ c.if-names_log.false in
    let no_table : names_file version.tables c.args.file ≡ false =
    sym (ap (λ (l : List TableLine). names_file l c.args.file) tables) ∙ sym c.names_file.ensures
    ∙ c.if-names_file.false in
    writes_wider g.D.Disk
    (λ one. (c.args.file ≡ one) × IsBesideVersion c.args.version.now.version one)
    (λ one. c.args.file ≡ one)
    (λ one is. (
      is,
      subst (λ f. IsBesideVersion c.args.version.now.version f) is
          (no_log, no_table),
    )) c.remove_file.ensures.writes
