-- Looks at a disk: what a crash leaves behind them, and an opening behind a look.
use Rattle.std.proofs.Common.{◌≡◌, Bool, inl, subst, sym}
use Rattle.std.proofs.Math.Path.{fun_ext}
use Rattle.std.specs.Prelude.{◌↔◌, ◌⊎◌, Result, Ok, Err, IfErr, IsTrue}
use Rattle.disk.specs.declared.Disk.{Ghosts}
use Rattle.disk.specs.{AlwaysLeaves, Contents, IsCrashOutcome, IsStill, OnlyLeaves, State}
use Rattle.disk.specs.{contents}
use Rattle.disk.specs.MomentsLemmas.{join, weaker}
use Rattle.disk.specs.StillLemmas.{spares_more, spares_still, still_more}
use Rattle.engine.specs.{IsOneOf, WereOneOf, kept_files}
use Rattle.manifest.specs.{HasOnlyCreationFiles, ManifestRepresents, OnlyLooks}
use Rattle.embedded_store.specs.declared.error.OpenError.{OpenError}
use Rattle.embedded_store.specs.declared.store.EmbeddedStore.{EmbeddedStore}
use Rattle.embedded_store.specs.Openings.{AreNoStore, IsOfEnvironment, IsOfNoStore}
use Rattle.embedded_store.specs.Openings.{LeavesFound, OpensContents, disk_of_opening}
use Rattle.embedded_store.proofs.Refusals.{external_explains}

module _ {D : Type 0} (g : Ghosts D) where
  -- a look leaves what was left before
  pub look_leaves : {failed : Type 0} (P : Contents → Type 0) (old new : D) →
      OnlyLooks g old new failed → g.is_honest old → OnlyLeaves P (g.state old) →
      AlwaysLeaves g old new P
  look_leaves P old new looks honest only =
      weaker (IsCrashOutcome (g.state old)) P (g.state old) (g.past old) (g.state new)
      (g.past new) (λ left at. only left at) (looks.still honest)

  -- what a call leaves behind a look, both leave
  pub leaves_behind : {failed : Type 0} (P : Contents → Type 0) (old mid new : D) →
      OnlyLooks g old mid failed → g.is_honest old → OnlyLeaves P (g.state old) →
      (OnlyLeaves P (g.state mid) → AlwaysLeaves g mid new P) → AlwaysLeaves g old new P
  leaves_behind P old mid new looks honest only run =
      let first = look_leaves P old mid looks honest only in
      join P (g.state old) (g.state mid) (g.state new) (g.past old) (g.past mid) (g.past new)
      first (run first.now)

  -- ---- an opening behind a look

  -- what the look found is so behind it
  pub look_free : {failed : Type 0} (old mid : D) (is_free : Bool) → OnlyLooks g old mid failed →
      g.is_honest old → (IsTrue is_free ↔ HasOnlyCreationFiles (contents (g.state old))) →
      IsTrue is_free ↔ HasOnlyCreationFiles (contents (g.state mid))
  look_free old mid is_free looks honest found =
      let states : g.state mid ≡ g.state old = fun_ext (λ file. looks.kept.files honest file) in
      subst (λ (s : State). IsTrue is_free ↔ HasOnlyCreationFiles (contents s)) (sym states) found

  -- what an opening promises behind a look, both do
  pub look_opens : {failed : Type 0} (old mid : D)
      (result : Result (EmbeddedStore D g) (OpenError × D)) → OnlyLooks g old mid failed →
      g.is_honest old → OpensContents g mid (contents (g.state mid)) result →
      OpensContents g old (contents (g.state old)) result
  look_opens old mid result looks honest opens =
      let states : g.state mid ≡ g.state old = fun_ext (λ file. looks.kept.files honest file) in
      let same : OpensContents g mid (contents (g.state old)) result =
      subst (λ (s : State). OpensContents g mid (contents s) result) states opens in
      record {
        opened = same.opened;
        meant = same.meant;
        created = same.created;
        told = same.told;
        any_moment = λ facts list facts' list'. record {
          whole = λ only. leaves_behind (IsOneOf facts list facts' list') old mid
              (disk_of_opening result) looks honest only
              (opens.any_moment facts list facts' list').whole;
          meant = λ only. leaves_behind (WereOneOf facts list facts' list') old mid
              (disk_of_opening result) looks honest only
              (opens.any_moment facts list facts' list').meant;
        };
      }

  -- a look that is refused
  pub look_refused : {failed : Type 0} (old after : D) (s : OpenError) →
      OnlyLooks g old after failed → g.is_honest old → IsOfEnvironment s →
      OpensContents g old (contents (g.state old)) (Err (s, after))
  look_refused old after s looks honest external = record {
    opened = λ facts list files. inl external;
    meant = λ facts list files. tt;
    created = λ cut. external;
    told = external_explains (contents (g.state old)) (g.state after) s external;
    any_moment = λ facts list facts' list'. record {
      whole = λ only. look_leaves (IsOneOf facts list facts' list') old after looks honest only;
      meant = λ only. look_leaves (WereOneOf facts list facts' list') old after looks honest only;
    };
  }

  -- what an opening leaves behind a look, both do
  pub look_keeps : {failed : Type 0} (old mid : D)
      (result : Result (EmbeddedStore D g) (OpenError × D)) → OnlyLooks g old mid failed →
      LeavesFound g mid result → LeavesFound g old result
  look_keeps old mid result looks left = record {
    refused = look_still old mid result looks left.refused;
    named = λ named honest represents.
        let states : g.state mid ≡ g.state old =
        fun_ext (λ file. looks.kept.files honest file) in
        spares_more (kept_files named.version) (looks.still honest)
        (left.named named (looks.kept.honest.1 honest)
        (subst (λ (s : State). ManifestRepresents named (contents s)) (sym states) represents));
  }
    where
      look_still : {failed : Type 0} (old mid : D)
          (result : Result (EmbeddedStore D g) (OpenError × D)) → OnlyLooks g old mid failed →
          IfErr result (λ refused. IsOfNoStore refused.0 ⊎ AreNoStore (contents (g.state mid)) →
          IsStill g mid refused.1) →
          IfErr result (λ refused. IsOfNoStore refused.0 ⊎ AreNoStore (contents (g.state old)) →
          IsStill g old refused.1)
      look_still old mid (Ok store) looks left = tt
      look_still old mid (Err refused) looks left = λ why honest.
          let states : g.state mid ≡ g.state old =
          fun_ext (λ file. looks.kept.files honest file) in
          still_more (looks.still honest) (left (subst
          (λ (s : State). IsOfNoStore refused.0 ⊎ AreNoStore (contents s)) (sym states) why)
          (looks.kept.honest.1 honest))

  -- a look that is refused leaves all
  pub look_leaves_all : {failed : Type 0} (old after : D) (s : OpenError) →
      OnlyLooks g old after failed → LeavesFound g old (Err (s, after))
  look_leaves_all old after s looks = record {
    refused = λ why. looks.still;
    named = λ named honest represents. spares_still (kept_files named.version) (looks.still honest);
  }
