-- What an upgrade leaves of slots of format 1.
use Rattle.std.proofs.Common.{◌≡◌, ℕ, ◌+◌, List, [], ◌∷◌, map, refl, subst, sym, ap}
use Rattle.std.proofs.Common.{◌∙◌, Option, Some, Result, Ok, Err, inl, inr}
use Rattle.std.specs.Prelude.{MatchResult}
use Rattle.std.proofs.lemmas.List.Elements.{All-cons, All-nil}
use Rattle.configurations.specs.{IsId}
use Rattle.disk.specs.{Contents, IsCrashOutcome, IsEnvironmental, IsFileOutcome, LeavesSince}
use Rattle.disk.specs.{OnlyLeaves, Slot, State, seen}
use Rattle.disk.specs.MomentsLemmas.{join, none_yet, weaker}
use Rattle.disk.specs.StepsLemmas.{sure_only}
use Rattle.record_log.specs.{IsDurableAs}
use Rattle.version_edits.specs.{IsChange, IsFullEdit, NodeVersion, change_text_in}
use Rattle.byte_fields.specs.declared.format.Format.{Format}
use Rattle.byte_fields.specs.declared.format.Format.TheVariants as formats
use Rattle.manifest.specs.declared.error.ManifestError.{ManifestError}
use Rattle.manifest.specs.declared.error.ManifestError.TheVariants as manifest
use Rattle.manifest.specs.declared.slot_pair.SlotPair.{SlotPair}
use Rattle.manifest.specs.declared.upgrade.Upgrade.{Upgrade}
use Rattle.manifest.specs.Holds.{SparesOthers}
use Rattle.manifest.specs.Opening.{AreOpened}
use Rattle.manifest.specs.Changes.{IsLeftByRewrite}
use Rattle.manifest.specs.Slots.{IsSlotFile, ManifestRepresents, ManifestRepresentsIn}
use Rattle.manifest.specs.Slots.{SlotsRepresent, SlotsRepresentIn, other_slot}
use Rattle.manifest.specs.Upgrades.{IsLeftOfUpgrade, IsLeftUpgrading, IsOfFormatTwo, IsUpgradeOf}
use Rattle.manifest.specs.Upgrades.{UpgradeRefusal}
use Rattle.manifest.proofs.Records.{has_old, has_old_at, other_one, others_differ}

-- one record that is an edit which gives the version represents it, in the same slot
whole_left_at : (named : NodeVersion) (text : List ℕ) (left : Contents) → IsId named.id
    → IsFullEdit named text → (has : SlotsRepresent named.id (text ∷ []) left)
    → (new : ManifestRepresents named left) × (new.records.slot ≡ has.slot)
    × (new.records.generation ≡ has.generation)
whole_left_at named text left id w has =
    let moved = subst (λ (t : List ℕ). (more : SlotsRepresent named.id (t ∷ []) left)
    × (more.slot ≡ has.slot) × (more.generation ≡ has.generation)) w.spelled (has, refl, refl) in (
      record {
        id = id;
        changes = w.change ∷ [];
        some = λ e. absurd cc;
        each = All-cons IsChange w.change [] w.is (All-nil IsChange);
        fit = (w.fit, tt);
        is = sym w.whole;
        records = moved.0;
      },
      moved.1,
      moved.2,
    )

pub whole_left : (named : NodeVersion) (text : List ℕ) (left : Contents) → IsId named.id
    → IsFullEdit named text → SlotsRepresent named.id (text ∷ []) left
    → ManifestRepresents named left
whole_left named text left id w has = (whole_left_at named text left id w has).0

-- ---- slots that were opened

module _ (format : Format) (left : Contents) (disk : State) (slots : SlotPair)
    (named : NodeVersion) (h : AreOpened format left disk slots named) where
  -- with the records that they had, slots represent the version
  abbrev pub as_before : (other : Contents)
      → SlotsRepresentIn format named.id (map (change_text_in format) h.changes) other
      → ManifestRepresentsIn format named other
  as_before other has = record {
    id = h.id;
    changes = h.changes;
    some = h.history.some;
    each = h.history.each;
    fit = h.history.fit;
    is = h.is;
    records = has;
  }

  -- so they did
  abbrev pub had_version : ManifestRepresentsIn format named left
  had_version = as_before left h.had

  -- and so does what a crash leaves of them
  pub left_so : OnlyLeaves (ManifestRepresentsIn format named) disk
  left_so other now = as_before other
      (has_old format disk slots named.id (map (change_text_in format) h.changes) h.holds other
      (λ slot one. now slot))

  -- the slot that counted is durable as it was
  pub counted_stays : (new : State) → new slots.slot ≡ disk slots.slot → (bytes : List ℕ)
      → left h.had.slot ≡ Some bytes → IsDurableAs new h.had.slot bytes
  counted_stays new same bytes was =
      let own : IsDurableAs disk slots.slot h.holds.log.bytes =
      subst (λ (f : ℕ). IsDurableAs disk f h.holds.log.bytes) h.holds.at.in_file
      h.holds.log.sure in
      let read : Some h.holds.log.bytes ≡ Some bytes =
      sym (ap seen own) ∙ h.read slots.slot h.holds.one
      ∙ subst (λ (f : ℕ). left f ≡ Some bytes) h.slot was in
      let is : h.holds.log.bytes ≡ bytes = cc in
      subst (λ (f : ℕ). IsDurableAs new f bytes) (sym h.slot)
      (same ∙ subst (IsDurableAs disk slots.slot) is own)

-- ---- slots of format 1 that were opened

module _ (left : Contents) (disk : State) (slots : SlotPair) (named : NodeVersion)
    (h : AreOpened formats.One left disk slots named) where
  -- a crash leaves the slot that counts as it was read
  stays_so : (other : Contents) → IsFileOutcome (disk slots.slot) (other slots.slot)
      → other h.had.slot ≡ left h.had.slot
  stays_so other now =
      let bytes = h.holds.log.bytes in
      let own : IsDurableAs disk slots.slot bytes =
      subst (λ (f : ℕ). IsDurableAs disk f bytes) h.holds.at.in_file h.holds.log.sure in
      let here : other slots.slot ≡ Some bytes =
      sure_only (λ (l : Option (List ℕ)). l ≡ Some bytes) bytes refl (other slots.slot)
      (subst (λ (s : Slot). IsFileOutcome s (other slots.slot)) own now) in
      let read : left slots.slot ≡ Some bytes =
      sym (h.read slots.slot h.holds.one) ∙ ap seen own in
      subst (λ (f : ℕ). other f ≡ left f) (sym h.slot) (here ∙ sym read)

  -- before the first call
  pub not_begun : (past : List State)
      → LeavesSince disk past disk past (IsLeftUpgrading disk left named)
  not_begun past =
      none_yet (IsLeftUpgrading disk left named) disk past
      (λ other now.
      let old = has_old_at formats.One disk slots named.id
      (map (change_text_in formats.One) h.changes)
      h.holds other (λ slot one. now slot) in
      record {
        had = had_version formats.One left disk slots named h;
        stays = stays_so other (now slots.slot);
        here = inl (as_before formats.One left disk slots named h other old.0, old.1 ∙ sym h.slot);
        others = λ file apart. now file;
      })

  -- while the other slot is written with an edit that gives the version
  pub rewritten_since : (text : List ℕ) → IsFullEdit named text → (new : State)
      (past since : List State) → LeavesSince disk past new since (IsLeftByRewrite formats.One disk
      slots named.id (map (change_text_in formats.One) h.changes) text)
      → LeavesSince disk past new since (IsLeftUpgrading disk left named)
  rewritten_since text w new past since run =
      weaker
      (IsLeftByRewrite formats.One disk slots named.id
      (map (change_text_in formats.One) h.changes) text)
      (IsLeftUpgrading disk left named) disk past new since
      (λ other has. record {
        had = had_version formats.One left disk slots named h;
        stays = stays_so other (has.others slots.slot
            (λ same. others_differ slots.slot h.holds.one (sym same)));
        here = elim has.here [
          | inl old ↦ inl (
            as_before formats.One left disk slots named h other old.0,
            old.1 ∙ sym h.slot,
          )
          | inr more ↦
              let one = whole_left_at named text other h.id w more.0 in inr (
                one.0,
                one.1 ∙ more.1 ∙ ap other_slot (sym h.slot),
                one.2 ∙ more.2 ∙ ap (λ (n : ℕ). n + 1) (sym h.generation),
              )
        ];
        others = λ file apart. has.others file
            (λ same. apart (subst IsSlotFile (sym same) (other_one slots.slot h.holds.one)));
      }) run

-- slots of format 2 are as they were
pub already_two : (left : Contents) (disk : State) (slots : SlotPair) (named : NodeVersion)
    → AreOpened formats.Two left disk slots named → IsOfFormatTwo left disk named
already_two left disk slots named h = record {
  had = had_version formats.Two left disk slots named h;
  read = h.read;
  leaves = left_so formats.Two left disk slots named h;
}

-- ---- an upgrade, behind the reads

-- what it answers of this version it answers of some
pub answers_some : (left : Contents) (new : State) (named : NodeVersion)
    (result : Result Upgrade ManifestError)
    → MatchResult result (IsUpgradeOf left new named)
    (IsEnvironmental manifest.Disk manifest.Memory)
    → MatchResult result (λ it. (some : NodeVersion) × IsUpgradeOf left new some it)
    (λ e. UpgradeRefusal e left)
answers_some left new named (Ok it) is = (named, is)
answers_some left new named (Err e) (inl failed) =
    subst (λ (x : ManifestError). UpgradeRefusal x left) (sym failed) tt
answers_some left new named (Err e) (inr memory) =
    subst (λ (x : ManifestError). UpgradeRefusal x left) (sym memory) tt

-- and of the version that is named
pub of_named : (left : Contents) (new : State) (version named : NodeVersion) → version ≡ named
    → (result : Result Upgrade ManifestError)
    → MatchResult result (IsUpgradeOf left new version)
    (IsEnvironmental manifest.Disk manifest.Memory)
    → MatchResult result (IsUpgradeOf left new named)
    (IsEnvironmental manifest.Disk manifest.Memory)
of_named left new version named same (Ok it) is =
    subst (λ (n : NodeVersion). IsUpgradeOf left new n it) same is
of_named left new version named same (Err e) is = is

-- reads leave nothing new
pub read_since : (old new : State) (past since : List State) (was : Contents)
    → LeavesSince old past new since (IsCrashOutcome old)
    → LeavesSince old past new since (IsLeftOfUpgrade old was)
read_since old new past since was run =
    weaker (IsCrashOutcome old) (IsLeftOfUpgrade old was) old past new since
    (λ left now. inl now) run

-- and then slots of the version, on the way
pub upgrade_since : (old mid new : State) (past so_far since : List State) (was : Contents)
    (named : NodeVersion) → SparesOthers old mid
    → LeavesSince old past mid so_far (IsCrashOutcome old)
    → LeavesSince mid so_far new since (IsLeftUpgrading mid was named)
    → LeavesSince old past new since (IsLeftOfUpgrade old was)
upgrade_since old mid new past so_far since was named spares run more =
    join (IsLeftOfUpgrade old was) old mid new past so_far since
    (read_since old mid past so_far was run)
    (weaker (IsLeftUpgrading mid was named) (IsLeftOfUpgrade old was) mid so_far new since
    (λ left has. inr (
      named,
      record {
        had = has.had;
        stays = has.stays;
        here = has.here;
        others = λ other apart. subst (λ (s : Slot). IsFileOutcome s (left other))
            (spares other apart) (has.others other apart);
      },
    )) more)
