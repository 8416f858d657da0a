-- A version, by its edits.
use Rattle.std.proofs.Common.{◌≡◌, ◌≢◌, ℕ, List, [], ◌∷◌, ◌++◌, map, refl, sym, ap, subst, ◌∙◌, inl}
use Rattle.std.proofs.Common.{inr}
use Rattle.std.specs.Prelude.{All, ◌⊎◌}
use Rattle.std.proofs.lemmas.List.Elements.{All-append, All-cons, All-nil}
use Rattle.disk.specs.declared.DiskError.TheVariants as disk
use Rattle.disk.specs.{IsEnvironmental, State, Contents}
use Rattle.disk.specs.{LeavesSince}
use Rattle.disk.specs.MomentsLemmas.{none_yet, weaker}
use Rattle.manifest.specs.declared.error.ManifestError.TheVariants as manifest
use Rattle.manifest.specs.declared.manifest.Manifest.{Manifest}
use Rattle.version_edits.specs.{StoreVersion, NodeVersion, Change, empty, changed, IsFit}
use Rattle.version_edits.specs.{AreFit, after_all}
use Rattle.version_edits.specs.{node_version_after}
use Rattle.version_edits.specs.{IsFullEdit}
use Rattle.byte_fields.specs.declared.format.Format.TheVariants as formats
use Rattle.version_edits.specs.{IsChange, change_text}
use Rattle.record_log.specs.declared.LogError.TheVariants as log
use Rattle.record_log.specs.declared.LogError.{LogError}
use Rattle.manifest.specs.Errors.{error_by_log}
use Rattle.manifest.specs.Slots.{SlotsAreLeft, SlotsRepresent, ManifestRepresents}
use Rattle.manifest.specs.Holds.{SlotsHold}
use Rattle.manifest.specs.Manifests.{IsRewritten, ManifestHolds, ManifestHasFailed}
use Rattle.manifest.proofs.Records.{has_old}
use Rattle.configurations.specs.{IsId}
use Rattle.version_edits.specs.VersionsLemmas.{after_push, fit_push, map_push}

pub not_empty : (changes : List Change) (one : Change) → (changes ++ one ∷ []) ≢ []
not_empty [] one same = absurd cc
not_empty (first ∷ others) one same = absurd cc

module _ (disk : State) (manifest : Manifest) (named : NodeVersion) (one : Change)
    (h : ManifestHolds disk manifest named) (fit : IsFit named.version one)
    (is : IsChange one) where
  abbrev more : List Change
  more = h.changes ++ one ∷ []

  each : All IsChange more
  each =
      All-append IsChange h.changes (one ∷ []) h.each
      (All-cons IsChange one [] is (All-nil IsChange))

  all_fit : AreFit empty more
  all_fit = fit_push empty h.changes one h.fit (subst (λ (v : StoreVersion). IsFit v one) h.is fit)

  gives : changed named.version one ≡ after_all empty more
  gives = ap (λ (v : StoreVersion). changed v one) h.is ∙ sym (after_push empty h.changes one)

  -- the old records give the old version
  pub old_version : (left : Contents) → SlotsRepresent named.id (map change_text h.changes) left
      → ManifestRepresents named left
  old_version left has =
      record {
        id = h.id;
        changes = h.changes;
        some = h.some;
        each = h.each;
        fit = h.fit;
        is = h.is;
        records = has;
      }

  -- the new ones give the new one
  pub new_version : (left : Contents)
      → SlotsRepresent named.id (map change_text h.changes ++ change_text one ∷ []) left
      → ManifestRepresents (node_version_after named one) left
  new_version left has =
      record {
        id = h.id;
        changes = more;
        some = not_empty h.changes one;
        each = each;
        fit = all_fit;
        is = gives;
        records = subst (λ (r : List (List ℕ)). SlotsRepresent named.id r left)
            (sym (map_push formats.Two h.changes one)) has;
      }

  -- at every moment
  pub version_since : (text : List ℕ) → text ≡ change_text one → (new : State)
      (past since : List State) → LeavesSince disk past new since (SlotsAreLeft disk
      (λ left. SlotsRepresent named.id (map change_text h.changes) left
      ⊎ SlotsRepresent named.id (map change_text h.changes ++ text ∷ []) left))
      → LeavesSince disk past new since (SlotsAreLeft disk
      (λ left. ManifestRepresents named left
      ⊎ ManifestRepresents (node_version_after named one) left))
  version_since text same new past since run =
      weaker (SlotsAreLeft disk (λ left. SlotsRepresent named.id (map change_text h.changes) left
      ⊎ SlotsRepresent named.id (map change_text h.changes ++ text ∷ []) left))
      (SlotsAreLeft disk (λ left. ManifestRepresents named left
      ⊎ ManifestRepresents (node_version_after named one) left))
      disk past new since
      (λ left has. record {
        here = elim has.here [
          | inl old ↦ inl (old_version left old)
          | inr more ↦ inr (new_version left (subst (λ (t : List ℕ).
              SlotsRepresent named.id (map change_text h.changes ++ t ∷ []) left) same more))
        ];
        others = has.others;
      }) run

  -- before the first call
  pub version_start : (past : List State) → LeavesSince disk past disk past (SlotsAreLeft disk
      (λ left. ManifestRepresents named left
      ⊎ ManifestRepresents (node_version_after named one) left))
  version_start past =
      none_yet (SlotsAreLeft disk (λ left. ManifestRepresents named left
      ⊎ ManifestRepresents (node_version_after named one) left))
      disk past
      (λ left now. record {
        here = inl (old_version left
            (has_old formats.Two disk manifest.slots named.id
            (map change_text h.changes) h.records left
            (λ slot is. now slot)));
        others = λ other apart. now other;
      })

  -- and after the last
  pub version_held : (text : List ℕ) → text ≡ change_text one → (new : State) (later : Manifest)
      → (ManifestHasFailed later → ⊥) → later.version ≡ node_version_after manifest.version one
      → SlotsHold new later.slots named.id (map change_text h.changes ++ text ∷ [])
      → ManifestHolds new later (node_version_after named one)
  version_held text same new later works knows held =
      record {
        works = works;
        knows = knows ∙ ap (λ (n : NodeVersion). node_version_after n one) h.knows;
        id = h.id;
        changes = more;
        some = not_empty h.changes one;
        each = each;
        fit = all_fit;
        is = gives;
        records = subst (λ (r : List (List ℕ)). SlotsHold new later.slots named.id r)
            (ap (λ (t : List ℕ). map change_text h.changes ++ t ∷ []) same
            ∙ sym (map_push formats.Two h.changes one)) held;
      }

-- what the log met is told so
pub met_is : (e : LogError) → IsEnvironmental (log.Disk disk.Failed) log.Memory e →
    IsEnvironmental manifest.Disk manifest.Memory (error_by_log e)
met_is e (inl failed) = rw failed (inl refl)
met_is e (inr memory) = rw memory (inr refl)

-- ---- rewriting

module _ (disk : State) (manifest : Manifest) (named : NodeVersion) (text : List ℕ)
    (h : ManifestHolds disk manifest named) (w : IsFullEdit manifest.version text) where
  -- one edit that gives the version
  gives_whole : named.version ≡ after_all empty (w.change ∷ [])
  gives_whole = ap (λ (n : NodeVersion). n.version) (sym h.knows) ∙ sym w.whole

  -- the new record gives the same version
  whole_version : (left : Contents) → SlotsRepresent named.id (text ∷ []) left
      → ManifestRepresents named left
  whole_version left has =
      record {
        id = h.id;
        changes = w.change ∷ [];
        some = λ e. absurd cc;
        each = All-cons IsChange w.change [] w.is (All-nil IsChange);
        fit = (w.fit, tt);
        is = gives_whole;
        records = subst (λ (t : List ℕ). SlotsRepresent named.id (t ∷ []) left) w.spelled has;
      }

  -- and so do the old ones
  kept_version : (left : Contents) → SlotsRepresent named.id (map change_text h.changes) left
      → ManifestRepresents named left
  kept_version left has =
      record {
        id = h.id;
        changes = h.changes;
        some = h.some;
        each = h.each;
        fit = h.fit;
        is = h.is;
        records = has;
      }

  -- at every moment
  pub whole_since : (new : State) (past since : List State)
      → LeavesSince disk past new since (SlotsAreLeft disk
      (λ left. SlotsRepresent named.id (map change_text h.changes) left
      ⊎ SlotsRepresent named.id (text ∷ []) left))
      → LeavesSince disk past new since (SlotsAreLeft disk (ManifestRepresents named))
  whole_since new past since run =
      weaker (SlotsAreLeft disk (λ left. SlotsRepresent named.id (map change_text h.changes) left
      ⊎ SlotsRepresent named.id (text ∷ []) left))
      (SlotsAreLeft disk (ManifestRepresents named)) disk past new since
      (λ left has. record {
        here = elim has.here [ inl old ↦ kept_version left old | inr new ↦ whole_version left new ];
        others = has.others;
      }) run

  -- and after the last
  pub whole_held : (new : State) (later : Manifest) → (ManifestHasFailed later → ⊥)
      → later.version ≡ manifest.version → SlotsHold new later.slots named.id (text ∷ [])
      → IsRewritten new later named
  whole_held new later works knows held =
      record {
        holds = record {
          works = works;
          knows = knows ∙ h.knows;
          id = h.id;
          changes = w.change ∷ [];
          some = λ e. absurd cc;
          each = All-cons IsChange w.change [] w.is (All-nil IsChange);
          fit = (w.fit, tt);
          is = gives_whole;
          records = subst (λ (t : List ℕ). SlotsHold new later.slots named.id (t ∷ [])) w.spelled
              held;
        };
        one = refl;
      }

-- before the first call
pub whole_start : (disk : State) (past : List State) (manifest : Manifest) (named : NodeVersion)
    → ManifestHolds disk manifest named
    → LeavesSince disk past disk past (SlotsAreLeft disk (ManifestRepresents named))
whole_start disk past manifest named h =
    none_yet (SlotsAreLeft disk (ManifestRepresents named)) disk past
    (λ left now. record {
      here = record {
        id = h.id;
        changes = h.changes;
        some = h.some;
        each = h.each;
        fit = h.fit;
        is = h.is;
        records = has_old formats.Two disk manifest.slots named.id
            (map change_text h.changes) h.records left
            (λ slot is. now slot);
      };
      others = λ other apart. now other;
    })

-- slots with one edit that gives a version whole
pub held_whole : (disk : State) (manifest : Manifest) (named : NodeVersion) (text : List ℕ)
    → IsId named.id
    → (w : IsFullEdit named text) → (ManifestHasFailed manifest → ⊥) → manifest.version ≡ named
    → SlotsHold disk manifest.slots named.id (text ∷ []) → ManifestHolds disk manifest named
held_whole disk manifest named text id w works knows held =
    record {
      works = works;
      knows = knows;
      id = id;
      changes = w.change ∷ [];
      some = λ e. absurd cc;
      each = All-cons IsChange w.change [] w.is (All-nil IsChange);
      fit = (w.fit, tt);
      is = sym w.whole;
      records = subst (λ (t : List ℕ). SlotsHold disk manifest.slots named.id (t ∷ [])) w.spelled
          held;
    }
