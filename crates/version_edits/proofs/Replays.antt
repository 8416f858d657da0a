-- Records that are replayed one after the other.
use Rattle.std.proofs.Common.{◌≡◌, ◌≢◌, ℕ, zero, suc, ◌+◌, ◌≤◌, List, [], ◌∷◌, ◌++◌, length, map}
use Rattle.std.proofs.Common.{take}
use Rattle.std.proofs.Common.{Option, Some, None, All, refl, sym, ap, subst, ◌∙◌, arith}
use Rattle.std.specs.Prelude.{Err, IsErrOf, slice_get}
use Rattle.std.proofs.lemmas.List.{take_all}
use Rattle.std.proofs.lemmas.List.Elements.{All-append, All-cons, All-head, All-nil, All-tail}
use Rattle.record_log.specs.{ends_from}
use Rattle.byte_fields.specs.declared.format.Format.{Format}
use Rattle.version_edits.specs.Versions.{StoreVersion, NodeVersion, Change}
use Rattle.version_edits.specs.Versions.{IsFit, AreFit, after_all}
use Rattle.version_edits.specs.Versions.{changed}
use Rattle.version_edits.specs.Versions.{empty, version_in}
use Rattle.version_edits.specs.Edits.{IsChangeIn, ChangesDiffer, change_text_in}
use Rattle.version_edits.specs.Replays.{IsEditHistory, IsReplayed, version_after_all}
use Rattle.version_edits.specs.VersionsLemmas.{after_push, fit_push, map_push}

pub length-ends_from : (at : ℕ) (records : List (List ℕ)) →
    length (ends_from at records) ≡ length records
length-ends_from at [] = refl
length-ends_from at (first ∷ others) =
    ap suc (length-ends_from (at + 5 + length first) others)

-- one record more
take_got : (records : List (List ℕ)) (i : ℕ) (bytes : List ℕ) → slice_get records i ≡ Some bytes
    → take (i + 1) records ≡ take i records ++ bytes ∷ []
take_got [] i bytes got = absurd cc
take_got (x ∷ xs) zero bytes got = let is : x ≡ bytes = cc in ap (λ (b : List ℕ). b ∷ []) is
take_got (x ∷ xs) (suc i) bytes got =
    let more : suc i + 1 ≡ suc (i + 1) = omega arith in
    ap (λ (n : ℕ). take n (x ∷ xs)) more
    ∙ ap (λ (l : List (List ℕ)). x ∷ l) (take_got xs i bytes got)

-- the version so far is that of the edits
draft_is : (id : ℕ) (changes : List Change)
    → version_in (version_after_all id changes) ≡ after_all empty changes
draft_is id [] = refl
draft_is id (first ∷ others) = refl

after_some : (id : ℕ) (changes : List Change) (one : Change)
    → version_after_all id (changes ++ one ∷ [])
    ≡ Some (record { id = id; version = after_all empty (changes ++ one ∷ []) })
after_some id [] one = refl
after_some id (first ∷ others) one = refl

pub replayed_none : (format : Format) (id : ℕ) → IsReplayed format id None []
replayed_none format id = record {
  changes = [];
  each = All-nil (IsChangeIn format);
  fit = tt;
  spelled = refl;
  so_far = refl;
}

pub replayed_next : (format : Format) (id : ℕ) (draft : Option NodeVersion)
    (records : List (List ℕ)) (i : ℕ) (bytes : List ℕ) (one : Change) (version : NodeVersion)
    → IsReplayed format id draft (take i records)
    → slice_get records i ≡ Some bytes → bytes ≡ change_text_in format one → IsChangeIn format one
    → IsFit (version_in draft) one
    → version ≡ record { id = id; version = changed (version_in draft) one }
    → IsReplayed format id (Some version) (take (i + 1) records)
replayed_next format id draft records i bytes one version r got spelled is fit gives =
    let before : version_in draft ≡ after_all empty r.changes =
    ap version_in r.so_far ∙ draft_is id r.changes in
    record {
      changes = r.changes ++ one ∷ [];
      each = All-append (IsChangeIn format) r.changes (one ∷ []) r.each
          (All-cons (IsChangeIn format) one [] is (All-nil (IsChangeIn format)));
      fit = fit_push empty r.changes one r.fit
          (subst (λ (v : StoreVersion). IsFit v one) before fit);
      spelled = take_got records i bytes got
          ∙ ap (λ (b : List ℕ). take i records ++ b ∷ []) spelled
          ∙ ap (λ (l : List (List ℕ)). l ++ change_text_in format one ∷ []) r.spelled
          ∙ sym (map_push format r.changes one);
      so_far = ap Some (gives ∙ ap (λ (v : StoreVersion). named v)
          (ap (λ (v : StoreVersion). changed v one) before ∙ sym (after_push empty r.changes one)))
          ∙ sym (after_some id r.changes one);
    }
  where
    named : StoreVersion → NodeVersion
    named v = record { id = id; version = v }

-- ---- records that are edits

-- a record that is one of the edits reads as one
pub got_change : (format : Format) (cs : List Change) (i : ℕ) (bytes : List ℕ)
    → slice_get (map (change_text_in format) cs) i ≡ Some bytes → All (IsChangeIn format) cs
    → (c : Change) × IsChangeIn format c × (bytes ≡ change_text_in format c)
got_change format [] i bytes got each = absurd cc
got_change format (c ∷ cs) zero bytes got each =
    let is : bytes ≡ change_text_in format c = cc in (c, All-head (IsChangeIn format) c cs each, is)
got_change format (c ∷ cs) (suc i) bytes got each =
    got_change format cs i bytes got (All-tail (IsChangeIn format) c cs each)

-- and may be taken behind those before it
pub got_fits : ChangesDiffer → (format : Format) (v : StoreVersion) (cs done : List Change)
    (i : ℕ) (bytes : List ℕ) (one : Change)
    → All (IsChangeIn format) cs → All (IsChangeIn format) done → AreFit v cs
    → take i (map (change_text_in format) cs) ≡ map (change_text_in format) done
    → slice_get (map (change_text_in format) cs) i ≡ Some bytes → bytes ≡ change_text_in format one
    → IsChangeIn format one → IsFit (after_all v done) one
got_fits differ format v [] done i bytes one each all fit same got spelled is = absurd cc
got_fits differ format v (c ∷ cs) [] zero bytes one each all fit same got spelled is =
    let read : change_text_in format c ≡ change_text_in format one = cc in
    subst (IsFit v) (differ format c one (All-head (IsChangeIn format) c cs each) is read) fit.0
got_fits differ format v (c ∷ cs) (d ∷ ds) zero bytes one each all fit same got spelled is =
    absurd cc
got_fits differ format v (c ∷ cs) [] (suc i) bytes one each all fit same got spelled is = absurd cc
got_fits differ format v (c ∷ cs) (d ∷ ds) (suc i) bytes one each all fit same got spelled is =
    let first : change_text_in format c ≡ change_text_in format d = cc same in
    let others : take i (map (change_text_in format) cs) ≡ map (change_text_in format) ds =
    cc same in
    let head : c ≡ d =
    differ format c d (All-head (IsChangeIn format) c cs each)
    (All-head (IsChangeIn format) d ds all) first in
    let later = got_fits differ format (changed v c) cs ds i bytes one
    (All-tail (IsChangeIn format) c cs each)
    (All-tail (IsChangeIn format) d ds all) fit.1 others got spelled is in
    subst (λ (x : Change). IsFit (after_all (changed v x) ds) one) head later

-- so an edit that may not be taken is none of them
pub takes_next : ChangesDiffer → (format : Format) (id : ℕ) (draft : Option NodeVersion)
    (cs : List Change) (i : ℕ) (bytes : List ℕ) (one : Change)
    → IsReplayed format id draft (take i (map (change_text_in format) cs))
    → IsEditHistory format cs → slice_get (map (change_text_in format) cs) i ≡ Some bytes
    → bytes ≡ change_text_in format one → IsChangeIn format one → IsFit (version_in draft) one
takes_next differ format id draft cs i bytes one r history got spelled is =
    subst (λ (v : StoreVersion). IsFit v one) (sym (ap version_in r.so_far ∙ draft_is id r.changes))
    (got_fits differ format empty cs r.changes i bytes one history.each r.each history.fit
    r.spelled got spelled is)

-- ---- the end

-- no version was given by no record alone
none_left : (id : ℕ) (changes : List Change) → None ≡ version_after_all id changes → changes ≡ []
none_left id [] e = refl
none_left id (first ∷ others) e = absurd cc

no_records : (format : Format) (cs : List Change) → map (change_text_in format) cs ≡ [] → cs ≡ []
no_records format [] e = refl
no_records format (c ∷ cs) e = absurd cc

pub some_replayed : (format : Format) (id : ℕ) (cs : List Change) (n : ℕ)
    → IsReplayed format id None (take n (map (change_text_in format) cs))
    → length (map (change_text_in format) cs) ≤ n → IsEditHistory format cs → ⊥
some_replayed format id cs n r all history =
    history.some (no_records format cs
    (sym (take_all n (map (change_text_in format) cs) all) ∙ r.spelled
    ∙ ap (map (change_text_in format)) (none_left id r.changes r.so_far)))

-- all records were replayed
some_left : (id : ℕ) (changes : List Change) (version : NodeVersion)
    → Some version ≡ version_after_all id changes
    → (changes ≢ []) × (version ≡ record { id = id; version = after_all empty changes })
some_left id [] version e = absurd cc
some_left id (first ∷ others) version e = ((λ n. absurd cc), cc)

pub all_replayed : (format : Format) (id : ℕ) (version : NodeVersion) (records : List (List ℕ))
    (n : ℕ) → IsReplayed format id (Some version) (take n records) → length records ≤ n
    → (changes : List Change) × IsEditHistory format changes
    × (records ≡ map (change_text_in format) changes)
    × (version ≡ record { id = id; version = after_all empty changes })
all_replayed format id version records n r all =
    let s = some_left id r.changes version r.so_far in (
      r.changes,
      record { some = s.0; each = r.each; fit = r.fit },
      sym (take_all n records all) ∙ r.spelled,
      s.1,
    )

-- a refusal is the same whatever an answer would be
pub err_of : {T U E : Type 0} (e f : E) → IsErrOf {T = T} (Err e) f → IsErrOf {T = U} (Err e) f
err_of e f same = let is : e ≡ f = cc same in ap Err is
