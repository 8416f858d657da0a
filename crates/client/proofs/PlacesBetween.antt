-- Frames that were sent between two moments of a world, and what statements deliver of them.
use Rattle.std.proofs.Common.{◌≡◌, ◌≤◌, ◌+◌, ◌-◌, ℕ, suc, List, [], ◌∷◌, ◌++◌, length, map}
use Rattle.std.proofs.Common.{take, drop, refl, sym, ap, ap₂, subst, ◌∙◌, arith, append_assoc}
use Rattle.std.proofs.Common.{append-nil, All}
use Rattle.std.proofs.lemmas.List.{take-append-drop}
use Rattle.std.proofs.lemmas.List.Elements.{recursion_from_All}
use Rattle.disk.specs.declared.disk.Disk.{Ghosts}
use Rattle.lab.specs.EventContent as lab
use Rattle.lab.specs.EventKind.{EventKind}
use Rattle.lab.specs.declared.world.World.{World}
use Rattle.lab.specs.{EventAddsLines, events_so_far, sent_so_far}
use Rattle.scripts.specs.declared.statement.Action.{Action}
use Rattle.client.specs.ReportedRuns.{DeliversLeft, DeliversUpTo, places_between}
use Rattle.client.specs.ScriptRuns.{IsRising, delivery, left_after, left_after_event, most}
use Rattle.client.specs.ScriptRuns.{places_after}
use Rattle.client.proofs.Flowing.{drop_more, map-more, places_after-more, reaches, take_more}
use Rattle.client.proofs.Flowing.{used_up}
use Rattle.client.proofs.Leaving.{all_rise, left_rises}

-- ---- places

between_numbers : (a b c : ℕ) → a ≤ b → b ≤ c →
    places_after a (c - a) ≡ places_after a (b - a) ++ places_after b (c - b)
between_numbers a b c first second =
    let count : c - a ≡ (b - a) + (c - b) = omega (arith, first, second) in
    let start : a + (b - a) ≡ b = omega (arith, first) in
    ap (λ (n : ℕ). places_after a n) count ∙ places_after-more a (b - a) (c - b)
    ∙ ap (λ (s : ℕ). places_after a (b - a) ++ places_after s (c - b)) start

between_same : (a : ℕ) → places_after a (a - a) ≡ []
between_same a =
    let none : a - a ≡ 0 = omega arith in
    ap (λ (n : ℕ). places_after a n) none

-- these are left, where so many had been sent and so many have been
pub added_between : (before now sent_before sent_now : ℕ) (left old : List ℕ) →
    before ≡ sent_before → now ≡ sent_now → left ≡ old ++ places_after before (now - before) →
    left ≡ old ++ places_after sent_before (sent_now - sent_before)
added_between before now sent_before sent_now left old was is e =
    e ∙ ap₂ (λ (a b : ℕ). old ++ places_after a (b - a)) was is

only_one : (own : List lab.EventContent) (event : lab.EventContent) → length own ≡ 1 →
    All (λ it. it ≡ event) own → own ≡ event ∷ []
only_one [] event one each = absurd (omega (arith, one))
only_one (it ∷ []) event one each =
    ap (λ (x : lab.EventContent). x ∷ [])
    (recursion_from_All (λ (x : lab.EventContent). x ≡ event) (it ∷ []) each).0
only_one (it ∷ next ∷ own) event one each = absurd (omega (arith, one))

module _ {D C : Type 0} {g : Ghosts D} where
  pub none_between : (world : World D C g) (left : List ℕ) →
      left ≡ left ++ places_between world world
  none_between world left = sym (ap (λ (l : List ℕ). left ++ l) (between_same (sent_so_far world))
      ∙ append-nil left)

  -- the frames that are left, with those that are sent at two times
  between_more : (left : List ℕ) (first mid now : World D C g) →
      sent_so_far first ≤ sent_so_far mid → sent_so_far mid ≤ sent_so_far now →
      left ++ places_between first now
      ≡ (left ++ places_between first mid) ++ places_between mid now
  between_more left first mid now before after =
      ap (λ (l : List ℕ). left ++ l)
      (between_numbers (sent_so_far first) (sent_so_far mid) (sent_so_far now) before after)
      ∙ sym (append_assoc left (places_between first mid) (places_between mid now))

  -- ---- a flow

  -- so many of the frames that are left were delivered
  pub record Delivers (first now : World D C g) (old left : List ℕ) (count : ℕ) : Type 0 where
    pub rises : sent_so_far first ≤ sent_so_far now
    pub took : events_so_far now
        ≡ events_so_far first ++ map delivery (take count (old ++ places_between first now))
    pub behind : left ≡ drop count (old ++ places_between first now)
    pub within : count ≤ length (old ++ places_between first now)
    pub stays : count ≡ 0 → now ≡ first

  pub delivers_none : (world : World D C g) (old : List ℕ) → Delivers world world old old 0
  delivers_none world old = record {
    rises = omega arith;
    took = sym (append-nil (events_so_far world));
    behind = none_between world old;
    within = omega arith;
    stays = λ _. refl;
  }

  pub delivers_on : (first mid now : World D C g) (old left rest next : List ℕ) (count p : ℕ) →
      Delivers first mid old left count → left ≡ p ∷ rest → EventAddsLines (delivery p) mid now →
      next ≡ rest ++ places_between mid now → Delivers first now old next (suc count)
  delivers_on first mid now old left rest next count p d is adds added =
      let all = old ++ places_between first mid in
      let new = places_between mid now in
      let up : sent_so_far mid ≤ sent_so_far now = omega (arith, adds.shown) in
      let more = between_more old first mid now d.rises up in
      let front : p ∷ rest ≡ drop count all = sym is ∙ d.behind in
      let taken : take (suc count) (old ++ places_between first now) ≡ take count all ++ p ∷ [] =
      ap (λ (l : List ℕ). take (suc count) l) more ∙ take_more all new rest count p front in
      let own : adds.own ≡ delivery p ∷ [] =
      only_one adds.own (delivery p) (adds.all tt) adds.of in
      record {
        rises = omega (arith, d.rises, up);
        took = adds.took ∙ (ap (λ (l : List lab.EventContent). events_so_far mid ++ l) own
            ∙ (ap (λ (l : List lab.EventContent). l ++ delivery p ∷ []) d.took
            ∙ (append_assoc (events_so_far first) (map delivery (take count all))
            (delivery p ∷ [])
            ∙ ap (λ (l : List lab.EventContent). events_so_far first ++ l)
            (sym (map-more (take count all) p)
            ∙ ap (λ (l : List ℕ). map delivery l) (sym taken)))));
        behind = added ∙ (sym (drop_more all new rest count p front)
            ∙ ap (λ (l : List ℕ). drop (suc count) l) (sym more));
        within = subst (λ (l : List ℕ). suc count ≤ length l) (sym more)
            (reaches all new rest count p front);
        stays = λ none. absurd (omega (arith, none));
      }

  -- .. and the next one is about to be
  pub delivers_next : (first now : World D C g) (old left rest : List ℕ) (count p : ℕ) →
      Delivers first now old left count → left ≡ p ∷ rest →
      DeliversUpTo first now old (delivery p)
  delivers_next first now old left rest count p d is =
      let all = old ++ places_between first now in
      record {
        first = take count all;
        place = p;
        rest = rest;
        all = sym (take-append-drop count all)
            ∙ ap (λ (l : List ℕ). take count all ++ l) (sym d.behind ∙ is);
        events = d.took;
        next = refl;
      }

  -- no frame is left
  pub delivered_all : (first now : World D C g) (old left : List ℕ) (count : ℕ) →
      Delivers first now old left count → left ≡ [] → count ≤ most → DeliversLeft first now old left
  delivered_all first now old left count d empty few =
      let all = old ++ places_between first now in
      let u = used_up all count most (sym empty ∙ d.behind) few in
      record {
        events = d.took ∙ ap (λ (l : List ℕ). events_so_far first ++ map delivery l) (sym u.0);
        left = empty ∙ sym u.1;
      }

  -- the bound is reached
  pub delivered_most : (first now : World D C g) (old left : List ℕ) (count : ℕ) →
      Delivers first now old left count → count ≤ most → most ≤ count →
      DeliversLeft first now old left
  delivered_most first now old left count d few reached =
      let same : count ≡ most = omega (arith, reached, few) in
      let all = old ++ places_between first now in
      record {
        events = d.took ∙ ap (λ (k : ℕ). events_so_far first ++ map delivery (take k all)) same;
        left = d.behind ∙ ap (λ (k : ℕ). drop k all) same;
      }

  -- ---- a settle

  -- what is sent is left
  pub record LeavesSent (first now : World D C g) (old left : List ℕ) (count : ℕ) : Type 0 where
    pub rises : sent_so_far first ≤ sent_so_far now
    pub behind : left ≡ old ++ places_between first now
    pub stays : count ≡ 0 → now ≡ first

  pub leaves_none : (world : World D C g) (old : List ℕ) → LeavesSent world world old old 0
  leaves_none world old = record {
    rises = omega arith;
    behind = none_between world old;
    stays = λ _. refl;
  }

  pub leaves_on : (first mid now : World D C g) (old left next : List ℕ) (count : ℕ)
      (event : lab.EventContent) → LeavesSent first mid old left count →
      EventAddsLines event mid now → next ≡ left ++ places_between mid now →
      LeavesSent first now old next (count + 1)
  leaves_on first mid now old left next count event l adds added =
      let up : sent_so_far mid ≤ sent_so_far now = omega (arith, adds.shown) in
      record {
        rises = omega (arith, l.rises, up);
        behind = added ∙ (ap (λ (xs : List ℕ). xs ++ places_between mid now) l.behind
            ∙ sym (between_more old first mid now l.rises up));
        stays = λ none. absurd (omega (arith, none));
      }

  -- ---- what is left rises

  pub left_of_event : (old new : World D C g) (kind : EventKind)
      (old_left mid_left new_left : List ℕ) → mid_left ≡ old_left ++ places_between old new →
      ((low high : ℕ) → IsRising low high mid_left → new_left ≡ left_after_event kind mid_left) →
      IsRising 0 (sent_so_far old) old_left →
      new_left ≡ left_after_event kind (old_left ++ places_between old new)
  left_of_event old new kind old_left mid_left new_left is removes up =
      let s = sent_so_far old in
      let k = sent_so_far new - s in
      removes 0 (s + k)
      (subst (λ (l : List ℕ). IsRising 0 (s + k) l) (sym is) (all_rise old_left 0 s k up))
      ∙ ap (λ (l : List ℕ). left_after_event kind l) is

  pub left_rises_on : (old new : World D C g) (action : Action) (old_left new_left : List ℕ) →
      sent_so_far old ≤ sent_so_far new → IsRising 0 (sent_so_far old) old_left →
      new_left ≡ left_after action (old_left ++ places_between old new) →
      IsRising 0 (sent_so_far new) new_left
  left_rises_on old new action old_left new_left order up is =
      let s = sent_so_far old in
      let k = sent_so_far new - s in
      let high : s + k ≡ sent_so_far new = omega (arith, order) in
      subst (λ (l : List ℕ). IsRising 0 (sent_so_far new) l) (sym is)
      (subst (λ (h : ℕ). IsRising 0 h (left_after action (old_left ++ places_between old new))) high
      (left_rises action old_left s k up))
