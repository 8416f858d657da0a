-- A step of a concatenation: of the child on which it stands, and where that ends, into
-- those after it.
use Rattle.std.proofs.Common.{◌≡◌, ◌<◌, ◌≤◌, ◌+◌, ◌-◌, ◌*◌, ℕ, refl, sym, ◌∙◌, ap, subst, List}
use Rattle.std.proofs.Common.{slice_set, Some, Result, Ok, Err, arith, length, Option}
use Rattle.std.specs.List.{slice_get, sum_by}
use Rattle.std.specs.Prelude.{IfOk}
use Rattle.disk.specs.{RisesByOne}
use Rattle.kv_types.specs.{Entry}
use Rattle.merge_iter.specs.{After, EachChild, ErrorCauses, IfOn, IsBroken}
use Rattle.merge_iter.specs.{IsFirst, IsIntact, IsOn, MoveFinds, Off, On, Broken, Position, StepsBy}
use Rattle.merge_iter.specs.{UnionHolds, WalkMeets, chain, never, reports}
use Rattle.merge_iter.specs.LentCursors.{AreIntact, KeepsChildren}
use Rattle.merge_iter.specs.Merging.{ChildrenKeep, child_position}
use Rattle.merge_iter.specs.Moves.{law_at, one_move}
use Rattle.merge_iter.specs.Unions.{all_sound, any_alike, first_kept, there}
use Rattle.merge_iter.specs.declared.Cursor.{Ghosts}
use Rattle.merge_iter.specs.declared.CursorError.{CursorError}
use Rattle.merge_iter.specs.declared.Direction.{Direction}
use Rattle.merge_iter.specs.declared.Direction.TheVariants.{Forward, Backward}
use Rattle.store_cursors.specs.declared.child_place.ChildPlace.{ChildPlace}
use Rattle.store_cursors.specs.declared.child_place.ChildPlace.TheVariants as place
use Rattle.store_cursors.specs.declared.start.Start.{Start}
use Rattle.store_cursors.specs.Concatenation.{AreConcatenated, EntersChildren, IsConcatenationOf}
use Rattle.store_cursors.specs.Concatenation.{IsOwnEntry}
use Rattle.store_cursors.specs.Concatenation.{NoneMet, StepsFrom, concatenated_left}
use Rattle.store_cursors.specs.Concatenation.{concatenated_position, left_from}
use Rattle.store_cursors.specs.Concatenation.{start_at_end, may_allocate, rank, walk_start}
use Rattle.store_cursors.specs.Concatenation.{walk_way}
use Rattle.store_cursors.specs.ConcatenationLaws.{own_on}
use Rattle.store_cursors.specs.StoreCursorLaws.{HasCursorLaws}
use Rattle.store_cursors.proofs.ChildMoves.{found_first, in_way, keep_none, keep_one, keep_through}
use Rattle.store_cursors.proofs.ChildMoves.{none_met, set_there, tells_from}
use Rattle.store_cursors.proofs.Entering.{on_unbroken, same_causes}

-- the direction of a walk from its end
pub end_way : (way : Direction) → walk_way (start_at_end way) ≡ way
end_way Forward = refl
end_way Backward = refl

-- it meets each entry
pub end_meets : (way : Direction) (e : Entry) → WalkMeets (walk_way (start_at_end way)) (walk_start
    (start_at_end way)) e
end_meets Forward e = tt
end_meets Backward e = tt

-- and is begun by moves like a step
pub end_steps : {C S : Type 0} (g : Ghosts C S) (way : Direction)
    → may_allocate g (start_at_end way)
    → g.steps_allocate
end_steps g Forward may = may
end_steps g Backward may = may

-- of an entry, if the position has one
if_on : (s : Position) (P : Entry → Type 0) → ((e : Entry) → s ≡ On e → P e) → IfOn s P
if_on (On e) P all = all e refl
if_on Off P all = tt
if_on Broken P all = tt

-- of a value, if there is one
if_ok : {A : Type 0} (r : Result A CursorError) (P Q : A → Type 0) → ((a : A) → P a → Q a)
    → IfOk r P → IfOk r Q
if_ok (Ok a) P Q all p = all a p
if_ok (Err e) P Q all p = tt

-- of the children behind an entry's a walk meets nothing after the entry
behind_none : {C : Type 0} (H : C → Entry → Type 0) (xs : List C) (way : Direction) (k : ℕ) (c : C)
    (entry : Entry) → AreConcatenated H xs → slice_get xs k ≡ Some c → H c entry
    → NoneMet H way (After entry) (rank way (length xs) k) xs
behind_none H xs way k c entry ordered is_c held i d e is_d lt held_e meets =
    never way e (chain way e entry e (in_way H xs ordered way i k d c e entry is_d is_c lt held_e
    held) meets)

-- children that keep their entries stay in order
pub ordered_on : {C S : Type 0} (holds : C → S → Entry → Type 0) (sound : C → S → Type 0)
    (suits : C → S → S → Type 0) (keeps : S → S → Type 0) (most : C → ℕ) (old new : List C)
    (before now : S) → ChildrenKeep holds sound suits keeps most old before new now
    → EachChild (λ c. sound c before) old → AreConcatenated (λ c. holds c before) old
    → AreConcatenated (λ c. holds c now) new
ordered_on holds sound suits keeps most old new before now m each ordered i j c d a b lt p q ha hb =
    let o = there old new i c m.len p in
    let r = there old new j d m.len q in
    ordered i j o.0 r.0 a b lt o.1 r.1 (((m.each i o.0 c o.1 p (each i o.0 o.1)).1 a).0 ha)
    (((m.each j r.0 d r.1 q (each j r.0 r.1)).1 b).0 hb)

module _ {C S : Type 0} (g : Ghosts C S) where
  -- the child took a step
  abbrev pub Steps : Direction → C → S → C → S → Result (Unit {0}) CursorError → Type 0
  Steps = StepsBy g.is_intact g.holds g.is_sound g.suits g.keeps g.makes g.failures g.position
      g.most g.left g.steps_allocate

module _ {C S : Type 0} (g : Ghosts C S) (laws : HasCursorLaws g) (way : Direction) (k : ℕ)
    (old : List C) (before : S) (x v : C) (between : S) (at : slice_get old k ≡ Some x) where
  abbrev pub mid : List C
  mid = slice_set old k v

  pub old_on : concatenated_position g.position old (place.On k) ≡ g.position x
  old_on = ap (child_position g.position) at

  set : slice_get mid k ≡ Some v
  set = set_there old k x v at

  pub moved_on : (r : Result (Unit {0}) CursorError) → Steps g way x before v between r
      → (meant : g.Meant) → KeepsChildren g meant old before mid between
  moved_on r it meant = keep_one (g.holds meant) (g.is_sound meant) g.suits g.keeps g.left g.most
      (law_at laws meant) old old before before between k x v at
      (keep_none (g.holds meant) (g.is_sound meant) g.suits g.keeps g.left g.most
      (law_at laws meant) old before) (one_move it.moves meant)

  causes_on : (r : Result (Unit {0}) CursorError) → Steps g way x before v between r
      → ErrorCauses (AreIntact g old before) (IsBroken (concatenated_position g.position old
      (place.On k))) g.steps_allocate (g.failures before) (g.failures between) r
  causes_on r it =
      subst (λ (s : Position). ErrorCauses (AreIntact g old before) (IsBroken s) g.steps_allocate
      (g.failures before) (g.failures between) r) (sym old_on)
      (tells_from (IsIntact g x before) (AreIntact g old before) (g.failures before)
      (g.failures before) (g.failures between) r refl
      (λ all. (all.0, all.1 k x at, all.2)) it.causes)

  -- a refusal
  pub step_fails : (e : CursorError) → Steps g way x before v between (Err e)
      → StepsFrom g way k old before mid between (Err e)
  step_fails e it = record {
    moves = moved_on (Err e) it;
    device = it.device;
    causes = same_causes _ _ _ _ _ e (causes_on (Err e) it);
    unbroken = tt;
    ends = tt;
    finds = λ meant whole. if_on (concatenated_position g.position old (place.On k)) _ (λ e is. tt);
  }

  module _ (it : Steps g way x before v between (Ok tt)) where
    pub same_ahead : (length mid - rank way (length mid) k - 1) * sum_by g.most mid
        ≡ (length old - rank way (length old) k - 1) * sum_by g.most old
    same_ahead =
        let keep = moved_on (Ok tt) it (g.as_is before) in
        ap (λ n. (n - rank way n k - 1) * sum_by g.most mid) keep.len
        ∙ ap (λ m. (length old - rank way (length old) k - 1) * m) keep.size

    pub unbroken_old : IsBroken (concatenated_position g.position old (place.On k)) → ⊥
    unbroken_old broken = let failed = (causes_on (Ok tt) it).failed.1 broken in absurd cc

    module _ (meant : g.Meant) (ordered : IsConcatenationOf g meant old (place.On k) before)
        (entry : Entry) (is : g.position x ≡ On entry) where
      pub held : g.holds meant x before entry
      held = subst (λ s. IfOn s (g.holds meant x before)) is (ordered.own x at)

      next : IsFirst way (λ e. g.holds meant x before e × WalkMeets way (After entry) e)
          (g.position v)
      next = subst (λ s. IfOn s (λ q. MoveFinds {R = Unit {0}} way (After q)
          (g.holds meant x before) (Ok tt) (g.position v))) is
          (it.finds meant (ordered.each k x at))

      -- the child has an entry there
      found_there : IsOn (g.position v) → IsFirst way (λ p. UnionHolds (λ c. g.holds meant c before)
          old p × WalkMeets way (After entry) p) (concatenated_position g.position mid (place.On k))
          × IsOwnEntry (λ c. g.holds meant c between) g.position mid (place.On k)
      found_there on =
          let H : C → Entry → Type 0 = λ c. g.holds meant c before in
          let found = found_first H old way (After entry) k x at ordered.ordered
          (behind_none H old way k x entry ordered.ordered at held) (g.position v) on next in
          let stays = it.moves.stays meant (ordered.each k x at) in (
            subst (λ (o : Option C). IsFirst way (λ e. UnionHolds H old e
                × WalkMeets way (After entry) e) (child_position g.position o)) (sym set) found.0,
            λ d at_d.
                let same : v ≡ d = let both : Some v ≡ Some d = sym set ∙ at_d in cc in
                subst (λ (y : C). IfOn (g.position y) (g.holds meant y between)) same
                (own_on (g.position v) (g.holds meant x before) (g.holds meant v between)
                stays.1 found.1),
          )

      -- or it has none
      pub none_there : (IsOn (g.position v) → ⊥)
          → NoneMet (λ c. g.holds meant c between) way (After entry)
          (rank way (length mid) k + 1) mid
      none_there off =
          let H : C → Entry → Type 0 = λ c. g.holds meant c between in
          let stays = it.moves.stays meant (ordered.each k x at) in
          let order = ordered_on (g.holds meant) (g.is_sound meant) g.suits g.keeps g.most old mid
          before between (moved_on (Ok tt) it meant) ordered.each ordered.ordered in
          none_met H mid way (After entry) k v set
          (behind_none H mid way k v entry order set ((stays.1 entry).1 held)) (g.position v) off
          (first_kept way (After entry) (g.position v) (g.holds meant x before)
          (g.holds meant v between) stays.1 next)

    -- it stands on an entry of the same child
    pub step_lands : IsOn (g.position v)
        → StepsFrom g way k old before mid between (Ok (place.On k))
    step_lands on = record {
      moves = moved_on (Ok tt) it;
      device = it.device;
      causes = record {
        disk = λ is. absurd cc;
        others = λ no. it.causes.others (λ is. absurd cc);
        damaged = λ is. absurd cc;
        memory = λ is. absurd cc;
        failed = (λ is. absurd cc, λ broken. absurd (unbroken_old broken));
      };
      unbroken = λ broken. on_unbroken (g.position v) on
          (subst (λ (o : Option C). IsBroken (child_position g.position o)) set broken);
      ends =
          let less = it.ends in
          let same = same_ahead in
          subst (λ (o : Option C). left_from g.left g.most mid k way o
          < concatenated_left g.left g.most old (place.On k) way) (sym set)
          (subst (λ (o : Option C). left_from g.left g.most mid k way (Some v)
          < left_from g.left g.most old k way o) (sym at) (omega (arith, less, same)));
      finds = λ meant whole. if_on (concatenated_position g.position old (place.On k)) _
          (λ e is. found_there meant whole e (sym old_on ∙ is) on);
    }

-- where it stands on none, the children after it were entered
module _ {C S : Type 0} (g : Ghosts C S) (laws : HasCursorLaws g) (begins : Start) (k : ℕ)
    (old : List C) (before : S) (x v : C) (between : S) (at : slice_get old k ≡ Some x)
    (it : Steps g (walk_way begins) x before v between (Ok tt)) (off : IsOn (g.position v) → ⊥)
    (meets : (e : Entry) → WalkMeets (walk_way begins) (walk_start begins) e)
    (may : may_allocate g begins → g.steps_allocate) where
  pub step_enters : (skipped : ℕ) (new : List C) (now : S) (result : Result ChildPlace CursorError)
      → skipped ≡ rank (walk_way begins) (length (slice_set old k v)) k + 1
      → EntersChildren g begins skipped (slice_set old k v) between new now result
      → StepsFrom g (walk_way begins) k old before new now result
  step_enters skipped new now result is_skipped e =
      let way = walk_way begins in
      let mid = slice_set old k v in
      let set = set_there old k x v at in
      let count = it.causes.others (λ is. absurd cc) in
      let keep : (meant : g.Meant) → KeepsChildren g meant old before mid between =
      moved_on g laws way k old before x v between at (Ok tt) it in
      record {
        moves = λ meant. keep_through (g.holds meant) (g.is_sound meant) g.suits g.keeps g.left
            g.most (law_at laws meant) old mid new before between now (keep meant) (e.moves meant);
        device = laws.makes_through (reports result) before between now it.device e.device;
        causes = record {
          disk = λ is. subst (λ n. RisesByOne n (g.failures now)) count (e.causes.disk is);
          others = λ no. e.causes.others no ∙ count;
          damaged = λ is all. e.causes.damaged is (
            all.0,
            all_sound (g.holds all.0) (g.is_sound all.0) g.suits g.keeps g.most old mid before
                between (keep all.0) all.1,
            laws.lasts all.0 before between (keep all.0).source all.2,
          );
          memory = λ is. may (e.causes.memory is);
          failed = (
            λ is. absurd (e.causes.failed.0 is),
            λ broken. absurd (unbroken_old g laws way k old before x v between at it broken),
          );
        };
        unbroken = e.unbroken;
        ends = if_ok result (λ a. concatenated_left g.left g.most new a way
            ≤ (length mid - skipped) * sum_by g.most mid)
            (λ a. concatenated_left g.left g.most new a way
            < concatenated_left g.left g.most old (place.On k) way)
            (λ a le. subst (λ (o : Option C). concatenated_left g.left g.most new a way
            < left_from g.left g.most old k way o) (sym at)
            (let less = it.ends in
            let same = same_ahead g laws way k old before x v between at it in
            let rest : (length mid - skipped) * sum_by g.most mid
            ≡ (length mid - rank way (length mid) k - 1) * sum_by g.most mid =
            ap (λ n. n * sum_by g.most mid) (omega (arith, is_skipped)) in
            omega (arith, le, less, same, rest))) e.ends;
        finds = λ meant ordered. if_on (concatenated_position g.position old (place.On k)) _
            (λ entry is_on.
            let is : g.position x ≡ On entry =
            sym (old_on g laws way k old before x v between at) ∙ is_on in
            let order = ordered_on (g.holds meant) (g.is_sound meant) g.suits g.keeps g.most old mid
            before between (keep meant) ordered.each ordered.ordered in
            let stays = it.moves.stays meant (ordered.each k x at) in
            let entry_held = (stays.1 entry).1
            (held g laws way k old before x v between at it meant ordered entry is) in
            let same = any_alike (g.holds meant) (g.is_sound meant) g.suits g.keeps g.most old mid
            before between (keep meant) ordered.each in
            if_ok result (λ a. IsFirst way (λ p. UnionHolds (λ c. g.holds meant c between) mid p
            × WalkMeets way (After entry) p) (concatenated_position g.position new a)
            × IsOwnEntry (λ c. g.holds meant c now) g.position new a)
            (λ a. IsFirst way (λ p. UnionHolds (λ c. g.holds meant c before) old p
            × WalkMeets way (After entry) p) (concatenated_position g.position new a)
            × IsOwnEntry (λ c. g.holds meant c now) g.position new a)
            (λ a found. (
              first_kept way (After entry) (concatenated_position g.position new a)
                  (UnionHolds (λ c. g.holds meant c between) mid)
                  (UnionHolds (λ c. g.holds meant c before) old)
                  (λ p. ((same p).1, (same p).0)) found.0,
              found.1,
            ))
            (e.finds meant (After entry)
            (all_sound (g.holds meant) (g.is_sound meant) g.suits g.keeps g.most old mid before
            between (keep meant) ordered.each) order
            (subst (λ n. NoneMet (λ c. g.holds meant c between) way (After entry) n mid)
            (sym is_skipped)
            (none_there g laws way k old before x v between at it meant ordered entry is off))
            (λ i c p is_c le held_p. (
              λ met. in_way (λ d. g.holds meant d between) mid order way k i v c entry p set is_c
                  (omega (arith, le, is_skipped)) entry_held held_p,
              λ met. meets p,
            ))));
      }
