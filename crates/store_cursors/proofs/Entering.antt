-- A walk that enters children in turn.
use Rattle.std.proofs.Common.{◌≡◌, ◌<◌, ◌≤◌, ◌+◌, ◌-◌, ◌*◌, ℕ, refl, sym, ◌∙◌, ap, subst, List}
use Rattle.std.proofs.Common.{slice_set, Some, Result, Ok, Err, arith, length, length-set, Option}
use Rattle.std.proofs.Common.{false}
use Rattle.std.proofs.Common.{get_or}
use Rattle.std.specs.List.{slice_get, sum_by}
use Rattle.std.specs.Prelude.{IsErrOf}
use Rattle.std.proofs.lemmas.Option.{slice_get_read, slice_get_within}
use Rattle.merge_iter.specs.{AreSound, ErrorCauses, IfOn, IsBroken, IsFirst, IsIntact}
use Rattle.merge_iter.specs.{IsOn, MovesBy, Off, On, Broken, Position, UnionHolds}
use Rattle.merge_iter.specs.{WalkMeets, WalkStart, reports}
use Rattle.merge_iter.specs.LentCursors.{AreIntact, KeepsChildren}
use Rattle.merge_iter.specs.Merging.{child_position}
use Rattle.merge_iter.specs.Moves.{law_at, one_move}
use Rattle.merge_iter.specs.Unions.{all_sound, one, there}
use Rattle.merge_iter.specs.declared.Cursor.{Ghosts}
use Rattle.merge_iter.specs.declared.CursorError.{CursorError}
use Rattle.merge_iter.specs.declared.Direction.{Direction}
use Rattle.merge_iter.specs.declared.Direction.TheVariants.{Forward, Backward}
use Rattle.store_cursors.specs.declared.child_place.ChildPlace.TheVariants as place
use Rattle.store_cursors.specs.declared.start.Start.{Start}
use Rattle.store_cursors.specs.Concatenation.{EntersChildren, MeetAlike, NoneMet}
use Rattle.store_cursors.specs.Concatenation.{left_from, may_allocate, rank, walk_start, walk_way}
use Rattle.store_cursors.specs.ConcatenationLaws.{left_bound, own_on, rank_within}
use Rattle.store_cursors.specs.StoreCursorLaws.{HasCursorLaws}
use Rattle.store_cursors.proofs.ChildMoves.{all_skipped, first_alike, found_first, keep_none}
use Rattle.store_cursors.proofs.ChildMoves.{keep_one}
use Rattle.store_cursors.proofs.ChildMoves.{none_met, set_there, tells_from}

-- the rank of a child's rank is its place
pub rank_back : (way : Direction) (n k : ℕ) → k < n → rank way n (rank way n k) ≡ k
rank_back Forward n k lt = refl
rank_back Backward n k lt = omega (arith, lt)

-- a cursor on an entry is not broken
pub on_unbroken : (s : Position) → IsOn s → IsBroken s → ⊥
on_unbroken (On e) on broken = broken
on_unbroken Off on broken = on
on_unbroken Broken on broken = on

module _ {C S : Type 0} (g : Ghosts C S) where
  -- a child was entered
  abbrev pub Enters : Start → C → S → C → S → Result (Unit {0}) CursorError → Type 0
  Enters begins = MovesBy g.is_intact g.holds g.is_sound g.suits g.keeps g.makes g.failures
      g.position g.most (may_allocate g begins) (walk_way begins) (walk_start begins)

  -- children up to this one were entered, and the walk meets nothing of them
  pub record HasPassed (begins : Start) (skipped : ℕ) (old : List C) (before : S) (behind : ℕ)
      (xs : List C) (s : S) : Type 0 where
    pub from : skipped ≤ behind
    pub moved : (meant : g.Meant) → KeepsChildren g meant old before xs s
    pub device : g.makes false before s
    pub count : g.failures s ≡ g.failures before
    pub none : (meant : g.Meant) (from : WalkStart) → AreSound g meant old before
        → NoneMet (λ c. g.holds meant c before) (walk_way begins) from skipped old
        → MeetAlike (λ c. g.holds meant c before) (walk_way begins) (walk_start begins) from
        skipped old
        → NoneMet (λ c. g.holds meant c before) (walk_way begins) from behind old

-- a refusal of another call, whose value has another type
pub other_type : {A B : Type 0} (e d : CursorError) → IsErrOf {T = A} (Err e) d
    → IsErrOf {T = B} (Err e) d
other_type {B = B} e d is = let same : e ≡ d = cc in subst (λ x. IsErrOf {T = B} (Err e) x)
    same refl

-- its causes are those of this one
pub same_causes : {A B : Type 0} (T W M : Type 0) (f h : ℕ) (e : CursorError)
    → ErrorCauses {R = A} T W M f h (Err e) → ErrorCauses {R = B} T W M f h (Err e)
same_causes T W M f h e causes = record {
  disk = λ is. causes.disk (other_type e _ is);
  others = λ no. causes.others (λ is. no (other_type e _ is));
  damaged = λ is. causes.damaged (other_type e _ is);
  memory = λ is. causes.memory (other_type e _ is);
  failed = (
    λ is. causes.failed.0 (other_type e _ is),
    λ was. other_type e _ (causes.failed.1 was),
  );
}

-- the child that was moved, and how many a walk meets before it
pub child_there : {C : Type 0} (way told : Direction) (n len behind k : ℕ) (xs : List C) (x : C)
    → length xs ≡ n → told ≡ way → len ≡ length xs → behind < n → k ≡ rank told len behind
    → x ≡ get_or xs k x → (k ≡ rank way n behind) × (slice_get xs k ≡ Some x)
child_there way told n len behind k xs x size is_way is_len lt is_k is_x =
    let here : k ≡ rank way n behind =
    is_k ∙ ap (λ d. rank d len behind) is_way
    ∙ ap (λ m. rank way m behind) (is_len ∙ size) in
    let within = rank_within way n behind lt in
    (here, slice_get_read xs n k x (sym size) (omega (arith, within, here)) is_x)

-- the child that is read there is the one that was set
pub read_there : {C : Type 0} (xs : List C) (k : ℕ) (x v y : C) → slice_get xs k ≡ Some x
    → y ≡ get_or (slice_set xs k v) k y → y ≡ v
read_there xs k x v y at is =
    one (slice_set xs k v) k v y (set_there xs k x v at)
    (slice_get_read (slice_set xs k v) (length xs) k y (sym (length-set xs k v))
    (slice_get_within xs k x at) is)

module _ {C S : Type 0} (g : Ghosts C S) (laws : HasCursorLaws g) (begins : Start) (skipped : ℕ)
    (old : List C) (before : S) where
  abbrev Passed : ℕ → List C → S → Type 0
  Passed = HasPassed g begins skipped old before

  pub starts : Passed skipped old before
  starts = record {
    from = omega arith;
    moved = λ meant. keep_none (g.holds meant) (g.is_sound meant) g.suits g.keeps g.left g.most
        (law_at laws meant) old before;
    device = laws.makes_itself before;
    count = refl;
    none = λ meant from sounds none alike. none;
  }

  -- all were entered
  pub ends_off : (behind : ℕ) (xs : List C) (s : S) → Passed behind xs s → length old ≤ behind
      → EntersChildren g begins skipped old before xs s (Ok place.Off)
  ends_off behind xs s p le = record {
    moves = p.moved;
    device = p.device;
    causes = record {
      disk = λ is. absurd cc;
      others = λ no. p.count;
      damaged = λ is. absurd cc;
      memory = λ is. absurd cc;
      failed = (λ is. absurd cc, λ never. absurd never);
    };
    unbroken = λ never. never;
    ends = omega arith;
    finds = λ meant from sounds ordered none alike. (
      all_skipped (λ c. g.holds meant c before) old (walk_way begins) from behind le
          (p.none meant from sounds none alike),
      tt,
    );
  }

  module _ (behind : ℕ) (xs : List C) (s : S) (p : Passed behind xs s) (lt : behind < length old)
      (k : ℕ) (is_k : k ≡ rank (walk_way begins) (length old) behind) (x v : C) (later : S)
      (at : slice_get xs k ≡ Some x) where
    place_is : rank (walk_way begins) (length old) k ≡ behind
    place_is = ap (rank (walk_way begins) (length old)) is_k
        ∙ rank_back (walk_way begins) (length old) behind lt

    moved_on : (result : Result (Unit {0}) CursorError) → Enters g begins x s v later result
        → (meant : g.Meant) → KeepsChildren g meant old before (slice_set xs k v) later
    moved_on result it meant = keep_one (g.holds meant) (g.is_sound meant) g.suits g.keeps g.left
        g.most (law_at laws meant) old xs before s later k x v at (p.moved meant)
        (one_move it.moves meant)

    causes_on : (result : Result (Unit {0}) CursorError) → Enters g begins x s v later result
        → ErrorCauses (AreIntact g old before) ⊥ (may_allocate g begins) (g.failures before)
        (g.failures later) result
    causes_on result it = tells_from (IsIntact g x s) (AreIntact g old before) _ _ _ result p.count
        (λ all. (
          all.0,
          all_sound (g.holds all.0) (g.is_sound all.0) g.suits g.keeps g.most old xs before s
              (p.moved all.0) all.1 k x at,
          laws.lasts all.0 before s (p.moved all.0).source all.2,
        )) it.causes

    -- what the walk meets first of this child
    first_here : Enters g begins x s v later (Ok tt) → (meant : g.Meant) (from : WalkStart)
        → AreSound g meant old before
        → MeetAlike (λ c. g.holds meant c before) (walk_way begins) (walk_start begins) from
        skipped old
        → (c : C) × (slice_get old k ≡ Some c) × IsFirst (walk_way begins)
        (λ e. g.holds meant c before e × WalkMeets (walk_way begins) from e) (g.position v)
    first_here it meant from sounds alike =
        let o = there old xs k x (p.moved meant).len at in
        let stays = (p.moved meant).each k o.0 x o.1 at (sounds k o.0 o.1) in
        let le = p.from in
        let here = place_is in (
          o.0,
          o.1,
          first_alike (walk_way begins) (walk_start begins) from (g.holds meant x s)
              (g.holds meant o.0 before) (g.position v) stays.1
              (λ e held. alike k o.0 e o.1 (omega (arith, le, here)) held)
              (it.finds meant stays.0),
        )

    -- a refusal
    pub fails : (e : CursorError) → Enters g begins x s v later (Err e)
        → EntersChildren g begins skipped old before (slice_set xs k v) later (Err e)
    fails e it = let causes = causes_on (Err e) it in record {
      moves = moved_on (Err e) it;
      device = laws.makes_through (reports {R = Unit {0}} (Err e)) before s later p.device
          it.device;
      causes = same_causes _ _ _ _ _ e causes;
      unbroken = tt;
      ends = tt;
      finds = λ meant from sounds ordered none alike. tt;
    }

    -- the child has no entry that the walk meets
    pub passes : Enters g begins x s v later (Ok tt) → (IsOn (g.position v) → ⊥)
        → Passed (behind + 1) (slice_set xs k v) later
    passes it off = record {
      from = let le = p.from in omega (arith, le);
      moved = moved_on (Ok tt) it;
      device = laws.makes_through false before s later p.device it.device;
      count = it.causes.others (λ is. absurd cc) ∙ p.count;
      none = λ meant from sounds none alike.
          let here = first_here it meant from sounds alike in
          let so_far = p.none meant from sounds none alike in
          subst (λ n. NoneMet (λ c. g.holds meant c before) (walk_way begins) from (n + 1) old)
          place_is
          (none_met (λ c. g.holds meant c before) old (walk_way begins) from k here.0 here.1
          (subst (λ n. NoneMet (λ c. g.holds meant c before) (walk_way begins) from n old)
          (sym place_is) so_far) (g.position v) off here.2);
    }

    -- or it has one
    pub lands : Enters g begins x s v later (Ok tt) → IsOn (g.position v)
        → EntersChildren g begins skipped old before (slice_set xs k v) later (Ok (place.On k))
    lands it on =
        let causes = causes_on (Ok tt) it in
        let set = set_there xs k x v at in
        let new = slice_set xs k v in
        let keep = moved_on (Ok tt) it (g.as_is before) in
        record {
          moves = moved_on (Ok tt) it;
          device = laws.makes_through false before s later p.device it.device;
          causes = record {
            disk = λ is. absurd cc;
            others = λ no. causes.others (λ is. absurd cc);
            damaged = λ is. absurd cc;
            memory = λ is. absurd cc;
            failed = (λ is. absurd cc, λ never. absurd never);
          };
          unbroken = λ broken. on_unbroken (g.position v) on
              (subst (λ (o : Option C). IsBroken (child_position g.position o)) set broken);
          ends =
              let n = keep.len in
              let le = p.from in
              let here = place_is in
              let r : rank (walk_way begins) (length new) k
              ≡ rank (walk_way begins) (length old) k =
              ap (λ m. rank (walk_way begins) m k) n in
              let less = left_bound g.left g.most laws.within new k skipped (walk_way begins) v set
              (omega (arith, le, here, r)) in
              subst (λ (o : Option C). left_from g.left g.most new k (walk_way begins) o
              ≤ (length old - skipped) * sum_by g.most old) (sym set)
              (subst (λ m. left_from g.left g.most new k (walk_way begins) (Some v)
              ≤ (length old - skipped) * m) keep.size
              (subst (λ m. left_from g.left g.most new k (walk_way begins) (Some v)
              ≤ (m - skipped) * sum_by g.most new) n less));
          finds = λ meant from sounds ordered none alike.
              let here = first_here it meant from sounds alike in
              let so_far = p.none meant from sounds none alike in
              let found = found_first (λ c. g.holds meant c before) old (walk_way begins) from k
              here.0 here.1 ordered
              (subst (λ n. NoneMet (λ c. g.holds meant c before) (walk_way begins) from n old)
              (sym place_is) so_far) (g.position v) on here.2 in
              let stays = (moved_on (Ok tt) it meant).each k here.0 v here.1 set
              (sounds k here.0 here.1) in (
                subst (λ (o : Option C). IsFirst (walk_way begins)
                    (λ e. UnionHolds (λ c. g.holds meant c before) old e
                    × WalkMeets (walk_way begins) from e) (child_position g.position o)) (sym set)
                    found.0,
                λ d is.
                    let same : v ≡ d = let both : Some v ≡ Some d = sym set ∙ is in cc in
                    subst (λ (y : C). IfOn (g.position y) (g.holds meant y later)) same
                    (own_on (g.position v) (g.holds meant here.0 before) (g.holds meant v later)
                    stays.1 found.1),
              );
        }
