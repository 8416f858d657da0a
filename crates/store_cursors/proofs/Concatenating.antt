-- A move of the children, as one of their concatenation.
use Rattle.std.proofs.Common.{◌≡◌, ◌<◌, ◌*◌, ℕ, refl, sym, ◌∙◌, ap, subst, List, length}
use Rattle.std.proofs.Common.{Ok, Err, Result}
use Rattle.std.specs.List.{sum_by}
use Rattle.kv_types.specs.{Entry}
use Rattle.merge_iter.specs.{After, CanStep, EachChild, ErrorCauses, IfOn, IsBroken, IsFirst, Moved}
use Rattle.merge_iter.specs.{MovesBy}
use Rattle.merge_iter.specs.{On, Off, Broken, Position, StepsBy, UnionHolds, WalkMeets}
use Rattle.merge_iter.specs.LentCursors.{KeepsChildren}
use Rattle.merge_iter.specs.Unions.{all_sound, all_suited, any_alike}
use Rattle.merge_iter.specs.declared.Cursor.{Ghosts}
use Rattle.merge_iter.specs.declared.CursorError.{CursorError}
use Rattle.merge_iter.specs.declared.Direction.{Direction}
use Rattle.store_cursors.specs.declared.child_place.ChildPlace.{ChildPlace}
use Rattle.store_cursors.specs.declared.child_place.ChildPlace.TheVariants as place
use Rattle.store_cursors.specs.declared.start.Start.{Start}
use Rattle.store_cursors.specs.Concatenation.{EntersChildren, IsConcatenation, IsOwnEntry, NoneMet}
use Rattle.store_cursors.specs.Concatenation.{StepsFrom}
use Rattle.store_cursors.specs.Concatenation.{concatenated_left, concatenated_most}
use Rattle.store_cursors.specs.Concatenation.{concatenated_position, may_allocate}
use Rattle.store_cursors.specs.Concatenation.{walk_start, walk_way}
use Rattle.store_cursors.proofs.Entering.{same_causes}
use Rattle.store_cursors.proofs.Stepping.{ordered_on}

-- what is true of an entry, where something else is
if_on_both : (s : Position) (P Q : Entry → Type 0) → ((e : Entry) → P e → Q e) → IfOn s P
    → IfOn s Q
if_on_both (On e) P Q all p = all e p
if_on_both Off P Q all p = tt
if_on_both Broken P Q all p = tt

-- what is true beside, where the position is an entry
on_own : (s : Position) (P : Entry → Type 0) (B : Type 0) → CanStep s → (IsBroken s → ⊥)
    → IfOn s (λ e. P e × B) → B
on_own (On e) P B can fine both = both.1
on_own Off P B can fine both = absurd can
on_own Broken P B can fine both = absurd (fine tt)

-- causes of one that was sound where the other was
weaker_causes : {R : Type 0} (T U W M : Type 0) (f h : ℕ) (r : Result R CursorError) → (U → T)
    → ErrorCauses T W M f h r → ErrorCauses U W M f h r
weaker_causes T U W M f h r to causes = record {
  disk = causes.disk;
  others = causes.others;
  damaged = λ is had. causes.damaged is (to had);
  memory = causes.memory;
  failed = causes.failed;
}

module _ {C S M : Type 0} (g : Ghosts C S) (children : M → List C) (at : M → ChildPlace) where
  abbrev Holds : g.Meant → M → S → Entry → Type 0
  Holds w m s = UnionHolds (λ c. g.holds w c s) (children m)

  abbrev Sound : g.Meant → M → S → Type 0
  Sound w m s = IsConcatenation (λ c. g.holds w c s) g.position (λ c. g.is_sound w c s) (children m)
      (at m)

  abbrev Suits : M → S → S → Type 0
  Suits m a b = EachChild (λ c. g.suits c a b) (children m)

  abbrev Stands : M → Position
  Stands m = concatenated_position g.position (children m) (at m)

  -- the effect of a move
  all_moved : (a b : M) (before now : S)
      → ((meant : g.Meant) → KeepsChildren g meant (children a) before (children b) now)
      → ((meant : g.Meant) → Sound meant a before
      → IsOwnEntry (λ c. g.holds meant c now) g.position (children b) (at b))
      → Moved Holds Sound Suits g.keeps (λ m. concatenated_most g.most (children m)) a before b now
  all_moved a b before now keep own = record {
    source = (keep (g.as_is before)).source;
    stays = λ meant whole. (
      record {
        each = all_sound (g.holds meant) (g.is_sound meant) g.suits g.keeps g.most (children a)
            (children b) before now (keep meant) whole.each;
        ordered = ordered_on (g.holds meant) (g.is_sound meant) g.suits g.keeps g.most
            (children a) (children b) before now (keep meant) whole.each whole.ordered;
        own = own meant whole;
      },
      any_alike (g.holds meant) (g.is_sound meant) g.suits g.keeps g.most (children a)
          (children b) before now (keep meant) whole.each,
      all_suited (g.holds meant) (g.is_sound meant) g.suits g.keeps g.most (children a)
          (children b) before now (keep meant) whole.each,
    );
    size =
        let kept = keep (g.as_is before) in
        ap (λ n. n * sum_by g.most (children b)) kept.len
        ∙ ap (λ s. length (children a) * s) kept.size;
  }

  module _ (begins : Start) (skipped : ℕ) (a b : M) (before now : S) where
    abbrev MovesAll : Result (Unit {0}) CursorError → Type 0
    MovesAll = MovesBy g.is_intact Holds Sound Suits g.keeps g.makes g.failures Stands
        (λ m. concatenated_most g.most (children m)) (may_allocate g begins) (walk_way begins)
        (walk_start begins) a before b now

    -- a walk entered the children
    pub entered : ((meant : g.Meant) → Sound meant a before → NoneMet (λ c. g.holds meant c before)
        (walk_way begins) (walk_start begins) skipped (children a))
        → EntersChildren g begins skipped (children a) before (children b) now (Ok (at b))
        → MovesAll (Ok tt)
    entered none e = record {
      moves = all_moved a b before now e.moves (λ meant whole.
          (e.finds meant (walk_start begins) whole.each whole.ordered (none meant whole)
          (λ i c p is le held. ((λ h. h), (λ h. h)))).1);
      device = e.device;
      causes = record {
        disk = λ is. absurd cc;
        others = λ no. e.causes.others (λ is. absurd cc);
        damaged = λ is. absurd cc;
        memory = λ is. absurd cc;
        failed = (λ is. absurd cc, λ never. absurd never);
      };
      broken = ((λ is. absurd cc), (λ broken. absurd (e.unbroken broken)));
      finds = λ meant whole. (e.finds meant (walk_start begins) whole.each whole.ordered
          (none meant whole) (λ i c p is le held. ((λ h. h), (λ h. h)))).0;
    }

    -- it was refused
    pub not_entered : (error : CursorError) → at b ≡ place.Broken
        → EntersChildren g begins skipped (children a) before (children b) now (Err error)
        → MovesAll (Err error)
    not_entered error is e = record {
      moves = all_moved a b before now e.moves (λ meant whole.
          subst (λ p. IsOwnEntry (λ c. g.holds meant c now) g.position (children b) p) (sym is) tt);
      device = e.device;
      causes = weaker_causes _ _ _ _ _ _ (Err error) (λ had. (had.0, had.1.each, had.2))
          (same_causes _ _ _ _ _ error e.causes);
      broken = (
        (λ err. subst (λ p. IsBroken (concatenated_position g.position (children b) p)) (sym is)
            tt),
        (λ broken. refl),
      );
      finds = λ meant whole. tt;
    }

  module _ (way : Direction) (k : ℕ) (a b : M) (before now : S) (on : at a ≡ place.On k) where
    abbrev StepsAll : Result (Unit {0}) CursorError → Type 0
    StepsAll = StepsBy g.is_intact Holds Sound Suits g.keeps g.makes g.failures Stands
        (λ m. concatenated_most g.most (children m)) (λ m. concatenated_left g.left g.most (children
        m) (at m))
        g.steps_allocate way a before b now

    sound_on : (meant : g.Meant) → Sound meant a before
        → IsConcatenation (λ c. g.holds meant c before) g.position (λ c. g.is_sound meant c before)
        (children a) (place.On k)
    sound_on meant whole = subst (λ p. IsConcatenation (λ c. g.holds meant c before) g.position
        (λ c. g.is_sound meant c before) (children a) p) on whole

    -- the concatenation took a step
    pub stepped : StepsFrom g way k (children a) before (children b) now (Ok (at b))
        → CanStep (Stands a) → StepsAll (Ok tt)
    stepped e can =
        let fine : IsBroken (Stands a) → ⊥ = λ broken.
        let failed = e.causes.failed.1
        (subst (λ p. IsBroken (concatenated_position g.position (children a) p)) on broken) in
        absurd cc in
        let finds : (meant : g.Meant) → Sound meant a before → IfOn (Stands a) (λ entry.
        IsFirst way (λ q. Holds meant a before q × WalkMeets way (After entry) q) (Stands b)
        × IsOwnEntry (λ c. g.holds meant c now) g.position (children b) (at b)) = λ meant whole.
        subst (λ p. IfOn (concatenated_position g.position (children a) p) (λ entry.
        IsFirst way (λ q. Holds meant a before q × WalkMeets way (After entry) q) (Stands b)
        × IsOwnEntry (λ c. g.holds meant c now) g.position (children b) (at b))) (sym on)
        (e.finds meant (sound_on meant whole)) in record {
          moves = all_moved a b before now e.moves
              (λ meant whole. on_own (Stands a) _ _ can fine (finds meant whole));
          device = e.device;
          causes = record {
            disk = λ is. absurd cc;
            others = λ no. e.causes.others (λ is. absurd cc);
            damaged = λ is. absurd cc;
            memory = λ is. absurd cc;
            failed = (λ is. absurd cc, λ broken. absurd (fine broken));
          };
          broken = ((λ is. absurd cc), (λ broken. absurd (e.unbroken broken)));
          ends = subst (λ p. concatenated_left g.left g.most (children b) (at b) way
              < concatenated_left g.left g.most (children a) p way) (sym on) e.ends;
          finds = λ meant whole. if_on_both (Stands a) _ _ (λ entry found. found.0)
              (finds meant whole);
        }

    -- it was refused
    pub not_stepped : (error : CursorError) → at b ≡ place.Broken
        → StepsFrom g way k (children a) before (children b) now (Err error)
        → StepsAll (Err error)
    not_stepped error is e = record {
      moves = all_moved a b before now e.moves (λ meant whole.
          subst (λ p. IsOwnEntry (λ c. g.holds meant c now) g.position (children b) p) (sym is) tt);
      device = e.device;
      causes = subst (λ p. ErrorCauses {R = Unit {0}} ((meant : g.Meant) × Sound meant a before
          × g.is_intact meant before) (IsBroken (concatenated_position g.position (children a) p))
          g.steps_allocate (g.failures before) (g.failures now) (Err error)) (sym on)
          (weaker_causes _ _ _ _ _ _ (Err error) (λ had. (had.0, had.1.each, had.2))
          (same_causes _ _ _ _ _ error e.causes));
      broken = (
        (λ err. subst (λ p. IsBroken (concatenated_position g.position (children b) p)) (sym is)
            tt),
        (λ broken. refl),
      );
      ends = tt;
      finds = λ meant whole. if_on_both (Stands a) (λ entry. Unit {0}) _ (λ entry any. tt)
          (all_on (Stands a));
    }
      where
        all_on : (s : Position) → IfOn s (λ entry. Unit {0})
        all_on (On entry) = tt
        all_on Off = tt
        all_on Broken = tt
