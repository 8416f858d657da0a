-- One step of a merge: an entry comes to the writer, and the union moves on.
use Rattle.std.proofs.Common.{◌+◌, arith, length, length-append, false}
use Rattle.std.proofs.Common.{◌≡◌, ◌↔◌, inl, inr, ℕ, List, [], ◌∷◌, ◌++◌}
use Rattle.std.proofs.Common.{IsTrue}
use Rattle.std.proofs.Common.{Result, Ok, Err, refl, sym, ap, subst, ◌∙◌}
use Rattle.std.specs.Prelude.{IsErrAnd, IsErrOf}
use Rattle.std.proofs.lemmas.List.Sums.{fold_push}
use Rattle.disk.specs.declared.Disk.{Ghosts}
use Rattle.disk.specs.{IsCrashOutcome, IsSame}
use Rattle.disk.specs.MomentsLemmas.{weaker}
use Rattle.kv_types.specs.{Entry}
use Rattle.version_edits.specs.declared.TableLine.{TableLine}
use Rattle.merge_iter.specs.declared.Cursor.{Ghosts as CursorGhosts}
use Rattle.merge_iter.specs.declared.CursorError.{CursorError}
use Rattle.merge_iter.specs.declared.CursorError.TheVariants as cursor
use Rattle.merge_iter.specs.declared.Direction.TheVariants.{Forward}
use Rattle.merge_iter.specs.{AreCursorLaws, After, IsAlike, ErrorCauses, IfOn, IsBroken}
use Rattle.merge_iter.specs.{IsOn, Moved, reports}
use Rattle.merge_iter.specs.{Broken, MoveFinds, Off, On, Position}
use Rattle.sorted_table.specs.MovedFiles.{MovesFiles}
use Rattle.table_format.specs.RisingLemmas.{rising_push}
use Rattle.table_format.specs.{CanFollow}
use Rattle.store_model.specs.{LevelTable, tables_entries}
use Rattle.compaction.specs.declared.error.MergeError.{MergeError}
use Rattle.compaction.specs.declared.error.MergeError.TheVariants as merge
use Rattle.compaction.specs.declared.writer.OutputWriter.{OutputWriter}
use Rattle.compaction.specs.Errors.{merge_error_of_cursor}
use Rattle.compaction.specs.Outputs.{AreUnused, IsLeftBeyond, IsOwnFile}
use Rattle.compaction.specs.Outputs.{KeepsRules, LacksRoom, PutRefusal, WantsRoom, WriterHolds}
use Rattle.compaction.specs.Outputs.{WritesOnly}
use Rattle.compaction.specs.Survivors.{is_dropped}
use Rattle.compaction.specs.Walks.{HasSameFiles, HasWalked, IsIntactOn, IsWalking}
use Rattle.compaction.specs.Walks.{StepRefusal, table_files, written_by}
use Rattle.compaction.specs.WrittenTables.{Written, cut_before, nothing_written, with_next}
use Rattle.compaction.specs.WrittenTables.{written_of}
use Rattle.compaction.specs.WalksLemmas.{alike_through, walk_advances, walk_here}
use Rattle.compaction.proofs.Walks.{apart_like, follows_open}
use Rattle.compaction.proofs.Writing.{same_unused, same_writes}

-- ---- the device

reports_disk : {R : Type 0} (result : Result R CursorError)
    → IsTrue (reports result) ↔ (result ≡ Err cursor.Disk)
reports_disk (Ok x) = (λ h. cc, λ h. cc)
reports_disk (Err cursor.Disk) = (λ h. refl, λ h. refl)
reports_disk (Err cursor.Damaged) = (λ h. cc, λ h. cc)
reports_disk (Err cursor.Memory) = (λ h. cc, λ h. cc)
reports_disk (Err cursor.Failed) = (λ h. cc, λ h. cc)

-- a move of a cursor writes to no file
pub writes_read : {D : Type 0} (g : Ghosts D) (own : ℕ → Type 0) {R : Type 0} {old new : D}
    {told cause : Type 0} (result : Result R CursorError) → (result ≡ Err cursor.Disk) ↔ told
    → MovesFiles g (reports result) old new → WritesOnly g own old new told cause
writes_read g own {old = old} {new = new} {told = told} result same moves =
    let to : told → IsTrue (reports result) = λ f. (reports_disk result).1 (same.1 f) in
    let from : IsTrue (reports result) → told = λ f. same.0 ((reports_disk result).0 f) in
    record {
      kept = record {
        honest = moves.disk.honest;
        failed = λ fails. moves.disk.failed (to fails);
        count = λ works. moves.disk.count (λ fails. works (from fails));
        only = λ reliable spared fails. absurd (moves.disk.only reliable spared (to fails));
        reliable = λ reliable works. moves.disk.reliable reliable (λ fails. works (from fails));
        files = λ honest file apart. moves.disk.files honest file;
        fault = moves.disk.fault;
        spared = λ spared works. moves.disk.spared spared (λ fails. works (from fails));
      };
      any_moment = λ honest. weaker (IsCrashOutcome (g.state old)) (IsLeftBeyond own (g.state old))
          (g.state old) (g.past old) (g.state new) (g.past new) (λ left at file apart. at file)
          (moves.still honest);
    }

-- a cursor's failure is told as the merge's
pub cursor_failed : {T U : Type 0} (called : Result T CursorError) (e : CursorError)
    (result : Result U MergeError) → called ≡ Err e
    → IsErrAnd result (λ s. s ≡ merge_error_of_cursor e)
    → (called ≡ Err cursor.Disk) ↔ IsErrOf result merge.Disk
cursor_failed called e (Ok x) is told = absurd told
cursor_failed called cursor.Disk (Err s) is told = (λ _. ap (λ d. Err d) told, λ _. is)
cursor_failed called cursor.Damaged (Err s) is told = (λ f. cc, λ f. cc)
cursor_failed called cursor.Memory (Err s) is told = (λ f. cc, λ f. cc)
cursor_failed called cursor.Failed (Err s) is told = (λ f. cc, λ f. cc)

pub cursor_works : {T U : Type 0} (called : Result T CursorError) {x : T} {y : U}
    → called ≡ Ok x → (called ≡ Err cursor.Disk) ↔ IsErrOf {T = U} (Ok y) merge.Disk
cursor_works called ok = (λ f. cc, λ f. cc)

-- on an entry no cursor is broken
pub on_unbroken : (at : Position) → IsOn at → IsBroken at → ⊥
on_unbroken (On entry) on broken = broken
on_unbroken Off on broken = absurd on
on_unbroken Broken on broken = absurd on

-- an answer reports no failure
pub ok_works : {T : Type 0} (result : Result T MergeError) (x : T) → result ≡ Ok x
    → IsErrOf result merge.Disk → ⊥
ok_works (Ok y) x ok fails = absurd cc
ok_works (Err e) x ok fails = absurd cc

-- ---- the rules

-- rules that are the same write the same
rules_same : (old new : OutputWriter) → KeepsRules old new → (entries : List Entry)
    → written_by new entries ≡ written_by old entries
rules_same old new k entries =
    let deeper = k.deeper in
    let items : new.deeper.items ≡ old.deeper.items = cc in
    ap (λ (floor : ℕ). written_of floor new.deeper.items new.target entries) k.floor
    ∙ ap (λ (v : List TableLine). written_of old.floor v new.target entries)
    items
    ∙ ap (λ (target : ℕ). written_of old.floor old.deeper.items target entries) k.target

written_more : (old new : OutputWriter) → KeepsRules old new → (entries : List Entry)
    (entry : Entry) → written_by new (entries ++ entry ∷ [])
    ≡ with_next old.floor old.deeper.items old.target (written_by old entries) entry
written_more old new k entries entry = rules_same old new k (entries ++ entry ∷ [])
    ∙ fold_push (with_next old.floor old.deeper.items old.target) nothing_written entries entry

-- a refusal that is passed on
pub fails_same : {T U : Type 0} (called : Result T MergeError) (e : MergeError)
    (result : Result U MergeError) → called ≡ Err e → IsErrAnd result (λ s. s ≡ e)
    → IsErrOf called merge.Disk ↔ IsErrOf result merge.Disk
fails_same called e (Ok x) is told = absurd told
fails_same called e (Err s) is told = (
  λ fails. let failed : Err e ≡ Err merge.Disk = sym is ∙ fails in cc,
  λ fails. cc,
)

pub rules_through : (a b c : OutputWriter) → KeepsRules a b → KeepsRules b c → KeepsRules a c
rules_through a b c k m = record {
  floor = m.floor ∙ k.floor;
  target = m.target ∙ k.target;
  level = m.level ∙ k.level;
  deeper = m.deeper ∙ k.deeper;
}

-- an entry that lacks room in one writer lacks it in another of the same rules
wants_same : (old new : OutputWriter) → KeepsRules old new → (tables next_file : ℕ) (it : Written)
    (entry : Entry) → WantsRoom tables next_file new it entry
    → WantsRoom tables next_file old it entry
wants_same old new k tables next_file it entry wants =
    let deeper = k.deeper in
    let items : new.deeper.items ≡ old.deeper.items = cc in (
      subst (λ (floor : ℕ). is_dropped floor old.deeper.items it.before entry ≡ false) k.floor
          (subst (λ (v : List TableLine). is_dropped new.floor v it.before entry ≡ false) items
          wants.0),
      subst (λ (target : ℕ). LacksRoom tables next_file (cut_before target it entry) entry)
          k.target wants.1,
    )

-- writers of the same rules refuse for the same cause
pub refusal_same : (old new : OutputWriter) → KeepsRules old new → (before now : Type 0)
    → (before → now) → (tables next_file first met some more : ℕ) → met ≡ first + some
    → (inputs : List LevelTable) (e : MergeError)
    → StepRefusal now tables next_file met more new inputs e
    → StepRefusal before tables next_file first (some + more) old inputs e
refusal_same old new k before now stays tables next_file first met some more is inputs e
    (inl external) = inl external
refusal_same old new k before now stays tables next_file first met some more is inputs e
    (inr (inl damaged)) = inr (inl (damaged.0, λ intact. damaged.1 (stays intact)))
refusal_same old new k before now stays tables next_file first met some more is inputs e
    (inr (inr full)) =
    let behind = full.1.behind in
    let within = full.1.within in
    inr (inr (
      full.0,
      record {
        met = full.1.met;
        entry = full.1.entry;
        walked = full.1.walked;
        rising = full.1.rising;
        behind = omega (arith, behind, is);
        within = omega (arith, within, is);
        full = subst (λ (it : Written). WantsRoom tables next_file old it full.1.entry)
            (rules_same old new k full.1.met) (wants_same old new k tables next_file
            (written_by new full.1.met) full.1.entry full.1.full);
      },
    ))

-- ---- the step

module _ {U F : Type 0} (u : CursorGhosts U F) (d : Ghosts F)
    (laws : AreCursorLaws u.as_is u.is_intact u.holds u.is_sound u.suits u.keeps u.makes u.left
    u.most) where
  -- what is intact over a source is so over others with the same files, and after moves
  pub intact_moved : (files : List ℕ) (union moved : U) (old mid new : F)
      → ((a b : F) → (d.is_honest a → HasSameFiles d files a b) → u.suits union a b)
      → ((a b : F) → (d.is_honest a → HasSameFiles d files a b) → u.suits moved a b)
      → HasSameFiles d files old mid → HasSameFiles d files mid new
      → Moved u.holds u.is_sound u.suits u.keeps u.most union mid moved new
      → IsIntactOn u d files union old → IsIntactOn u d files moved new
  intact_moved files union moved old mid new reads reads_new first second moves intact other at =
      let mid_other : HasSameFiles d files old other =
      (at.0, λ file there. at.1 file there ∙ second.1 file there ∙ first.1 file there) in
      let it = intact other mid_other in
      let back : HasSameFiles d files other mid = (
        first.0,
        λ file there.
            sym (second.1 file there) ∙ sym (at.1 file there),
      ) in
      let here = (laws.suited it.0 union other mid (reads other mid (λ h. back)) it.1).0 in
      let went = (moves.stays it.0 here).0 in
      (it.0, (laws.suited it.0 moved new other (reads_new new other (λ h. at)) went).0, it.2)

  module _ (meant : u.Meant) (inputs : List LevelTable) (old : F) (next_file : ℕ) (union : U)
      (writer : OutputWriter) (entry : Entry)
      (w : IsWalking u d meant old next_file union writer inputs) (on : IsOn (u.position union))
      (is : IfOn (u.position union) (λ here. entry ≡ here)) where
    step_here : tables_entries inputs entry × CanFollow w.met entry
        × HasWalked (tables_entries inputs) w.met (On entry)
    step_here = walk_here (tables_entries inputs) w.met (u.position union) entry on is w.walked

    -- what the writer asks of the entry
    pub step_follows : CanFollow (written_by writer w.met).opened entry
    step_follows = follows_open writer.floor writer.deeper.items writer.target w.met entry
        w.rising step_here.1

    -- the inputs are the same once the entry was put
    put_same : (mid : F) {told cause : Type 0}
        → WritesOnly d (IsOwnFile writer next_file) old mid told cause
        → HasSameFiles d (table_files inputs) old mid
    put_same mid c = (
      c.kept.honest.1 w.honest,
      λ file there.
          c.kept.files w.honest file (λ mine. w.apart file there mine),
    )

    put_suits : (mid : F) {told cause : Type 0}
        → WritesOnly d (IsOwnFile writer next_file) old mid told cause → u.suits union old mid
    put_suits mid c = w.reads old mid (λ h. put_same mid c)

    -- the union read alone, once the entry was put, so no more files exist
    pub step_unused : (mid new : F) (later : ℕ) {R : Type 0} (result : Result R CursorError)
        {told cause : Type 0} → WritesOnly d (IsOwnFile writer next_file) old mid told cause
        → MovesFiles d (reports result) mid new → AreUnused (d.state mid) later
        → AreUnused (d.state new) later
    step_unused mid new later result c moves unused = same_unused (d.state mid) (d.state new) later
        (moves.disk.files (c.kept.honest.1 w.honest)) unused

    -- the entry was put, and the union moved on
    pub step_goes : (mid new : F) (later : ℕ) (moved : U) (after : OutputWriter) {R : Type 0}
        (x : R) (result : Result R CursorError) {told cause : Type 0}
        → WritesOnly d (IsOwnFile writer next_file) old mid told cause → KeepsRules writer after
        → ((file : ℕ) → IsOwnFile after later file → IsOwnFile writer next_file file)
        → WriterHolds (d.state mid) later after (with_next writer.floor writer.deeper.items
        writer.target (written_by writer w.met) entry) → AreUnused (d.state mid) later
        → Moved u.holds u.is_sound u.suits u.keeps u.most union mid moved new
        → MovesFiles d (reports result) mid new
        → ((meant : u.Meant) → u.is_sound meant union mid → IfOn (u.position union)
        (λ here. MoveFinds Forward (After here) (u.holds meant union mid) result
        (u.position moved)))
        → result ≡ Ok x → (now : IsWalking u d meant new later moved after inputs)
        × (length now.met ≡ length w.met + 1) × (IsIntactOn u d (table_files inputs) union old →
        IsIntactOn u d (table_files inputs) moved new)
    step_goes mid new later moved after x result c rules own put unused moves kept finds ok =
        let first = put_same mid c in
        let stay = laws.suited meant union old mid (put_suits mid c) w.sound in
        let went = moves.stays meant stay.0 in
        let has = tables_entries inputs in
        let alike : IsAlike (u.holds meant union mid) has =
        alike_through (u.holds meant union mid) (u.holds meant union old) has stay.1 w.alike in
        let same : IsSame (d.state mid) (d.state new) = kept.disk.files first.0 in
        let second : HasSameFiles d (table_files inputs) mid new =
        (kept.disk.honest.1 first.0, λ file there. same file) in
        let reads : (a b : F) → (d.is_honest a → HasSameFiles d (table_files inputs) a b)
        → u.suits moved a b = λ a b serves. went.2 a b (w.reads a b serves) in (
          record {
            honest = second.0;
            sound = went.0;
            alike = alike_through (u.holds meant moved new) (u.holds meant union mid) has went.1
                alike;
            reads = reads;
            apart = λ file there mine. w.apart file there (own file mine);
            met = w.met ++ entry ∷ [];
            walked = walk_advances has (apart_like (u.holds meant union old) has w.alike
                (laws.apart meant union old w.sound)) w.met (u.holds meant union mid) alike x
                result (u.position union) (u.position moved) entry on is w.walked ok
                (finds meant stay.0);
            rising = rising_push w.met entry w.rising step_here.1;
            writes = same_writes (d.state mid) (d.state new) after later
                (written_by after (w.met ++ entry ∷ [])) same
                (subst (λ (it : Written). WriterHolds (d.state mid) later after it)
                (sym (written_more writer after rules w.met entry)) put);
            unused = same_unused (d.state mid) (d.state new) later same unused;
          },
          length-append w.met (entry ∷ []),
          intact_moved (table_files inputs) union moved old mid new w.reads reads first second
              moves,
        )

    -- why the union did not move on once the entry was put
    pub step_stops : (mid : F) {told cause : Type 0} (tables later : ℕ) {R : Type 0}
        {allocates : Type 0} (before now : ℕ) (result : Result R CursorError) (e : CursorError)
        → WritesOnly d (IsOwnFile writer next_file) old mid told cause
        → ErrorCauses ((meant : u.Meant) × u.is_sound meant union mid × u.is_intact meant mid)
        (IsBroken (u.position union)) allocates before now result → result ≡ Err e
        → StepRefusal (IsIntactOn u d (table_files inputs) union old) tables later (length w.met) 1
        writer inputs (merge_error_of_cursor e)
    step_stops mid tables later before now result cursor.Disk c causes stops = inl (inl refl)
    step_stops mid tables later before now result cursor.Damaged c causes stops =
        inr (inl (refl, λ intact. causes.damaged stops (intact mid (put_same mid c))))
    step_stops mid tables later before now result cursor.Memory c causes stops = inl (inr refl)
    step_stops mid tables later before now result cursor.Failed c causes stops =
        absurd (on_unbroken (u.position union) on (causes.failed.0 stops))

    -- why the entry was not put
    pub step_refused : {intact : Type 0} (tables later : ℕ) (e : MergeError)
        → PutRefusal tables later writer (written_by writer w.met) entry e
        → StepRefusal intact tables later (length w.met) 1 writer inputs e
    step_refused tables later e (inl external) = inl external
    step_refused tables later e (inr full) = inr (inr (
      full.0,
      record {
        met = w.met;
        entry = entry;
        walked = step_here.2;
        rising = w.rising;
        behind = omega arith;
        within = omega arith;
        full = full.1;
      },
    ))
