-- The text of a store is that of its numbers, its rows and their count.
use Rattle.std.proofs.Common.{◌≡◌, ◌≢◌, ◌++◌, ◌∷◌, ℕ, List, [], Option, inl, inr, length, refl}
use Rattle.std.proofs.Common.{append-nil, arith, subst, sym, take}
use Rattle.std.proofs.Math.Seq.{take-append_seam}
use Rattle.std.proofs.lemmas.Grind.{flat_map-append}
use Rattle.std.proofs.lemmas.List.{take_all}
use Rattle.std.specs.Prelude.{IfErr, IsErrAnd, MatchResult, OnOk, Result, Ok, Err}
use Rattle.std.specs.List.{flat_map}
use Rattle.std.specs.Io.KnownBytes.{Appends}
use Rattle.kv_types.specs.{Row}
use Rattle.kv_types.specs.Pages.{PagesAgree, page_of}
use Rattle.kv_types.specs.{BatchContent, map_of}
use Rattle.engine.specs.{AreOrdered, Facts, IsReadable, LookUps, with_committed}
use Rattle.store_texts.specs.Writing.{AppendsPart}
use Rattle.dumps.specs.declared.dump_error.DumpError.{DumpError}
use Rattle.dumps.specs.declared.dump_error.DumpError.TheVariants.{Store, Write}
use Rattle.node.specs.declared.stop.Stop.TheVariants as stop
use Rattle.dumps.specs.Dumped.{AreAllWritten, AreBegun, EndsAtLine, IsBegunDump, IsBegunFor}
use Rattle.dumps.specs.Dumped.{IsCutDump, IsCutText, IsOfOpened, RefusesText}
use Rattle.dumps.specs.Dumped.{IsDumpFor, IsDumpOf, IsDumpRefusal, IsSomeBegun}
use Rattle.dumps.specs.Dumped.{IsSomeDump, WritesText, count_line, dump_text, row_line}
use Rattle.dumps.specs.Dumped.{store_line}
use Rattle.dumps.specs.Walks.{AreRowsOf, all_from}
use Rattle.dumps.proofs.DeviceLemmas.{IsPassedOn, output_refusal}
use Rattle.dumps.proofs.TextsLemmas.{part_behind, part_none, part_of_longer}
use Rattle.store_texts.specs.WritingLemmas.{appends_more}

-- the output took no more than a beginning of a text
pub written_in_part : {T : Type 0} (text : List ℕ) (old new : Option (List ℕ))
    (result : Result T DumpError) → IsErrAnd result (λ e. e ≡ Write) → AppendsPart old new text →
    WritesText text old new result
written_in_part text old new (Ok x) told part = absurd told
written_in_part text old new (Err e) told part = inr (told, part)

-- memory was short for a text
pub no_text : {T : Type 0} (text : List ℕ) (out : Option (List ℕ)) (result : Result T DumpError) →
    IsErrAnd result (λ e. e ≡ Store stop.Memory) → WritesText text out out result
no_text text out (Ok x) told = absurd told
no_text text out (Err e) told = inl (told, refl)

-- a text that is refused was written in part
refused_in_part : (text : List ℕ) (old new : Option (List ℕ)) (error : DumpError) →
    RefusesText text old new error → AppendsPart old new text
refused_in_part text old new error (inl memory) =
    subst (λ out. AppendsPart old out text) (sym memory.1) (part_none old text)
refused_in_part text old new error (inr full) = full.1

-- and not at all, unless the output took no more
refused_for_memory : (text : List ℕ) (old new : Option (List ℕ)) (error : DumpError) →
    RefusesText text old new error → error ≢ Write → new ≡ old
refused_for_memory text old new error (inl memory) other = memory.1
refused_for_memory text old new error (inr full) other = absurd (other full.0)

-- all batches up to the last one
all_batches : (list : List BatchContent) (at : ℕ) → at ≡ length list → take at list ≡ list
all_batches list at is = take_all at list (omega (arith, is))

-- once all batches are known to be committed, all can be read
pub all_readable : (old new : LookUps) (at : ℕ) → new ≡ with_committed old at → AreOrdered old →
    at ≡ old.count → IsReadable new.facts.floor new.committed at
all_readable old new at told ordered is =
    rw told (omega (arith, ordered.floor, ordered.committed, is), omega arith)

-- the map of each list has rows
all_rows : PagesAgree → (list : List BatchContent) → (rows : List Row)
    × AreRowsOf (map_of list) rows
all_rows agree list =
    let is = agree list (all_from []) in ((page_of list (all_from [])).rows ++ is.left, is.walk)

-- ---- a store that was not opened: nothing is written

-- no level has a table
abbrev no_tables : List ℕ
no_tables = 0 ∷ 0 ∷ 0 ∷ 0 ∷ 0 ∷ 0 ∷ 0 ∷ []

pub none_begun : PagesAgree → (facts : Facts) (list : List BatchContent) (out : Option (List ℕ))
    (error : DumpError) → IsBegunDump facts list out out error
none_begun agree facts list out error =
    let all = all_rows agree list in
    let text = dump_text facts (length list) no_tables all.0 in
    record {
      text = text;
      is = record {
        tables = no_tables;
        levels = refl;
        rows = all.0;
        is_all = all.1;
        is = refl;
      };
      part = part_none out text;
      whole = λ other. inl refl;
    }

pub none_of_some : (facts : Facts) (out : Option (List ℕ)) (error : DumpError) →
    IsSomeBegun out out error
none_of_some facts out error = record {
  facts = facts;
  count = 0;
  tables = no_tables;
  levels = refl;
  rows = [];
  cut = record {
    part = part_none out (dump_text facts 0 no_tables []);
    whole = λ other. inl refl;
  };
  none = λ is. refl;
}

-- ---- one that was opened: the lines, one behind another

module _ (IsShown : List BatchContent → Type 0) (AreCounts : List ℕ → Type 0) (facts : Facts)
    (at : ℕ) (tables : List ℕ) (counts : AreCounts tables) where
  abbrev first_line : List ℕ
  first_line = store_line facts at tables

  -- the rows, and their count
  abbrev behind_it : List Row → List ℕ
  behind_it rows = flat_map row_line rows ++ count_line (length rows) at

  -- refused within the first line, or before it
  pub cut_in_numbers : PagesAgree → (old new : Option (List ℕ)) (error : DumpError) →
      RefusesText first_line old new error →
      IsBegunFor IsShown AreCounts facts at old new error
  cut_in_numbers agree old new error refuses =
      let cut : (rows : List Row) → IsCutText facts at tables rows old new error =
      λ rows. record {
        part = part_of_longer old new first_line (behind_it rows)
            (refused_in_part first_line old new error refuses);
        whole = λ other. inl (refused_for_memory first_line old new error refuses other);
      } in record {
        tables = tables;
        counts = counts;
        rows = [];
        cut = cut [];
        of = λ list shown. let all = all_rows agree (take at list) in (all.0, all.1, cut all.0);
      }

  -- behind the first line, and those of first rows
  ends_at_row : (old first new : Option (List ℕ)) (rows left : List Row) →
      Appends old first first_line → Appends first new (flat_map row_line rows) →
      EndsAtLine facts at tables (rows ++ left) old new
  ends_at_row old first new rows left numbers wrote = inr (
    length rows,
    subst (λ (some : List Row). Appends old new (first_line ++ flat_map row_line some))
        (sym (take-append_seam rows left))
        (appends_more old first new first_line (flat_map row_line rows) numbers wrote),
  )

  -- refused within the rows
  in_rows : (old first new : Option (List ℕ)) (error : DumpError) (rows left : List Row) →
      Appends old first first_line → AppendsPart first new (flat_map row_line rows) →
      (error ≢ Write → Appends first new (flat_map row_line rows)) →
      IsCutText facts at tables (rows ++ left) old new error
  in_rows old first new error rows left numbers part wrote =
      let more : AppendsPart first new (flat_map row_line (rows ++ left)) =
      subst (AppendsPart first new) (sym (flat_map-append row_line rows left))
      (part_of_longer first new (flat_map row_line rows) (flat_map row_line left) part) in record {
        part = part_behind old first new first_line (behind_it (rows ++ left)) numbers
            (part_of_longer first new (flat_map row_line (rows ++ left))
            (count_line (length (rows ++ left)) at) more);
        whole = λ other. ends_at_row old first new rows left numbers (wrote other);
      }

  pub cut_in_rows : (old first new : Option (List ℕ)) (error : DumpError) →
      Appends old first first_line → AreBegun IsShown at first new error →
      IsBegunFor IsShown AreCounts facts at old new error
  cut_in_rows old first new error numbers begun = record {
    tables = tables;
    counts = counts;
    rows = begun.rows ++ [];
    cut = in_rows old first new error begun.rows [] numbers begun.part begun.whole;
    of = λ list shown.
        let all = begun.first list shown in (
          begun.rows ++ all.0,
          all.1,
          in_rows old first new error begun.rows all.0 numbers begun.part begun.whole,
        );
  }

  -- the last line was written, or refused
  pub dumped : {T : Type 0} (count : ℕ) (result : Result T DumpError)
      (old first second new : Option (List ℕ)) → Appends old first first_line →
      AreAllWritten IsShown at count first second →
      WritesText (count_line count at) second new result →
      MatchResult result (λ _. IsDumpFor IsShown AreCounts facts at old new)
      (IsBegunFor IsShown AreCounts facts at old new)
  dumped count (Ok x) old first second new numbers rows writes = record {
    tables = tables;
    counts = counts;
    rows = rows.rows;
    wrote = appends_more old first new first_line (behind_it rows.rows) numbers
        (appends_more first second new (flat_map row_line rows.rows)
        (count_line (length rows.rows) at) rows.wrote
        (subst (λ (n : ℕ). Appends second new (count_line n at)) rows.counted writes));
    all = rows.all;
  }
  dumped count (Err error) old first second new numbers rows writes =
      let last = count_line count at in
      let part = part_behind old first new first_line (behind_it rows.rows) numbers
      (part_behind first second new (flat_map row_line rows.rows)
      (count_line (length rows.rows) at) rows.wrote
      (subst (λ (n : ℕ). AppendsPart second new (count_line n at)) rows.counted
      (refused_in_part last second new error writes))) in
      let wrote : error ≢ Write → Appends first new (flat_map row_line rows.rows) =
      λ other. subst (λ out. Appends first out (flat_map row_line rows.rows))
      (sym (refused_for_memory last second new error writes other)) rows.wrote in
      let cut : IsCutText facts at tables rows.rows old new error = record {
        part = part;
        whole = λ other. subst (λ all. EndsAtLine facts at tables all old new)
            (append-nil rows.rows)
            (ends_at_row old first new rows.rows [] numbers (wrote other));
      } in record {
        tables = tables;
        counts = counts;
        rows = rows.rows;
        cut = cut;
        of = λ list shown. (rows.rows, rows.all list shown, cut);
      }

-- a line is refused for the output or for memory
pub of_output : {T : Type 0} (text : List ℕ) (old new : Option (List ℕ))
    (result : Result T DumpError) → WritesText text old new result → IfErr result IsDumpRefusal
of_output text old new (Ok x) writes = tt
of_output text old new (Err error) writes = inr (output_refusal text old new error writes)

-- ---- what was written of a store

-- such a text was written, or a beginning of it
abbrev DumpsFor : {T : Type 0} → (List BatchContent → Type 0) → (List ℕ → Type 0) → Facts → ℕ →
    (old new : Option (List ℕ)) → Result T DumpError → Type 0
DumpsFor IsShown AreCounts facts count old new result =
    MatchResult result (λ _. IsDumpFor IsShown AreCounts facts count old new)
    (IsBegunFor IsShown AreCounts facts count old new)

-- of any store
pub dumped_some : {T : Type 0} (IsShown : List BatchContent → Type 0)
    (AreCounts : List ℕ → Type 0) (facts : Facts) (count : ℕ) (old new : Option (List ℕ))
    (result : Result T DumpError) → ((tables : List ℕ) → AreCounts tables → length tables ≡ 7) →
    IfErr result IsOfOpened → DumpsFor IsShown AreCounts facts count old new result →
    MatchResult result (λ _. IsSomeDump old new) (IsSomeBegun old new)
dumped_some IsShown AreCounts facts count old new (Ok x) levels opened dump = record {
  facts = facts;
  count = count;
  tables = dump.tables;
  levels = levels dump.tables dump.counts;
  rows = dump.rows;
  wrote = dump.wrote;
}
dumped_some IsShown AreCounts facts count old new (Err e) levels opened begun = record {
  facts = facts;
  count = count;
  tables = begun.tables;
  levels = levels begun.tables begun.counts;
  rows = begun.rows;
  cut = begun.cut;
  none = λ is. elim is [
    | inl created ↦ absurd (opened.0 created)
    | inr format ↦ absurd (opened.1 format)
  ];
}

-- of a list that is shown
module _ (IsShown : List BatchContent → Type 0) (AreCounts : List ℕ → Type 0)
    (known facts : Facts) (count : ℕ) (list : List BatchContent) (old new : Option (List ℕ))
    (levels : (tables : List ℕ) → AreCounts tables → length tables ≡ 7) (same : known ≡ facts)
    (is : count ≡ length list) (shown : IsShown list) where
  all_of : (rows : List Row) → AreRowsOf (map_of (take count list)) rows →
      AreRowsOf (map_of list) rows
  all_of rows are = subst (λ (batches : List BatchContent). AreRowsOf (map_of batches) rows)
      (all_batches list count is) are

  as_told : (P : Facts → ℕ → Type 0) → P known count → P facts (length list)
  as_told P p = subst (λ (f : Facts). P f (length list)) same
      (subst (λ (n : ℕ). P known n) is p)

  pub dumped_list : {T : Type 0} (result : Result T DumpError) →
      DumpsFor IsShown AreCounts known count old new result →
      MatchResult result (λ _. IsDumpOf facts list old new) (IsBegunDump facts list old new)
  dumped_list (Ok x) dump = record {
    text = dump_text facts (length list) dump.tables dump.rows;
    is = record {
      tables = dump.tables;
      levels = levels dump.tables dump.counts;
      rows = dump.rows;
      is_all = all_of dump.rows (dump.all list shown);
      is = refl;
    };
    wrote = as_told (λ f n. Appends old new (dump_text f n dump.tables dump.rows)) dump.wrote;
  }
  dumped_list (Err e) begun =
      let all = begun.of list shown in
      let cut : IsCutText facts (length list) begun.tables all.0 old new e =
      as_told (λ f n. IsCutText f n begun.tables all.0 old new e) all.2 in
      record {
        text = dump_text facts (length list) begun.tables all.0;
        is = record {
          tables = begun.tables;
          levels = levels begun.tables begun.counts;
          rows = all.0;
          is_all = all_of all.0 all.1;
          is = refl;
        };
        part = cut.part;
        whole = cut.whole;
      }

module _ (facts : Facts) (list : List BatchContent) (old new : Option (List ℕ)) where
  -- .. and the answer has the disk besides
  abbrev PassesOn : {D : Type 0} → Result D (DumpError × D) → Type 0
  PassesOn result =
      MatchResult result (λ _. IsDumpOf facts list old new)
      (λ refused. IsBegunDump facts list old new refused.0)

  -- the store was written out whole
  pub dumped_whole : {D : Type 0} (result : Result D (DumpError × D)) → PassesOn result →
      OnOk result (IsDumpOf facts list old new)
  dumped_whole (Ok disk) dump = dump
  dumped_whole (Err refused) begun = tt

  -- or in part
  pub dumped_in_part : {D : Type 0} (written : Result (Unit {0}) DumpError) (disk : D)
      (result : Result D (DumpError × D)) → IsPassedOn written disk result → PassesOn result →
      IfErr written IsDumpRefusal →
      IfErr result (λ refused. IsCutDump facts list old new refused.0)
  dumped_in_part {D} (Ok x) disk result is dump refused =
      subst (λ (r : Result D (DumpError × D)).
      IfErr r (λ refused. IsCutDump facts list old new refused.0)) (sym is) tt
  dumped_in_part {D} (Err e) disk result is begun refused =
      subst (λ (r : Result D (DumpError × D)).
      IfErr r (λ refused. IsCutDump facts list old new refused.0)) (sym is)
      (refused, subst PassesOn is begun)
