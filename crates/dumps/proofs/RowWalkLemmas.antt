-- The rows of one page more are written.
use Rattle.std.proofs.Common.{◌≡◌, ◌≢◌, ◌+◌, inl, inr, ℕ, List, [], ◌∷◌, ◌++◌, Option, drop, take}
use Rattle.std.proofs.Common.{ap, false, length, length-append, refl, subst, sym, ◌∙◌}
use Rattle.std.proofs.lemmas.Grind.{flat_map-append}
use Rattle.std.specs.List.{flat_map}
use Rattle.std.specs.Io.KnownBytes.{Appends}
use Rattle.disk.specs.declared.Disk.{Ghosts}
use Rattle.engine.specs.declared.Engine.{Engine}
use Rattle.engine.specs.{engine_disk, look_ups}
use Rattle.byte_fields.specs.Order.{IsBelow, IsStrictOrder}
use Rattle.kv_types.specs.{Row}
use Rattle.kv_types.specs.Pages.{IsPage, PagesAgree, page_of}
use Rattle.kv_types.specs.{BatchContent, Rows, map_of}
use Rattle.store_texts.specs.Writing.{AppendsPart}
use Rattle.dumps.specs.declared.dump_error.DumpError.{DumpError}
use Rattle.dumps.specs.declared.dump_error.DumpError.TheVariants.{Write}
use Rattle.dumps.specs.Dumped.{AreAllWritten, AreBegun, AreWritten, DiskIsOnlyRead, ShowsList}
use Rattle.dumps.specs.Dumped.{StillShows, row_line}
use Rattle.dumps.specs.Walks.{AreRowsOf, all_from}
use Rattle.dumps.specs.Walks.StartsPage.{First}
use Rattle.dumps.proofs.TextsLemmas.{part_behind, part_same}
use Rattle.store_texts.specs.WritingLemmas.{appends_more, appends_none}
use Rattle.dumps.proofs.WalksLemmas.{split_with_page, walk_on, walked_all}

-- no call of an engine's disk has failed so far, and its look-ups are as they were
pub record HasLooked {D : Type 0} (g : Ghosts D) (old now : Engine D g) : Type 0 where
  pub looks : look_ups now ≡ look_ups old
  pub read : DiskIsOnlyRead g (engine_disk old) (engine_disk now) ⊥

module _ {D : Type 0} {g : Ghosts D} where
  -- what an engine showed, it still shows
  pub shown_still : (old now : Engine D g) (list : List BatchContent) →
      StillShows g old now list → ShowsList g old list → ShowsList g now list
  shown_still old now list still (inl reads) = inl (still.reads reads)
  shown_still old now list still (inr meant) = inr (still.meant meant)

  pub shows_same : (engine : Engine D g) (list : List BatchContent) →
      StillShows g engine engine list
  shows_same engine list = record { reads = λ r. r; meant = λ m. m }

  pub shows_on : (old mid new : Engine D g) (list : List BatchContent) →
      StillShows g old mid list → StillShows g mid new list → StillShows g old new list
  shows_on old mid new list a b = record {
    reads = λ r. b.reads (a.reads r);
    meant = λ m. b.meant (a.meant m);
  }

-- what was written of all lists that are shown later, was of those that are shown now
module _ (IsShown IsShownLater : List BatchContent → Type 0) (at : ℕ)
    (still : (list : List BatchContent) → IsShown list → IsShownLater list) where
  pub begun_for : (old new : Option (List ℕ)) (error : DumpError) →
      AreBegun IsShownLater at old new error → AreBegun IsShown at old new error
  begun_for old new error it = record {
    rows = it.rows;
    part = it.part;
    whole = it.whole;
    first = λ list shown. it.first list (still list shown);
  }

  pub all_for : (count : ℕ) (old new : Option (List ℕ)) →
      AreAllWritten IsShownLater at count old new → AreAllWritten IsShown at count old new
  all_for count old new it = record {
    rows = it.rows;
    counted = it.counted;
    wrote = it.wrote;
    all = λ list shown. it.all list (still list shown);
  }

module _ (IsShown : List BatchContent → Type 0) (at : ℕ) where
  -- nothing was written yet
  pub none_written : PagesAgree → (out : Option (List ℕ)) → AreWritten IsShown at [] 0 0 out out
  none_written agree out = record {
    rows = [];
    counted = refl;
    wrote = appends_none out;
    first = λ list shown.
        let is = agree (take at list) (all_from []) in
        let all = (page_of (take at list) (all_from [])).rows ++ is.left in
        record {
          all = all;
          is_all = is.walk;
          walked = record { left = all; split = refl; at = First };
        };
  }

  -- what was written so far is a beginning of the text of all rows
  pub begun_so_far : (from : List ℕ) (known count : ℕ) (old new : Option (List ℕ))
      (error : DumpError) → AreWritten IsShown at from known count old new →
      AreBegun IsShown at old new error
  begun_so_far from known count old new error before = record {
    rows = before.rows;
    part = part_same old new (flat_map row_line before.rows) before.wrote;
    whole = λ other. before.wrote;
    first = λ list shown.
        let are = before.first list shown in (
          are.walked.left,
          subst (AreRowsOf (map_of (take at list))) are.walked.split are.is_all,
        );
  }

  -- nothing is a beginning of it
  pub begun_none : PagesAgree → (out : Option (List ℕ)) (error : DumpError) →
      AreBegun IsShown at out out error
  begun_none agree out error = begun_so_far [] 0 0 out out error (none_written agree out)

  module _ (order : IsStrictOrder IsBelow) (agree : PagesAgree) (from : List ℕ)
      (known count : ℕ) (old mid new : Option (List ℕ)) (page : Rows)
      (before : AreWritten IsShown at from known count old mid)
      (is : (list : List BatchContent) → IsShown list →
      page ≡ page_of (take at list) (all_from from)) where
    is_page : (list : List BatchContent) → IsShown list →
        IsPage (map_of (take at list)) (all_from from) page
    is_page list shown = subst (IsPage (map_of (take at list)) (all_from from))
        (sym (is list shown)) (agree (take at list) (all_from from))

    abbrev rows : List Row
    rows = before.rows ++ drop known page.rows

    parts : flat_map row_line rows
        ≡ flat_map row_line before.rows ++ flat_map row_line (drop known page.rows)
    parts = flat_map-append row_line before.rows (drop known page.rows)

    behind_all : Appends mid new (flat_map row_line (drop known page.rows)) →
        Appends old new (flat_map row_line rows)
    behind_all wrote = subst (Appends old new) (sym parts)
        (appends_more old mid new (flat_map row_line before.rows)
        (flat_map row_line (drop known page.rows)) before.wrote wrote)

    -- so is what was written so far, and a beginning of a page more
    pub begun_with_page : (error : DumpError) →
        AppendsPart mid new (flat_map row_line (drop known page.rows)) →
        (error ≢ Write → Appends mid new (flat_map row_line (drop known page.rows))) →
        AreBegun IsShown at old new error
    begun_with_page error part all = record {
      rows = rows;
      whole = λ other. behind_all (all other);
      part = subst (AppendsPart old new) (sym parts)
          (part_behind old mid new (flat_map row_line before.rows)
          (flat_map row_line (drop known page.rows)) before.wrote part);
      first = λ list shown.
          let are = before.first list shown in
          let all = split_with_page order (map_of (take at list)) are.all from known before.rows
          page are.is_all are.walked (is_page list shown) in
          (all.0, subst (AreRowsOf (map_of (take at list))) all.1 are.is_all);
    }

    -- .. and all of it
    pub begun_with_all : (error : DumpError) →
        Appends mid new (flat_map row_line (drop known page.rows)) →
        AreBegun IsShown at old new error
    begun_with_all error wrote = begun_with_page error
        (part_same mid new (flat_map row_line (drop known page.rows)) wrote) (λ other. wrote)

    module _ (now : ℕ) (wrote : Appends mid new (flat_map row_line (drop known page.rows)))
        (counted : now ≡ count + length (drop known page.rows)) where
      all_text : Appends old new (flat_map row_line rows)
      all_text = behind_all wrote

      all_count : now ≡ length rows
      all_count = counted ∙ ap (λ c. c + length (drop known page.rows)) before.counted
          ∙ sym (length-append before.rows (drop known page.rows))

      -- no row is left
      pub all_written : page.more ≡ false → AreAllWritten IsShown at now old new
      all_written over = record {
        rows = rows;
        counted = all_count;
        wrote = all_text;
        all = λ list shown.
            let are = before.first list shown in
            let all = walked_all order (map_of (take at list)) are.all from known before.rows page
            are.is_all are.walked (is_page list shown) over in
            subst (AreRowsOf (map_of (take at list))) (sym all) are.is_all;
      }

      -- the next page begins at the last row of this one
      pub more_written : (front : List Row) (last : Row) → page.rows ≡ front ++ last ∷ [] →
          AreWritten IsShown at last.key 1 now old new
      more_written front last ends = record {
        rows = rows;
        counted = all_count;
        wrote = all_text;
        first = λ list shown.
            let are = before.first list shown in
            record {
              all = are.all;
              is_all = are.is_all;
              walked = walk_on order (map_of (take at list)) are.all from known before.rows page
                  last front are.is_all are.walked (is_page list shown) ends;
            };
      }
