-- Rows that are read are those of the cursor's map.
use Rattle.std.proofs.Common.{◌∙◌, ap, inr, refl, subst, sym, take}
use Rattle.std.proofs.lemmas.List.Elements.{All-take}
use Rattle.kv_types.specs.{IsBatch}
use Rattle.kv_types.specs.Pages.{IsPage}
use Rattle.embedded_store.specs.Cursors.{cursor_map}
use Rattle.embedded_store.specs.Stores.{whether}
use Rattle.embedded_store.proofs.Cursors.{rows_fit}
use Rattle.embedded_store.proofs.StoreReads.{shown_each}
use Rattle.embedded_store.proofs.cursor.RowCursor.read.Goals as goal

-- the page was read
pub returns-in-Ok-clause-moves : goal.returns-in-Ok-clause-moves
returns-in-Ok-clause-moves g c = record {
  reads = inr record {
    answer = c.rows.result;
    reads = c.rows.ensures.reads;
    readable = c.rows.ensures.readable;
    same = sym (ap whether c.in-Ok.is);
  };
  number = refl;
  kept = tt;
  refused = λ list holds. tt;
}

pub returns-in-Ok-clause-finds : goal.returns-in-Ok-clause-finds
returns-in-Ok-clause-finds g c = λ list shown.
    let at = c.args.self.now.at in
    let map = cursor_map c.args.self.now list in
    record {
      page = subst (IsPage map c.args.range.now)
          (sym (c.replace.ensures.after ∙ c.in-Ok.ensures.found list shown))
          (c.pages_agree.ensures.agree (take at list) c.args.range.now);
      fits = λ row has. rows_fit c.maps_agree.ensures (take at list)
          (All-take IsBatch at list (shown_each c.args.store.now list shown)) row has;
      stands = refl;
      backward = c.is_backward-self.ensures;
      number = refl;
    }

-- it was refused
pub returns-in-Err-clause-moves : goal.returns-in-Err-clause-moves
returns-in-Err-clause-moves g c = record {
  reads = inr record {
    answer = c.rows.result;
    reads = c.rows.ensures.reads;
    readable = c.rows.ensures.readable;
    same = sym (ap whether c.in-Err.is);
  };
  number = refl;
  kept = refl;
  refused = λ list holds. c.in-Err.ensures.refused list holds;
}
