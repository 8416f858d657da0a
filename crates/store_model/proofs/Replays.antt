-- The replay of the logs has exactly the entries that belong in memory.
use Rattle.std.proofs.Common.{◌≡◌, suc, ◌+◌, ◌-◌, List, drop, slice_get, sym, ◌∙◌, ap}
use Rattle.std.proofs.Common.{arith}
use Rattle.kv_types.specs.{BatchContent, Entry}
use Rattle.store_model.specs.Stores.{StoreState, memory_entries}
use Rattle.store_model.specs.LookUps.{replayed_entries}
use Rattle.store_model.specs.PlacesLemmas.{slice_get-drop}

module _ (l : List BatchContent) (store : StoreState) (a : Entry) where
  pub replay_to : replayed_entries store.kept store.flushed (drop store.kept l) a
      → memory_entries l store a
  replay_to (i, batch, is, of, high) =
      let number = of.0 in (
        omega (arith, number),
        high,
        (store.kept + i, batch, sym (slice_get-drop store.kept l i) ∙ is, of),
      )

  pub replay_back : memory_entries l store a
      → replayed_entries store.kept store.flushed (drop store.kept l) a
  replay_back (later, high, (i, batch, is, of)) =
      let number = of.0 in
      let eq : store.kept + (i - store.kept) ≡ i = omega (arith, number, later) in (
        i - store.kept,
        batch,
        slice_get-drop store.kept l (i - store.kept) ∙ ap (λ z. slice_get l z) eq ∙ is,
        (number ∙ ap (λ z. suc z) (sym eq), of.1),
        high,
      )
