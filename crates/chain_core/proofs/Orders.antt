-- The order of a node's numbers, which each rule keeps.
use Rattle.std.proofs.Common.{◌≡◌, ◌≤◌, ℕ, suc, List, Bool, true, false, max, refl, ◌∙◌, sym, arith}
use Rattle.std.specs.Prelude.{if◌then◌else◌}
use Rattle.std.proofs.lemmas.Bool.{true≢false}
use Rattle.configurations.specs.{is_tail}
use Rattle.chain_core.specs.declared.pending_submit.PendingSubmit.{PendingSubmit}
use Rattle.chain_core.specs.States.{Core, HasOrderedNumbers, IsInOrder}
use Rattle.chain_core.proofs.Snapshots.{snapshots_stay}

module _ (core : Core) (o : HasOrderedNumbers core) where
  longer_where : (b : Bool) → is_tail core.ids core.id ≡ b → (number c : ℕ)
      (pending : List PendingSubmit) → number ≡ suc core.count →
      c ≡ (if b then number else core.committed) → IsInOrder (1, 0) number pending →
      HasOrderedNumbers (record core { count = number; committed = c; pending = pending })
  longer_where true tail number c pending next commits rises = record {
    kept = o.kept;
    floor = omega (arith, o.floor, o.committed, next, commits);
    committed = omega (arith, commits);
    successor_has = λ no_tail. absurd (true≢false (sym tail ∙ no_tail));
    sent = omega (arith, o.sent, next);
    pending = rises;
    snapshots = snapshots_stay core.floor core.committed core.snapshots o.snapshots c
        (omega (arith, o.committed, next, commits));
  }
  longer_where false tail number c pending next commits rises = record {
    kept = o.kept;
    floor = omega (arith, o.floor, commits);
    committed = omega (arith, o.committed, next, commits);
    successor_has = λ no_tail. omega (arith, o.successor_has no_tail, commits);
    sent = omega (arith, o.sent, next);
    pending = rises;
    snapshots = snapshots_stay core.floor core.committed core.snapshots o.snapshots c
        (omega (arith, o.committed, next, commits));
  }

  -- after one more batch, which a tail commits
  pub ordered_longer : (number c : ℕ) (pending : List PendingSubmit) → number ≡ suc core.count →
      c ≡ (if is_tail core.ids core.id then number else core.committed) →
      IsInOrder (1, 0) number pending →
      HasOrderedNumbers (record core { count = number; committed = c; pending = pending })
  ordered_longer = longer_where (is_tail core.ids core.id) refl

  -- the order with other requests, which are in order
  pub ordered_queued : (pending : List PendingSubmit) → IsInOrder (1, 0) core.count pending →
      HasOrderedNumbers (record core { pending = pending })
  ordered_queued pending rises = record {
    kept = o.kept;
    floor = o.floor;
    committed = o.committed;
    successor_has = o.successor_has;
    sent = o.sent;
    pending = rises;
    snapshots = o.snapshots;
  }

  -- the order after the successor's report
  pub ordered_told : (committed have c has : ℕ) (pending : List PendingSubmit) →
      c ≡ max core.committed committed → has ≡ max core.successor_has have → committed ≤ have →
      have ≤ core.count → IsInOrder (1, 0) core.count pending →
      HasOrderedNumbers (record core { committed = c; successor_has = has; pending = pending })
  ordered_told committed have c has pending greater more told there rises = record {
    kept = o.kept;
    floor = omega (arith, o.floor, greater);
    committed = omega (arith, o.committed, greater, told, there);
    successor_has = λ no_tail. omega (arith, o.successor_has no_tail, greater, more, told);
    sent = omega (arith, o.sent, more, there);
    pending = rises;
    snapshots = snapshots_stay core.floor core.committed core.snapshots o.snapshots c
        (omega (arith, greater));
  }

  adopted_where : (b : Bool) (epoch c : ℕ) (ids : List ℕ) (pending : List PendingSubmit) →
      c ≡ (if b then core.count else core.committed) → IsInOrder (1, 0) core.count pending →
      HasOrderedNumbers (record core {
        epoch = epoch;
        ids = ids;
        committed = c;
        successor_has = c;
        pending = pending;
      })
  adopted_where true epoch c ids pending commits rises = record {
    kept = o.kept;
    floor = omega (arith, o.floor, o.committed, commits);
    committed = omega (arith, commits);
    successor_has = λ no_tail. omega arith;
    sent = omega (arith, commits);
    pending = rises;
    snapshots = snapshots_stay core.floor core.committed core.snapshots o.snapshots c
        (omega (arith, o.committed, commits));
  }
  adopted_where false epoch c ids pending commits rises = record {
    kept = o.kept;
    floor = omega (arith, o.floor, commits);
    committed = omega (arith, o.committed, commits);
    successor_has = λ no_tail. omega arith;
    sent = omega (arith, o.committed, commits);
    pending = rises;
    snapshots = snapshots_stay core.floor core.committed core.snapshots o.snapshots c
        (omega (arith, commits));
  }

  -- the order after a later configuration was adopted
  pub ordered_adopted : (epoch c : ℕ) (ids : List ℕ) (pending : List PendingSubmit) →
      c ≡ (if is_tail ids core.id then core.count else core.committed) →
      IsInOrder (1, 0) core.count pending →
      HasOrderedNumbers (record core {
        epoch = epoch;
        ids = ids;
        committed = c;
        successor_has = c;
        pending = pending;
      })
  ordered_adopted epoch c ids pending =
      adopted_where (is_tail ids core.id) epoch c ids pending
