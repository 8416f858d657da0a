-- Files that a merge leaves are removed one by one.
use Rattle.std.proofs.Common.{◌≡◌, ◌+◌, ◌<◌, ◌≤◌, ◌⊎◌, inl, inr, ℕ, sym, subst, arith}
use Rattle.std.specs.Prelude.{IsNone}
use Rattle.disk.specs.declared.Disk.{Ghosts}
use Rattle.disk.specs.{Slot, seen}
use Rattle.version_edits.specs.{StoreVersion}
use Rattle.compaction.specs.Leftovers.{IsBesideVersion, IsLeftover}
use Rattle.compaction.specs.Outputs.{WritesOnly}
use Rattle.std.proofs.lemmas.Bool.{cases_lt}
use Rattle.compaction.proofs.Calls.{writes_wider}

-- a number below the next one is below this one, or this one
below_or : (file n : ℕ) → file < n + 1 → (file < n) ⊎ (n ≡ file)
below_or file n lt = elim (cases_lt file n) [
  | inl less ↦ inl less
  | inr least ↦ inr (omega (arith, lt, least))
]

module _ {D : Type 0} (g : Ghosts D) (first next_file n : ℕ) (version : StoreVersion)
    (from : first ≤ n) (upto : n < next_file) where
  -- the call on this file is one on the leftovers
  pub leftover_writes : {old new : D} {told : Type 0}
      → WritesOnly g (λ one. (n ≡ one) × IsBesideVersion version one) old new told ⊥
      → WritesOnly g (IsLeftover first next_file version) old new told ⊥
  leftover_writes w = writes_wider g (IsLeftover first next_file version)
      (λ one. (n ≡ one) × IsBesideVersion version one) (λ one is. record {
        begun = subst (λ k. first ≤ k) is.0 from;
        early = subst (λ k. k < next_file) is.0 upto;
        beside = is.1;
      }) w

  -- with this file, one more is removed
  pub leftover_more : {old new : D} {told : Type 0}
      → WritesOnly g (λ one. (n ≡ one) × IsBesideVersion version one) old new told ⊥
      → g.is_honest old
      → ((file : ℕ) → IsLeftover first n version file → IsNone (seen (g.state old file)))
      → (IsBesideVersion version n → IsNone (seen (g.state new n))) → (file : ℕ)
      → IsLeftover first (n + 1) version file → IsNone (seen (g.state new file))
  leftover_more {old = old} {new = new} w honest before here file left =
      elim (below_or file n left.early) [
        | inl less ↦ subst (λ (slot : Slot). IsNone (seen slot))
            (sym (w.kept.files honest file (λ is. let same = is.0 in
            absurd (omega (arith, less, same)))))
            (before file (record { begun = left.begun; early = less; beside = left.beside }))
        | inr is ↦ subst (λ k. IsNone (seen (g.state new k))) is
            (here (subst (λ k. IsBesideVersion version k) (sym is) left.beside))
      ]
