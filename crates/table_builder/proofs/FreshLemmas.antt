-- Writes to a file of which nothing was synced.
use Rattle.std.proofs.Common.{◌≡◌, ℕ, ◌+◌, List, [], ◌++◌, length, sym, ap, ap₂, ◌∙◌, arith}
use Rattle.std.proofs.lemmas.List.{append-nil, drop_all, take_all}
use Rattle.disk.specs.{Absent, Fresh, IsLeftAt, IsSameBut, Kept, LeavesSince, Passes, Slot, State}
use Rattle.disk.specs.{overwritten, synced, written}
use Rattle.disk.specs.BesideLemmas.{at_more, at_start}
use Rattle.table_builder.specs.Fresh.{IsFresh}

-- bytes written behind the end
overwritten_end : (seen there bytes : List ℕ) (at : ℕ) → seen ≡ there → at ≡ length there →
    overwritten seen at bytes ≡ there ++ bytes
overwritten_end seen there bytes at is end =
    let len = ap length is in
    ap₂ (λ (front back : List ℕ). front ++ bytes ++ back)
    (take_all at seen (omega (arith, len, end)) ∙ is)
    (drop_all (at + length bytes) seen (omega (arith, len, end)))
    ∙ append-nil (there ++ bytes)

pub fresh_written : (slot : Slot) (there bytes : List ℕ) (at : ℕ) → IsFresh slot there →
    at ≡ length there → IsFresh (written at bytes slot) (there ++ bytes)
fresh_written (Absent back) there bytes at none end =
    ap (λ (front : List ℕ). front ++ bytes) (sym none)
fresh_written (Fresh seen back) there bytes at is end = overwritten_end seen there bytes at is end
fresh_written (Kept seen kept touches) there bytes at never end = absurd never

pub fresh_synced : (slot : Slot) (there bytes : List ℕ) (at : ℕ) → IsFresh slot there →
    at ≡ length there →
    synced (written at bytes slot) ≡ Kept (there ++ bytes) (there ++ bytes) []
fresh_synced (Absent back) there bytes at none end =
    ap (λ (front : List ℕ). Kept (front ++ bytes) (front ++ bytes) []) (sym none)
fresh_synced (Fresh seen back) there bytes at is end =
    ap (λ (b : List ℕ). Kept b b []) (overwritten_end seen there bytes at is end)
fresh_synced (Kept seen kept touches) there bytes at never end = absurd never

-- a crash leaves of other files what it might have left before
module _ {D : Type 0} (state : D → State) (past : D → List State) (file : ℕ) (d0 : D) where
  abbrev pub Spares : D → Type 0
  Spares new = LeavesSince (state d0) (past d0) (state new) (past new)
      (IsLeftAt (state d0) file (λ left. Unit {0}))

  pub spared : Spares d0
  spared = at_start (λ left. Unit {0}) file (state d0) (past d0) (λ left now. tt)

  -- one call more on the file
  pub spared_more : (mid new : D) → Spares mid
      → Passes (past mid) (state mid) (past new) (state new) →
      IsSameBut file (state d0) (state new) → Spares new
  spared_more mid new run passes others =
      at_more (λ left. Unit {0}) file (state d0) (state mid) (state new) (past d0) (past mid)
      (past new)
      run passes others (λ left now. tt)
