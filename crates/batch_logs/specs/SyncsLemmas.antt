-- Files that settle.
use Rattle.std.proofs.Common.{◌≡◌, ℕ, List, Some, ap, inl, inr, sym, ◌∙◌}
use Rattle.disk.specs.{State, seen}
use Rattle.batch_logs.specs.Syncs.{SlotSettles}

-- what a file that settled reads as, it read as before
pub settled_seen : (old new : State) (file : ℕ) (bytes : List ℕ) → SlotSettles old new file →
    seen (new file) ≡ Some bytes → seen (old file) ≡ Some bytes
settled_seen old new file bytes (inl same) reads = ap seen (sym same) ∙ reads
settled_seen old new file bytes (inr is) reads =
    let now : seen (new file) ≡ Some is.0 = ap seen is.2 in
    is.1 ∙ sym now ∙ reads

-- a file that settled reads as before
pub settles_alike : (old new : State) (file : ℕ) → SlotSettles old new file →
    seen (new file) ≡ seen (old file)
settles_alike old new file (inl same) = ap seen same
settles_alike old new file (inr is) = ap seen is.2 ∙ sym is.1

-- a file that settles twice settles
pub settles_twice : (old mid new : State) (file : ℕ) → SlotSettles old mid file →
    SlotSettles mid new file → SlotSettles old new file
settles_twice old mid new file (inl a) (inl b) = inl (b ∙ a)
settles_twice old mid new file (inl a) (inr b) = inr (b.0, ap seen (sym a) ∙ b.1, b.2)
settles_twice old mid new file (inr a) (inl b) = inr (a.0, a.1, b ∙ a.2)
settles_twice old mid new file (inr a) (inr b) =
    inr (b.0, settled_seen old mid file b.0 (inr a) b.1, b.2)
