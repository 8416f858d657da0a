-- The limits of an entry that a walk back keeps.
use Rattle.std.proofs.Common.{◌≡◌, ℕ, inl, inr, subst, sym, ◌∙◌, Bool, true, false, IsTrue}
use Rattle.kv_types.specs.{Entry}
use Rattle.merge_iter.specs.Positions.{Position, On, Off, Broken, IfOn, IsOn}
use Rattle.merge_iter.specs.ShownEntries.{IsJudgedBack}
use Rattle.merge_iter.specs.TableEntries.{IsTableEntry}

-- the entry that is kept on the way keeps its limits
judged_fits : (at : ℕ) (found : Bool) (kept entry : Entry) (found' : Bool) (kept' : Entry)
    → IsTableEntry entry → IsJudgedBack at found kept entry found' kept' false
    → (IsTrue found → IsTableEntry kept) → IsTrue found' → IsTableEntry kept'
judged_fits at found kept entry found' kept' here h own is = elim h [
  | inl same ↦ subst IsTableEntry (sym same.2) (own (sym same.1 ∙ is))
  | inr seen ↦ elim seen.2 [
    | inl gone ↦ let z : false ≡ true = sym gone.1 ∙ is in cc
    | inr put ↦ subst IsTableEntry (sym put.2) here
  ]
]

pub back_fits : (at : ℕ) (found : Bool) (kept : Entry) (found' : Bool) (kept' : Entry)
    (s : Position) → IsOn s → IfOn s IsTableEntry
    → IfOn s (λ entry. IsJudgedBack at found kept entry found' kept' false)
    → (IsTrue found → IsTableEntry kept) → IsTrue found' → IsTableEntry kept'
back_fits at found kept found' kept' (On entry) on here h own =
    judged_fits at found kept entry found' kept' here h own
back_fits at found kept found' kept' Off on here h own = absurd on
back_fits at found kept found' kept' Broken on here h own = absurd on

-- and so does the one whose key was left
pub left_fits : (at : ℕ) (found : Bool) (kept : Entry) (found' : Bool) (kept' : Entry)
    (s : Position) → IsOn s
    → IfOn s (λ entry. IsJudgedBack at found kept entry found' kept' true)
    → (IsTrue found → IsTableEntry kept) → IsTableEntry kept'
left_fits at found kept found' kept' (On entry) on h own =
    subst IsTableEntry (sym h.4) (own h.1)
left_fits at found kept found' kept' Off on h own = absurd on
left_fits at found kept found' kept' Broken on h own = absurd on
