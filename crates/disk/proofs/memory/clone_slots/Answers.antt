use Rattle.std.proofs.Common.{◌≡◌, ◌++◌, ◌∷◌, [], List, ℕ, sym, ap, subst, ◌∙◌, append_assoc, arith}
use Rattle.std.specs.List.Sorted.{IsStrictlySortedBy}
use Rattle.std.specs.Ordering.{nat_cmp}
use Rattle.std.specs.Map.{keys_of}
use Rattle.std.specs.BTreeMap.{insert_entry}
use Rattle.std.proofs.lemmas.Grind.{common_steps}
use Rattle.disk.specs.States.{Slot}
use Rattle.disk.proofs.Numbers.{insert_entry-last}
use Rattle.disk.proofs.memory.clone_slots.Goals as goal

-- the next number is above those that were cloned
pub loop-number-preserved : goal.loop-number-preserved
loop-number-preserved c =
    let number = c.in-Some.number.now in
    let slot = c.in-Some.slot.now in
    let rest = c.next.new.self in
    let copy = c.loop-number.copy.entries in
    let left : c.loop-number.number-iterator ≡ (number, slot) ∷ rest =
    grind (arith, common_steps) in
    let all : copy ++ (number, slot) ∷ rest ≡ c.args.slots.now.entries =
    ap (λ (es : List (ℕ × Slot)). copy ++ es) (sym left) ∙ c.loop-number.invariant in
    let sorted : IsStrictlySortedBy nat_cmp (keys_of (copy ++ (number, slot) ∷ rest)) =
    subst (λ (es : List (ℕ × Slot)). IsStrictlySortedBy nat_cmp (keys_of es)) (sym all)
    c.into_iter-number-iterator.ensures.into_iter_gives.5 in
    let put : c.put.new.slots.entries ≡ copy ++ (number, slot) ∷ [] =
    c.in_ok-put.ensures.ok ∙ ap (insert_entry nat_cmp copy number) c.in_ok-clone.ensures
    ∙ insert_entry-last copy rest number slot sorted in
    ap (λ (es : List (ℕ × Slot)). es ++ rest) put
    ∙ append_assoc copy ((number, slot) ∷ []) rest
    ∙ all
