use Rattle.std.proofs.Common.{◌≡◌, ◌<◌, ◌+◌, ◌++◌, ◌∷◌, [], length, ap, sym, ◌∙◌, arith, refl}
use Rattle.std.proofs.Common.{Bool, true, false}
use Rattle.std.specs.Str.{bytes_eq}
use Rattle.std.proofs.lemmas.Slice.Eq.{bytes_eq-Decides}
use Rattle.bloom.specs.{hashes_of}
use Rattle.byte_fields.specs.{StoredKey}
use Rattle.table_builder.proofs.KeysLemmas.{knows_other, knows_same}
use Rattle.table_builder.proofs.keys.AddedKeys.add.Goals as goal

false_by : (b : Bool) → (b ≡ true → ⊥) → b ≡ false
false_by true never = absurd (never refl)
false_by false never = refl

-- the last key again
pub returns-then-is_same : goal.returns-then-is_same
returns-then-is_same c = λ entries entry knows key number room.
    let was = c.args.self.now in
    let count = knows.count in
    let some : 0 < length entries = omega (arith, count, c.if-self-eq0.false) in
    let alike : was.last ≡ entry.key =
    sym c.lent.ensures ∙ (c.is_same.ensures.0 c.if-is_same.true ∙ sym key) in
    let same = (bytes_eq-Decides was.last entry.key).1 alike in
    let grown : c.saturating_add-self.result ≡ length entries + 1 =
    omega (arith, c.saturating_add-self.ensures, count, room) in
    knows_same was _ entries entry knows some grown refl alike (sym number) same refl

-- another key
pub returns : goal.returns
returns c = λ entries entry knows key number room.
    let was = c.args.self.now in
    let count = knows.count in
    let some : 0 < length entries = omega (arith, count, c.if-self-eq0.false) in
    let added = c.in_ok-add_key-2.ensures in
    let other : bytes_eq was.last entry.key ≡ false =
    false_by (bytes_eq was.last entry.key) (λ e.
    let apart : false ≡ true = sym c.if-is_same.false ∙ c.is_same.ensures.1
    (c.lent.ensures ∙ ((bytes_eq-Decides was.last entry.key).0 e ∙ key)) in cc) in
    let same = added.same in
    let grown : c.saturating_add-self-2.result ≡ length entries + 1 =
    omega (arith, c.saturating_add-self-2.ensures, count, room, same.0) in
    knows_other was _ entries entry knows some grown same.1 (added.last ∙ sym key)
    (sym number) other
    (added.hashes ∙ ap (λ (k : StoredKey). was.hashes.items ++ hashes_of k ∷ []) (sym key))
