-- Beginnings of texts that are written, one behind another.
use Rattle.std.proofs.Common.{◌≡◌, ℕ, zero, suc, List, [], ◌∷◌, ◌++◌, Option, None, Some, take}
use Rattle.std.proofs.Common.{append_assoc, append-nil, ap, refl, subst, sym}
use Rattle.std.specs.Io.KnownBytes.{Appends}
use Rattle.store_texts.specs.Writing.{AppendsPart}
use Rattle.store_texts.specs.WritingLemmas.{appends_more, appends_none}

-- a beginning of a text is one of each longer text
longer : (a b : List ℕ) (count : ℕ) → (n : ℕ) × (take n (a ++ b) ≡ take count a)
longer a b zero = (0, refl)
longer [] b (suc count) = (0, refl)
longer (x ∷ a) b (suc count) =
    let behind = longer a b count in (suc behind.0, ap (λ (l : List ℕ). x ∷ l) behind.1)

pub part_of_longer : (old new : Option (List ℕ)) (a b : List ℕ) → AppendsPart old new a →
    AppendsPart old new (a ++ b)
part_of_longer old new a b part =
    let n = longer a b part.count in
    record { count = n.0; wrote = subst (Appends old new) (sym n.1) part.wrote }

behind : (a b : List ℕ) (count : ℕ) → (n : ℕ) × (take n (a ++ b) ≡ a ++ take count b)
behind [] b count = (count, refl)
behind (x ∷ a) b count =
    let left = behind a b count in (suc left.0, ap (λ (l : List ℕ). x ∷ l) left.1)

-- a text, and a beginning of one behind it
pub part_behind : (old mid new : Option (List ℕ)) (a b : List ℕ) → Appends old mid a →
    AppendsPart mid new b → AppendsPart old new (a ++ b)
part_behind old mid new a b first part =
    let n = behind a b part.count in
    record {
      count = n.0;
      wrote = subst (Appends old new) (sym n.1)
          (appends_more old mid new a (take part.count b) first part.wrote);
    }

-- nothing of a text
pub part_none : (out : Option (List ℕ)) (a : List ℕ) → AppendsPart out out a
part_none out a = record { count = 0; wrote = appends_none out }

-- all of a text is a beginning of each longer text
pub part_all : (old new : Option (List ℕ)) (a b : List ℕ) → Appends old new a →
    AppendsPart old new (a ++ b)
part_all old new a b wrote = part_behind old new new a b wrote (part_none new b)

-- so is all of the text itself
pub part_same : (old new : Option (List ℕ)) (a : List ℕ) → Appends old new a →
    AppendsPart old new a
part_same old new a wrote =
    subst (AppendsPart old new) (append-nil a) (part_all old new a [] wrote)
