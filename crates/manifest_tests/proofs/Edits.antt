-- An edit of the floor alone, which every version may take.
use Rattle.std.proofs.Common.{◌≡◌, ℕ, ◌≤◌, List, [], ◌∷◌, true, refl, sym, subst, arith, ap}
use Rattle.std.specs.List.{filter}
use Rattle.std.proofs.lemmas.List.Elements.{All-nil}
use Rattle.kv_types.specs.declared.bounds.TheConstants.{MAX_NUMBER}
use Rattle.kv_types.specs.{is_part}
use Rattle.version_edits.specs.declared.line.LogLine.{LogLine}
use Rattle.version_edits.specs.declared.line.TableLine.{TableLine}
use Rattle.version_edits.specs.declared.line.TableName.{TableName}
use Rattle.version_edits.specs.Versions.{AreLawful, IsFit, StoreVersion, keeps_ids}
use Rattle.version_edits.specs.Edits.{IsChange}
use Rattle.version_edits.specs.Lawful.{IsVersion}

-- nothing is left out
all_stay : {A : Type 0} (xs : List A) → filter (λ x. true) xs ≡ xs
all_stay [] = refl
all_stay (x ∷ xs) = ap (λ (l : List _). x ∷ l) (all_stay xs)

same_part : (ids : List ℕ) → is_part ids ids ≡ true
same_part [] = refl
same_part (x ∷ ids) = let rest = same_part ids in grind arith

same_ids : (ids : List ℕ) → keeps_ids ids ids ≡ true
same_ids [] = refl
same_ids (x ∷ ids) = same_part (x ∷ ids)

-- its fields, however they were come by
pub numbers_fit : (v : StoreVersion) (next_file floor flushed epoch : ℕ) (ids logs_gone : List ℕ)
    (logs_added : List LogLine) (tables_gone : List TableName) (tables_added : List TableLine)
    → IsVersion v → v.next_file ≡ next_file → (v.floor ≤ floor) × (floor ≤ MAX_NUMBER)
    → v.flushed ≡ flushed → v.epoch ≡ epoch → ids ≡ v.ids → logs_gone ≡ [] → logs_added ≡ []
    → tables_gone ≡ [] → tables_added ≡ [] → IsFit v (record {
      next_file = next_file;
      floor = floor;
      flushed = flushed;
      epoch = epoch;
      ids = ids;
      logs_gone = logs_gone;
      logs_added = logs_added;
      tables_gone = tables_gone;
      tables_added = tables_added;
    }) × IsChange (record {
      next_file = next_file;
      floor = floor;
      flushed = flushed;
      epoch = epoch;
      ids = ids;
      logs_gone = logs_gone;
      logs_added = logs_added;
      tables_gone = tables_gone;
      tables_added = tables_added;
    })
numbers_fit v next_file floor flushed epoch ids logs_gone logs_added tables_gone tables_added is a b
    c d e1 e2 e3 e4 e5 =
    rw (e1, e2, e3, e4, e5) (
      record {
        numbers = record {
          next_file = omega (arith, a);
          floor = b.0;
          flushed = omega (arith, c);
          epoch = omega (arith, d);
        };
        ids = same_ids v.ids;
        there = record { logs = refl; logs_once = refl; tables = refl; tables_once = refl };
        new = record { logs = refl; tables = refl };
        lawful = subst (λ (t : List TableLine). AreLawful (filter (λ line. true) v.logs) t)
            (sym (all_stay v.tables))
            (subst (λ (l : List LogLine). AreLawful l v.tables) (sym (all_stay v.logs)) is.lawful);
      },
      record {
        next_file = omega (arith, a, is.next_file);
        floor = b.1;
        flushed = omega (arith, c, is.flushed);
        epoch = omega (arith, d, is.epoch);
        ids = is.ids;
        logs_gone = (omega arith, All-nil _);
        logs_added = (omega arith, All-nil _);
        tables_gone = (omega arith, All-nil _);
        tables_added = (omega arith, All-nil _);
      },
    )
