-- Steps from one key of a map to the next, or to the one before.
use Rattle.std.proofs.Common.{◌≡◌, ◌+◌, sym, ◌∙◌, subst, List, [], ◌∷◌, ◌++◌, length, Option}
use Rattle.std.proofs.Common.{Some, None, refl, arith}
use Rattle.std.specs.Option.{IfSome, ForSome}
use Rattle.std.specs.BTreeMap.{IsOrdered}
use Rattle.std.proofs.lemmas.Option.{same_Some}
use Rattle.byte_fields.specs.{StoredKey, stored_cmp}
use Rattle.merge_iter.specs.{IsFirst}
use Rattle.merge_iter.specs.declared.direction.Direction.TheVariants.{Forward, Backward}
use Rattle.memtable.specs.declared.place.VersionPlace.{VersionPlace}
use Rattle.memtable.specs.declared.version.Version.{Version}
use Rattle.memtable.specs.declared.version.Versions.{Versions}
use Rattle.memtable.specs.Maps.{VersionMap, MapHolds, HasRisingNumbers}
use Rattle.memtable.specs.Places.{IsVersionPlace, maybe_position}
use Rattle.memtable.specs.Ranges.{KeyList, keys_after, keys_before, IsPopped, IsPoppedBack}
use Rattle.memtable.proofs.Firsts.{KeyPrecedes}
use Rattle.memtable.proofs.Ranges.{after_first, before_last, next_key, key_before, none_after}
use Rattle.memtable.proofs.Ranges.{none_before}
use Rattle.memtable.proofs.Steps.{none_met, newest_met, oldest_met}

one_more : (xs : List Version) (y : Version) → length (xs ++ y ∷ []) ≡ length xs + 1
one_more [] y = refl
one_more (x ∷ xs) y = let h = one_more xs y in omega (arith, h)

-- what a step to the next key gives, with the keys that are left behind it
pub record IsKeyStep (m : VersionMap) (k : StoredKey) (rest : KeyList) (next : Option VersionPlace)
    :
    Type 0 where
  pub placed : IfSome next (IsVersionPlace m)
  pub first : HasRisingNumbers m → IsFirst Forward (λ entry. MapHolds m entry × KeyPrecedes Forward
      k entry.key) (maybe_position next)
  pub held : ForSome next (λ place. rest ≡ keys_after m place.key.now)

pub step_after : (m : VersionMap) (k : StoredKey) (keys rest : KeyList) (next : Option VersionPlace)
    → IsOrdered stored_cmp m
    → keys ≡ keys_after m k → IsPopped keys rest next → IsKeyStep m k rest next
step_after m k keys rest None sorted is none = record {
  placed = tt;
  first = λ rising. none_met Forward m (KeyPrecedes Forward k) (none_after m k keys is none);
  held = λ place e. absurd (cc);
}
step_after m k keys rest (Some place) sorted is popped =
    let entry : StoredKey × Versions = (place.key.now, place.versions.now) in
    let own : keys_after m k ≡ entry ∷ rest = sym is ∙ popped.0 in
    let key = next_key m.entries k entry rest sorted own in
    let end = popped.1 in
    let len = one_more place.versions.now.older.items place.versions.now.newest in record {
      placed = record { found = key.got; within = omega (arith, end, len) };
      first = λ rising. newest_met m (KeyPrecedes Forward k) place.key.now place.versions.now
          place.at rising key.got key.behind key.least end;
      held = λ other e. subst (λ (p : VersionPlace). rest ≡ keys_after m p.key.now)
          (same_Some place other e) (sym (after_first m.entries k entry rest sorted own));
    }

-- the same of a step to the key before
pub record IsKeyStepBack (m : VersionMap) (k : StoredKey) (rest : KeyList)
    (next : Option VersionPlace)
    : Type 0 where
  pub placed : IfSome next (IsVersionPlace m)
  pub first : HasRisingNumbers m → IsFirst Backward (λ entry. MapHolds m entry × KeyPrecedes
      Backward k entry.key) (maybe_position next)
  pub held : ForSome next (λ place. rest ≡ keys_before m place.key.now)

pub step_before : (m : VersionMap) (k : StoredKey) (keys rest : KeyList)
    (next : Option VersionPlace)
    → IsOrdered stored_cmp m
    → keys ≡ keys_before m k → IsPoppedBack keys rest next → IsKeyStepBack m k rest next
step_before m k keys rest None sorted is none = record {
  placed = tt;
  first = λ rising. none_met Backward m (KeyPrecedes Backward k) (none_before m k keys is none);
  held = λ place e. absurd (cc);
}
step_before m k keys rest (Some place) sorted is popped =
    let entry : StoredKey × Versions = (place.key.now, place.versions.now) in
    let own : keys_before m k ≡ rest ++ entry ∷ [] = sym is ∙ popped.0 in
    let key = key_before m.entries k entry rest sorted own in
    let start = popped.1 in
    let len = one_more place.versions.now.older.items place.versions.now.newest in record {
      placed = record { found = key.got; within = omega (arith, start, len) };
      first = λ rising. oldest_met m (KeyPrecedes Backward k) place.key.now place.versions.now
          place.at rising key.got key.before key.greatest start;
      held = λ other e. subst (λ (p : VersionPlace). rest ≡ keys_before m p.key.now)
          (same_Some place other e) (sym (before_last m.entries k entry rest sorted own));
    }
