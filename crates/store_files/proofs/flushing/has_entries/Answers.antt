use Rattle.std.proofs.Common.{◌↔◌, arith, refl, Result, Ok, Err}
use Rattle.std.specs.Prelude.{IsOk}
use Rattle.std.proofs.lemmas.Result.{IfOk-at_ok}
use Rattle.kv_types.specs.{Entry}
use Rattle.memtable.specs.declared.Memtable.{Memtable}
use Rattle.memtable.specs.{TableHolds}
use Rattle.merge_iter.specs.declared.Direction.TheVariants.{Forward}
use Rattle.merge_iter.specs.declared.CursorError.{CursorError}
use Rattle.merge_iter.specs.declared.CursorError.TheVariants as cursor
use Rattle.merge_iter.specs.{ErrorCauses}
use Rattle.merge_iter.specs.{AtEnd, Broken, IsAlike, IsFirst, IsOn, Off, On, Position, WalkMeets}
use Rattle.store_tables.specs.TableWriting.{HasEntry}
use Rattle.store_files.proofs.LookUps.{is_answered}
use Rattle.store_files.proofs.flushing.has_entries.Goals as goal

-- the first entry of a walk is found where there is one
first_found : (memtable : Memtable) (entries : Entry → Type 0) (valid : Type 0) (place : Position) →
    IsAlike entries (TableHolds memtable) →
    IsFirst Forward (λ entry. entries entry × WalkMeets Forward AtEnd entry) place →
    valid ↔ IsOn place → valid ↔ HasEntry memtable
first_found memtable entries valid (On entry) alike first is =
    (λ _. (entry, (alike entry).0 first.0.0), λ _. is.1 tt)
first_found memtable entries valid Off alike first is =
    (λ on. absurd (is.0 on), λ any. absurd (first any.0 ((alike any.0).1 any.1, tt)))
first_found memtable entries valid Broken alike first is = absurd first

-- a move that takes no memory is not refused
never_refused : {sound : Type 0} (result : Result (Unit {0}) CursorError) →
    ErrorCauses sound ⊥ ⊥ 0 0 result → sound → IsOk result
never_refused (Ok x) causes sound = refl
never_refused (Err cursor.Disk) causes sound =
    let rises = (causes.disk refl).below (omega arith) in absurd (omega (arith, rises))
never_refused (Err cursor.Damaged) causes sound = absurd (causes.damaged refl sound)
never_refused (Err cursor.Memory) causes sound = absurd (causes.memory refl)
never_refused (Err cursor.Failed) causes sound = absurd (causes.failed.0 refl)

pub unwrap-cursor-requires : goal.unwrap-cursor-requires
unwrap-cursor-requires c =
    is_answered c.cursor.result c.cursor.ensures.failed c.requires

pub unwrap-requires : goal.unwrap-requires
unwrap-requires c =
    never_refused c.first.result c.first.ensures.causes
    (tt, IfOk-at_ok _ c.unwrap-cursor.ensures c.cursor.ensures.sound, tt)

pub returns : goal.returns
returns c =
    first_found c.args.memtable.now _ _ _
    (IfOk-at_ok _ c.unwrap-cursor.ensures c.cursor.ensures.holds)
    (IfOk-at_ok _ c.unwrap.ensures (c.first.ensures.finds tt
    (IfOk-at_ok _ c.unwrap-cursor.ensures c.cursor.ensures.sound))) c.valid.ensures
