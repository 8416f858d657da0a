-- What a read of a page makes of the files, and why it is refused.
use Rattle.std.specs.Prelude.{IsErrOf}
use Rattle.std.proofs.Common.{◌≡◌, ℕ, List, Result, Ok, Err, inl, inr, refl}
use Rattle.disk.specs.declared.Disk.{Ghosts}
use Rattle.disk.specs.{IsEnvironmental, IsSame, KeepsDisk}
use Rattle.kv_types.specs.Pages.{IsPage, OnePage, PagesAgree, page_of}
use Rattle.kv_types.specs.{BatchContent, Rows, Span, map_of}
use Rattle.merge_iter.specs.declared.CursorError.{CursorError}
use Rattle.merge_iter.specs.declared.CursorError.TheVariants as cursor
use Rattle.merge_iter.specs.{ErrorCauses, reports}
use Rattle.sorted_table.specs.MovedFiles.{MovesFiles}
use Rattle.store_tables.specs.declared.error.EngineError.{EngineError}
use Rattle.store_tables.specs.declared.error.EngineError.TheVariants as engine
use Rattle.store_tables.specs.Errors.{error_of_cursor}
use Rattle.disk.specs.KeepingLemmas.{kept_as}

-- files that a read moved are kept
pub kept_answered : {D R T : Type 0} (g : Ghosts D) (old new : D) (result : Result R CursorError)
    (x : R) (y : T) → result ≡ Ok x → MovesFiles g (reports result) old new
    → KeepsDisk g old new (IsErrOf {T = T} (Ok y) engine.Disk) ⊥ IsSame
kept_answered g old new (Ok z) x y is moved =
    kept_as g ((λ told. absurd cc), (λ told. absurd cc)) (λ a b h. h) moved.disk
kept_answered g old new (Err e) x y is moved = absurd cc

-- of undamaged tables a read is refused for the device or memory
pub refusal_external : {R : Type 0} {sound may : Type 0} {before now : ℕ}
    (result : Result R CursorError) (e : CursorError) → result ≡ Err e
    → ErrorCauses sound ⊥ may before now result → sound →
    IsEnvironmental engine.Disk engine.Memory (error_of_cursor e)
refusal_external result cursor.Disk is causes sound = inl refl
refusal_external result cursor.Damaged is causes sound = absurd (causes.damaged is sound)
refusal_external result cursor.Memory is causes sound = inr refl
refusal_external result cursor.Failed is causes sound = absurd (causes.failed.0 is)

-- so it is not refused for damage
pub never_damaged : {T : Type 0} (e : EngineError) → IsEnvironmental engine.Disk engine.Memory e
    → IsErrOf {T = T} (Err e) engine.Damaged → ⊥
never_damaged e (inl is) refused = cc
never_damaged e (inr is) refused = cc

-- a page of the map is the one that the function answers
pub page_is : OnePage → PagesAgree → (list : List BatchContent) (range : Span) (page : Rows)
    → IsPage (map_of list) range page → page ≡ page_of list range
page_is one agree list range page is =
    one (map_of list) range page (page_of list range) is (agree list range)
