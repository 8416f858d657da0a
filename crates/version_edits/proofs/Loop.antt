-- A loop of readings that ends at a refusal.
use Rattle.std.proofs.Common.{◌≡◌, ℕ, ◌-◌, ◌<◌, List, Option}
use Rattle.version_edits.specs.declared.error.EditError.{EditError}
use Rattle.version_edits.specs.declared.error.EditError.TheVariants as edit_error
use Rattle.byte_fields.specs.{Reader, many}
use Rattle.byte_fields.specs.LoopLemmas.{none_read, with_front}
use Rattle.version_edits.specs.Reading.{RefusesChange}

pub ends : {A : Type 0} (read : Reader A) (e : EditError) (front : List A) (count i : ℕ)
    (bytes : List ℕ) (total : Option (List A × List ℕ)) → i < count → RefusesChange e (read bytes)
    → with_front front (many read (count - i) bytes) ≡ total → RefusesChange e total
ends read edit_error.Damaged front count i bytes total lt h so_far =
    none_read read front count i bytes total lt h so_far
ends read edit_error.Memory front count i bytes total lt h so_far = tt
