-- A loop of readings that ends at a refusal.
use Rattle.std.proofs.Common.{◌≡◌, ℕ, ◌-◌, ◌<◌, List, Option}
use Rattle.link_messages.specs.declared.error.FrameError.{FrameError}
use Rattle.link_messages.specs.declared.error.FrameError.TheVariants as fault
use Rattle.byte_fields.specs.{Reader, many}
use Rattle.byte_fields.specs.LoopLemmas.{none_read, with_front}
use Rattle.link_messages.specs.Reading.{RefusesField}

pub ends : {A : Type 0} (read : Reader A) (e : FrameError) (front : List A) (count i : ℕ)
    (bytes : List ℕ) (total : Option (List A × List ℕ)) → i < count → RefusesField e (read bytes)
    → with_front front (many read (count - i) bytes) ≡ total → RefusesField e total
ends read fault.BadField front count i bytes total lt h so_far =
    none_read read front count i bytes total lt h so_far
ends read fault.Memory front count i bytes total lt h so_far = tt
ends read fault.TooLong front count i bytes total lt h so_far = absurd h
ends read fault.BadKind front count i bytes total lt h so_far = absurd h
ends read fault.Trailing front count i bytes total lt h so_far = absurd h
