-- The slot that a disk in memory holds under one number.
use Rattle.std.specs.Option.{option_map}
use Rattle.disk.specs.declared.slot.Held.{Held}
use Rattle.disk.specs.declared.slot.Held.TheVariants as held
use Rattle.disk.specs.States.{Slot, Absent, Fresh, Kept}

-- the slot that a value in memory represents
abbrev pub slot_of : Held → Slot
slot_of (held.Absent back) = Absent (option_map (λ v. v.items) back)
slot_of (held.Fresh bytes back) = Fresh bytes.items (option_map (λ v. v.items) back)
slot_of (held.Kept file) = Kept file.bytes file.kept file.touches
