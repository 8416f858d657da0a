-- What calls return that read from bytes with memory of their own.
use Rattle.std.specs.Prelude.{◌≡◌, Option, Some, None, Result, Ok, Err}
use Rattle.std.specs.declared.alloc.AllocError.{AllocError}

-- a function's result, seen by `view`, is what was read, unless memory ran out
abbrev pub ReadsBytes : {X Y : Type 0} → (X → Y) → Result (Option X) AllocError → Option Y → Type 0
ReadsBytes view (Ok (Some x)) read = read ≡ Some (view x)
ReadsBytes view (Ok None) read = read ≡ None
ReadsBytes view (Err e) read = Unit {0}
