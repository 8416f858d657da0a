-- Refusals that say nothing of what files hold.
use Rattle.std.specs.Prelude.{◌≡◌, ◌⊎◌}

-- an error of the environment, by the names that a layer has for its two: the device failed, or
-- memory was wanting
abbrev pub IsEnvironmental : {E : Type 0} → E → E → E → Type 0
IsEnvironmental device memory e = (e ≡ device) ⊎ (e ≡ memory)
