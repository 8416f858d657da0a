-- Tests that hold or do not.
use Rattle.std.proofs.Common.{◌≡◌, ◌⊎◌, Bool, false, inl, inr, refl, true}

-- a refusal is none
pub not_true : false ≡ true → ⊥
not_true e = cc

-- a test holds or does not
pub either : (b : Bool) → (b ≡ true) ⊎ (b ≡ false)
either true = inl refl
either false = inr refl
