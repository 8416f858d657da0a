-- What several writes appended, one after the other.
use Rattle.std.proofs.Common.{◌≡◌, ℕ, List, [], ◌++◌, Option, None, Some}
use Rattle.std.proofs.Common.{append_assoc, append-nil, refl, sym}
use Rattle.std.specs.Io.KnownBytes.{Appends}

-- nothing was appended
pub appends_none : (out : Option (List ℕ)) → Appends out out []
appends_none None = tt
appends_none (Some xs) = sym (append-nil xs)

-- what two writes appended, one after the other
pub appends_more : (old mid new : Option (List ℕ)) (a b : List ℕ) → Appends old mid a
    → Appends mid new b → Appends old new (a ++ b)
appends_more None mid new a b p q = tt
appends_more (Some xs) None new a b p q = absurd p
appends_more (Some xs) (Some ys) None a b p q = absurd q
appends_more (Some xs) (Some ys) (Some zs) a b p q = rw (q, p, append_assoc) refl
