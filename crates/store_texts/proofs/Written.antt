-- What is written so far.
use Rattle.std.proofs.Common.{◌≡◌, ◌≤◌, ◌+◌, ◌-◌, ℕ, List, ◌++◌, Option, length, take, drop}
use Rattle.std.proofs.Common.{sym, ap, subst, ◌∙◌}
use Rattle.std.specs.Io.KnownBytes.{Appends}
use lib.Seq.{take-add, take-take}
use Rattle.store_texts.specs.WritingLemmas.{appends_more}

-- more of the bytes are written
pub writes_more : (old mid new : Option (List ℕ)) (bytes : List ℕ) (done count : ℕ)
    → done ≤ length bytes → count ≤ length bytes - done → Appends old mid (take done bytes)
    → Appends mid new (take count (take (length bytes - done) (drop done bytes)))
    → Appends old new (take (done + count) bytes)
writes_more old mid new bytes done count within fits before more =
    let joined : take done bytes ++ take count (take (length bytes - done) (drop done bytes))
    ≡ take (done + count) bytes =
    ap (λ l. take done bytes ++ l) (take-take count (length bytes - done) (drop done bytes) fits)
    ∙ sym (take-add done count bytes) in
    subst (λ (l : List ℕ). Appends old new l) joined (appends_more old mid new _ _ before more)
