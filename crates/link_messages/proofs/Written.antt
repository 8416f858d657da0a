-- Fields that are written one behind another.
use Rattle.std.proofs.Common.{◌≡◌, List, ℕ, ◌++◌, sym, ap, ◌∙◌, append_assoc}
use Rattle.std.specs.Prelude.{Result, Ok, Err, OnOk}

-- what was written in two parts is their text
pub put_behind : {T E : Type 0} (result : Result T E)
    (old mid new first second all : List ℕ)
    → mid ≡ old ++ first → OnOk result (new ≡ mid ++ second) → all ≡ first ++ second
    → OnOk result (new ≡ old ++ all)
put_behind (Ok x) old mid new first second all before written is =
    written ∙ ap (λ l. l ++ second) before ∙ append_assoc old first second
    ∙ ap (λ l. old ++ l) (sym is)
put_behind (Err e) old mid new first second all before written is = tt
