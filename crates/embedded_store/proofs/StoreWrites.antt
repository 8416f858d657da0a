-- A write of a store, by the calls of its engine.
use Rattle.std.proofs.Common.{◌≡◌, ◌∙◌, ap, subst, sym}
use Rattle.std.specs.Prelude.{Result, Ok, Err, IfErr, IsErrAnd}
use Rattle.disk.specs.{KeepsDisk, State}
use Rattle.disk.specs.declared.Disk.{Ghosts}
use Rattle.engine.specs.declared.Engine.{Engine}
use Rattle.engine.specs.{MergeStays, TendedStore, tended_of}

-- what is kept of a disk is kept of the same disk
pub kept_on : {D : Type 0} (g : Ghosts D) {failed cause : Type 0} {R : State → State → Type 0}
    {old new same : D} → same ≡ new → KeepsDisk g old new failed cause R →
    KeepsDisk g old same failed cause R
kept_on {D = D} g {failed = failed} {cause = cause} {R = R} {old = old} is kept =
    subst (λ (d : D). KeepsDisk g old d failed cause R) (sym is) kept

-- what is so of an error is so of the refusal that passes it on
pub passed_on : {T E : Type 0} (result : Result T E) (e : E) (P : E → Type 0) →
    IsErrAnd result (λ s. s ≡ e) → P e → IfErr result P
passed_on (Ok x) e P told p = tt
passed_on (Err s) e P told p = subst P (sym told) p

-- a merge under way stays where what a tend works on is the same
pub merge_stays : {D : Type 0} {g : Ghosts D} (old mid new : Engine D g) → MergeStays old mid →
    tended_of new ≡ tended_of mid → MergeStays old new
merge_stays {D = D} old mid new stays same = record {
  merge = ap (λ (it : TendedStore D). it.merge) same ∙ stays.merge;
  turn = ap (λ (it : TendedStore D). it.turn) same ∙ stays.turn;
}
