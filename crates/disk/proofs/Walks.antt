-- Steps for the proofs by hand: a struct of one field that takes no memory.
use Rattle.std.proofs.Common.{List, [], ◌∷◌, refl}
use seplogic.Ra.Ura.{Ura}
use mir.Val.{Val, vstruct, vcons, vnil}
use types.Logic.{Logic}
use types.Kit.{Goal, Step, step, Item, ‵, ◌$◌, move, fjoin, fpack, feq_i}
use denote.RattleType.{RattleType, Valss}
use denote.Steps.{nothing}
use denote.Struct.Struct.{Struct, within}

-- a struct by its fields alone
abbrev plainly : List RattleType → RattleType
plainly fields = Struct (record { name = []; args = []; types = []; fields = fields })

-- the value of a struct without fields, and of one with one
abbrev pub no_field : Val
no_field = vstruct vnil

abbrev pub one_field : Val → Val
one_field v = vstruct (vcons v vnil)

-- who owns the field owns the struct
module _ {M : Type 1} {𝓤 : Ura M} {𝓛 : Logic 𝓤} {K : Type 0} {Γ : List (Item 𝓤)}
    {G : Goal 𝓤 𝓛.H} where
  pub made : K → (R : RattleType) (x : R.Denot) (v : Val) →
      Step K 𝓛 (‵ ((plainly (R ∷ [])).own_val (x, tt) (one_field v ∷ [])) ∷ Γ) G
      (‵ (R.own_val x (v ∷ [])) ∷ Γ) G
  made t R x v = step (λ s.
      nothing t $ move t (1 ∷ 0 ∷ []) $ fjoin t
      $ feq_i t (List Val) (one_field v ∷ []) (one_field v ∷ []) refl $ fjoin t
      $ fpack t (Valss (R ∷ []))
      (within (record { name = []; args = []; types = []; fields = R ∷ [] }) (x, tt)
      (one_field v ∷ [])) (v ∷ [], tt)
      $ s)
