-- A submit: the first error of its batch, its words, and its place.
use Rattle.std.proofs.Common.{◌≡◌, ◌∙◌, ◌++◌, ◌∷◌, [], List, None, Option, Some, ap, arith, refl, ℕ}
use Rattle.std.proofs.Common.{Err, Ok, subst, sym}
use Rattle.std.specs.Prelude.{IsErrAnd, Result}
use Rattle.std.proofs.lemmas.Grind.{common_steps}
use Rattle.std.specs.Option.{option_or}
use Rattle.kv_types.specs.{BatchContent}
use Rattle.kv_types.specs.declared.Edit.{Edit}
use Rattle.kv_types.specs.declared.KvError.{KvError}
use Rattle.events.specs.declared.EventKind.TheVariants.{Submit}
use Rattle.disk.specs.declared.Fault.{Fault}
use Rattle.scripts.specs.Actions.{edit_error, edits_error}
use Rattle.scripts.specs.Reading.{Places}
use Rattle.scripts.specs.declared.statement.Action.{Action}
use Rattle.scripts.specs.declared.statement.ParserState.{ParserState}
use Rattle.script_words.specs.declared.error.ScriptError.{ScriptError}
use Rattle.events.specs.declared.EventContent.{EventContent}

or_none : (error : Option KvError) → option_or error None ≡ error
or_none None = refl
or_none (Some e) = refl

or_both : (a b c : Option KvError) → option_or a (option_or b c) ≡ option_or (option_or a b) c
or_both None b c = refl
or_both (Some e) b c = refl

-- the error of one edit more counts last
pub errors_behind : (edits : List Edit) (edit : Edit)
    → edits_error (edits ++ edit ∷ []) ≡ option_or (edits_error edits) (edit_error edit)
errors_behind [] edit = or_none (edit_error edit)
errors_behind (first ∷ edits) edit =
    ap (λ o. option_or (edit_error first) o) (errors_behind edits edit)
    ∙ or_both (edit_error first) (edits_error edits) (edit_error edit)

-- a submit of this batch
abbrev pub submitting : ℕ → BatchContent → Fault → EventContent
submitting node batch fault = record { kind = Submit node batch; fault = fault }

-- the error behind one edit more
pub error_after : (edits : List Edit) (edit : Edit) (was is : Option KvError)
    → edits_error edits ≡ was → option_or was (edit_error edit) ≡ is
    → edits_error (edits ++ edit ∷ []) ≡ is
error_after edits edit was is before after = errors_behind edits edit ∙ rw before after

pub error_kept : (edits : List Edit) (edit : Edit) (was is : Option KvError)
    → edits_error edits ≡ was → edit_error edit ≡ None → is ≡ was
    → edits_error (edits ++ edit ∷ []) ≡ is
error_kept edits edit was is before good same =
    error_after edits edit was is before (rw (good, same) (or_none was))

-- behind a refusal there is an error
pub no_none : (error : Option KvError) (e : KvError) → option_or error (Some e) ≡ None → ⊥
no_none None e is = absurd (grind (arith, common_steps))
no_none (Some f) e is = absurd (grind (arith, common_steps))

-- a refusal that is passed on
pub of_refusal : (before : ParserState) (name : List ℕ) (args : List (List ℕ)) (e : ScriptError)
    (result : Result Action ScriptError) → IsErrAnd result (λ x. x ≡ e)
    → Places before name args (Err e) → Places before name args result
of_refusal before name args e (Ok action) is refused = absurd is
of_refusal before name args e (Err x) is refused =
    subst (λ (x : ScriptError). Places before name args (Err x)) (sym is) refused
