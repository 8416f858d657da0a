use Rattle.std.proofs.Common.{◌≡◌, ◌∙◌, Option, Some, None, ap, sym}
use Rattle.std.proofs.lemmas.Slice.Eq.{bytes_eq-Decides}
use Rattle.byte_fields.specs.FieldsLemmas.{some_is}
use Rattle.byte_fields.specs.{StoredKey}
use Rattle.store_tables.proofs.levels.ends_with.Goals as goal

none_is : (key : StoredKey) (of : Option StoredKey) → None ≡ of → of ≡ Some key → ⊥
none_is key of is same = let e : None ≡ Some key = is ∙ same in cc

-- the keys are equal where their bytes are
pub returns-in-Some-clause-line : goal.returns-in-Some-clause-line
returns-in-Some-clause-line c =
    let is = c.in-Some.ensures.line in
    let last = c.in-Some.greatest.now in
    let both = bytes_eq-Decides last c.args.key.now in (
      λ yes. sym is ∙ ap Some (both.0 (sym c.eq.ensures ∙ yes)),
      λ same. c.eq.ensures ∙ both.1 (some_is last c.args.key.now (is ∙ same)),
    )

pub returns-in-Some-clause-serves : goal.returns-in-Some-clause-serves
returns-in-Some-clause-serves c = λ file entries serves.
    let is = c.in-Some.ensures.serves file entries serves in
    let last = c.in-Some.greatest.now in
    let both = bytes_eq-Decides last c.args.key.now in (
      λ yes. sym is ∙ ap Some (both.0 (sym c.eq.ensures ∙ yes)),
      λ same. c.eq.ensures ∙ both.1 (some_is last c.args.key.now (is ∙ same)),
    )

-- a table that serves entries has a last one
pub returns-in-None-clause-line : goal.returns-in-None-clause-line
returns-in-None-clause-line c = (
  λ no. absurd cc,
  λ same. absurd (none_is c.args.key.now _ c.in-None.ensures.line same),
)

pub returns-in-None-clause-serves : goal.returns-in-None-clause-serves
returns-in-None-clause-serves c = λ file entries serves. (
  λ no. absurd cc,
  λ same. absurd (none_is c.args.key.now _ (c.in-None.ensures.serves file entries serves) same),
)
