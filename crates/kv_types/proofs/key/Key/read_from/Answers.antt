use Rattle.std.proofs.Common.{◌≡◌, ◌≤◌, ◌++◌, ◌∙◌, List, ℕ, Some, ap, length, subst, sym}
use Rattle.std.proofs.Common.{arith, rules}
use Rattle.byte_fields.specs.{text_at, text_bytes}
use Rattle.byte_fields.specs.TextsLemmas.{text_begins}
use Rattle.byte_fields.specs.declared.stored_key.TheConstants.{MAX_KEY}
use Rattle.byte_fields.specs.{bytes_of}
use Rattle.kv_types.proofs.Fronts.{no_text}
use Rattle.kv_types.proofs.key.Key.read_from.Goals as goal

pub returns-in_default-clause-bad : goal.returns-in_default-clause-bad
returns-in_default-clause-bad c = λ _.
    no_text MAX_KEY c.args.bytes.now (omega arith) (rw c.in_default.is at c.read_text.ensures.text)

pub returns-clause-found : goal.returns-clause-found
returns-clause-found c =
    let text = c.in-Some.text.now in
    let rest = c.in-Some.rest.now in
    let read : text_at MAX_KEY c.args.bytes.now ≡ Some (text, rest) = search rules in
    let t = text_begins MAX_KEY c.args.bytes.now (text, rest)
    (λ i. omega (arith, c.type_inv.bytes i)) read in
    let key : text ≡ bytes_of c.in_ok-stored.stored =
    sym (ap bytes_of (c.in_ok-stored.ensures ∙ c.new.ensures)) in (
      t.0.parts ∙ ap (λ k. text_bytes k ++ rest) key,
      subst (λ (k : List ℕ). length k ≤ MAX_KEY) key t.1,
    )
