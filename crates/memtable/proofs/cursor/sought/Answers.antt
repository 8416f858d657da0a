use Rattle.std.proofs.Common.{◌≤◌, ◌∷◌, length, take, subst, sym, ap, ap₂, ◌∙◌, arith}
use Rattle.byte_fields.specs.declared.stored_key.TheConstants.{MAX_KEY}
use Rattle.byte_fields.specs.{IsStoredKey, lent_key, space_of}
use Rattle.byte_fields.specs.StoredKeysLemmas.{space_within}
use Rattle.memtable.proofs.LongKeys.{take_short, long_stored_key}
use Rattle.memtable.proofs.cursor.sought.Goals as goal

pub to_stored-requires : goal.to_stored-requires
to_stored-requires c = subst IsStoredKey (sym c.new.ensures) (
  space_within c.space.result,
  subst (λ xs. length xs ≤ MAX_KEY) (sym c.split_at.ensures.front)
      (take_short MAX_KEY c.as_bytes.result.now),
)

pub returns-then-len-gt-MAX_KEY-clause-first : goal.returns-then-len-gt-MAX_KEY-clause-first
returns-then-len-gt-MAX_KEY-clause-first c =
    long_stored_key c.args.map.now MAX_KEY (lent_key c.args.key) _ c.args.number _
    (c.in_ok-beginning.ensures ∙ (c.new.ensures ∙ ap₂ (λ s bytes. s ∷ bytes)
    (sym (ap space_of c.space.ensures)) (c.split_at.ensures.front
    ∙ ap (take MAX_KEY) c.as_bytes.ensures)))
    (search (arith, c.len.ensures, c.if-len-gt-MAX_KEY.true))
    (λ entry has. (c.requires.limits entry has).key.1)
    (c.front.ensures.first c.requires.rising)
