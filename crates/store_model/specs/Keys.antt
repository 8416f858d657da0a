-- The order of keys, and ranges of keys.
use Rattle.std.specs.Prelude.{◌≡◌, ◌⊎◌}
use Rattle.std.specs.declared.cmp.Ordering.TheVariants.{Less}
use Rattle.byte_fields.specs.{StoredKey, stored_cmp}

-- a key comes before another
abbrev pub KeyPrecedes : StoredKey → StoredKey → Type 0
KeyPrecedes a b = stored_cmp a b ≡ Less

-- a range of keys, both ends included
pub record KeyRange : Type 0 where
  pub least : StoredKey
  pub greatest : StoredKey

-- the range holds the key
abbrev pub RangeHolds : KeyRange → StoredKey → Type 0
RangeHolds range key = (KeyPrecedes key range.least → ⊥) × (KeyPrecedes range.greatest key → ⊥)

-- every key of the first range lies in the second
abbrev pub RangeLiesIn : KeyRange → KeyRange → Type 0
RangeLiesIn inner outer =
    (KeyPrecedes inner.least outer.least → ⊥) × (KeyPrecedes outer.greatest inner.greatest → ⊥)

-- the ranges do not overlap: one ends before the other begins
abbrev pub AreDisjointRanges : KeyRange → KeyRange → Type 0
AreDisjointRanges a b = KeyPrecedes a.greatest b.least ⊎ KeyPrecedes b.greatest a.least
