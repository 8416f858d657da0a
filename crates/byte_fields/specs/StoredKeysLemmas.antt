-- The numbers of spaces, and the order of stored keys: it is total, and ties only equal keys.
use Rattle.std.proofs.Common.{◌≡◌, ◌≤◌, sym, ap, ◌∙◌, arith}
use Rattle.std.specs.Cmp.{IsTotalOrder}
use Rattle.std.specs.Cmp.Lexicographic.{nat_list_cmp_total}
use Rattle.std.specs.declared.cmp.Ordering.TheVariants.{Equal}
use Rattle.std.specs.Ordering.{is_eq}
use Rattle.std.proofs.lemmas.Map.Text.{is_eq-slice_cmp}
use Rattle.std.proofs.lemmas.Slice.Eq.{bytes_eq-Decides}
use Rattle.byte_fields.specs.declared.space.Space.{Space}
use Rattle.byte_fields.specs.declared.space.Space.TheVariants.{Rows, Marks}
use Rattle.byte_fields.specs.StoredKeys.{StoredKey, space_number, stored_cmp}

-- the order of stored keys is total
pub stored_total : IsTotalOrder stored_cmp
stored_total = nat_list_cmp_total

-- of two different stored keys one comes before the other
pub stored_tied : (a b : StoredKey) → stored_cmp a b ≡ Equal → a ≡ b
stored_tied a b tied = (bytes_eq-Decides a b).0 (sym (is_eq-slice_cmp a b) ∙ ap is_eq tied)

-- a space has the number 0 or 1
pub space_within : (space : Space) → space_number space ≤ 1
space_within Rows = omega arith
space_within Marks = omega arith
