-- Short lists, however they hold their items.
use Rattle.std.specs.Prelude.{List, []}
use Rattle.chain_core.specs.declared.short_list.HeldItems.{HeldItems}
use Rattle.chain_core.specs.declared.short_list.HeldItems.TheVariants as held

-- none, one, or a list
abbrev pub items_held : {T : Type 0} → HeldItems T → List T
items_held held.None = []
items_held (held.One one) = one
items_held (held.Many all) = all.items
