use Rattle.std.proofs.Common.{◌≡◌, ◌++◌, take, length}
use Rattle.std.specs.Int.{w8, to_be_bytes}
use Rattle.configurations.specs.Spelling.{ids_text}
use Rattle.configurations.proofs.config.Config.spell_into.Given as goal

-- the ids that the loop has passed stand behind their number
abbrev pub invariant-loop-id : goal.invariant-loop-id
invariant-loop-id l =
    l.out.items ≡ (l.fn.out.items ++ to_be_bytes w8 (length l.ids)) ++ ids_text
    (take l.id-index l.ids)
