-- The frames that a step sends, however they are held.
use Rattle.std.specs.Prelude.{List, [], Option, Some, None}
use Rattle.std.specs.Global.{Vec}
use Rattle.chain_core.specs.declared.sending.Sent.{Sent}

-- none, or a list
abbrev pub frames_held : Option (Vec Sent) → List Sent
frames_held None = []
frames_held (Some frames) = frames.items
