use Rattle.std.proofs.lemmas.Slice.Eq.{bytes_eq-Decides}
use Rattle.folder_nodes.proofs.finding.are_same.Goals as goal

pub returns : goal.returns
returns c =
    let decides = bytes_eq-Decides c.args.config.now c.args.other.now in
    rw (c.eq.ensures, c.ids.ensures.ids, c.ids-2.ensures.ids) decides
