use Rattle.store_files.proofs.BesideFiles.{others_are_free}
use Rattle.store_files.proofs.laws.other_files_are_free.Goals as goal

pub returns : goal.returns
returns c =
    let version = c.held_versions_are_left.ensures in
    others_are_free version.left version.same c.durable_file_is_left.ensures
