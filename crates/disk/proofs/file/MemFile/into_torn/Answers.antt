use Rattle.std.proofs.Common.{◌≡◌, length, take, sym, ap, ◌∙◌, arith}
use Rattle.std.proofs.lemmas.Grind.{common_steps}
use Rattle.disk.specs.Content.{Content}
use Rattle.disk.specs.Buffer.{uncovered}
use Rattle.disk.proofs.Buffers.{length-kept}
use Rattle.disk.proofs.file.MemFile.into_torn.Goals as goal

-- the last sync kept so many bytes
pub returns : goal.returns
returns c =
    let file = c.self.inside in
    let synced : length (take file.synced_len (uncovered file.buffer.items file.covered.items))
    ≡ file.synced_len =
    length-kept file.buffer.items file.covered.items file.synced_len
    c.self.invariant.synced c.self.invariant.covered in
    let kept : length c.args.self.kept ≡ file.synced_len =
    ap (λ (f : Content). length f.kept) (sym c.self.view_is) ∙ synced in
    grind (arith, common_steps, kept)
