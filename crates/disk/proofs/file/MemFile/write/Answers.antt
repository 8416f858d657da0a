use Rattle.std.proofs.Common.{◌≡◌, ◌+◌, ◌≤◌, ◌++◌, ◌∷◌, [], List, ℕ}
use Rattle.std.proofs.Common.{length, take, drop, arith, sym, ap, subst, ◌∙◌}
use Rattle.std.specs.Prelude.{max}
use Rattle.std.proofs.lemmas.List.{length-take}
use Rattle.std.proofs.lemmas.Grind.{common_steps}
use Rattle.disk.specs.States.{overwritten}
use Rattle.disk.specs.Content.{Content}
use Rattle.disk.specs.Buffer.{uncovered}
use Rattle.disk.proofs.Buffers.{kept_stays, take-overwritten}
use Rattle.disk.proofs.file.MemFile.write.Goals as goal

-- the buffer's new beginning, and what can still be had back
pub returns-clause-ok : goal.returns-clause-ok
returns-clause-ok c =
    let old = c.self.inside in
    let one = c.in_ok-covered.covered in
    let place : one.at ≡ c.args.at = c.in_ok-covered.ensures.place in
    let begins : c.args.at ≤ length (take old.len old.buffer.items) =
    subst (λ (f : Content). c.args.at ≤ length f.bytes) (sym c.self.view_is) c.requires in
    let within : c.args.at ≤ old.len =
    omega (arith, begins, length-take old.len old.buffer.items) in
    let bytes : take (max old.len (c.args.at + length c.args.bytes.now))
    (overwritten old.buffer.items c.args.at c.args.bytes.now)
    ≡ overwritten (take old.len old.buffer.items) c.args.at c.args.bytes.now =
    take-overwritten old.buffer.items old.len c.args.at c.args.bytes.now
    c.self.invariant.len within in
    let kept : take old.synced_len
    (uncovered (overwritten old.buffer.items one.at c.args.bytes.now)
    (old.covered.items ++ one ∷ []))
    ≡ take old.synced_len (uncovered old.buffer.items old.covered.items) =
    kept_stays old.buffer.items old.covered.items one old.synced_len c.args.bytes.now
    c.self.invariant.synced
    (omega (arith, within, c.self.invariant.len, place)) c.self.invariant.covered
    (c.in_ok-covered.ensures.bytes
    ∙ ap (λ (b : List ℕ). take (length c.args.bytes.now)
    (drop c.args.at b)) c.deref.ensures.value
    ∙ ap (λ (n : ℕ). take (length c.args.bytes.now) (drop n old.buffer.items))
    (sym place)) in
    grind (arith, common_steps, bytes, kept)
