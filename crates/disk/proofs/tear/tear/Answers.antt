use Rattle.std.proofs.Common.{◌≡◌, ◌<◌, ℕ, length, sym, subst, ◌∙◌, arith, rules}
use Rattle.disk.proofs.Tears.{IsTornTo, torn_unsynced, torn_synced, torn_all}
use Rattle.disk.proofs.tear.tear.Goals.{then-is_unsynced, else-is_unsynced}
use Rattle.disk.proofs.tear.tear.Goals as goal

-- an unsynced place gets the next junk byte, and a synced place stays
pub loop-place-preserved : goal.loop-place-preserved
loop-place-preserved c =
    let some : 0 < length c.args.junk.now = search rules in
    let touches = c.args.touches.now in
    let junk = c.args.junk.now in
    let old = c.args.bytes.now in
    let at = c.loop-place in
    let within : at.place < length old = omega arith in
    let test = sym c.is_unsynced.ensures in
    elim c.if-is_unsynced.branch [
      | then-is_unsynced w ↦ rw (w.bytes-is, w.next-is)
          (torn_unsynced c.args.end touches junk old some at.bytes at.place at.next within
          (test ∙ w.if-is_unsynced.true) at.invariant)
      | else-is_unsynced w ↦ rw (w.bytes-is, w.next-is)
          (torn_synced c.args.end touches junk old some at.bytes at.place at.next within
          (test ∙ w.if-is_unsynced.false) at.invariant)
    ]

-- no place is left
pub returns : goal.returns
returns c =
    let some : 0 < length c.args.junk.now = search rules in
    let touches = c.args.touches.now in
    let junk = c.args.junk.now in
    let old = c.args.bytes.now in
    let at = c.loop-place in
    let all : at.place ≡ length old = omega arith in
    torn_all c.args.end touches junk old some at.bytes at.next
    (subst (λ (n : ℕ). IsTornTo c.args.end touches junk old at.bytes n at.next) all at.invariant)
