use Rattle.std.proofs.Common.{◌≡◌, suc, MatchOption, Some, None, Option, List, ℕ, ◌<◌, ◌≤◌, length}
use Rattle.std.proofs.Common.{Bor, ap, ◌-◌, ◌∙◌, arith}
use Rattle.kv_types.specs.{place}
use Rattle.std.specs.List.{HoldsAt}
use Rattle.lab.specs.declared.delivery.Posted.{Posted}
use Rattle.lab.specs.Deliveries.{HasNoFrame, IsPostedAt}
use Rattle.lab.proofs.Places.{place_zero, place_past, place_at}
use Rattle.lab.proofs.delivery.posted_at.Goals as goal

pub returns-then-place-eq0 : goal.returns-then-place-eq0
returns-then-place-eq0 c =
    ap (place c.args.posted.now) c.if-place-eq0.true ∙ place_zero c.args.posted.now

-- the index of a place is one less
at_index : (found : Option (Bor Posted)) (l : List Posted) (p i : ℕ) → p ≡ suc i →
    MatchOption found (length l ≤ i) (λ x. (i < length l) × HoldsAt (λ y. x.now ≡ y) l i) →
    MatchOption found (HasNoFrame l p) (λ it. IsPostedAt l p it.now)
at_index None l p i at past = place_past l p i at past
at_index (Some x) l p i at is = place_at l p i x.now at is.0 is.1

pub returns : goal.returns
returns c =
    at_index c.get.result c.args.posted.now c.args.place (c.args.place - 1)
    (omega (arith, c.if-place-eq0.false)) c.get.ensures.lookup.3
