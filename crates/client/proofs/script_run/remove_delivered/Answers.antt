use Rattle.std.proofs.Common.{◌∙◌, ℕ, List, Ok, Err, refl, sym}
use Rattle.std.proofs.lemmas.List.Sorted.{searched}
use Rattle.client.proofs.Leaving.{rises, left_out, not_there, beyond}
use Rattle.client.proofs.StatementResults.{delivered_kind, left_delivered}
use Rattle.client.proofs.script_run.remove_delivered.Goals as goal

pub returns-in-Ok : goal.returns-in-Ok
returns-in-Ok c = λ low high up.
    let left = c.args.left.now.items in
    let place = c.in-Some.place in
    let found = searched left place (Ok c.in-Ok.index) c.in-Ok.ensures.position
    (λ i j. rises left low high i j up) in
    let removed = rw (c.remove.ensures.succeeds 0 c.in-Ok.ensures.bound) at c.remove.ensures.items
    in
    left_delivered c.args.event.now.kind place left left c.remove.new.self.items
    (delivered_kind c.args.event.now.kind place (sym c.delivered.ensures ∙ c.in-Some.is)) refl
    (◌∙◌ {A = List ℕ} removed (left_out left low high c.in-Ok.index place up found.0 found.1))

pub returns-in_default-binary_search : goal.returns-in_default-binary_search
returns-in_default-binary_search c = λ low high up.
    let left = c.args.left.now.items in
    let place = c.in-Some.place in
    let at = c.in_default-binary_search.field-0 in
    let found = searched left place (Err at) c.in_default-binary_search.ensures.position
    (λ i j. rises left low high i j up) in
    left_delivered c.args.event.now.kind place left left left
    (delivered_kind c.args.event.now.kind place (sym c.delivered.ensures ∙ c.in-Some.is)) refl
    (not_there left place (beyond left place at found.1 found.2))
