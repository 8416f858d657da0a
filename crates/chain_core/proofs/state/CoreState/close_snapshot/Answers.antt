use Rattle.std.proofs.Common.{◌≡◌, ◌<◌, ◌-◌, ◌∙◌, ap, sym, subst, List, ℕ, length, arith}
use Rattle.std.proofs.lemmas.Grind.{common_steps}
use Rattle.std.specs.List.{remove}
use Rattle.kv_types.specs.Snapshots.{without}
use Rattle.chain_core.specs.States.{Core}
use Rattle.chain_core.proofs.Snapshots.{closed_at, closed_none}
use Rattle.chain_core.proofs.state.CoreState.close_snapshot.Goals as goal

pub returns-in-Some : goal.returns-in-Some
returns-in-Some c =
    let s = c.args.number in
    let inside = c.self.inside in
    let at = closed_at s 0 c.in-Some.place inside.snapshots.items
    (sym c.place_of.ensures ∙ c.in-Some.is) in
    let there : c.in-Some.place < length inside.snapshots.items = omega (arith, at.1) in
    let same : c.in-Some.place ≡ c.in-Some.place - 0 = omega arith in
    let removed : c.remove.new.self.items ≡ remove inside.snapshots.items c.in-Some.place =
    grind (arith, common_steps) in
    let left : c.remove.new.self.items ≡ without s c.args.self.now.snapshots =
    removed ∙ (ap (remove inside.snapshots.items) same ∙ at.2
    ∙ ap (λ (v : Core). without s v.snapshots) c.self.view_is) in
    ap (λ (v : Core). record v { snapshots = c.remove.new.self.items }) c.self.view_is
    ∙ ap (λ (l : List ℕ). record c.args.self.now { snapshots = l }) left

pub returns-in_default : goal.returns-in_default
returns-in_default c =
    let s = c.args.number in
    let none = closed_none s 0 c.self.inside.snapshots.items
    (sym c.place_of.ensures ∙ c.in_default.is) in
    let same : without s c.args.self.now.snapshots ≡ c.args.self.now.snapshots =
    subst (λ (v : Core). without s v.snapshots ≡ v.snapshots) c.self.view_is none in
    ap (λ (l : List ℕ). record c.args.self.now { snapshots = l }) (sym same)
