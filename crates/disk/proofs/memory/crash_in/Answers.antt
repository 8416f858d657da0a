use Rattle.std.proofs.Common.{◌≡◌, ℕ, List, map, rules, sym, ap, subst, ◌∙◌}
use Rattle.std.specs.Prelude.{is_some, filter}
use Rattle.std.proofs.lemmas.Map.Made.{map_same_pairs, filter_same_pairs}
use Rattle.std.specs.List.{AllByRecursion}
use Rattle.disk.specs.States.{Slot, seen}
use Rattle.disk.specs.Crashes.{crashed}
use Rattle.disk.specs.Memory.{state_of}
use Rattle.disk.proofs.Outcomes.{crashed_none, crashed_says}
use Rattle.disk.proofs.Numbers.{SaysNothing, state_of-map, state_of-filter}
use Rattle.disk.proofs.memory.crash_in.Goals as goal

-- each slot is crashed, and those that hold no file are forgotten
pub returns : goal.returns
returns c = λ file.
    let crash : Slot → Slot = crashed c.args.junk.now in
    let all : c.retain.new.self.entries
    ≡ map (λ e. (e.0, crash e.1)) c.args.slots.now.entries =
    map_same_pairs _ crash _ (λ k v b w f' t. search rules) _ _ c.retain.ensures.filtered in
    let there : c.retain-2.new.self.entries
    ≡ filter (λ e. is_some (seen e.1)) c.retain.new.self.entries =
    filter_same_pairs _ (λ e. is_some (seen e.1)) _
    (λ k v b w f' t. search rules) _ _ c.retain-2.ensures.filtered in
    ap (λ (slots : List (ℕ × Slot)). state_of slots file) there
    ∙ state_of-filter c.retain.new.self.entries file c.retain-2.ensures.was_ordered
    (subst (AllByRecursion SaysNothing) (sym all)
    (crashed_says c.args.junk.now c.args.slots.now.entries))
    ∙ ap (λ (slots : List (ℕ × Slot)). state_of slots file) all
    ∙ state_of-map crash c.args.slots.now.entries file (crashed_none c.args.junk.now)
