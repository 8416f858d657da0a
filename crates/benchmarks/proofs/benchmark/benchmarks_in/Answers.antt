use Rattle.std.proofs.Common.{◌≢◌, ◌∙◌, ℕ, ◌<◌, List, length, map, slice_index_or, Bor, ap, sym}
use Rattle.std.specs.Option.{option_map}
use Rattle.std.proofs.lemmas.Option.{slice_get-map, slice_get-get_or}
use Rattle.benchmarks.specs.declared.benchmark.Benchmark.{Benchmark}
use Rattle.benchmarks.specs.Benchmarks.{name_of}
use Rattle.benchmarks.proofs.Names.{not_named}
use Rattle.benchmarks.proofs.benchmark.benchmarks_in.Goals as goal

abbrev text_of : Bor (List ℕ) → List ℕ
text_of part = part.now

-- a part that is no name
none_named : (list : List Benchmark) (parts : List (Bor (List ℕ))) (i : ℕ) (d : Bor (List ℕ))
    → i < length parts → ((it : Benchmark) → text_of (slice_index_or parts i d) ≢ name_of it)
    → map name_of list ≢ map text_of parts
none_named list parts i d within none =
    not_named list (map text_of parts) i (text_of (slice_index_or parts i d))
    (slice_get-map text_of parts i ∙ ap (option_map text_of) (slice_get-get_or parts i d within))
    none

pub returns-in-None : goal.returns-in-None
returns-in-None c list same =
    let is = c.deref-part-items.ensures.value in
    let within = rw is at c.loop-part-test.true in
    let none = rw is at c.in-None.ensures in
    none_named list c.in_ok-parts.parts.items c.loop-part.part-index _ within none
    (same ∙ sym c.in_ok-parts.ensures)
