-- Which texts name benchmarks.
use Rattle.std.proofs.Common.{◌≡◌, ◌≢◌, ℕ, zero, suc, List, [], ◌∷◌, Some, map, slice_get}
use Rattle.benchmarks.specs.declared.benchmark.Benchmark.{Benchmark}
use Rattle.benchmarks.specs.Benchmarks.{name_of}

-- parts of which one is no name are no names
pub not_named : (list : List Benchmark) (parts : List (List ℕ)) (i : ℕ) (part : List ℕ)
    → slice_get parts i ≡ Some part → ((it : Benchmark) → part ≢ name_of it)
    → map name_of list ≢ parts
not_named [] [] i part at none same = cc
not_named [] (p ∷ ps) i part at none same = cc
not_named (b ∷ bs) [] i part at none same = cc
not_named (b ∷ bs) (p ∷ ps) zero part at none same =
    let is : part ≡ name_of b = cc in
    none b is
not_named (b ∷ bs) (p ∷ ps) (suc i) part at none same =
    let rest : map name_of bs ≡ ps = cc in
    not_named bs ps i part at none rest
