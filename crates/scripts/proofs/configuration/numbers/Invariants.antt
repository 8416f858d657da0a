use Rattle.std.proofs.Common.{◌≡◌, map, take, true}
use Rattle.std.specs.Fmt.{decimal}
use Rattle.std.specs.List.{list_all}
use Rattle.script_words.specs.Words.{is_number}
use Rattle.scripts.specs.Faults.{numbers_of}
use Rattle.scripts.proofs.configuration.numbers.Given as goal

-- the words so far are numbers, and these
abbrev pub invariant-loop-word : goal.invariant-loop-word
invariant-loop-word l = record {
  each : list_all (λ w. is_number w.now) (take l.word-index l.words) ≡ true;
  spelled : map (λ w. w.now) (take l.word-index l.words) ≡ map decimal l.numbers.items;
  values : numbers_of (map (λ w. w.now) (take l.word-index l.words)) ≡ l.numbers.items;
}
