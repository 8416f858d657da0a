-- The text of a row, and of the numbers of a node or of a store.
use Rattle.std.specs.Prelude.{ℕ, List, ◌++◌, codes}
use Rattle.std.specs.Fmt.{decimal}
use Rattle.std.specs.List.{flat_map}
use Rattle.kv_types.specs.{Row}
use Rattle.node.specs.declared.numbers.Numbers.{Numbers}
use Rattle.script_words.specs.Words.{bytes_text}

-- a row of an answer
abbrev pub printed_row : Row → List ℕ
printed_row row =
    codes "row " ++ (bytes_text row.key ++ (codes "=" ++ bytes_text row.value))

-- a number behind a space
abbrev pub spaced : ℕ → List ℕ
spaced n = codes " " ++ decimal n

-- how many batches a node has
abbrev pub counts_text : ℕ → ℕ → ℕ → List ℕ
counts_text epoch count committed =
    codes "epoch " ++ (decimal epoch ++ (codes " count " ++ (decimal count
    ++ (codes " committed " ++ decimal committed))))

-- what it keeps of them, and how many tables each level has
abbrev pub kept_text : ℕ → ℕ → List ℕ → List ℕ
kept_text floor kept tables =
    codes "floor " ++ (decimal floor ++ (codes " kept " ++ (decimal kept
    ++ (codes " tables" ++ flat_map spaced tables))))

-- what a node knows of itself: its batches, what it keeps of them, and its tables
abbrev pub numbers_text : ℕ → Numbers → List ℕ
numbers_text node it =
    codes "node " ++ (decimal node
    ++ (codes " " ++ (counts_text it.epoch it.count it.committed
    ++ (codes " " ++ kept_text it.floor it.kept it.tables))))

-- what a store of this node has, of which nothing is known to be committed
abbrev pub store_text : (node epoch count floor kept : ℕ) → List ℕ → List ℕ
store_text node epoch count floor kept tables =
    codes "node " ++ (decimal node ++ (codes " epoch " ++ (decimal epoch
    ++ (codes " count " ++ (decimal count
    ++ (codes " " ++ kept_text floor kept tables))))))
