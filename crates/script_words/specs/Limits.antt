-- The limits that a script may set: their words and defaults.
use Rattle.std.specs.Prelude.{◌≡◌, ℕ, true, List, [], ◌∷◌, codes, find, Option}
use Rattle.std.specs.Fmt.{decimal}
use Rattle.std.specs.Str.{bytes_eq}
use Rattle.kv_types.specs.declared.Limits.{Limits}
use Rattle.kv_types.specs.declared.LimitName.{LimitName}
use Rattle.kv_types.specs.declared.LimitName.TheVariants.{Log, L0, Table, Level, Cache}
use Rattle.kv_types.specs.Limits.{is_allowed}
use Rattle.script_words.specs.declared.limits.ScriptLimits.{ScriptLimits}

-- the word of a limit
abbrev pub limit_word : LimitName → List ℕ
limit_word Log = codes "log"
limit_word L0 = codes "l0"
limit_word Table = codes "table"
limit_word Level = codes "level"
limit_word Cache = codes "cache"

-- the limit of a word, if it is the word of one
abbrev pub limit_named : List ℕ → Option LimitName
limit_named word =
    find (λ name. bytes_eq word (limit_word name)) (Log ∷ L0 ∷ Table ∷ Level ∷ Cache ∷ [])

-- the limits of a script that sets none
abbrev pub default_limits : ScriptLimits
default_limits = record {
  log = 4194304;
  l0 = 4;
  table = 2097152;
  level = 10485760;
  cache = 256;
}

-- these limits, but for one that is set
abbrev pub limits_with : ScriptLimits → LimitName → ℕ → ScriptLimits
limits_with limits Log number = record limits { log = number }
limits_with limits L0 number = record limits { l0 = number }
limits_with limits Table number = record limits { table = number }
limits_with limits Level number = record limits { level = number }
limits_with limits Cache number = record limits { cache = number }

-- the words that set a limit
abbrev pub SetsLimit : List (List ℕ) → LimitName → ℕ → Type 0
SetsLimit words name number =
    (words ≡ codes "limit" ∷ limit_word name ∷ decimal number ∷ [])
    × (is_allowed name number ≡ true)

-- the limits of a store, by those of a script
abbrev pub AreLimits : ScriptLimits → Limits → Type 0
AreLimits script limits =
    (limits.log ≡ script.log) × (limits.l0 ≡ script.l0) × (limits.table ≡ script.table)
    × (limits.level ≡ script.level) × (limits.cache ≡ script.cache)
