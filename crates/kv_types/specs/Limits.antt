-- The ranges of a store's limits.
use Rattle.std.specs.Prelude.{◌≡◌, ◌^◌, ◌&&◌, ℕ, Bool, true, nat_le}
use Rattle.kv_types.specs.declared.bounds.TheConstants.{MAX_CACHE}
use Rattle.kv_types.specs.declared.limit_name.LimitName.{LimitName}
use Rattle.kv_types.specs.declared.limit_name.LimitName.TheVariants.{Log, L0, Table, Level, Cache}

-- the least and the greatest number that a limit may be
abbrev pub limit_range : LimitName → ℕ × ℕ
limit_range Log = (16, 2 ^ 30)
limit_range L0 = (0, 64)
limit_range Table = (64, 2 ^ 30)
limit_range Level = (64, 2 ^ 40)
limit_range Cache = (1, MAX_CACHE)

-- a limit may be this number
abbrev pub is_allowed : LimitName → ℕ → Bool
is_allowed name number =
    nat_le (limit_range name).0 number && nat_le number (limit_range name).1

-- each limit may be its number: those of a log, of level 0, of a table, of level 1, of the cache
pub record IsInRange (log l0 table level cache : ℕ) : Type 0 where
  pub log_range : is_allowed Log log ≡ true
  pub l0_range : is_allowed L0 l0 ≡ true
  pub table_range : is_allowed Table table ≡ true
  pub level_range : is_allowed Level level ≡ true
  pub cache_range : is_allowed Cache cache ≡ true
