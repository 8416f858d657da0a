use Rattle.std.proofs.Common.{◌≡◌, ℕ, subst}
use Rattle.bloom.specs.{CoversHashed}
use Rattle.sorted_table.specs.Open.{table_filter}
use Rattle.sorted_table.proofs.table.Table.get.Goals as goal

-- the hashes are those of the key
pub returns : goal.returns
returns g c =
    let it = c.get_hashed.ensures in
    record {
      kept = it.kept;
      found = it.found;
      checked = it.checked;
      meant = it.meant;
      unread = subst (λ (h : ℕ × ℕ). (CoversHashed (table_filter c.args.self.now) h → ⊥)
          → c.get_hashed.new.files ≡ c.args.files.now) c.hashes_in.ensures it.unread;
      calls = it.calls;
      still = it.still;
    }
