-- A file that has been synced at least once.
use Rattle.std.specs.Prelude.{ℕ, List}
use Rattle.disk.specs.declared.pending_write.PendingWrite.{PendingWrite}

-- the bytes that a read returns, the synced bytes, and the writes and cuts since
pub record Content : Type 0 where
  pub bytes : List ℕ
  pub kept : List ℕ
  pub touches : List PendingWrite
