-- The files that a tend leaves as they were.
use Rattle.std.proofs.Common.{◌≡◌, ◌+◌, ◌∙◌, ℕ, arith, sym}
use Rattle.disk.specs.{IsSameBut, State}
use Rattle.manifest.specs.{counting_file, spare_file}
use Rattle.store_files.specs.declared.store_files.StoreFiles.{StoreFiles}
use Rattle.store_files.specs.Tending.{IsSameBeside, tended_files}

module _ (files : StoreFiles) (old new : State) where
  -- where the counting slot alone changed, none but the tended files did
  pub counting_alone : IsSameBut (counting_file files.manifest) old new →
      IsSameBeside (tended_files files) old new
  counting_alone same file other = same file (λ is. other (0, omega arith, sym is))

  -- the same of the other slot
  pub spare_alone : IsSameBut (spare_file files.manifest) old new →
      IsSameBeside (tended_files files) old new
  spare_alone same file other = same file (λ is. other (1, omega arith, sym is))

  -- of the first free file
  pub table_alone : IsSameBut files.free_file old new →
      IsSameBeside (tended_files files) old new
  table_alone same file other = same file (λ is. other (2, omega arith, sym is))

  -- and of the one behind it
  pub log_alone : (at : ℕ) → at ≡ files.free_file + 1 →
      IsSameBut at old new → IsSameBeside (tended_files files) old new
  log_alone at is same file other = same file (λ here. other (3, omega arith, sym (here ∙ is)))

-- of two calls neither changed another file
pub beside_both : (files : StoreFiles) (old mid new : State) →
    IsSameBeside (tended_files files) old mid → IsSameBeside (tended_files files) mid new →
    IsSameBeside (tended_files files) old new
beside_both files old mid new before after file other = after file other ∙ before file other
