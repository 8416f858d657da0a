use Rattle.std.proofs.Common.{Option, List, ℕ, sym, subst, ap}
use Rattle.std.specs.Prelude.{IsSomeAnd}
use Rattle.disk.specs.{seen}
use Rattle.table_format.specs.{TableRepresents}
use Rattle.byte_fields.specs.declared.format.Format.TheVariants.{Two}
use Rattle.sorted_table.proofs.laws.finished_tables_are_files.Goals as goal

pub returns : goal.returns
returns c = λ file entries holds.
    subst (λ (o : Option (List ℕ)). IsSomeAnd o (λ bytes. TableRepresents bytes entries))
    (sym (ap seen holds.durable)) (record { format = Two; table = holds.represents })
