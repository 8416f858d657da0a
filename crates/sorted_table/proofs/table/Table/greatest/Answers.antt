use Rattle.std.proofs.Common.{◌∙◌, ap, Bor}
use Rattle.kv_types.specs.declared.key.Key.{Key}
use Rattle.std.specs.Option.{option_map}
use Rattle.table_format.specs.declared.IndexLine.{IndexLine}
use Rattle.sorted_table.proofs.GreatestKeys.{kept_greatest, served_greatest}
use Rattle.sorted_table.proofs.table.Table.greatest.Goals as goal

-- an index without a line
pub returns-in_err-line-clause-line : goal.returns-in_err-line-clause-line
returns-in_err-line-clause-line c =
    ap (option_map (λ (key : Bor Key). key.now)) c.from_residual.ensures
    ∙ (ap (option_map (λ (line : IndexLine). line.key)) c.in_err-line.ensures.value
    ∙ kept_greatest c.args.self.now c.deref.result.now c.deref.ensures.value)

pub returns-in_err-line-clause-serves : goal.returns-in_err-line-clause-serves
returns-in_err-line-clause-serves c = λ file entries serves.
    ap (option_map (λ (key : Bor Key). key.now)) c.from_residual.ensures
    ∙ (ap (option_map (λ (line : IndexLine). line.key)) c.in_err-line.ensures.value
    ∙ served_greatest file c.args.self.now entries c.deref.result.now c.deref.ensures.value serves)

-- the key of the last line
pub returns-clause-line : goal.returns-clause-line
returns-clause-line c =
    ap (option_map (λ (line : IndexLine). line.key)) c.in_ok-line.ensures.value
    ∙ kept_greatest c.args.self.now c.deref.result.now c.deref.ensures.value

-- the last line has the key of the last entry
pub returns-clause-serves : goal.returns-clause-serves
returns-clause-serves c = λ file entries serves.
    ap (option_map (λ (line : IndexLine). line.key)) c.in_ok-line.ensures.value
    ∙ served_greatest file c.args.self.now entries c.deref.result.now c.deref.ensures.value serves
