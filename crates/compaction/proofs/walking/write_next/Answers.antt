use Rattle.table_format.specs.{lent_entry}
use Rattle.compaction.specs.Outputs.{IsOwnFile}
use Rattle.compaction.specs.Walks.{written_by}
use Rattle.compaction.proofs.Calls.{passed_on, writes_as, writes_behind}
use Rattle.compaction.proofs.Steps.{cursor_failed, cursor_works, ok_works, step_follows, step_goes}
use Rattle.compaction.proofs.Steps.{step_refused, step_stops, step_unused, writes_read}
use Rattle.compaction.proofs.Writing.{refuses}
use Rattle.compaction.proofs.walking.write_next.Goals as goal

-- the entry was not put
pub returns-in_err-put : goal.returns-in_err-put
returns-in_err-put g c =
    let entry = lent_entry c.entry_at.result in
    let own = IsOwnFile c.args.writer.now c.args.next_file.now in
    record {
      writes = writes_as _ own
          (passed_on c.put.result c.in_err-put.field-0.0 c.from_residual.result c.in_err-put.was
          c.from_residual.ensures.1)
          (λ astray meant inputs w. astray (written_by c.args.writer.now w.met) w.honest w.writes
          w.unused)
          c.put.ensures.writes;
      rules = c.put.ensures.rules;
      numbers = c.put.ensures.numbers;
      unused = λ meant inputs w.
          c.put.ensures.unused (written_by c.args.writer.now w.met) w.honest w.writes w.unused;
      walks = λ meant inputs w. refuses c.from_residual.result _ _ c.from_residual.ensures.1
          (step_refused _ _ c.are_lawful.ensures meant inputs c.args.files.now
          c.args.next_file.now c.args.union.now c.args.writer.now entry w c.requires.on
          c.entry_at.ensures.is c.args.tables c.put.new.next_file c.in_err-put.field-0.0
          (c.in_err-put.ensures.put (written_by c.args.writer.now w.met) w.honest w.writes
          w.unused (step_follows _ _ c.are_lawful.ensures meant inputs c.args.files.now
          c.args.next_file.now c.args.union.now c.args.writer.now entry w c.requires.on
          c.entry_at.ensures.is)));
    }

-- the union did not move on
pub returns-in_err-next : goal.returns-in_err-next
returns-in_err-next g c =
    let entry = lent_entry c.entry_at.result in
    let own = IsOwnFile c.args.writer.now c.args.next_file.now in
    record {
      writes = writes_behind _ own {more = ⊥}
          (ok_works c.put.result c.in_ok-put.field-0 c.in_ok-put.was) (λ never. absurd never)
          c.put.ensures.writes
          (writes_read _ own c.next.result
          (cursor_failed c.next.result c.in_err-next.field-0.0 c.from_residual-in_err-next.result
          c.in_err-next.was c.from_residual-in_err-next.ensures.1) c.next.ensures.device);
      rules = c.put.ensures.rules;
      numbers = c.put.ensures.numbers;
      unused = λ meant inputs w. step_unused _ _ c.are_lawful.ensures meant inputs
          c.args.files.now c.args.next_file.now c.args.union.now c.args.writer.now entry w
          c.requires.on c.entry_at.ensures.is c.put.new.disk c.next.new.source
          c.put.new.next_file c.next.result c.put.ensures.writes c.next.ensures.device
          (c.put.ensures.unused (written_by c.args.writer.now w.met) w.honest w.writes w.unused);
      walks = λ meant inputs w. refuses c.from_residual-in_err-next.result _ _
          c.from_residual-in_err-next.ensures.1
          (step_stops _ _ c.are_lawful.ensures meant inputs c.args.files.now
          c.args.next_file.now c.args.union.now c.args.writer.now entry w c.requires.on
          c.entry_at.ensures.is c.put.new.disk c.args.tables c.put.new.next_file _ _
          c.next.result
          c.in_err-next.field-0.0 c.put.ensures.writes c.next.ensures.causes c.in_err-next.was);
    }

-- the union moved on
pub returns : goal.returns
returns g c =
    let entry = lent_entry c.entry_at.result in
    let own = IsOwnFile c.args.writer.now c.args.next_file.now in
    record {
      writes = writes_behind _ own {more = ⊥}
          (ok_works c.put.result c.in_ok-put.field-0 c.in_ok-put.was) (λ never. absurd never)
          c.put.ensures.writes
          (writes_read _ own c.next.result (cursor_works c.next.result c.in_ok-next.was)
          c.next.ensures.device);
      rules = c.put.ensures.rules;
      numbers = c.put.ensures.numbers;
      unused = λ meant inputs w. step_unused _ _ c.are_lawful.ensures meant inputs
          c.args.files.now c.args.next_file.now c.args.union.now c.args.writer.now entry w
          c.requires.on c.entry_at.ensures.is c.put.new.disk c.next.new.source
          c.put.new.next_file c.next.result c.put.ensures.writes c.next.ensures.device
          (c.put.ensures.unused (written_by c.args.writer.now w.met) w.honest w.writes w.unused);
      walks = λ meant inputs w.
          let put = c.in_ok-put.ensures.put (written_by c.args.writer.now w.met) w.honest w.writes
          w.unused (step_follows _ _ c.are_lawful.ensures meant inputs c.args.files.now
          c.args.next_file.now c.args.union.now c.args.writer.now entry w c.requires.on
          c.entry_at.ensures.is) in
          step_goes _ _ c.are_lawful.ensures meant inputs c.args.files.now c.args.next_file.now
          c.args.union.now c.args.writer.now entry w c.requires.on c.entry_at.ensures.is
          c.put.new.disk c.next.new.source c.put.new.next_file c.next.new.self c.put.new.self
          c.in_ok-next.field-0 c.next.result c.put.ensures.writes c.put.ensures.rules
          c.put.ensures.numbers.own put (c.put.ensures.unused
          (written_by c.args.writer.now w.met) w.honest w.writes w.unused) c.next.ensures.moves
          c.next.ensures.device
          c.next.ensures.finds c.in_ok-next.was;
    }
