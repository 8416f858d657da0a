use Rattle.std.proofs.Common.{arith, append-nil, refl, sym, ap, ◌∙◌, length, []}
use Rattle.scripts.specs.declared.setup.Setup.{Setup}
use Rattle.script_words.specs.Limits.{default_limits}
use Rattle.script_words.specs.Lines.{script_lines}
use Rattle.scripts.specs.Scripts.{IsScript}
use Rattle.scripts.proofs.Beginnings.{reported_at, reported_end}
use Rattle.scripts.proofs.Going.{takes_on, keeps_fault, all_name, ranged}
use Rattle.scripts.proofs.reader.read_script.Goals as goal

pub loop-line-preserved : goal.loop-line-preserved
loop-line-preserved c =
    let before = c.loop-line.before in let after = c.read_line.new.before in
    let n = c.loop-line.number in let line = c.in-Some.line.now in
    let lines = script_lines c.next.new.self.0.now in let old = c.loop-line.statements.items in
    let taken = rw c.in-Ok.is at c.read_line.ensures in
    record {
      found = takes_on before after n line lines old _ (λ setup rest. IsScript 1
          (script_lines c.args.text.now) setup rest) taken (λ setup rest h.
          c.loop-line.invariant.found setup rest (rw c.in-Some.ensures.steps h));
      fault = keeps_fault before after n line lines old _ taken
          ∙ rw c.in-Some.ensures.steps at c.loop-line.invariant.fault;
      above = omega arith;
      count = omega (arith, c.loop-line.invariant.count, ap length c.in-Some.ensures.steps);
      few = omega (arith, taken.1);
      ranges = ranged before after n line old _ taken c.loop-line.invariant.ranges;
    }

pub returns-in-Err-clause-fault : goal.returns-in-Err-clause-fault
returns-in-Err-clause-fault c =
    let steps = c.in-Some.ensures.steps in
    reported_at c.args.faults c.loop-line.before c.loop-line.number c.in-Some.line.now
    (script_lines c.next.new.self.0.now) (script_lines c.args.text.now) c.in-Err.error
    (rw c.in-Err.is at c.read_line.ensures) (rw steps at c.loop-line.invariant.fault)
    c.loop-line.invariant.above (omega (arith, c.loop-line.invariant.count, ap length steps))

pub returns-in_default-clause-fault : goal.returns-in_default-clause-fault
returns-in_default-clause-fault c =
    reported_end c.args.faults c.loop-line.before c.loop-line.number (script_lines c.args.text.now)
    (sym c.into_configs.ensures ∙ c.in_default.is)
    (rw c.in-None.ensures.steps.0 at c.loop-line.invariant.fault)

pub returns-clause-found : goal.returns-clause-found
returns-clause-found c =
    let setup : Setup = record {
      configs = c.in-Some-into_configs.configs;
      limits = c.of_store.result;
    } in
    rw (← append-nil c.loop-line.statements.items)
    (c.loop-line.invariant.found setup [] (rw (
      c.in-None.ensures.steps.0,
      sym c.into_configs.ensures ∙ c.in-Some-into_configs.is,
    ) (_, record { configs = refl; limits = c.of_store.ensures }, (refl, refl))))

pub returns-clause-node : goal.returns-clause-node
returns-clause-node c =
    let setup : Setup = record {
      configs = c.in-Some-into_configs.configs;
      limits = c.of_store.result;
    } in
    all_name default_limits 1 (script_lines c.args.text.now) setup c.loop-line.statements.items
    (rw (← append-nil c.loop-line.statements.items)
    (c.loop-line.invariant.found setup [] (rw (
      c.in-None.ensures.steps.0,
      sym c.into_configs.ensures ∙ c.in-Some-into_configs.is,
    ) (_, record { configs = refl; limits = c.of_store.ensures }, (refl, refl)))))
