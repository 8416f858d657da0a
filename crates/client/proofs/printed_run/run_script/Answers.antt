use Rattle.std.specs.Prelude.{string_bytes}
use Rattle.std.proofs.Common.{add-one, ap, inl, inr, length, rules, subst, sym}
use Rattle.std.proofs.lemmas.List.{take_all}
use Rattle.scripts.specs.declared.statement.Statement.{Statement}
use Rattle.client.specs.ScriptRuns.{no_stretch, run_of}
use Rattle.scripts.specs.Scripts.{Names}
use Rattle.client.proofs.PrintedRuns.{ended_in_memory, ended_in_write, printed, prints_more}
use Rattle.client.proofs.PrintedRuns.{prints_none}
use Rattle.client.proofs.RunsActions.{cut_at_first}
use Rattle.client.proofs.StatementReports.{all_reported, cut_in_memory, cut_in_output, reports_more}
use Rattle.client.proofs.StatementReports.{reports_none}
use Rattle.client.proofs.printed_run.run_script.Goals as goal

-- nothing ran yet
pub loop-statement-init : goal.loop-statement-init
loop-statement-init g c = (
  λ ready.
      let past = run_of c.args.script.now.setup no_stretch in
      let run = ready.none.run in
      rw (c.new-left.ensures.items, c.new-places.ensures.items) (prints_none c.args.world.now
      c.args.script.now.setup _ (g.W.Write.contents c.args.out.now) ready.none
      (ap length (c.report-before.ensures.steps past run))
      (c.report-before.ensures.run past run) (c.report-before.ensures.history past run)),
  rw (c.new-left.ensures.items, c.new-places.ensures.items) (reports_none g.C.Carrier
      c.args.world.now _
      (g.W.Write.contents c.args.out.now) (ap length c.report-before.ensures.kept)),
)

-- a step wanted memory
pub returns-in_err-turn-clause-ended : goal.returns-in_err-turn-clause-ended
returns-in_err-turn-clause-ended g c = λ ready.
    let same = c.deref-statement-items.ensures.value in
    let ended = ended_in_memory c.loop-statement.world c.run_statement.new.world
    c.args.script.now.setup c.loop-statement.left.items c.args.script.now.statements.items
    c.loop-statement.statement-index c.loop-statement.places.items c.loop-statement.before
    (g.W.Write.contents c.args.out.now) (g.W.Write.contents c.loop-statement.out)
    (rw same at c.loop-statement-test.true) (c.loop-statement.invariant.0 ready) in
    search (rules, ended)

-- a text wanted memory
pub returns-in_err-make_text-clause-ended : goal.returns-in_err-make_text-clause-ended
returns-in_err-make_text-clause-ended g c = λ ready.
    let same = c.deref-statement-items.ensures.value in
    let ended = ended_in_memory c.loop-statement.world c.run_statement.new.world
    c.args.script.now.setup c.loop-statement.left.items c.args.script.now.statements.items
    c.loop-statement.statement-index c.loop-statement.places.items c.loop-statement.before
    (g.W.Write.contents c.args.out.now) (g.W.Write.contents c.loop-statement.out)
    (rw same at c.loop-statement-test.true) (c.loop-statement.invariant.0 ready) in
    search (rules, ended)

-- the output took no more
pub returns-in_err-print-clause-ended : goal.returns-in_err-print-clause-ended
returns-in_err-print-clause-ended g c = λ ready.
    let setup = c.args.script.now.setup in
    let all = c.args.script.now.statements.items in
    let i = c.loop-statement.statement-index in
    let same = c.deref-statement-items.ensures.value in
    let within = rw same at c.loop-statement-test.true in
    let at = rw same at c.statement-item.is in
    let p = c.loop-statement.invariant.0 ready in
    let names = subst (λ (x : Statement). Names setup.configs x.action) (sym at)
    (ready.named i _ within) in
    let t = c.in_ok-turn.ensures.ran setup p.past p.goes.run names p.goes.rising in
    let ended = ended_in_write c.loop-statement.world c.run_statement.new.world
    setup c.loop-statement.left.items c.run_statement.new.left.items all i _ c.statement-item.result
    c.in_ok-turn.turn c.loop-statement.places.items c.make_text.new.places.items
    c.loop-statement.before c.report-steps.result.now c.behind.result.now
    (string_bytes c.make_text.new.text) _ _ within at p t c.report-steps.ensures.steps
    c.report-steps.ensures.run c.report-steps.ensures.history c.behind.ensures
    c.in_ok-make_text.ensures.places c.in_ok-make_text.ensures.text _
    (rw c.as_bytes.ensures.value at c.in_err-print.ensures.part) in
    search (rules, ended)

-- one statement more
pub loop-statement-preserved : goal.loop-statement-preserved
loop-statement-preserved g c = (
  λ ready.
      let setup = c.args.script.now.setup in
      let all = c.args.script.now.statements.items in
      let i = c.loop-statement.statement-index in
      let same = c.deref-statement-items.ensures.value in
      let within = rw same at c.loop-statement-test.true in
      let at = rw same at c.statement-item.is in
      let p = c.loop-statement.invariant.0 ready in
      let names = subst (λ (x : Statement). Names setup.configs x.action) (sym at)
      (ready.named i _ within) in
      let t = c.in_ok-turn.ensures.ran setup p.past p.goes.run names p.goes.rising in
      rw add-one (prints_more c.loop-statement.world c.run_statement.new.world
      setup c.loop-statement.left.items c.run_statement.new.left.items all i _
      c.statement-item.result c.in_ok-turn.turn c.loop-statement.places.items
      c.make_text.new.places.items c.loop-statement.before c.report-steps.result.now
      c.behind.result.now (string_bytes c.make_text.new.text) _ _ within at p t
      c.report-steps.ensures.steps
      c.report-steps.ensures.run c.report-steps.ensures.history c.behind.ensures
      c.in_ok-make_text.ensures.places c.in_ok-make_text.ensures.text _
      (rw c.as_bytes.ensures.value at c.in_ok-print.ensures.whole)),
  let same = c.deref-statement-items.ensures.value in
      rw add-one (reports_more g.C.Carrier c.args.world.now c.loop-statement.world
      c.run_statement.new.world
      c.loop-statement.left.items c.run_statement.new.left.items
      c.args.script.now.statements.items c.loop-statement.statement-index _
      c.statement-item.result c.in_ok-turn.turn c.loop-statement.places.items
      c.make_text.new.places.items c.loop-statement.before c.report-steps.result.now
      c.behind.result.now (string_bytes c.make_text.new.text) _ _
      (rw same at c.loop-statement-test.true) (rw same at c.statement-item.is)
      c.loop-statement.invariant.1 c.in_ok-turn.ensures.reported c.report-steps.ensures.kept
      c.behind.ensures c.in_ok-make_text.ensures.places c.in_ok-make_text.ensures.text _
      (rw c.as_bytes.ensures.value at c.in_ok-print.ensures.whole)),
)

pub returns-clause-printed : goal.returns-clause-printed
returns-clause-printed g c = λ ready.
    printed c.loop-statement.world c.args.script.now.setup c.loop-statement.left.items _
    c.args.script.now.statements.items c.loop-statement.places.items c.loop-statement.before
    (g.W.Write.contents c.args.out.now) (g.W.Write.contents c.loop-statement.out)
    (take_all c.loop-statement.statement-index c.args.script.now.statements.items
    (rw c.deref-statement-items.ensures.value at c.loop-statement-test.false))
    (c.loop-statement.invariant.0 ready)

-- ---- in any world

pub returns-in_err-turn-clause-reported : goal.returns-in_err-turn-clause-reported
returns-in_err-turn-clause-reported g c =
    let h = g.C.Carrier in
    let all = c.args.script.now.statements.items in
    let i = c.loop-statement.statement-index in
    let same = c.deref-statement-items.ensures.value in
    let at_first = cut_at_first h all i _ c.statement-item.result
    c.loop-statement.left.items c.loop-statement.world c.run_statement.new.world
    (rw same at c.loop-statement-test.true)
    (rw same at c.statement-item.is) (inl c.in_err-turn.ensures.refused) in
    let cut = cut_in_memory h c.args.world.now c.loop-statement.world c.run_statement.new.world
    c.loop-statement.left.items all i
    c.loop-statement.places.items c.loop-statement.before (g.W.Write.contents c.args.out.now)
    (g.W.Write.contents c.loop-statement.out) (rw same at c.loop-statement-test.true)
    c.loop-statement.invariant.1 at_first in
    search (rules, cut)

pub returns-in_err-make_text-clause-reported : goal.returns-in_err-make_text-clause-reported
returns-in_err-make_text-clause-reported g c =
    let h = g.C.Carrier in
    let all = c.args.script.now.statements.items in
    let i = c.loop-statement.statement-index in
    let same = c.deref-statement-items.ensures.value in
    let at_first = cut_at_first h all i _ c.statement-item.result
    c.loop-statement.left.items c.loop-statement.world c.run_statement.new.world
    (rw same at c.loop-statement-test.true)
    (rw same at c.statement-item.is)
    (inr (c.in_ok-turn.turn, c.run_statement.new.left.items, c.in_ok-turn.ensures.reported)) in
    let cut = cut_in_memory h c.args.world.now c.loop-statement.world c.run_statement.new.world
    c.loop-statement.left.items all i
    c.loop-statement.places.items c.loop-statement.before (g.W.Write.contents c.args.out.now)
    (g.W.Write.contents c.loop-statement.out) (rw same at c.loop-statement-test.true)
    c.loop-statement.invariant.1 at_first in
    search (rules, cut)

pub returns-in_err-print-clause-reported : goal.returns-in_err-print-clause-reported
returns-in_err-print-clause-reported g c =
    let same = c.deref-statement-items.ensures.value in
    let cut = cut_in_output g.C.Carrier c.args.world.now c.loop-statement.world
    c.run_statement.new.world
    c.loop-statement.left.items c.run_statement.new.left.items
    c.args.script.now.statements.items c.loop-statement.statement-index _
    c.statement-item.result c.in_ok-turn.turn c.loop-statement.places.items
    c.make_text.new.places.items c.loop-statement.before c.report-steps.result.now
    c.behind.result.now (string_bytes c.make_text.new.text) _ _
    (rw same at c.loop-statement-test.true) (rw same at c.statement-item.is)
    c.loop-statement.invariant.1 c.in_ok-turn.ensures.reported c.report-steps.ensures.kept
    c.behind.ensures c.in_ok-make_text.ensures.places c.in_ok-make_text.ensures.text _
    (rw c.as_bytes.ensures.value at c.in_err-print.ensures.part) in
    search (rules, cut)

pub returns-clause-reported : goal.returns-clause-reported
returns-clause-reported g c =
    all_reported g.C.Carrier c.args.world.now c.loop-statement.world c.loop-statement.left.items _
    c.args.script.now.statements.items
    c.loop-statement.places.items c.loop-statement.before (g.W.Write.contents c.args.out.now)
    (g.W.Write.contents c.loop-statement.out)
    (take_all c.loop-statement.statement-index c.args.script.now.statements.items
    (rw c.deref-statement-items.ensures.value at c.loop-statement-test.false))
    c.loop-statement.invariant.1
