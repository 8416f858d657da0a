use Rattle.std.proofs.Common.{◌++◌, ◌∙◌, add-one, arith, refl, rules, subst, sym}
use Rattle.lab.specs.NodeLists.{Configurations}
use Rattle.lab.specs.{lines_so_far}
use Rattle.scripts.specs.Scripts.{Names}
use Rattle.client.specs.ScriptRuns.{followed_by, tending}
use Rattle.client.proofs.RunsActions.{runs_more, runs_none, settle_cut}
use Rattle.client.proofs.PlacesBetween.{leaves_none, leaves_on}
use Rattle.client.proofs.Settling.{settles_none, settles_on, settled, settled_most}
use Rattle.client.proofs.Tends.{none_worked, settled_at_bound, settled_now, worked_more}
use Rattle.client.proofs.ReportedLemmas.{adds_more, adds_nothing}
use Rattle.scripts.specs.declared.statement.Action.TheVariants.{Settle}
use Rattle.client.proofs.script_run.settle.Goals as goal

-- no tend yet
pub loop-count-init : goal.loop-count-init
loop-count-init g c = (
  λ setup past run named.
      settles_none c.args.world.now setup past c.args.node c.args.left.now.items run,
  (omega arith, adds_nothing (Settle c.args.node) c.args.world.now),
  λ named. none_worked (lines_so_far c.args.world.now),
  leaves_none c.args.world.now c.args.left.now.items,
  runs_none g.C.Carrier (Settle c.args.node) c.args.world.now,
)

-- a tend did not work
pub returns-then-not-tend_has_worked-clause-ran : goal.returns-then-not-tend_has_worked-clause-ran
returns-then-not-tend_has_worked-clause-ran g c = λ setup past run named.
    let s = c.loop-count.invariant.0 setup past run named in
    let gave = c.in_ok-happen.ensures.ran setup (followed_by past s.own) s.run named in
    rw add-one (settled setup past c.args.node c.args.left.now.items c.loop-count.world
    c.happen.new.world c.loop-count.left.items c.happen.new.left.items
    c.loop-count.count s (omega (arith, c.loop-count-test.true)) gave.0 gave.1 gave.2 gave.3
    (sym (c.tend_has_worked.ensures (past.steps ++ s.own.steps) gave.1 gave.2.run.kept)
    ∙ c.if-not-tend_has_worked.true))

pub loop-count-preserved : goal.loop-count-preserved
loop-count-preserved g c = (
  λ setup past run named.
      let s = c.loop-count.invariant.0 setup past run named in
      let gave = c.in_ok-happen.ensures.ran setup (followed_by past s.own) s.run named in
      rw add-one (settles_on setup past c.args.node c.args.left.now.items c.loop-count.world
      c.happen.new.world c.loop-count.left.items c.happen.new.left.items
      c.loop-count.count s (omega (arith, c.loop-count-test.true)) gave.0 gave.1 gave.2 gave.3
      (sym (c.tend_has_worked.ensures (past.steps ++ s.own.steps) gave.1 gave.2.run.kept)
      ∙ c.if-not-tend_has_worked.false)),
  (
    omega (arith, c.loop-count-test.true),
    adds_more (Settle c.args.node) c.args.world.now c.loop-count.world c.happen.new.world
        c.loop-count.count c.loop-count.invariant.1.1 c.in_ok-happen.ensures.steps.adds,
  ),
  λ named.
      let adds = c.in_ok-happen.ensures.steps.adds in
      let here = subst (λ (cs : Configurations). Names cs (Settle c.args.node))
      (sym c.loop-count.invariant.1.1.configs) named in
      worked_more (lines_so_far c.args.world.now) (lines_so_far c.loop-count.world)
      (lines_so_far c.happen.new.world) adds.more c.loop-count.count
      (c.loop-count.invariant.2 named) adds.added (adds.each here)
      (omega (arith, c.loop-count-test.true)) c.tend_has_worked.result c.tend_has_worked.ensures
      c.if-not-tend_has_worked.false,
  leaves_on c.args.world.now c.loop-count.world c.happen.new.world c.args.left.now.items
      c.loop-count.left.items c.happen.new.left.items c.loop-count.count (tending c.args.node)
      c.loop-count.invariant.3 c.in_ok-happen.ensures.steps.adds c.in_ok-happen.ensures.left,
  runs_more g.C.Carrier (Settle c.args.node) c.args.world.now c.loop-count.world
      c.happen.new.world c.loop-count.count (tending c.args.node) c.loop-count.invariant.4 refl
      c.in_ok-happen.ensures.steps,
)

-- the bound is reached
pub returns-clause-ran : goal.returns-clause-ran
returns-clause-ran g c = λ setup past run named.
    settled_most c.loop-count.world setup past c.args.node c.args.left.now.items
    c.loop-count.left.items c.loop-count.count (c.loop-count.invariant.0 setup past run named)
    (omega (arith, c.loop-count-test.false))

pub returns-then-not-tend_has_worked-clause-adds : goal.returns-then-not-tend_has_worked-clause-adds
returns-then-not-tend_has_worked-clause-adds g c = (
  omega (arith, c.loop-count-test.true),
  adds_more (Settle c.args.node) c.args.world.now c.loop-count.world c.happen.new.world
      c.loop-count.count c.loop-count.invariant.1.1 c.in_ok-happen.ensures.steps.adds,
)

pub returns-clause-adds : goal.returns-clause-adds
returns-clause-adds g c = c.loop-count.invariant.1

-- ---- its lines in any world

pub returns-then-not-tend_has_worked-clause-tends
    : goal.returns-then-not-tend_has_worked-clause-tends
returns-then-not-tend_has_worked-clause-tends g c = λ named.
    let adds = c.in_ok-happen.ensures.steps.adds in
    let here = subst (λ (cs : Configurations). Names cs (Settle c.args.node))
    (sym c.loop-count.invariant.1.1.configs) named in
    settled_now (lines_so_far c.args.world.now) (lines_so_far c.loop-count.world)
    (lines_so_far c.happen.new.world) adds.more c.loop-count.count
    (c.loop-count.invariant.2 named) adds.added (adds.each here)
    (omega (arith, c.loop-count-test.true)) c.tend_has_worked.result c.tend_has_worked.ensures
    c.if-not-tend_has_worked.true

pub returns-clause-tends : goal.returns-clause-tends
returns-clause-tends g c = λ named.
    settled_at_bound (lines_so_far c.args.world.now) (lines_so_far c.loop-count.world)
    c.loop-count.count (c.loop-count.invariant.2 named) c.loop-count.invariant.1.0
    (omega (arith, c.loop-count-test.false))

-- ---- what is left in any world

pub returns-then-not-tend_has_worked-clause-left : goal.returns-then-not-tend_has_worked-clause-left
returns-then-not-tend_has_worked-clause-left g c =
    let l = leaves_on c.args.world.now c.loop-count.world c.happen.new.world
    c.args.left.now.items c.loop-count.left.items c.happen.new.left.items c.loop-count.count
    (tending c.args.node) c.loop-count.invariant.3 c.in_ok-happen.ensures.steps.adds
    c.in_ok-happen.ensures.left in
    (l.stays, l.behind)

pub returns-clause-left : goal.returns-clause-left
returns-clause-left g c = (c.loop-count.invariant.3.stays, c.loop-count.invariant.3.behind)

-- ---- its events in any world

pub returns-then-not-tend_has_worked-clause-runs : goal.returns-then-not-tend_has_worked-clause-runs
returns-then-not-tend_has_worked-clause-runs g c =
    runs_more g.C.Carrier (Settle c.args.node) c.args.world.now c.loop-count.world
    c.happen.new.world c.loop-count.count (tending c.args.node) c.loop-count.invariant.4 refl
    c.in_ok-happen.ensures.steps

pub returns-clause-runs : goal.returns-clause-runs
returns-clause-runs g c = c.loop-count.invariant.4

-- memory is wanted behind some tends
pub returns-in_err-happen-clause-refused : goal.returns-in_err-happen-clause-refused
returns-in_err-happen-clause-refused g c =
    let cut = settle_cut g.C.Carrier c.args.node c.args.world.now c.loop-count.world
    c.happen.new.world c.args.left.now.items c.loop-count.count
    (omega (arith, c.loop-count-test.true)) c.loop-count.invariant.4 c.loop-count.invariant.2
    c.in_err-happen.ensures.refused in
    search (rules, cut)
