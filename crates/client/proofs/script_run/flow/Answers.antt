use Rattle.std.proofs.Common.{ℕ, List, subst, add-one, arith, inl, inr, refl, rules}
use Rattle.client.specs.ScriptRuns.{delivery, followed_by}
use Rattle.client.proofs.Flowing.{Flows, flows_none, flows_on, flowed_all, flowed_most, emptied}
use Rattle.client.proofs.PlacesBetween.{Delivers, delivered_all, delivered_most, delivers_none}
use Rattle.client.proofs.PlacesBetween.{delivers_next, delivers_on}
use Rattle.client.proofs.ReportedLemmas.{adds_delivery, adds_more, adds_nothing}
use Rattle.client.proofs.RunsActions.{flow_cut, runs_more, runs_none}
use Rattle.scripts.specs.declared.statement.Action.TheVariants.{Flow}
use Rattle.client.proofs.script_run.flow.Goals as goal

-- no_stretch is delivered yet
pub loop-count-init : goal.loop-count-init
loop-count-init g c = (
  λ setup past run. flows_none c.args.world.now setup past c.args.left.now.items run,
  (omega arith, adds_nothing Flow c.args.world.now),
  delivers_none c.args.world.now c.args.left.now.items,
  runs_none g.C.Carrier Flow c.args.world.now,
)

pub returns-in_default-clause-ran : goal.returns-in_default-clause-ran
returns-in_default-clause-ran g c = λ setup past run.
    let world = c.loop-count.world in
    let old = c.args.left.now.items in
    let new = c.pop_front.new.self.items in
    let count = c.loop-count.count in
    let f = subst (λ (l : List ℕ). Flows g.C.Carrier world setup past old l count)
    c.in_default.ensures.items (c.loop-count.invariant.0 setup past run) in
    flowed_all world setup past old new count f
    (emptied c.loop-count.left.items new c.in_default.ensures.items
    c.in_default.ensures.rest)

pub loop-count-preserved : goal.loop-count-preserved
loop-count-preserved g c = (
  λ setup past run.
      let f = c.loop-count.invariant.0 setup past run in
      let gave = c.in_ok-happen.ensures.ran setup (followed_by past f.own) f.run tt in
      rw add-one (flows_on setup past c.args.left.now.items c.loop-count.world
      c.happen.new.world c.loop-count.left.items c.pop_front.new.self.items
      c.happen.new.left.items c.loop-count.count c.in-Some.place f c.in-Some.ensures.items
      (omega (arith, c.loop-count-test.true)) gave.0 gave.1 gave.2 gave.3),
  (
    omega (arith, c.loop-count-test.true),
    adds_more Flow c.args.world.now c.loop-count.world c.happen.new.world
        c.loop-count.count c.loop-count.invariant.1.1
        (adds_delivery c.in-Some.place c.loop-count.world c.happen.new.world
        c.in_ok-happen.ensures.steps.adds),
  ),
  rw add-one (delivers_on c.args.world.now c.loop-count.world c.happen.new.world
      c.args.left.now.items c.loop-count.left.items c.pop_front.new.self.items
      c.happen.new.left.items c.loop-count.count c.in-Some.place c.loop-count.invariant.2
      c.in-Some.ensures.items c.in_ok-happen.ensures.steps.adds c.in_ok-happen.ensures.left),
  runs_more g.C.Carrier Flow c.args.world.now c.loop-count.world c.happen.new.world
      c.loop-count.count (delivery c.in-Some.place) c.loop-count.invariant.3
      (c.in-Some.place, refl) c.in_ok-happen.ensures.steps,
)

pub returns-clause-ran : goal.returns-clause-ran
returns-clause-ran g c = λ setup past run.
    flowed_most c.loop-count.world setup past c.args.left.now.items
    c.loop-count.left.items c.loop-count.count (c.loop-count.invariant.0 setup past run)
    (omega (arith, c.loop-count-test.false))

pub returns-in_default-clause-adds : goal.returns-in_default-clause-adds
returns-in_default-clause-adds g c = (
  c.loop-count.invariant.1.0,
  c.loop-count.invariant.1.1,
  inl (emptied c.loop-count.left.items c.pop_front.new.self.items c.in_default.ensures.items
      c.in_default.ensures.rest),
)

pub returns-clause-adds : goal.returns-clause-adds
returns-clause-adds g c = (
  c.loop-count.invariant.1.0,
  c.loop-count.invariant.1.1,
  inr (omega (arith, c.loop-count.invariant.1.0, c.loop-count-test.false)),
)

-- ---- what it delivers in any world

pub returns-in_default-clause-delivers : goal.returns-in_default-clause-delivers
returns-in_default-clause-delivers g c =
    let new = c.pop_front.new.self.items in
    let d = subst (λ (l : List ℕ). Delivers c.args.world.now c.loop-count.world
    c.args.left.now.items l c.loop-count.count) c.in_default.ensures.items c.loop-count.invariant.2
    in (
      d.stays,
      delivered_all c.args.world.now c.loop-count.world c.args.left.now.items new
          c.loop-count.count d (emptied c.loop-count.left.items new c.in_default.ensures.items
          c.in_default.ensures.rest) c.loop-count.invariant.1.0,
    )

pub returns-clause-delivers : goal.returns-clause-delivers
returns-clause-delivers g c = (
  c.loop-count.invariant.2.stays,
  delivered_most c.args.world.now c.loop-count.world c.args.left.now.items
      c.loop-count.left.items c.loop-count.count c.loop-count.invariant.2
      c.loop-count.invariant.1.0 (omega (arith, c.loop-count-test.false)),
)

-- ---- its events in any world

pub returns-in_default-clause-runs : goal.returns-in_default-clause-runs
returns-in_default-clause-runs g c = c.loop-count.invariant.3

pub returns-clause-runs : goal.returns-clause-runs
returns-clause-runs g c = c.loop-count.invariant.3

-- memory is wanted behind some of them
pub returns-in_err-happen-clause-refused : goal.returns-in_err-happen-clause-refused
returns-in_err-happen-clause-refused g c =
    let order = delivers_next c.args.world.now c.loop-count.world c.args.left.now.items
    c.loop-count.left.items c.pop_front.new.self.items c.loop-count.count c.in-Some.place
    c.loop-count.invariant.2 c.in-Some.ensures.items in
    let cut = flow_cut g.C.Carrier c.args.world.now c.loop-count.world c.happen.new.world
    c.args.left.now.items c.loop-count.count c.in-Some.place
    (omega (arith, c.loop-count-test.true)) c.loop-count.invariant.3 order
    c.in_err-happen.ensures.refused in
    search (rules, cut)
