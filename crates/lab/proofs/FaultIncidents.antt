-- The last disks of a run tell the faults of its events.
use Rattle.std.proofs.Common.{◌≡◌, ℕ, zero, suc, List, [], ◌∷◌, ◌++◌, length, map, Option}
use Rattle.std.proofs.Common.{Some, None}
use Rattle.std.proofs.Common.{Bool, true, false, ◌==◌, refl, sym, ap, subst, ◌∙◌, arith, eqb-true}
use Rattle.std.proofs.Common.{inl, inr, ◌⊎◌, length-append}
use Rattle.std.specs.Prelude.{IsSome}
use Rattle.std.proofs.lemmas.Bool.{cases_eq, cond_both, false≢true}
use Rattle.std.proofs.lemmas.List.Elements.{recursion_from_All}
use Rattle.std.specs.List.{AllByRecursion}
use Rattle.kv_types.specs.{Edits, has}
use Rattle.disk.specs.declared.Fault.{Fault}
use Rattle.disk.specs.declared.Junk.{Junk}
use Rattle.disk.specs.declared.Incident.{Incident}
use Rattle.disk.specs.declared.Incident.TheVariants.{Armed, Crashed}
use Rattle.disk.specs.{Incidents, IsLastLeft, IsSame, Slots, State, past_states, struck_call}
use Rattle.configurations.specs.{Configurations, at_epoch}
use Rattle.chain_model.specs as model
use Rattle.chain_model.specs.declared.DropReason.{DropReason}
use Rattle.chain_core.specs.{Machine}
use Rattle.events.specs.declared.EventContent.{EventContent}
use Rattle.events.specs.declared.EventKind.{EventKind}
use Rattle.lab.specs.Disks.{AllFollow, DiskFollows, HasIncidentsOf, junk_at_end, junk_of}
use Rattle.lab.specs.Disks.{incidents_of_event}
use Rattle.lab.specs.Disks.{IsStopOf, before_crash, incidents_of_step}
use Rattle.lab.specs.Disks.{IsDiskOf, past_of_step}
use Rattle.lab.specs.Runs.{IsRun}
use Rattle.lab.specs.Traces.{modelled_from}
use Rattle.lab.specs.declared.report.NodeReport.{NodeReport}
use Rattle.lab.specs.declared.report.Report.{Report}
use Rattle.lab.specs.Events.{modelled}
use Rattle.lab.specs.SimNodes.{Choice, in_memory, incidents, state}
use Rattle.lab.specs.FaultIncidents.{AllWork, AreSame, HasSamePast, HasWorked, IsSameFault}
use Rattle.lab.specs.FaultIncidents.{with_faults}

-- ends of the same length of one list
same_ends : (a c b d : List State) → a ++ b ≡ c ++ d → length b ≡ length d → b ≡ d
same_ends [] [] b d is long = is
same_ends [] (y ∷ c) b d is long =
    let n = ap length is in
    let m = length-append c d in
    absurd (omega (arith, n, m, long))
same_ends (x ∷ a) [] b d is long =
    let n = ap length is in
    let m = length-append a b in
    absurd (omega (arith, n, m, long))
same_ends (x ∷ a) (y ∷ c) b d is long =
    let rest : a ++ b ≡ c ++ d = cc in
    same_ends a c b d rest long

-- the incidents of a step
worked_so : (event : EventContent) (choice : Choice) (o : model.Outcome Edits) (n : Machine)
    (old new : Slots) → DiskFollows in_memory event choice o n old new →
    HasWorked event.kind o n → incidents new ≡ incidents_of_step event.fault choice.struck o.stopped
    (length (past_states old)) (length (past_of_step o.stopped (past_states new))) (incidents old)
worked_so event choice o n old new follows works = by follows.occurred
  where
    IsSo : Type 0
    IsSo = incidents new ≡ incidents_of_step event.fault choice.struck o.stopped
        (length (past_states old)) (length (past_of_step o.stopped (past_states new)))
        (incidents old)

    so : (junk : Option Junk) → junk ≡ None →
        incidents new ≡ incidents_of_event junk event.fault choice.struck o.stopped
        (length (past_states old)) (length (past_of_step o.stopped (past_states new)))
        (incidents old) → IsSo
    so None none is = is
    so (Some junk) none is = absurd cc

    rests_not : (o.stopped ≡ false) → (n.running ≡ false) ⊎ IsSome o.dropped →
        (o.stopped ≡ true) ⊎ ((n.running ≡ true) × (o.dropped ≡ None)) → ⊥
    rests_not goes may (inl stops) = false≢true (sym goes ∙ stops)
    rests_not goes (inl off) (inr took) = false≢true (sym off ∙ took.0)
    rests_not goes (inr dropped) (inr took) =
        false≢true (subst (λ (d : Option DropReason). IsSome d) took.1 dropped)

    by : HasIncidentsOf state past_states incidents ((n.running ≡ false) ⊎ IsSome o.dropped)
        (junk_of event.kind) event.fault choice.struck o.stopped old new → IsSo
    by (inl rests) = absurd (rests_not rests.1 rests.0 works.took)
    by (inr occurred) = so (junk_of event.kind) works.no_stop occurred.occurred

-- two lists of the incidents of a step that are one list
incidents_told : (it other : Fault) (struck stopped : Bool) (before before' now now' : ℕ)
    (old old' : Incidents) → incidents_of_step it struck stopped before now old
    ≡ incidents_of_step other struck stopped before' now' old' →
    IsSameFault it other struck stopped × (before ≡ before') × (old ≡ old')
incidents_told it other struck false before before' now now' old old' same =
    let first : (before, Armed (struck_call it)) ≡ (before', Armed (struck_call other)) = cc in
    let armed : Armed (struck_call it) ≡ Armed (struck_call other) =
    ap (λ (m : ℕ × Incident). m.1) first in
    let rest : old ≡ old' = cc in (
      record { call = cc; junk = λ e. absurd (false≢true e) },
      ap (λ (m : ℕ × Incident). m.0) first,
      rest,
    )
incidents_told it other struck true before before' now now' old old' same =
    let end : (now, Crashed (junk_at_end it struck)) ≡ (now', Crashed (junk_at_end other struck)) =
    cc in
    let crashed : Crashed (junk_at_end it struck) ≡ Crashed (junk_at_end other struck) =
    ap (λ (m : ℕ × Incident). m.1) end in
    let junk : junk_at_end it struck ≡ junk_at_end other struck = cc in
    let first : (before, Armed (struck_call it)) ≡ (before', Armed (struck_call other)) = cc in
    let armed : Armed (struck_call it) ≡ Armed (struck_call other) =
    ap (λ (m : ℕ × Incident). m.1) first in
    let call : struck_call it ≡ struck_call other = cc in
    let rest : old ≡ old' = cc in (
      record { call = call; junk = λ _. junk },
      ap (λ (m : ℕ × Incident). m.0) first,
      rest,
    )

-- one step
step_told : (event event' : EventContent) (choice : Choice) (o : model.Outcome Edits)
    (n : Machine)
    (old old' new new' : Slots) →
    DiskFollows in_memory event choice o n old new →
    DiskFollows in_memory event' choice o n old' new' →
    HasWorked event.kind o n → HasWorked event'.kind o n → HasSamePast new new' →
    IsSameFault event.fault event'.fault choice.struck o.stopped × HasSamePast old old'
step_told event event' choice o n old old' new new' a b works works' same =
    let all = sym (worked_so event choice o n old new a works) ∙ same.occurred
    ∙ worked_so event' choice o n old' new' b works' in
    let told = incidents_told event.fault event'.fault choice.struck o.stopped
    (length (past_states old)) (length (past_states old'))
    (length (past_of_step o.stopped (past_states new)))
    (length (past_of_step o.stopped (past_states new'))) (incidents old) (incidents old') all in (
      told.0,
      record {
        occurred = told.2;
        past = same_ends a.grows.0 b.grows.0 (past_states old) (past_states old')
            (sym a.grows.1 ∙ same.past ∙ b.grows.1) told.1;
      },
    )

-- all of them
told : (cs : Configurations) (i : ℕ) (kinds : List EventKind) (f f' : ℕ → Fault)
    (choices : List Choice) (w : model.SystemState Edits)
    (first first' disks disks' : ℕ → Slots) → AllWork cs i kinds choices w →
    AllFollow in_memory cs i (with_faults f kinds) choices w first disks →
    AllFollow in_memory cs i (with_faults f' kinds) choices w first' disks' →
    ((x : ℕ) → has (at_epoch cs 0) x ≡ true → disks x ≡ disks' x) →
    AreSame cs i f f' kinds choices w
    × ((x : ℕ) → has (at_epoch cs 0) x ≡ true → HasSamePast (first x) (first' x))
told cs i [] f f' choices w first first' disks disks' works a b same = (
  tt,
  λ x there. subst (λ (d : ℕ → Slots). HasSamePast (d x) (first' x)) a
      (subst (λ (d : ℕ → Slots). HasSamePast (disks x) (d x)) b
      (subst (λ (d : Slots). HasSamePast (disks x) d) (same x there)
      (record { occurred = refl; past = refl }))),
)
told cs i (kind ∷ kinds) f f' [] w first first' disks disks' works a b same = absurd a
told cs i (kind ∷ kinds) f f' (choice ∷ choices) w first first' disks disks' works a b same =
    let o = model.outcome w cs (modelled i kind choice) in
    let event : EventContent = record { kind = kind; fault = f zero } in
    let event' : EventContent = record { kind = kind; fault = f' zero } in
    let later = told cs (suc i) kinds (λ j. f (suc j)) (λ j. f' (suc j)) choices (model.after w o)
    a.0 b.0 disks disks' works.1 a.2 b.2 same in
    let x = works.0.0 in
    let n = works.0.1 in
    let came : o.acted_on ≡ Some (x, n) = works.0.2 in
    let here = step_told event event' choice o n (first x) (first' x) (a.0 x) (b.0 x)
    (a.1.at x n came) (b.1.at x n came) works.0.3 works.0.3 (later.1 x works.0.4) in (
      (here.0, later.0),
      λ y there. elim (cases_eq y x) [
        | inl is ↦ subst (λ (z : ℕ). HasSamePast (first z) (first' z)) (sym is) here.1
        | inr other ↦
            let none : (m : Machine) → o.acted_on ≡ Some (y, m) → ⊥ = λ m at.
            let both : Some (x, n) ≡ Some (y, m) = sym came ∙ at in
            let pair : (x, n) ≡ (y, m) = cc in
            other (sym (ap (λ (q : ℕ × Machine). q.0) pair)) in
            subst (λ (d : Slots). HasSamePast (first y) d) (b.1.others y none)
            (subst (λ (d : Slots). HasSamePast d (b.0 y)) (a.1.others y none) (later.1 y there))
      ],
    )

-- ---- of a report

-- disks of the same nodes are the same
same_of : (disks disks' : ℕ → Slots) (nodes : List NodeReport) →
    AllByRecursion (λ (node : NodeReport). disks node.id ≡ disks' node.id) nodes → (x : ℕ) →
    has (map (λ (node : NodeReport). node.id) nodes) x ≡ true → disks x ≡ disks' x
same_of disks disks' [] all x there = absurd (false≢true there)
same_of disks disks' (node ∷ nodes) all x there =
    cond_both (node.id == x) true (has (map (λ (node : NodeReport). node.id) nodes) x)
    (λ b. b ≡ true → disks x ≡ disks' x)
    (λ same e. subst (λ (y : ℕ). disks y ≡ disks' y) (eqb-true node.id x same) all.0)
    (λ other e. same_of disks disks' nodes all.1 x e) there

both_have : (disks disks' : ℕ → Slots) (P P' : NodeReport → Type 0) (nodes : List NodeReport) →
    ((node : NodeReport) → P node → node.disk ≡ disks node.id) →
    ((node : NodeReport) → P' node → node.disk ≡ disks' node.id) →
    AllByRecursion P nodes → AllByRecursion P' nodes →
    AllByRecursion (λ (node : NodeReport). disks node.id ≡ disks' node.id) nodes
both_have disks disks' P P' [] p p' all all' = tt
both_have disks disks' P P' (node ∷ nodes) p p' all all' = (
  sym (p node all.0) ∙ p' node all'.0,
  both_have disks disks' P P' nodes p p' all.1 all'.1,
)

pub faults_told : (cs : Configurations) (kinds : List EventKind) (f f' : ℕ → Fault)
    (choices : List Choice) (report : Report) →
    AllWork cs 1 kinds choices (model.first_state cs) →
    IsRun cs (with_faults f kinds) choices report →
    IsRun cs (with_faults f' kinds) choices report →
    AreSame cs 1 f f' kinds choices (model.first_state cs)
faults_told cs kinds f f' choices report works run run' =
    let nodes = report.nodes.items in
    let P : (events : List EventContent) → (ℕ → Slots) → NodeReport → Type 0 = λ events disks node.
    IsDiskOf state node.id (model.node_of cs (modelled_from 1 events choices) node.id) node.disk
    (disks node.id) in
    let one = P (with_faults f kinds) run.disks.disks in
    let other = P (with_faults f' kinds) run'.disks.disks in
    let same = both_have run.disks.disks run'.disks.disks one other nodes (λ node is. is.same)
    (λ node is. is.same) (recursion_from_All one nodes run.disks.each)
    (recursion_from_All other nodes run'.disks.each) in
    (told cs 1 kinds f f' choices (model.first_state cs) run.disks.after.first
    run'.disks.after.first run.disks.disks run'.disks.disks works run.disks.after.follow
    run'.disks.after.follow (λ x there. same_of run.disks.disks run'.disks.disks nodes same x
    (subst (λ (ids : List ℕ). has ids x ≡ true) (sym run.disks.ids) there))).0

-- ---- stop events

-- the incident of a stop event, and the past that its disk had
stop_incidents : (event : EventContent) (choice : Choice) (o : model.Outcome Edits)
    (n : Machine) (junk : Junk) (old new : Slots) → junk_of event.kind ≡ Some junk →
    o.stopped ≡ true → DiskFollows in_memory event choice o n old new →
    (incidents new ≡ (length (past_states old), Crashed junk) ∷ incidents old)
    × (past_states old ≡ before_crash (past_states new))
stop_incidents event choice o n junk old new is stops follows =
    let crashed = subst (λ (j : Option Junk).
    IsStopOf in_memory j event.fault choice
    old new) is (follows.stops stops) in
    let past : past_states old ≡ before_crash (past_states new) =
    ap (λ (l : List State). before_crash l) (sym crashed.moment.2) in
    (by past follows.occurred, past)
  where
    so : (junk' : Option Junk) (stopped : Bool) → junk' ≡ Some junk → stopped ≡ true →
        past_states old ≡ before_crash (past_states new) →
        incidents new ≡ incidents_of_event junk' event.fault choice.struck stopped
        (length (past_states old)) (length (past_of_step stopped (past_states new)))
        (incidents old) → incidents new ≡ (length (past_states old), Crashed junk) ∷ incidents old
    so None stopped same goes past occurred = absurd cc
    so (Some other) false same goes past occurred = absurd (false≢true goes)
    so (Some other) true same goes past occurred =
        let this : other ≡ junk = cc in
        occurred
        ∙ ap (λ (j : Junk). (length (before_crash (past_states new)), Crashed j) ∷ incidents old)
        this
        ∙ ap (λ (l : List State). (length l, Crashed junk) ∷ incidents old) (sym past)

    by : past_states old ≡ before_crash (past_states new) →
        HasIncidentsOf state past_states incidents ((n.running ≡ false) ⊎ IsSome o.dropped)
        (junk_of event.kind) event.fault choice.struck o.stopped old new →
        incidents new ≡ (length (past_states old), Crashed junk) ∷ incidents old
    by past (inl rests) = absurd (false≢true (sym rests.1 ∙ stops))
    by past (inr occurred) = so (junk_of event.kind) o.stopped is stops past occurred.occurred

-- the latest of one list is one state
same_state : (a b : List State) (s t : State) → a ≡ b → IsLastLeft a s → IsLastLeft b t → IsSame s t
same_state a [] s t same left other = absurd other
same_state a (now ∷ before) s t same left other =
    let first = subst (λ (l : List State). IsLastLeft l s) same left in
    λ file. other file ∙ sym (first file)

pub stops_told : (event event' : EventContent) (choice choice' : Choice)
    (o : model.Outcome Edits)
    (n : Machine) (junk junk' : Junk) (old old' new : Slots) → junk_of event.kind ≡ Some junk →
    junk_of event'.kind ≡ Some junk' → o.stopped ≡ true →
    DiskFollows in_memory event choice o n old new →
    DiskFollows in_memory event' choice' o n old' new →
    IsLastLeft (past_states old) (state old) → IsLastLeft (past_states old') (state old') →
    (junk ≡ junk') × HasSamePast old old' × IsSame (state old) (state old')
stops_told event event' choice choice' o n junk junk' old old' new is is' stops a b last last' =
    let one = stop_incidents event choice o n junk old new is stops a in
    let other = stop_incidents event' choice' o n junk' old' new is' stops b in
    let past : past_states old ≡ past_states old' = one.1 ∙ sym other.1 in
    let all : (length (past_states old), Crashed junk) ∷ incidents old
    ≡ (length (past_states old'), Crashed junk') ∷ incidents old' = sym one.0 ∙ other.0 in
    let first : (length (past_states old), Crashed junk) ≡
    (length (past_states old'), Crashed junk')
    = cc in
    let crashed : Crashed junk ≡ Crashed junk' = ap (λ (m : ℕ × Incident). m.1) first in
    let same : junk ≡ junk' = cc in
    let rest : incidents old ≡ incidents old' = cc in (
      same,
      record { occurred = rest; past = past },
      same_state (past_states old) (past_states old') (state old) (state old') past last last',
    )
