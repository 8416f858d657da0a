use Rattle.memtable.proofs.Seeks.{seek_found, seek_newer, seek_none, placed_at}
use Rattle.memtable.proofs.place.from.Goals as goal

pub returns-in-Some-last_up_to-clause-placed : goal.returns-in-Some-last_up_to-clause-placed
returns-in-Some-last_up_to-clause-placed c rising = placed_at c.args.map.now c.args.key.now _
    c.args.number c.in-Some.ensures.same_key c.in-Some.ensures.value rising
    c.in-Some-last_up_to.ensures

pub returns-in-Some-last_up_to-clause-first : goal.returns-in-Some-last_up_to-clause-first
returns-in-Some-last_up_to-clause-first c rising = seek_found c.args.map.now c.args.key.now
    c.in-Some.stored.now c.in-Some.versions.now c.in-Some-last_up_to.at c.args.number
    c.in-Some.ensures.same_key c.in-Some.ensures.value rising c.in-Some-last_up_to.ensures

pub returns-in-None-last_up_to-clause-first : goal.returns-in-None-last_up_to-clause-first
returns-in-None-last_up_to-clause-first c rising = seek_newer c.args.map.now c.args.key.now
    c.in-Some.versions.now c.args.number _ c.in-Some.ensures.value rising
    c.in-None-last_up_to.ensures (c.front.ensures.first rising)

pub returns-in-None-clause-first : goal.returns-in-None-clause-first
returns-in-None-clause-first c rising = seek_none c.args.map.now c.args.key.now c.args.number _
    c.in-None.ensures.value (c.front-in-None.ensures.first rising)
