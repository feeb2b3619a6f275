use Rattle.std.proofs.Common.{◌+◌, length, Some, None}
use Rattle.rv_seek.specs.Sides.{IsOther, IsTable}
use Rattle.rv_seek.proofs.LeastLemmas.{least_at-none, least_at-some, pair_sides, shown_of, part_of, part_old}
use Rattle.rv_seek.proofs.least.with_place.Goals as goal

pub returns-in-Some-clause-shown : goal.returns-in-Some-clause-shown
returns-in-Some-clause-shown c =
    let table : IsTable c.args.premises.now (length c.write_rest.new.rest.items) (length c.args.premises.now + 2) c.args.sides.now =
    rw c.in_ok-write_rest.ensures.length c.requires.prepared.table in
    let o : IsOther c.args.premises.now (length c.args.premises.now + 2) c.write_rest.new.rest.items c.args.place (Some c.in-Some.other) = c.in-Some.ensures
    c.args.premises.now (length c.args.premises.now + 2) table in
    shown_of c.args.premises.now c.args.wanted.now c.args.best c.lesser.result c.pair_of-pair.result c.requires.best
    (c.pair_of-pair.ensures.sums c.args.wanted.now
    (pair_sides c.args.premises.now c.args.wanted.now c.write_rest.new.rest.items (length c.args.premises.now + 2) c.args.place c.args.best
    c.in_ok-write_rest.ensures.rest c.in-Some.other o))
    c.lesser.ensures.kept

pub returns-in-Some-clause-here : goal.returns-in-Some-clause-here
returns-in-Some-clause-here c =
    let table : IsTable c.args.premises.now (length c.write_rest.new.rest.items) (length c.args.premises.now + 2) c.args.sides.now =
    rw c.in_ok-write_rest.ensures.length c.requires.prepared.table in
    let o : IsOther c.args.premises.now (length c.args.premises.now + 2) c.write_rest.new.rest.items c.args.place (Some c.in-Some.other) = c.in-Some.ensures
    c.args.premises.now (length c.args.premises.now + 2) table in
    least_at-some c.args.premises.now c.args.wanted.now c.write_rest.new.rest.items (length c.args.premises.now + 2) c.args.place c.args.best
    c.in_ok-write_rest.ensures.rest c.in-Some.other o
    c.lesser.result (rw c.pair_of-pair.ensures.bound at c.lesser.ensures.other)

pub returns-in-None-clause-here : goal.returns-in-None-clause-here
returns-in-None-clause-here c =
    let table : IsTable c.args.premises.now (length c.write_rest.new.rest.items) (length c.args.premises.now + 2) c.args.sides.now =
    rw c.in_ok-write_rest.ensures.length c.requires.prepared.table in
    let o : IsOther c.args.premises.now (length c.args.premises.now + 2) c.write_rest.new.rest.items c.args.place None = c.in-None.ensures c.args.premises.now
    (length c.args.premises.now + 2) table in
    least_at-none c.args.premises.now c.args.wanted.now c.write_rest.new.rest.items (length c.args.premises.now + 2) c.args.place c.args.best
    c.in_ok-write_rest.ensures.rest o

pub returns-in-Some-clause-part : goal.returns-in-Some-clause-part
returns-in-Some-clause-part c = part_of c.args.place c.args.best c.lesser.result c.pair_of-pair.result c.pair_of-pair.ensures.part c.lesser.ensures.kept

pub returns-in-None-clause-part : goal.returns-in-None-clause-part
returns-in-None-clause-part c = part_old c.args.place c.args.best
