use Rattle.std.proofs.Common.{rules, FitsSigned}
use Rattle.std.proofs.{lemmas.Int.to_z-of_z}
use Rattle.std.specs.Int.{w128}
use Rattle.rv_pairs.proofs.Hinting.{hold_where}
use Rattle.rv_pairs.proofs.rising.holds.Goals as goal

pub returns-clause-exact : goal.returns-clause-exact
returns-clause-exact c =
    let limit_fits : FitsSigned w128 c.args.limit = search rules in
    let constant_fits : FitsSigned w128 c.args.constant = search rules in
    let room_fits : FitsSigned w128 c.room_left-room.result = search rules in
    let is = simp to_z-of_z at c.room_left-room.ensures in
    let exact = simp to_z-of_z at c.in_ok-rest.ensures.exact in
    hold_where c.args.store.now.nodes c.left_by.new.store.nodes c.args.inside c.in_ok-rest.rest c.args.hints.now c.args.constant c.room_left-room.result
    c.args.limit c.is_false.result is c.is_false.ensures exact
