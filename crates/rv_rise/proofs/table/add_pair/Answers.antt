use Rattle.std.proofs.Common.{pos, negsuc, arith}
use Rattle.rv_rise.proofs.Tabling.{pair_added, both_long}
use Rattle.rv_rise.proofs.table.add_pair.Goals as goal

pub returns-clause-after : goal.returns-clause-after
returns-clause-after c =
    pair_added c.args.memories c.args.first c.args.second c.requires.order c.requires.known c.requires.few c.args.sides.now c.add_signs.new.sides
    c.add_signs-2.new.sides c.requires.before c.in_ok-add_signs.ensures c.in_ok-add_signs-2.ensures

pub returns-clause-count : goal.returns-clause-count
returns-clause-count c =
    let first = both_long c.args.memories c.args.first (pos 1) c.args.second c.args.sides.now c.add_signs.new.sides c.in_ok-add_signs.ensures in
    let second = both_long c.args.memories c.args.first (negsuc 0) c.args.second c.add_signs.new.sides c.add_signs-2.new.sides c.in_ok-add_signs-2.ensures in
    omega (arith, first, second)
