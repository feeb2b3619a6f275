use Rattle.std.proofs.Common.{◌<◌, pos, arith, inl, inr, refl}
use Rattle.rv_rise.proofs.Tabling.{column_added, column_done, both_long}
use Rattle.rv_rise.proofs.table.add_column.Goals as goal

pub add_pairs-requires-clause-before : goal.add_pairs-requires-clause-before
add_pairs-requires-clause-before c = column_added c.args.memories c.args.column c.args.sides.now c.add_signs.new.sides c.requires.known c.requires.before
    c.in_ok-add_signs.ensures

pub returns-then-memories-gt-MOST_IN_PAIRS-clause-after : goal.returns-then-memories-gt-MOST_IN_PAIRS-clause-after
returns-then-memories-gt-MOST_IN_PAIRS-clause-after c =
    let many : 22 < c.args.memories = omega (arith, c.if-memories-gt-MOST_IN_PAIRS.true) in
    column_done c.args.memories c.args.column 0 c.add_signs.new.sides (inl many)
    (column_added c.args.memories c.args.column c.args.sides.now c.add_signs.new.sides c.requires.known c.requires.before c.in_ok-add_signs.ensures)

pub returns-then-memories-gt-MOST_IN_PAIRS-clause-alone : goal.returns-then-memories-gt-MOST_IN_PAIRS-clause-alone
returns-then-memories-gt-MOST_IN_PAIRS-clause-alone c l = both_long c.args.memories c.args.column (pos 1) c.args.column c.args.sides.now c.add_signs.new.sides
    c.in_ok-add_signs.ensures

pub returns-clause-after : goal.returns-clause-after
returns-clause-after c = column_done c.args.memories c.args.column c.args.column c.add_pairs.new.sides (inr refl) c.in_ok-add_pairs.ensures.after

pub returns-clause-pairs : goal.returns-clause-pairs
returns-clause-pairs c l =
    let first = both_long c.args.memories c.args.column (pos 1) c.args.column c.args.sides.now c.add_signs.new.sides c.in_ok-add_signs.ensures in
    omega (arith, first, c.in_ok-add_pairs.ensures.count)
