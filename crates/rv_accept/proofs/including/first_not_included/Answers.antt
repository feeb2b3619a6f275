use Rattle.std.proofs.{Common.◌<◌, Common.◌≤◌, Common.length, Common.arith, lemmas.Option.slice_get_within}
use Rattle.rv_accept.proofs.Later.{included_first, included_later}
use Rattle.rv_accept.proofs.including.first_not_included.Goals as goal

pub returns-in-Some : goal.returns-in-Some
returns-in-Some c = included_first c.args.location.now c.in-Some.row c.in-Some.ensures.fails c.in-Some.ensures.first

pub overflow_add-result : goal.overflow_add-result
overflow_add-result c = let (s, x, range, counts) = c.requires.range in
    let few : length c.args.location.now.state ≤ 1024 = range.state.1 in
    let low : c.in-Some-first_unproved.row < length c.args.location.now.state = slice_get_within c.args.location.now.state c.in-Some-first_unproved.row
    c.in-Some-first_unproved.ensures.fails.row c.in-Some-first_unproved.ensures.fails.at in
    omega (arith, few, low, c.len.ensures)

pub overflow_cast-result-in-Some-first_unproved : goal.overflow_cast-result-in-Some-first_unproved
overflow_cast-result-in-Some-first_unproved c = let (s, x, range, counts) = c.requires.range in
    let few : length c.args.location.now.state ≤ 1024 = range.state.1 in
    let low : c.in-Some-first_unproved.row < length c.args.location.now.state = slice_get_within c.args.location.now.state c.in-Some-first_unproved.row
    c.in-Some-first_unproved.ensures.fails.row c.in-Some-first_unproved.ensures.fails.at in
    omega (arith, few, low, c.len.ensures)

pub returns-in-Some-first_unproved : goal.returns-in-Some-first_unproved
returns-in-Some-first_unproved c = included_later c.args.location.now c.len.result c.in-Some-first_unproved.row
    (c.has_loop.ensures.0 c.if-not-has_loop.false) c.len.ensures c.in_default.ensures.none c.in-Some-first_unproved.ensures.fails
    c.in-Some-first_unproved.ensures.first
