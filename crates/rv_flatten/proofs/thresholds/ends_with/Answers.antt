use Rattle.std.proofs.Common.{rules, sym, ◌∙◌, SFits}
use Rattle.std.specs.Int.{w128}
use Rattle.rv_flatten.proofs.DistinctNumbers.{last_is, bits_equal}
use Rattle.rv_flatten.proofs.thresholds.ends_with.Goals as goal

pub returns-in-Some : goal.returns-in-Some
returns-in-Some c =
    let fits : SFits w128 c.in-Some.last.now = search rules in
    let own : SFits w128 c.args.number = search rules in
    bits_equal c.in-Some.last.now c.args.number fits own ∙ sym (last_is c.args.numbers.now c.in-Some.last.now c.args.number (sym c.in-Some.ensures.value))
