use Rattle.std.proofs.Common.{◌≢◌, ◌≤◌, ◌/◌, ◌%◌, rules}
use Rattle.rv_ranges.proofs.Parities.{no_copy, half_of_no_copy}
use Rattle.rv_ranges.proofs.sets.is_no_copy.Goals as goal

pub returns-else-variable-eq0 : goal.returns-else-variable-eq0
returns-else-variable-eq0 c =
    let odd : c.args.variable % 2 ≢ 0 = search rules in (
      (λ yes. let more : c.args.states ≤ c.args.variable / 2 = search rules in no_copy c.args.variable c.args.states more),
      (λ is. let more = half_of_no_copy c.args.variable c.args.states odd is in search rules),
    )
