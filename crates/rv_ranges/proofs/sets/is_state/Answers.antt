use Rattle.std.proofs.Common.{◌≡◌, ◌<◌, ◌/◌, ◌%◌, rules}
use Rattle.rv_ranges.proofs.Parities.{state_bit, half_of_state}
use Rattle.rv_ranges.proofs.sets.is_state.Goals as goal

pub returns-then-variable-eq0 : goal.returns-then-variable-eq0
returns-then-variable-eq0 c =
    let even : c.args.variable % 2 ≡ 0 = search rules in (
      (λ yes. let less : c.args.variable / 2 < c.args.states = search rules in state_bit c.args.variable c.args.states even less),
      (λ is. let less = half_of_state c.args.variable c.args.states is in search rules),
    )
