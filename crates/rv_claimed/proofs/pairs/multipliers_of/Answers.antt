use Rattle.std.proofs.Common.{pos, List, ap}
use Rattle.rv_rows.specs.{declared.farkas.Weight.Weight, declared.farkas.Multipliers.Multipliers}
use Rattle.rv_claimed.proofs.pairs.multipliers_of.Goals as goal

pub returns : goal.returns
returns c = record {
  first = c.place_of-first.result;
  second = c.place_of-second.result;
  is_first = c.place_of-first.ensures;
  is_second = c.place_of-second.ensures;
  is = ap (λ (ws : List Weight). let m : Multipliers = record { divisor = pos 1; weights = ws } in m) c.in_ok-weights.ensures;
}
