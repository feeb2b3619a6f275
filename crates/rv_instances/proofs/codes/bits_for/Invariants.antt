use Rattle.std.proofs.Common.{◌≡◌, ◌-◌, ◌^◌, ◌<◌, ◌≤◌}
use Rattle.rv_types.specs.Variables.{bits_from, bits_for}
use Rattle.rv_instances.proofs.codes.bits_for.Given as goal

abbrev pub invariant-loop-codes : goal.invariant-loop-codes
invariant-loop-codes l = record {
  codes : l.codes ≡ 2 ^ l.bits;
  less : l.bits < l.codes;
  within : l.bits ≤ l.count;
  value : bits_from (l.count - l.bits) l.bits l.count ≡ bits_for l.count;
}

abbrev pub decreases-loop-codes : goal.decreases-loop-codes
decreases-loop-codes l = l.count - l.bits
