use Rattle.std.proofs.Common.{◌≡◌, ◌-◌, ◌^◌, ◌≤◌, ◌<◌}
use Rattle.rv_types.specs.Variables.{bits_from, bits_for}
use Rattle.rv_bits.proofs.names.label_bits.Given as goal

abbrev pub invariant-loop-codes : goal.invariant-loop-codes
invariant-loop-codes l = record {
  codes : l.codes ≡ 2 ^ l.bits;
  few : l.bits ≤ l.labels;
  small : l.codes < 512;
  rest : bits_from (l.labels - l.bits) l.bits l.labels ≡ bits_for l.labels;
}

abbrev pub decreases-loop-codes : goal.decreases-loop-codes
decreases-loop-codes l = l.labels - l.codes
