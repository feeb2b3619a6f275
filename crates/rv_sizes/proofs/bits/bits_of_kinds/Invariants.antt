use Rattle.std.proofs.Common.{◌≡◌, ◌+◌, ◌≤◌, drop}
use Rattle.rv_instances.specs.Bits.{bits_of_all}
use Rattle.rv_base.specs.Limits.{heaviest}
use Rattle.rv_sizes.specs.Capped.{capped}
use Rattle.rv_sizes.proofs.bits.bits_of_kinds.Given as goal

abbrev pub invariant-loop-kind : goal.invariant-loop-kind
invariant-loop-kind l = record {
  bound : l.sum ≤ heaviest;
  sum : capped (l.sum + bits_of_all l.types (drop l.kind-index l.kinds)) ≡ capped (bits_of_all l.types l.kinds);
}
