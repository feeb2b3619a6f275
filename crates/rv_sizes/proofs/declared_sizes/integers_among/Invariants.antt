use Rattle.std.proofs.Common.{◌≡◌, ◌≤◌, ◌+◌, cond, drop}
use Rattle.rv_types.specs.{declared.typed.Kind.Kind, Variables.total, Variables.is_integer}
use Rattle.rv_sizes.proofs.declared_sizes.integers_among.Given as goal

abbrev pub invariant-loop-kind : goal.invariant-loop-kind
invariant-loop-kind l = record {
  bound : l.count ≤ l.kind-index;
  sum : l.count + total (λ (k : Kind). cond (is_integer k) 1 0) (drop l.kind-index l.kinds) ≡ total (λ (k : Kind). cond (is_integer k) 1 0) l.kinds;
}
