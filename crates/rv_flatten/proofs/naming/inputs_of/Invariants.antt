use Rattle.std.proofs.Common.{◌≡◌, ◌++◌, map, drop, take}
use Rattle.rv_tree.specs.Places.{names}
use Rattle.rv_flatten.proofs.naming.inputs_of.Given as goal

abbrev pub invariant-loop-number : goal.invariant-loop-number
invariant-loop-number l = record {
  names : map (λ i. i.name) l.made ++ names (drop l.number l.inputs) ≡ names l.inputs;
  kinds : map (λ i. i.kind) l.made ≡ take l.number l.kinds;
}
