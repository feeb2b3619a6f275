use Rattle.std.proofs.Common.{◌≡◌, ℕ, ◌≤◌, List, length, drop, map, None as Nothing}
use Rattle.std.specs.HashMap.{get}
use Rattle.rv_tree.specs.{Places.is_same, Tree.node_tree}
use Rattle.rv_meaning.specs.{Leading.node_texts, Numbers.entered}
use Rattle.rv_meaning.proofs.numbers.node_numbers.Given as goal

abbrev pub invariant-loop-left : goal.invariant-loop-left
invariant-loop-left l = record {
  within : l.left ≤ length l.nodes;
  entered : (x : List ℕ) → get is_same l.numbers x ≡ entered l.left (node_texts (map node_tree (drop l.left l.nodes))) Nothing x;
}

abbrev pub decreases-loop-left : goal.decreases-loop-left
decreases-loop-left l = l.left
