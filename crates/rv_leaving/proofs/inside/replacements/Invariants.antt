use Rattle.std.proofs.Common.{◌≡◌, ◌<◌, ◌*◌, ℕ, List, length}
use Rattle.rv_diagram.specs.{declared.Triple.Triple, Nodes.IsRef, Several.ref_at}
use Rattle.rv_symbolic.specs.Linked.{AreRefs}
use Rattle.rv_leaving.proofs.inside.replacements.Given as goal

abbrev pub invariant-loop-x : goal.invariant-loop-x
invariant-loop-x l = record {
  size : length l.by.items ≡ l.x;
  bits : (i : ℕ) → 2 * i < l.x → i < length l.next → ref_at l.by.items (2 * i) ≡ ref_at l.next i;
  found : (nodes : List Triple) → AreRefs nodes l.next → (y : ℕ) → IsRef nodes (ref_at l.by.items y);
}
