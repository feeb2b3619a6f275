use Rattle.std.proofs.Common.{◌≡◌, ℕ, ◌+◌, ◌<◌, length}
use Rattle.std.specs.List.{Contains}
use Rattle.rv_tree.specs.{Places.Identifier, Tree.Tree}
use Rattle.rv_types.specs.Instances.{CallTree, calls, IsArgument, IsRight, Right, node_of}
use Rattle.rv_instances.specs.Giving.{AreGiven, IsGiven, first_of, number_at}
use Rattle.rv_instances.specs.{Expanded.program_of, Expanded.main_of, Layouts.callee_or_main, Layouts.node_at}
use Rattle.rv_instances.proofs.givers.givers_of.Given as goal

abbrev pub invariant-loop-instance : goal.invariant-loop-instance
invariant-loop-instance l = record {
  given : AreGiven (program_of l.expanded) (main_of l.expanded) l.expanded.instances.now l.found;
  inputs : (j : ℕ) → j < length (node_of (program_of l.expanded) (main_of l.expanded)).inputs → IsGiven l.found j;
  rights : (m : ℕ) (x : Identifier) (r : Right) → m < l.instance → IsRight (node_at (program_of l.expanded) l.expanded.instances.now m) x r
      → IsGiven l.found (number_at (program_of l.expanded) l.expanded.instances.now m x);
  arguments : (m : ℕ) (c : CallTree) (j : ℕ) (e : Tree) → m < l.instance → Contains (calls (node_at (program_of l.expanded) l.expanded.instances.now m)) c
      → IsArgument c.args j e → IsGiven l.found (first_of (program_of l.expanded) l.expanded.instances.now (callee_or_main l.layout.callees m c.site) + j);
  end : l.instance-end ≡ length l.expanded.instances.now;
}
