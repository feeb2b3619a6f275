use Rattle.std.proofs.Common.{ℕ, ◌<◌}
use Rattle.rv_diagram.specs.Nodes.{node_at}
use Rattle.rv_ranges.specs.Documents.{IsNoCopy}
use Rattle.rv_ranges.proofs.sets.read_no_copies.Given as goal

abbrev pub invariant-loop-i : goal.invariant-loop-i
invariant-loop-i l = (n : ℕ) → n < l.i → IsNoCopy l.states (node_at l.nodes n).var
