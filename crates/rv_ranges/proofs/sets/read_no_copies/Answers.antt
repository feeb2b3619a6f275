use Rattle.std.proofs.Common.{ℕ, rules}
use borrow.Author.Count.{below_more}
use Rattle.rv_diagram.specs.Nodes.{node_at}
use Rattle.rv_ranges.specs.Documents.{IsNoCopy}
use Rattle.rv_ranges.proofs.sets.read_no_copies.Goals as goal

pub loop-i-preserved : goal.loop-i-preserved
loop-i-preserved c =
    below_more (λ (n : ℕ). IsNoCopy c.args.states (node_at c.args.nodes.now n).var) c.loop-i.i c.loop-i.invariant
    (c.is_no_copy.ensures.0 (search rules))
