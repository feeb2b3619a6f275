use Rattle.std.proofs.Common.{◌≡◌, map, drop}
use Rattle.rv_tree.specs.Tree.{node_tree}
use Rattle.rv_meaning.specs.Leading.{callee_at, led_by}
use Rattle.rv_meaning.proofs.finding.node_at.Given as goal

abbrev pub invariant-loop-site : goal.invariant-loop-site
invariant-loop-site l = led_by (callee_at (map node_tree l.nodes)) l.number (drop l.site-index l.path) ≡ led_by (callee_at (map node_tree l.nodes)) l.from
    l.path
