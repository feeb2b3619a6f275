use Rattle.std.proofs.Common.{◌-◌, Bool, subst, arith}
use Rattle.rv_diagram.specs.Nodes.{node_at}
use Rattle.rv_split.specs.Steps.{IsMet}
use Rattle.rv_split.proofs.Walking.{free_above, free_node, forced_high, forced_low}
use Rattle.rv_split.proofs.freeing.forced.Goals as goal

pub returns-then-at-lt2 : goal.returns-then-at-lt2
returns-then-at-lt2 c = free_above c.args.nodes.now c.requires.ordered c.args.at c.args.x c.requires.found c.requires.met
    (λ two. absurd (omega (arith, two, c.if-at-lt2.true)))

pub returns-then-node-x : goal.returns-then-node-x
returns-then-node-x c = free_above c.args.nodes.now c.requires.ordered c.args.at c.args.x c.requires.found c.requires.met
    (λ two. omega (arith, c.requires.from two, c.if-node-x.true))

pub returns-then-high : goal.returns-then-high
returns-then-high c = free_node c.args.nodes.now c.requires.ordered c.args.at c.args.x c.requires.found c.if-at-lt2.false c.if-node-x.false
    (subst (λ (b : Bool). IsMet c.args.nodes.now (node_at c.args.nodes.now (c.args.at - 2)).lo b) c.if-low.true
    (c.reaches-low.ensures c.args.nodes.now c.requires.told))
    (subst (λ (b : Bool). IsMet c.args.nodes.now (node_at c.args.nodes.now (c.args.at - 2)).hi b) c.if-high.true
    (c.reaches-high.ensures c.args.nodes.now c.requires.told))

pub returns-then-low : goal.returns-then-low
returns-then-low c = forced_low c.args.nodes.now c.requires.ordered c.args.at c.args.x c.requires.found c.if-at-lt2.false c.if-node-x.false c.requires.met
    (subst (λ (b : Bool). IsMet c.args.nodes.now (node_at c.args.nodes.now (c.args.at - 2)).hi b) c.if-high.false
    (c.reaches-high.ensures c.args.nodes.now c.requires.told))

pub returns : goal.returns
returns c = forced_high c.args.nodes.now c.requires.ordered c.args.at c.args.x c.requires.found c.if-at-lt2.false c.if-node-x.false c.requires.met
    (subst (λ (b : Bool). IsMet c.args.nodes.now (node_at c.args.nodes.now (c.args.at - 2)).lo b) c.if-low.false
    (c.reaches-low.ensures c.args.nodes.now c.requires.told))
