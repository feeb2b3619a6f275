use Rattle.std.proofs.Common.{◌≡◌, ◌<◌, ◌≤◌, length, get_or, sym, ◌∙◌, ap, subst}
use Rattle.rv_tree.specs.Tree.{node_tree, program_tree}
use Rattle.rv_types.specs.declared.reading_clocks.NodeClocks.{NodeClocks}
use Rattle.rv_flatten.specs.Compared.{told_tests_in}
use Rattle.rv_flatten.proofs.{ClockedNodes.clocked_once, ClockedNodes.each_node, ClockedNodes.one_more, ToldTests.nodes_told}
use Rattle.rv_flatten.proofs.comparisons.tests_of_nodes.Goals as goal

pub loop-clocks-preserved : goal.loop-clocks-preserved
loop-clocks-preserved c =
    let x = c.args.expanded.now in let p = program_tree x.program.now in let k = c.loop-clocks.clocks-index in
    let node = c.clocks-item.result in
    let within : k < length x.clocks = subst (λ n. k < n) (ap length c.as_slice-clocks-items.ensures) c.loop-clocks-test.true in
    let is : get_or x.clocks k node ≡ node = sym (c.clocks-item.is ∙ (λ i. get_or (c.as_slice-clocks-items.ensures i) k node)) in
    let found = c.in_ok-own.ensures p c.requires.tables (clocked_once x c.requires.known k node within is) in
    one_more (λ (c : NodeClocks). told_tests_in p (node_tree c.node.now)) x.clocks k node c.loop-clocks.tested c.push.new.self c.in_ok-own.own within is
    c.in_ok-push.ensures.ok c.loop-clocks.invariant found

pub returns : goal.returns
returns c =
    let x = c.args.expanded.now in
    c.loop-clocks.invariant ∙ each_node x c.requires.known (told_tests_in (program_tree x.program.now)) c.loop-clocks.clocks-index
    (subst (λ n. n ≤ c.loop-clocks.clocks-index) (ap length c.as_slice-clocks-items.ensures) c.loop-clocks-test.false)
    ∙ nodes_told (program_tree x.program.now) c.requires.known.expanded.well
