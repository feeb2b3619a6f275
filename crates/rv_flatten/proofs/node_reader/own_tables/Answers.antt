use Rattle.std.proofs.Common.{◌≡◌, ◌<◌, ◌≤◌, ◌∷◌, [], length, map, get_or, sym, ◌∙◌, ap, subst}
use Rattle.std.proofs.lemmas.List.{map-append}
use Rattle.rv_tree.specs.Tree.{node_tree, program_tree}
use Rattle.rv_types.specs.{declared.reading_clocks.NodeClocks.NodeClocks, Scopes.node_scope}
use Rattle.rv_flatten.specs.NodeReaders.{scope_by}
use Rattle.rv_flatten.proofs.ClockedNodes.{clocked_once, each_node, one_more}
use Rattle.rv_flatten.proofs.node_reader.own_tables.Goals as goal

pub loop-clocks-preserved : goal.loop-clocks-preserved
loop-clocks-preserved c =
    let x = c.args.expanded.now in let p = program_tree x.program.now in let t = c.args.tables.now in
    let k = c.loop-clocks.clocks-index in let clocks = c.clocks-item.result in let own = c.in_ok-own.own in
    let within : k < length x.clocks = subst (λ n. k < n) (ap length c.as_slice-clocks-items.ensures) c.loop-clocks-test.true in
    let is : get_or x.clocks k clocks ≡ clocks = sym (c.clocks-item.is ∙ (λ i. get_or (c.as_slice-clocks-items.ensures i) k clocks)) in
    let scope : scope_by t own ≡ node_scope p (node_tree clocks.node.now) = c.in_ok-own.ensures.scope p c.requires.tables
    (clocked_once x c.requires.known k clocks within is) in
    one_more (λ (c : NodeClocks). node_scope p (node_tree c.node.now)) x.clocks k clocks (map (scope_by t) c.loop-clocks.owns)
    (map (scope_by t) c.push.new.self) (scope_by t own) within is
    (ap (map (scope_by t)) c.in_ok-push.ensures.ok ∙ map-append (scope_by t) c.loop-clocks.owns (own ∷ [])) c.loop-clocks.invariant scope

pub returns : goal.returns
returns c =
    let x = c.args.expanded.now in
    c.loop-clocks.invariant ∙ each_node x c.requires.known (node_scope (program_tree x.program.now)) c.loop-clocks.clocks-index
    (subst (λ n. n ≤ c.loop-clocks.clocks-index) (ap length c.as_slice-clocks-items.ensures) c.loop-clocks-test.false)
