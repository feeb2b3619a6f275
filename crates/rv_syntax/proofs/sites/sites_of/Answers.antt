use Rattle.std.proofs.Common.{◌+◌, map, length, ap, arith}
use Rattle.std.proofs.lemmas.List.Sorted.{IsNonDecreasingBy-from_sort, length_permutation}
use Rattle.rv_tree.specs.Tree.{node_tree, equation_tree, assertion_tree}
use Rattle.rv_syntax.proofs.Earlier.{length-flows, node-numbers, node-collected}
use Rattle.rv_syntax.proofs.sites.sites_of.Goals as goal

pub invariant_of-result : goal.invariant_of-result
invariant_of-result c =
    let n = node_tree c.args.node.now in
    let all = node-collected n (map equation_tree c.as_slice.result.now) (map assertion_tree c.as_slice-2.result.now) c.new-offsets.result.items
    c.collect_equations.new.offsets.items c.collect_assertions.new.offsets.items
    (ap (map equation_tree) c.as_slice.ensures) (ap (map assertion_tree) c.as_slice-2.ensures) c.new-offsets.ensures.items c.in_ok-collect_equations.ensures
    c.in_ok-collect_assertions.ensures in
    record {
      rising = IsNonDecreasingBy-from_sort (λ x. x) c.sort_unstable.new.self.items c.sort_unstable.ensures.sorted;
      few = omega (
        arith,
        length-flows n,
        ap length all,
        length_permutation c.collect_assertions.new.offsets.items c.sort_unstable.new.self.items
            c.sort_unstable.ensures.permutation,
      );
    }

pub returns : goal.returns
returns c =
    let n = node_tree c.args.node.now in
    let all = node-collected n (map equation_tree c.as_slice.result.now) (map assertion_tree c.as_slice-2.result.now) c.new-offsets.result.items
    c.collect_equations.new.offsets.items c.collect_assertions.new.offsets.items
    (ap (map equation_tree) c.as_slice.ensures) (ap (map assertion_tree) c.as_slice-2.ensures) c.new-offsets.ensures.items c.in_ok-collect_equations.ensures
    c.in_ok-collect_assertions.ensures in
    node-numbers n (c.len.result + c.len-2.result + c.len-3.result) c.collect_assertions.new.offsets.items c.sort_unstable.new.self.items
    (omega (arith, length-flows n)) all c.sort_unstable.ensures.permutation
