use Rattle.std.proofs.Common.{◌≡◌, List, [], sym, subst, arith}
use Rattle.rv_tree.specs.Tree.{program_tree}
use Rattle.rv_calls.specs.{declared.calls.Calling.Calling, Callings.callings_of, Listing.AreAllSorted, Listing.all_listed}
use Rattle.rv_instances.specs.{declared.answer.Instance.Instance, AllInstances.AreInstances}
use Rattle.rv_types.specs.Instances.{name_at}
use Rattle.rv_calls.proofs.{Recursions.is_graph, Recursions.table_size, SortedCalls.sorted_graph, SortedCalls.sorted_order, Listed.instances_listed}
use Rattle.rv_instances.proofs.Lists.{if_ok}
use Rattle.rv_calls.proofs.expansion.instances.Goals as goal

pub expand-requires : goal.expand-requires
expand-requires c =
    let p = program_tree c.args.p.now in
    let are : AreAllSorted (callings_of p) c.in_ok-sorted.sorted = subst (λ (t : List (List Calling)). AreAllSorted t c.in_ok-sorted.sorted)
    c.requires.nodes.calls c.in_ok-sorted.ensures in
    record {
      graph = sorted_graph (callings_of p) c.in_ok-sorted.sorted are (is_graph p c.requires.named);
      ordered = (c.args.nodes.now.order, sorted_order (callings_of p) c.in_ok-sorted.sorted are c.args.nodes.now.order c.requires.nodes.order);
      root = omega (arith, table_size p c.requires.named, are.size, c.requires.main);
    }

pub returns : goal.returns
returns c =
    let p = program_tree c.args.p.now in
    let are : AreAllSorted (callings_of p) c.in_ok-sorted.sorted = subst (λ (t : List (List Calling)). AreAllSorted t c.in_ok-sorted.sorted)
    c.requires.nodes.calls c.in_ok-sorted.ensures in
    if_ok c.expand.result (λ (found : List Instance). found ≡ all_listed c.in_ok-sorted.sorted [] c.args.main)
    (λ (found : List Instance). AreInstances p (name_at p c.args.main) found)
    (λ found is. subst (λ (l : List Instance). AreInstances p (name_at p c.args.main) l) (sym is)
    (instances_listed p c.requires.named c.requires.sited c.in_ok-sorted.sorted are c.args.main c.requires.main c.requires.nodes.recursion))
    c.expand.ensures
