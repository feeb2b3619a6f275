use Rattle.std.proofs.Common.{◌≡◌, ◌∙◌, map, length}
use Rattle.rv_tree.specs.Tree.{program_tree}
use Rattle.rv_types.specs.Instances.{name_at}
use Rattle.rv_flatten.specs.{NodeReaders.lists_to, Compared.tests_in, Compared.compared_in, Kept.found_comparison}
use Rattle.rv_flatten.proofs.ComparedPlaces.{are_comparisons}
use Rattle.rv_flatten.proofs.comparisons.comparisons_of.Goals as goal

pub returns : goal.returns
returns c =
    let x = c.args.expanded.now in let p = program_tree x.program.now in let main = name_at p x.main in
    let tested = c.as_slice-2.ensures ∙ c.in_ok-tested.ensures in
    let is : map found_comparison c.in_ok-found.found ≡ lists_to (compared_in (map (tests_in p) p.nodes) x.instances.now) (length x.instances.now) =
    c.in_ok-found.ensures ∙ (λ i. lists_to (compared_in (tested i) (c.as_slice.ensures i)) (length (c.as_slice.ensures i))) in
    are_comparisons p main x.instances.now c.requires.known.expanded c.in_ok-found.found is c.sorted.result c.sorted.ensures
