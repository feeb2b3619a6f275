use Rattle.std.proofs.Common.{◌+◌, ltb, ap, sym, subst, ◌∙◌, rules}
use Rattle.std.proofs.lemmas.List.Sorted.{IsPartitionPoint-from_clause, IsPartitionedBy-ltb}
use Rattle.std.specs.List.Sorted.{IsNonDecreasing}
use Rattle.rv_tree.specs.Sites.{earlier}
use Rattle.rv_syntax.proofs.Earlier.{earlier-place}
use Rattle.rv_syntax.proofs.sites.Sites.at.Goals as goal

pub returns : goal.returns
returns c =
    let sites = c.args.self.now in
    let xs = c.deref.result.now in
    let parted = IsPartitionedBy-ltb (λ x. x) xs c.args.at (subst IsNonDecreasing (sym c.deref.ensures.value) sites.rising) in
    let point = IsPartitionPoint-from_clause (λ x. ltb x c.args.at) xs c.partition_point.result c.partition_point.ensures.partitioned parted
    (λ a r q k. search rules) in
    ap (λ n. sites.first + n) (sym (earlier-place c.args.at xs c.partition_point.result c.partition_point.ensures.bound point.0 point.1)
    ∙ ap (earlier c.args.at) c.deref.ensures.value)
