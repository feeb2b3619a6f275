use Rattle.std.proofs.Common.{◌≡◌, length, replicate, sym, ◌∙◌, ap, ℕ}
use Rattle.rv_tree.specs.Tree.{program_tree, node_tree}
use Rattle.rv_sizes.specs.{Totals.total_at, Capped.capped}
use Rattle.rv_calls.specs.Callings.{callings_of}
use Rattle.rv_types.specs.Instances.{name_at}
use Rattle.rv_instances.specs.Counts.{instance_count}
use Rattle.rv_instances.proofs.Lists.{length_map, if_ok}
use Rattle.rv_sizes.proofs.Measured.{of_each, replicated, instances_measured}
use Rattle.rv_sizes.proofs.measure.instance_total.Goals as goal

pub total_of-requires : goal.total_of-requires
total_of-requires c =
    let p = program_tree c.args.p.now in
    let ones = c.in_ok-own.ensures ∙ ap (λ (n : ℕ). replicate n 1) (c.len.ensures ∙ sym (length_map node_tree c.args.p.now.nodes)) in
    let each = of_each (λ n. 1) p.nodes c.in_ok-own.own (ones ∙ replicated p.nodes 1) in
    record { named = c.requires.named; nodes = c.requires.nodes; main = c.requires.main; size = each.0; own = each.1 }

pub returns : goal.returns
returns c =
    let p = program_tree c.args.p.now in
    if_ok c.total_of.result (λ (sum : ℕ). sum ≡ capped (total_at c.in_ok-own.own (callings_of p) (length p.nodes) c.args.main))
    (λ (sum : ℕ). sum ≡ capped (instance_count p (name_at p c.args.main)))
    (λ sum is. instances_measured p c.requires.named c.args.main c.requires.main c.in_ok-own.own sum
    (c.in_ok-own.ensures ∙ ap (λ n. replicate n 1) (c.len.ensures ∙ sym (length_map node_tree c.args.p.now.nodes))) is) c.total_of.ensures
