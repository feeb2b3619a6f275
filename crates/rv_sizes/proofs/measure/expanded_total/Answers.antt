use Rattle.std.proofs.Common.{◌≡◌, length, ℕ}
use Rattle.rv_tree.specs.Tree.{program_tree}
use Rattle.rv_instances.specs.Counts.{node_size, expanded}
use Rattle.rv_sizes.specs.{Totals.total_at, Capped.capped}
use Rattle.rv_calls.specs.Callings.{callings_of}
use Rattle.rv_types.specs.Instances.{name_at}
use Rattle.rv_instances.proofs.Lists.{if_ok}
use Rattle.rv_sizes.proofs.Measured.{of_each, sum_measured}
use Rattle.rv_sizes.proofs.measure.expanded_total.Goals as goal

pub total_of-requires : goal.total_of-requires
total_of-requires c =
    let p = program_tree c.args.p.now in
    let each = of_each node_size p.nodes c.in_ok-own.own c.in_ok-own.ensures in
    record { named = c.requires.named; nodes = c.requires.nodes; main = c.requires.main; size = each.0; own = each.1 }

pub returns : goal.returns
returns c =
    let p = program_tree c.args.p.now in
    if_ok c.total_of.result (λ (sum : ℕ). sum ≡ capped (total_at c.in_ok-own.own (callings_of p) (length p.nodes) c.args.main))
    (λ (sum : ℕ). sum ≡ capped (expanded p (name_at p c.args.main)))
    (λ sum is. sum_measured p c.requires.named c.args.main c.requires.main node_size c.in_ok-own.own sum c.in_ok-own.ensures is) c.total_of.ensures
